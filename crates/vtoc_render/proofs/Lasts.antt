-- The last of records that pass a test.
use Rattle.std.proofs.Common.{suc, List, [], ◌∷◌, filter, All, Bool, true, false, cond, IfSome, arith}
use Rattle.std.proofs.lemmas.List.Elements.{All-nil, All-cons}
use Rattle.volume_model.specs.declared.place.Place.{Place}
use Rattle.volume_model.specs.declared.place.Placed.{Placed}
use Rattle.vtoc_making.specs.Places.{last_of}

passed : (Q : Placed → Type 0) (test : Placed → Bool) (records : List Placed) → All Q records → All Q (filter test records)
passed Q test [] all = All-nil Q
passed Q test (placed ∷ more) all = by (test placed) (passed Q test more (λ k d less. all (suc k) d (omega arith)))
  where
    by : (b : Bool) → All Q (filter test more) → All Q (cond b (placed ∷ filter test more) (filter test more))
    by true rest = All-cons Q placed (filter test more) (all 0 placed (omega arith)) rest
    by false rest = rest

last_has : (P : Place → Type 0) (records : List Placed) → All (λ placed. P placed.place) records → IfSome (last_of records) P
last_has P [] all = tt
last_has P (placed ∷ []) all = all 0 placed (omega arith)
last_has P (placed ∷ next ∷ more) all = last_has P (next ∷ more) (λ k d less. all (suc k) d (omega arith))

pub last_passed : (P : Place → Type 0) (test : Placed → Bool) (records : List Placed) → All (λ placed. P placed.place) records → IfSome (last_of (filter test records)) P
last_passed P test records all = last_has P (filter test records) (passed (λ (placed : Placed). P placed.place) test records all)
