-- The last record that passes a test.
use Rattle.std.proofs.Common.{◌≡◌, ℕ, suc, ◌+◌, ◌<◌, List, [], ◌∷◌, ◌++◌, length, filter, take, get_or, Bool, true, false, cond, Some, refl, ap, ◌∙◌, take-suc, arith}
use Rattle.std.proofs.lemmas.List.Elements.{filter-append}
use Rattle.std.proofs.lemmas.List.{append-nil}
use Rattle.volume_model.specs.declared.place.Placed.{Placed}
use Rattle.vtoc_making.specs.Places.{last_of}

last_push : (placeds : List Placed) (placed : Placed) → last_of (placeds ++ (placed ∷ [])) ≡ Some placed.place
last_push [] placed = refl
last_push (one ∷ []) placed = refl
last_push (one ∷ next ∷ more) placed = last_push (next ∷ more) placed

pub last_more : (test : Placed → Bool) (records : List Placed) (k : ℕ) (d : Placed) → k < length records
    → last_of (filter test (take (k + 1) records)) ≡ cond (test (get_or records k d)) (Some (get_or records k d).place) (last_of (filter test (take k records)))
last_more test records k d less =
    ap (λ (rs : List Placed). last_of (filter test rs)) (grown ∙ take-suc records k d less)
    ∙ ap last_of (filter-append test (take k records) (get_or records k d ∷ []))
    ∙ by (test (get_or records k d))
  where
    next : k + 1 ≡ suc k
    next = omega arith

    grown : take (k + 1) records ≡ take (suc k) records
    grown = ap (λ (n : ℕ). take n records) next

    by : (b : Bool) → last_of (filter test (take k records) ++ cond b (get_or records k d ∷ []) []) ≡ cond b (Some (get_or records k d).place) (last_of (filter test (take k records)))
    by true = last_push (filter test (take k records)) (get_or records k d)
    by false = ap last_of (append-nil (filter test (take k records)))
