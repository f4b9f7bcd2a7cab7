use Rattle.std.proofs.Common.{◌≡◌, ℕ, ◌+◌, List, [], ◌∷◌, ◌++◌, Bool, map, filter, drop, get_or, sym, ap, ◌∙◌, append_assoc}
use Rattle.std.proofs.lemmas.List.{drop_more, map-append}
use Rattle.std.proofs.lemmas.List.Elements.{filter-append}
use Rattle.volume_model.specs.declared.place.Placed.{Placed}
use Rattle.volume_model.specs.Dscbs.{format_of, is_f1}
use Rattle.vtoc_check.specs.Places.{blank}
use Rattle.vtoc_check.proofs.rows.data_sets.Goals as goal

pub loop-placed-preserved : goal.loop-placed-preserved
loop-placed-preserved c =
    let records = c.args.records.now in
    let i = c.loop-placed.placed-index in
    let x : Placed = get_or records i blank in
    let rest : List Placed = drop (i + 1) records in
    let test : Placed → Bool = λ placed. is_f1 (format_of placed.bytes) in
    let bytes : Placed → List ℕ = λ placed. placed.bytes in
    let split : map bytes (filter test (drop i records)) ≡ map bytes (filter test (x ∷ [])) ++ map bytes (filter test rest) =
    ap (λ (xs : List Placed). map bytes (filter test xs)) (drop_more records i blank c.loop-placed-test.true)
    ∙ ap (map bytes) (filter-append test (x ∷ []) rest) ∙ map-append bytes (filter test (x ∷ [])) (filter test rest) in
    ap (λ (xs : List (List ℕ)). xs ++ map bytes (filter test rest)) c.in_ok-add_set.ensures
    ∙ append_assoc c.loop-placed.sets.items (map bytes (filter test (x ∷ []))) (map bytes (filter test rest))
    ∙ ap (λ (xs : List (List ℕ)). c.loop-placed.sets.items ++ xs) (sym split)
    ∙ c.loop-placed.invariant
