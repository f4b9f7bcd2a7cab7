-- The first places of free records, as many as are wanted.
use Rattle.std.proofs.Common.{◌≡◌, ℕ, zero, suc, ◌+◌, ◌<◌, List, [], ◌∷◌, ◌++◌, length, map, filter, take, refl, sym, ap, ◌∙◌}
use Rattle.std.proofs.lemmas.List.{take_more, map-append}
use Rattle.std.proofs.lemmas.List.Elements.{filter-append}
use Rattle.volume_model.specs.declared.place.Place.{Place}
use Rattle.volume_model.specs.declared.place.Placed.{Placed}
use Rattle.vtoc_check.specs.Places.{blank}
use Rattle.vtoc_check.specs.Reach.{record_in}
use Rattle.volume_model.specs.Dscbs.{is_free_record}

take_again : {X : Type 0} (n : ℕ) (xs ys : List X) → take n (take n xs ++ ys) ≡ take n (xs ++ ys)
take_again zero xs ys = refl
take_again (suc n) [] ys = refl
take_again (suc n) (x ∷ xs) ys = ap (λ more. x ∷ more) (take_again n xs ys)

abbrev pub free_among : List Placed → List Place
free_among records = map (λ placed. placed.place) (filter is_free_record records)

pub taken_more : (records : List Placed) (most i : ℕ) (places more : List Place) → i < length records → places ≡ take most (free_among (take i records))
    → more ≡ take most (places ++ free_among (record_in records i ∷ [])) → more ≡ take most (free_among (take (i + 1) records))
taken_more records most i places more lt is e =
    e
    ∙ ap (λ (found : List Place). take most (found ++ free_among (record_in records i ∷ []))) is
    ∙ take_again most (free_among (take i records)) (free_among (record_in records i ∷ []))
    ∙ ap (take most)
    (sym (ap free_among (take_more records i blank lt)
    ∙ ap (map (λ (placed : Placed). placed.place)) (filter-append is_free_record (take i records) (record_in records i ∷ []))
    ∙ map-append (λ (placed : Placed). placed.place) (filter is_free_record (take i records)) (filter is_free_record (record_in records i ∷ []))))
