-- The blocks of a unit as a list.
use Rattle.std.proofs.Common.{◌≡◌, ℕ, zero, suc, ◌+◌, ◌<◌, ◌≤◌, [], ◌∷◌, ◌++◌, map, refl, ap, sym, ◌∙◌, arith}
use Rattle.std.proofs.lemmas.List.{map-append}
use Rattle.volume_model.specs.Dscbs.{numbers_below}
use Rattle.volume_model.specs.Sound.{Slots}
use Rattle.volume_model.specs.Reads.{blocks_from}

-- two functions that agree below a number give the same list
mapped_same : {X : Type 0} (f g : ℕ → X) (count : ℕ) → ((k : ℕ) → k < count → f k ≡ g k) → map f (numbers_below count) ≡ map g (numbers_below count)
mapped_same f g zero same = refl
mapped_same f g (suc count) same =
    map-append f (numbers_below count) (count ∷ [])
    ∙ ap (λ front. front ++ (f count ∷ [])) (mapped_same f g count (λ k less. same k (omega (arith, less))))
    ∙ ap (λ last. map g (numbers_below count) ++ (last ∷ [])) (same count (omega arith))
    ∙ sym (map-append g (numbers_below count) (count ∷ []))

-- blocks that are the same give the same list
pub blocks_same : (old new : Slots) (first count : ℕ) → ((track : ℕ) → first ≤ track → track < first + count → new track ≡ old track)
    → blocks_from old first count ≡ blocks_from new first count
blocks_same old new first count same = mapped_same _ _ count (λ k less. sym (same (first + k) (omega arith) (omega (arith, less))))
