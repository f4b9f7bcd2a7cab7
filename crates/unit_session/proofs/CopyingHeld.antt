-- What copies leave for a plan.
use Rattle.std.proofs.Common.{◌≡◌, ◌⊎◌, ◌==◌, ◌&&◌, ◌∙◌, inl, inr, not, Bool, true, false, ◌+◌, ◌++◌, ◌∷◌, [], ℕ, zero, suc, List, length, replicate, drop, Contains, Some, refl, sym, ap, subst, arith}
use Rattle.std.specs.Prelude.{slice_get, filter}
use Rattle.std.specs.List.{zip}
use Rattle.std.proofs.lemmas.Bool.Decides.{eqb_tells}
use Rattle.std.proofs.lemmas.List.Elements.{All-contains}
use Rattle.std.proofs.lemmas.Option.{same_Some, none-some}
use Rattle.ckd_image.specs.declared.track.Track.{Track}
use Rattle.ckd_image.specs.Address.{address_of}
use Rattle.ckd_image.specs.Device.{heads_of}
use Rattle.ckd_image.specs.Track.{IsTrackText}
use Rattle.dasd_pool.specs.Disk.{Image}
use Rattle.vtoc_layout.proofs.Distinct.{at_first, in_later, in_filter}
use Rattle.volume_model.specs.Reads.{IsTextAt, AreTexts}
use Rattle.volume_model.specs.Sound.{Slots}
use Rattle.volume_model.specs.Unit.{Text, good, bad}
use Rattle.unit_steps.specs.unit_change.Described.{own_place}
use Rattle.move_core.specs.Steps.{empty_text}
use Rattle.unit_session.specs.declared.copies.TextMove.{TextMove}
use Rattle.unit_session.specs.declared.copies.Copies.{Copies}
use Rattle.unit_session.specs.Copies.{moves_between, targets_of, HaveTexts, IsTextCopied, IsEmptied, AreCopied}
use Rattle.ckd_image.proofs.Lists.{contains_map}

module _ (heads : ℕ) (old new : Slots) where
  -- tracks that are emptied
  empties_hold : (n : ℕ) (target : List ℕ) → n ≡ length target → ((track : ℕ) → Contains target track → IsTextAt heads track (new track) empty_text)
      → AreTexts heads own_place new target (replicate n empty_text)
  empties_hold zero [] long empty = tt
  empties_hold (suc n) [] long empty = absurd (omega (arith, long))
  empties_hold zero (track ∷ target) long empty = absurd (omega (arith, long))
  empties_hold (suc n) (track ∷ target) long empty =
      (empty track (at_first track target), empties_hold n target (omega (arith, long)) (λ t there. empty t (in_later track t target there)))

  -- Each text goes with its track, and the tracks behind the last text are empty.
  pub texts_hold : (n : ℕ) (source target : List ℕ) → n + length source ≡ length target
      → ((k from to : ℕ) → slice_get source k ≡ Some from → slice_get target k ≡ Some to → (text : Text) → IsTextAt heads from (old from) text → IsTextAt heads to (new to) text)
      → ((track : ℕ) → Contains (drop (length source) target) track → IsTextAt heads track (new track) empty_text)
      → (list : List Text) → AreTexts heads own_place old source list → AreTexts heads own_place new target (list ++ replicate n empty_text)
  texts_hold n [] target long each empty [] are = empties_hold n target (omega (arith, long)) empty
  texts_hold n [] target long each empty (text ∷ list) are = absurd are
  texts_hold n (from ∷ source) [] long each empty list are = absurd (omega (arith, long))
  texts_hold n (from ∷ source) (to ∷ target) long each empty [] are = absurd are
  texts_hold n (from ∷ source) (to ∷ target) long each empty (text ∷ list) are =
      (each 0 from to refl refl text are.0, texts_hold n source target (omega (arith, long)) (λ k f t here there. each (suc k) f t here there) empty list are.1)

-- ---- the moves

in_zip : (source target : List ℕ) (k from to : ℕ) → slice_get source k ≡ Some from → slice_get target k ≡ Some to → Contains (zip source target) (from, to)
in_zip [] target k from to here there = absurd (none-some from here)
in_zip (a ∷ source) [] k from to here there = absurd (none-some to there)
in_zip (a ∷ source) (b ∷ target) zero from to here there =
    subst (Contains ((a, b) ∷ zip source target)) (λ i. (same_Some a from here i, same_Some b to there i)) (at_first (a, b) (zip source target))
in_zip (a ∷ source) (b ∷ target) (suc k) from to here there = in_later (a, b) (from, to) (zip source target) (in_zip source target k from to here there)

pub in_moves : (one_unit : Bool) (source target : List ℕ) (k from to : ℕ) → slice_get source k ≡ Some from → slice_get target k ≡ Some to → (one_unit && (from == to)) ≡ false
    → Contains (moves_between one_unit source target) (record { from = from; to = to })
in_moves one_unit source target k from to here there moves =
    let moving : ℕ × ℕ → Bool = λ pair. not (one_unit && (pair.0 == pair.1)) in
    contains_map (λ (pair : ℕ × ℕ). record { from = pair.0; to = pair.1 }) (filter moving (zip source target)) (from, to)
    (in_filter moving (zip source target) (from, to) (in_zip source target k from to here there) (ap not moves))

-- What copies leave on the tracks of a row: its texts, in their order, and empty tracks behind them. A track that stays its own isn't written.
pub copies_hold_texts : (copies : Copies) (source target : List ℕ) (old new : Image) (n : ℕ) → copies.moves.items ≡ moves_between (copies.from == copies.unit) source target
    → copies.empty.items ≡ drop (length source) target → HaveTexts old copies → AreCopied old new copies → n + length source ≡ length target
    → ((k track : ℕ) → copies.from ≡ copies.unit → slice_get source k ≡ Some track → slice_get target k ≡ Some track → ¬ Contains (targets_of copies) track)
    → (list : List Text) → AreTexts (heads_of copies.device) own_place (old copies.from) source list
    → AreTexts (heads_of copies.device) own_place (new copies.unit) target (list ++ replicate n empty_text)
copies_hold_texts copies source target old new n moves_are empty_are have copied long stays =
    texts_hold (heads_of copies.device) (old copies.from) (new copies.unit) n source target long (λ k from to here there. goes k from to here there (eqb_tells copies.from copies.unit) (eqb_tells from to))
    (λ track there. All-contains (IsEmptied copies new) copies.empty.items track copied.empty (subst (λ (l : List ℕ). Contains l track) (sym empty_are) there))
  where
    moved : (move : TextMove) → Contains copies.moves.items move → (text : Text) → IsTextAt (heads_of copies.device) move.from (old copies.from move.from) text
        → IsTextAt (heads_of copies.device) move.to (new copies.unit move.to) text
    moved move there (good text) stands = All-contains (IsTextCopied copies old new) copies.moves.items move copied.texts there text stands
    moved move there (bad bytes) stands =
        let found = All-contains (λ (m : TextMove). (text : Track) × IsTrackText (address_of (heads_of copies.device) m.from) (old copies.from m.from) text) copies.moves.items move have there in
        absurd (stands.1 found.0 found.1)

    stayed : (k from to : ℕ) → copies.from ≡ copies.unit → from ≡ to → slice_get source k ≡ Some from → slice_get target k ≡ Some to → (text : Text)
        → IsTextAt (heads_of copies.device) from (old copies.from from) text → IsTextAt (heads_of copies.device) to (new copies.unit to) text
    stayed k from to one same here there text stands =
        let at : slice_get source k ≡ Some to = here ∙ ap (λ (t : ℕ). Some t) same in
        let kept : new copies.unit to ≡ old copies.unit to = copied.same copies.unit to (λ target. stays k to one at there target.1) in
        let was : old copies.from from ≡ new copies.unit to = (λ i. old (one i) (same i)) ∙ sym kept in
        subst (λ (slot : List ℕ). IsTextAt (heads_of copies.device) to slot text) was (subst (λ (t : ℕ). IsTextAt (heads_of copies.device) t (old copies.from from) text) same stands)

    goes : (k from to : ℕ) → slice_get source k ≡ Some from → slice_get target k ≡ Some to
        → ((copies.from == copies.unit) ≡ true) × (copies.from ≡ copies.unit) ⊎ ((copies.from == copies.unit) ≡ false) × ¬ (copies.from ≡ copies.unit)
        → ((from == to) ≡ true) × (from ≡ to) ⊎ ((from == to) ≡ false) × ¬ (from ≡ to) → (text : Text)
        → IsTextAt (heads_of copies.device) from (old copies.from from) text → IsTextAt (heads_of copies.device) to (new copies.unit to) text
    goes k from to here there (inl one) (inl same) = stayed k from to one.1 same.1 here there
    goes k from to here there (inl one) (inr apart) =
        moved (record { from = from; to = to }) (subst (λ (l : List TextMove). Contains l (record { from = from; to = to })) (sym moves_are)
        (in_moves (copies.from == copies.unit) source target k from to here there (ap (λ (b : Bool). b && (from == to)) one.0 ∙ apart.0)))
    goes k from to here there (inr two) any =
        moved (record { from = from; to = to }) (subst (λ (l : List TextMove). Contains l (record { from = from; to = to })) (sym moves_are)
        (in_moves (copies.from == copies.unit) source target k from to here there (ap (λ (b : Bool). b && (from == to)) two.0)))
