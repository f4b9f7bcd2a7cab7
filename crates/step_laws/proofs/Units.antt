-- Units of which one is replaced.
use Rattle.std.proofs.Common.{◌≡◌, inl, inr, ℕ, List, ◌∷◌, ◌++◌, Some, slice_get, sym, ap, subst, ◌∙◌}
use Rattle.std.proofs.lemmas.Bool.{cases_eq}
use Rattle.std.proofs.lemmas.Option.{same_Some}
use Rattle.dasd_pool.proofs.Slices.{get_there, get_other}
use Rattle.volume_model.specs.Unit.{OnlineVolume, UnitModel, online}
use Rattle.volume_model.proofs.Units.{same_online}
use Rattle.move_core.specs.Steps.{Replaces}
use Rattle.step_laws.specs.Outcome.{IsProper, AreProper}
use Rattle.step_laws.proofs.Pairs.{parts_same}

-- an online unit has one volume
pub one_at : (units : List UnitModel) (unit : ℕ) (a b : OnlineVolume) → slice_get units unit ≡ Some (online a) → slice_get units unit ≡ Some (online b) → a ≡ b
one_at units unit a b one other = same_online a b (same_Some (online a) (online b) (sym one ∙ other))

-- ---- one unit is replaced, whatever it was and becomes

module _ {unit : ℕ} {before after : List UnitModel} {old new : UnitModel} (is : Replaces unit old new before after) where
  model_was : slice_get before unit ≡ Some old
  model_was =
      subst (λ (units : List UnitModel). slice_get units unit ≡ Some old) (sym is.before_is)
      (subst (λ (n : ℕ). slice_get (is.front ++ (old ∷ is.back)) n ≡ Some old) is.long (get_there is.front is.back old))

  model_is : slice_get after unit ≡ Some new
  model_is =
      subst (λ (units : List UnitModel). slice_get units unit ≡ Some new) (sym is.after_is)
      (subst (λ (n : ℕ). slice_get (is.front ++ (new ∷ is.back)) n ≡ Some new) is.long (get_there is.front is.back new))

  other_there : (u : ℕ) → ¬ (u ≡ unit) → slice_get before u ≡ slice_get after u
  other_there u apart =
      ap (λ (units : List UnitModel). slice_get units u) is.before_is
      ∙ get_other is.front is.back old new u (λ same. apart (same ∙ is.long))
      ∙ ap (λ (units : List UnitModel). slice_get units u) (sym is.after_is)

  -- proper units stay so where the new one is, if it is online
  pub model_proper : AreProper before → ((volume : OnlineVolume) → new ≡ online volume → IsProper volume) → AreProper after
  model_proper proper becomes u volume at = elim (cases_eq u unit) [
    | inl same ↦
        (let here : slice_get after unit ≡ Some (online volume) = subst (λ (n : ℕ). slice_get after n ≡ Some (online volume)) same at in
        becomes volume (same_Some new (online volume) (sym model_is ∙ here)))
    | inr apart ↦ proper u volume (other_there u apart ∙ at)
  ]

-- two that are put in one place
pub same_models : {unit : ℕ} {before a b : List UnitModel} {old new other_old other_new : UnitModel} → Replaces unit old new before a → Replaces unit other_old other_new before b → new ≡ other_new → a ≡ b
same_models {unit} {before} {a} {b} {old} {new} {other_old} {other_new} one other same =
    let split = parts_same one.front one.back old other.front other.back other_old (one.long ∙ sym other.long) (sym one.before_is ∙ other.before_is) in
    one.after_is ∙ (λ i. split.0 i ++ (same i ∷ split.2 i)) ∙ sym other.after_is

-- ---- an online volume becomes another

module _ {unit : ℕ} {before after : List UnitModel} {old new : OnlineVolume} (is : Replaces unit (online old) (online new) before after) where
  pub old_there : slice_get before unit ≡ Some (online old)
  old_there = model_was is

  -- proper units stay so where the new volume is
  pub replaced_proper : AreProper before → (IsProper old → IsProper new) → AreProper after
  replaced_proper proper becomes =
      model_proper is proper (λ volume same. subst IsProper (same_online new volume same) (becomes (proper unit old old_there)))

module _ {unit : ℕ} {before a b : List UnitModel} {old new other_old other_new : OnlineVolume} (one : Replaces unit (online old) (online new) before a)
    (other : Replaces unit (online other_old) (online other_new) before b) where
  pub same_old : old ≡ other_old
  same_old = one_at before unit old other_old (old_there one) (old_there other)

  pub same_units : new ≡ other_new → a ≡ b
  same_units same = same_models one other (ap online same)
