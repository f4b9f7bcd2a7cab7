-- The steps and the lines of a copy, as its volumes were loaded and as they are.
use Rattle.std.proofs.Common.{◌≡◌, ℕ, ◌==◌, not, Bool, true, false, List, [], ◌∷◌, ◌++◌, Option, Some, None, refl, sym, ap, subst, ◌∙◌}
use Rattle.std.specs.Prelude.{nat_lt, if◌then◌else◌, slice_get}
use Rattle.dsn_filter.specs.declared.dsn.Dsn.{Dsn}
use Rattle.volume_model.specs.Pinned.{IsNameOf}
use Rattle.volume_model.specs.Unit.{OnlineVolume}
use Rattle.volume_change.proofs.Names.{one_text}
use Rattle.unit_load.specs.declared.state.UnitState.{UnitState}
use Rattle.dump_sets.proofs.job_turns.job_copies.unit_steps.OneChange.{same_volume}
use Rattle.vtoc_core.specs.declared.volume.Volume.{Volume}
use Rattle.move_core.specs.declared.steps.Step.{Step}
use Rattle.move_core.specs.declared.steps.Step.TheVariants as steps
use Rattle.job_lines.specs.declared.message.Message.{Message}
use Rattle.job_lines.specs.declared.message.Message.TheVariants as messages
use Rattle.dump_sets.specs.job_turns.job_copies.Case.{Case}
use Rattle.job_ops.specs.declared.transfer.Transfer.{Transfer}
use Rattle.job_ops.specs.Transfers.{is_carried, steps_of_transfer}
use Rattle.dump_sets.specs.job_turns.Stating.{is_unstated}
use Rattle.dump_sets.specs.job_turns.job_acts.Making.{put_step, repair_steps}
use Rattle.job_ops.specs.Copy.{copying_steps, all_repairs, all_rebuilt, IsToldName}
use Rattle.dump_sets.specs.job_turns.Stating.{rebuilt_in, rebuilt_of}
use Rattle.job_ops.specs.Copying.{rebuilt_for, AreLines, IsTold}
use Rattle.dump_sets.specs.job_turns.Stating.{rebuilt}
use Rattle.job_ops.proofs.CopyRoom.{IsTransferIn, unstated_to, unstated_from}

-- ---- steps, by what they hang on

module _ (transfer : Transfer) where
  abbrev carried_if : Bool → Bool → Bool
  carried_if delete within = if delete then not within else false

  abbrev deleted_if : Bool → Bool → Bool
  deleted_if delete within = if delete then within else false

  abbrev due_if : ℕ → Bool → List ℕ
  due_if unit unstated = if unstated then unit ∷ [] else []

  abbrev units_if : (delete within source_unstated target_unstated lower : Bool) → List ℕ
  units_if delete within source_unstated target_unstated lower =
      if carried_if delete within then
      (if lower then due_if transfer.from.unit source_unstated ++ due_if transfer.to.unit target_unstated
      else due_if transfer.to.unit target_unstated ++ due_if transfer.from.unit source_unstated)
      else due_if transfer.to.unit target_unstated

  abbrev list_if : (delete within source_unstated target_unstated lower : Bool) → List Step
  list_if delete within source_unstated target_unstated lower =
      (repair_steps (units_if delete within source_unstated target_unstated lower)
      ++ ((if carried_if delete within then steps.Carry transfer.from.unit transfer.from.name transfer.to.unit transfer.to.name transfer.runs transfer.replaced
      else put_step transfer.from.unit transfer.from.name transfer.to.unit transfer.to.name transfer.runs transfer.replaced) ∷ []))
      ++ (if deleted_if delete within then steps.Delete transfer.from.unit transfer.from.name ∷ [] else [])

  abbrev repairs_of : ℕ → Bool → List Step
  repairs_of unit unstated = if unstated then steps.Repair unit ∷ [] else []

  abbrev repairs_if : (delete within source_unstated target_unstated lower : Bool) → List Step
  repairs_if delete within source_unstated target_unstated lower =
      if delete then
      (if within then repairs_of transfer.to.unit target_unstated
      else (if lower then repairs_of transfer.from.unit source_unstated ++ repairs_of transfer.to.unit target_unstated
      else repairs_of transfer.to.unit target_unstated ++ repairs_of transfer.from.unit source_unstated))
      else repairs_of transfer.to.unit target_unstated

  abbrev AreSteps : (delete within source_unstated target_unstated lower : Bool) → Type 0
  AreSteps delete within source_unstated target_unstated lower =
      list_if delete within source_unstated target_unstated lower
      ≡ repairs_if delete within source_unstated target_unstated lower
      ++ copying_steps delete within transfer.from.unit transfer.from.name transfer.to.unit transfer.to.name transfer.runs transfer.replaced

  are_steps : (delete within source_unstated target_unstated lower : Bool) → AreSteps delete within source_unstated target_unstated lower
  are_steps false within source_unstated true lower = refl
  are_steps false within source_unstated false lower = refl
  are_steps true true source_unstated true lower = refl
  are_steps true true source_unstated false lower = refl
  are_steps true false true true true = refl
  are_steps true false true true false = refl
  are_steps true false true false true = refl
  are_steps true false true false false = refl
  are_steps true false false true true = refl
  are_steps true false false true false = refl
  are_steps true false false false true = refl
  are_steps true false false false false = refl

  abbrev rebuilt_if : {X : Type 0} → (delete within lower : Bool) → List X → List X → List X
  rebuilt_if delete within lower of_from of_to = if delete then (if within then of_to else (if lower then of_from ++ of_to else of_to ++ of_from)) else of_to

  carried_rebuilt : (delete within lower : Bool) (of_from of_to : List Message)
      → (if carried_if delete within then (if lower then of_from ++ of_to else of_to ++ of_from) else of_to) ≡ rebuilt_if delete within lower of_from of_to
  carried_rebuilt false within lower of_from of_to = refl
  carried_rebuilt true true lower of_from of_to = refl
  carried_rebuilt true false lower of_from of_to = refl

-- ---- a transfer and its case

module _ {units : List UnitState} {transfer : Transfer} {case : Case} (is : IsTransferIn units transfer case) where
  pub steps_same : steps_of_transfer units transfer ≡ all_repairs case transfer.from.unit transfer.to.unit
      ++ copying_steps case.wish.delete case.within transfer.from.unit case.name transfer.to.unit case.new transfer.runs transfer.replaced
  steps_same =
      are_steps transfer transfer.delete (transfer.from.unit == transfer.to.unit) (is_unstated units transfer.from.unit) (is_unstated units transfer.to.unit) (nat_lt transfer.from.unit transfer.to.unit)
      ∙ (λ i. repairs_if transfer (sym is.delete_is i) (sym is.within_is i) (unstated_from is i) (unstated_to is i) (nat_lt transfer.from.unit transfer.to.unit)
      ++ copying_steps (sym is.delete_is i) (sym is.within_is i) transfer.from.unit (sym is.name_is i) transfer.to.unit (sym is.new_is i) transfer.runs transfer.replaced)

  -- ---- lines

  rebuilt_as : (unit : ℕ) (loaded : Volume) (volume : OnlineVolume) → slice_get units unit ≡ Some (Rattle.unit_load.specs.declared.state.UnitState.TheVariants.Online loaded) → volume.repair ≡ loaded.repair → volume.serial ≡ loaded.serial
      → rebuilt_in units unit ≡ rebuilt volume
  rebuilt_as unit loaded volume at repair serial = ap rebuilt_of at ∙ (λ i. if sym repair i then messages.Rebuilt (sym serial i) ∷ [] else [])

  rebuilt_same : rebuilt_for (is_carried transfer) units transfer.from.unit transfer.to.unit ≡ all_rebuilt case transfer.from.unit transfer.to.unit
  rebuilt_same =
      carried_rebuilt transfer transfer.delete (transfer.from.unit == transfer.to.unit) (nat_lt transfer.from.unit transfer.to.unit) (rebuilt_in units transfer.from.unit) (rebuilt_in units transfer.to.unit)
      ∙ (λ i. rebuilt_if transfer (sym is.delete_is i) (sym is.within_is i) (nat_lt transfer.from.unit transfer.to.unit)
      (rebuilt_as transfer.from.unit is.source case.from is.source_loaded is.from_is.repair_is is.from_is.serial_is i)
      (rebuilt_as transfer.to.unit is.target case.to is.target_loaded is.to_is.repair_is is.to_is.serial_is i))

  told_same : (told : Option (List ℕ)) → IsTold transfer.from.name transfer.to.name told → IsToldName case told
  told_same None same = is.new_is ∙ same ∙ sym is.name_is
  told_same (Some copy) (differ, named) = (λ same. differ (sym is.new_is ∙ same ∙ is.name_is), subst (λ (n : Dsn). IsNameOf n copy) (sym is.new_is) named)

  -- what is said, in the words of the case
  pub lines_same : {said : List Message} (lines : AreLines units transfer said)
      → (told : Option (List ℕ)) × IsToldName case told
      × (said ≡ all_rebuilt case transfer.from.unit transfer.to.unit ++ (messages.Copied case.set.name case.to.serial told ∷ (if case.wish.delete then messages.Deleted case.set.name ∷ [] else [])))
  lines_same lines =
      let text : lines.text ≡ case.set.name = one_text transfer.from.name lines.text case.set.name lines.text_is is.named in
      let serial : lines.volume.serial ≡ case.to.serial =
      ap (λ (v : Volume). v.serial) (same_volume units transfer.to.unit lines.volume is.target lines.loaded is.target_loaded) ∙ sym is.to_is.serial_is in (
        lines.told,
        told_same lines.told lines.told_is,
        lines.said_are
            ∙ (λ i. rebuilt_same i ++ (messages.Copied (text i) (serial i) lines.told ∷ (if sym is.delete_is i then messages.Deleted (text i) ∷ [] else []))),
      )
