-- Steps lead from proper units to one list of units.
use Rattle.std.proofs.Common.{◌≡◌, List, [], ◌∷◌, true, false, refl, sym, subst, ◌∙◌}
use Rattle.volume_model.specs.Unit.{UnitModel}
use Rattle.move_core.specs.declared.steps.Step.{Step}
use Rattle.move_core.specs.declared.steps.Step.TheVariants.{Move, Shrink, Add, Replace, Delete, Carry, ResetFlag, Repair, FillStart, FillEnd}
use Rattle.move_core.specs.Facts.{Facts}
use Rattle.move_core.specs.Steps.{IsStep, Reaches}
use Rattle.step_laws.specs.Outcome.{AreProper, OneOutcome}
use Rattle.step_laws.proofs.EachStep.{one_move, one_shrink, one_reset, one_delete, one_put, one_carry, one_still, one_start, one_end}
use Rattle.step_laws.proofs.Staying.{step_proper}

one_step : (facts : Facts) (step : Step) (before a b : List UnitModel) → AreProper before → IsStep facts step before a → IsStep facts step before b → a ≡ b
one_step facts (Move unit name to) before a b proper = one_move unit name to before a b proper
one_step facts (Shrink unit name keep) before a b proper = one_shrink unit name keep before a b proper
one_step facts (Add unit name to origin) before a b proper = one_put facts false origin unit name to before a b proper
one_step facts (Replace unit name to origin) before a b proper = one_put facts true origin unit name to before a b proper
one_step facts (Delete unit name) before a b proper = one_delete unit name before a b proper
one_step facts (Carry from old unit name to replaced) before a b proper = one_carry from old unit name to replaced before a b proper
one_step facts (ResetFlag unit name) before a b proper = one_reset unit name before a b proper
one_step facts (Repair unit) before a b proper = λ one other. one_still proper one other refl refl refl refl
one_step facts (FillStart unit input) before a b proper = one_start facts unit input before a b
one_step facts (FillEnd unit input) before a b proper = one_end facts unit input before a b

pub one_outcome : OneOutcome
one_outcome facts before a b [] proper one other = one ∙ sym other
one_outcome facts before a b (step ∷ steps) proper (between, first, rest) (behind, first_too, rest_too) =
    let same : between ≡ behind = one_step facts step before between behind proper first first_too in
    one_outcome facts between a b steps (step_proper facts step before between proper first) rest
    (subst (λ (units : List UnitModel). Reaches facts units steps b) (sym same) rest_too)
