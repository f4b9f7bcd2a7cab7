use Rattle.std.proofs.Common.{inr, length, ap, arith}
use Rattle.step_plans.proofs.Swaps.{reset_plan}
use Rattle.step_plans.proofs.RowNames.{few_extents}
use Rattle.step_plans.proofs.plans.reset_flag.Goals as goal

pub returns-then-as_slice-gt-MOST_EXTENTS-clause-none : goal.returns-then-as_slice-gt-MOST_EXTENTS-clause-none
returns-then-as_slice-gt-MOST_EXTENTS-clause-none c =
    inr (c.in-Some.row.now, c.in-Some.ensures.found, omega (arith, ap length c.as_slice.ensures, c.if-as_slice-gt-MOST_EXTENTS.true))

pub returns-clause-plan : goal.returns-clause-plan
returns-clause-plan c =
    reset_plan c.args.volume.now c.args.unit c.args.name c.in-Some.row.now c.in_ok-reset_row.field-0 c.in_ok-quiet_plan.field-0 c.requires.sound c.in-Some.ensures.found
    (omega (arith, ap length c.as_slice.ensures, c.if-as_slice-gt-MOST_EXTENTS.false)) c.in_ok-reset_row.ensures.name c.in_ok-reset_row.ensures.front c.in_ok-reset_row.ensures.fields
    c.in_ok-reset_row.ensures.extents c.in_ok-quiet_plan.ensures.step c.in_ok-quiet_plan.ensures.tracks c.in_ok-quiet_plan.ensures.changes

pub returns-clause-few : goal.returns-clause-few
returns-clause-few c =
    few_extents c.args.volume.now c.requires.sound c.args.name c.in-Some.row.now c.in-Some.ensures.found
    (omega (arith, ap length c.as_slice.ensures, c.if-as_slice-gt-MOST_EXTENTS.false))
