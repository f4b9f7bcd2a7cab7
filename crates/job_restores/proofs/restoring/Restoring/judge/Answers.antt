use Rattle.std.proofs.Common.{IsTrue, ◌↔◌, Bool, Bor, sym, subst}
use Rattle.std.proofs.lemmas.Bool.{iff_false, OnFalse_at}
use Rattle.vtoc_core.specs.declared.volume.Row.{Row}
use Rattle.job_turns.specs.job_copies.step_plans.Plans.{IsClear}
use Rattle.job_restores.specs.Case.{ReplacesSome}
use Rattle.job_restores.proofs.Reasons.{pinned_first, held_first, spared_first, taken_first, none_first}
use Rattle.job_restores.proofs.Replaced.{held_told, replaced_found}
use Rattle.job_restores.proofs.Rows.{clear}
use Rattle.job_restores.proofs.restoring.Restoring.judge.Goals as goal

pub returns-then-is_fixed-clause-refused : goal.returns-then-is_fixed-clause-refused
returns-then-is_fixed-clause-refused c case are = pinned_first c.args.held.now c.args.today case ((c.is_fixed.ensures case are).0 c.if-is_fixed.true)

pub returns-then-is_name_held-clause-refused : goal.returns-then-is_name_held-clause-refused
returns-then-is_name_held-clause-refused c case are =
    held_first c.args.held.now c.args.today case (iff_false (c.is_fixed.ensures case are) c.if-is_fixed.false)
    ((held_told are c.args.held.now c.is_name_held.result c.is_name_held.ensures).0 c.if-is_name_held.true)

pub returns-then-is_spared-clause-refused : goal.returns-then-is_spared-clause-refused
returns-then-is_spared-clause-refused c case are =
    spared_first c.args.held.now c.args.today case (iff_false (c.is_fixed.ensures case are) c.if-is_fixed.false)
    (iff_false (held_told are c.args.held.now c.is_name_held.result c.is_name_held.ensures) c.if-is_name_held.false) ((c.is_spared.ensures case are).0 c.if-is_spared.true)

pub returns-then-is_name_taken-clause-refused : goal.returns-then-is_name_taken-clause-refused
returns-then-is_name_taken-clause-refused c case are =
    taken_first c.args.held.now c.args.today case (iff_false (c.is_fixed.ensures case are) c.if-is_fixed.false)
    (iff_false (held_told are c.args.held.now c.is_name_held.result c.is_name_held.ensures) c.if-is_name_held.false)
    (iff_false (c.is_spared.ensures case are) c.if-is_spared.false) ((c.is_name_taken.ensures.taken case are).0 c.if-is_name_taken.true)

pub returns-clause-goes : goal.returns-clause-goes
returns-clause-goes c case are = (
  none_first c.args.held.now c.args.today case (iff_false (c.is_fixed.ensures case are) c.if-is_fixed.false)
      (iff_false (held_told are c.args.held.now c.is_name_held.result c.is_name_held.ensures) c.if-is_name_held.false)
      (iff_false (c.is_spared.ensures case are) c.if-is_spared.false) (iff_false (c.is_name_taken.ensures.taken case are) c.if-is_name_taken.false),
  subst (λ (b : Bool). IsTrue b ↔ ReplacesSome case) (sym c.is_some.ensures)
      (replaced_found c.requires.may are (λ (row : Bor Row). row.now) c.replaced.result c.replaced.ensures.found c.replaced.ensures.none),
)

pub returns-clause-clear : goal.returns-clause-clear
returns-clause-clear c =
    subst (λ (b : Bool). IsClear b c.args.self.now.target.now c.args.self.now.new) (sym c.is_some.ensures)
    (clear c.args.self.now (λ (row : Bor Row). row.now) c.replaced.result c.replaced.ensures.found c.replaced.ensures.none
    (OnFalse_at c.if-is_name_taken.false c.is_name_taken.ensures.none))
