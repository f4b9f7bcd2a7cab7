use Rattle.std.proofs.Common.{sym, subst}
use Rattle.move_core.specs.declared.steps.Step.{Step}
use Rattle.move_core.proofs.Running.{run_idle}
use Rattle.unit_session.specs.unit_steps.Plans.{IsOfUnits}
use Rattle.job_steps.proofs.steps.carry_out.Goals as goal

pub returns-in_default-clause-run : goal.returns-in_default-clause-run
returns-in_default-clause-run g c = rw c.abandon.ensures (run_idle tt)

pub make-requires : goal.make-requires
make-requires g c = subst (λ (s : Step). IsOfUnits s) (sym c.requires.step) c.requires.units
