use Rattle.std.proofs.Common.{[], None, replicate}
use Rattle.move_core.specs.Facts.{shown}
use Rattle.move_core.specs.Runs.{AreCalls}
use Rattle.move_core.specs.Steps.{empty_text}
use Rattle.job_steps.specs.Giving.{GivesMore}
use Rattle.job_steps.proofs.giving.Giving.fill.Given as goal

-- so many empty texts were given
abbrev pub invariant-loop : goal.invariant-loop
invariant-loop g l = record {
  run : AreCalls g.P.Pool.tells (shown g.P.Pool l.fn.self.planned.session.pool) (shown g.P.Pool l.giving.planned.session.pool) (Unit {0}) [] None;
  given : GivesMore g.P.Pool l.fn.self l.giving (replicate l.counter empty_text);
}
