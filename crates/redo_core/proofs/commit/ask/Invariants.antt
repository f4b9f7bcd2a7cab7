use Rattle.std.proofs.Common.{take}
use Rattle.redo_core.specs.Looks.{OnlyLooks}
use Rattle.redo_core.specs.Phases.{TakeWrites}
use Rattle.redo_core.proofs.commit.ask.Given as goal

abbrev pub invariant-loop-entry : goal.invariant-loop-entry
invariant-loop-entry g l = record {
  looks : OnlyLooks g.P.Pool l.fn.pool l.pool;
  may : TakeWrites (g.P.Pool.shape l.fn.pool) (take l.entry-index l.entries);
}
