use Rattle.std.proofs.Common.{◌≡◌, ◌≤◌, ◌+◌, length, take}
use Rattle.dasd_pool.specs.Disk.{Runs}
use Rattle.redo_core.specs.Reading.{body_for}
use Rattle.redo_core.specs.Phases.{targets}
use Rattle.redo_core.specs.Phases.{of_body}
use Rattle.redo_core.proofs.commit.stage.Given as goal

abbrev pub invariant-loop-entry : goal.invariant-loop-entry
invariant-loop-entry g l = record {
  shape : g.P.Pool.shape l.pool ≡ g.P.Pool.shape l.fn.pool;
  next : l.next ≡ 4 + l.entry-index;
  faults : g.P.Pool.faults l.fn.pool ≤ g.P.Pool.faults l.pool;
  runs : g.P.Pool.tells → Runs (of_body l.journal (length l.entries)) (g.P.Pool.disk l.fn.pool) (g.P.Pool.disk l.pool);
  images : g.P.Pool.tells → body_for (g.P.Pool.shape l.fn.pool).block_size l.journal (g.P.Pool.disk l.pool).state.contents (targets (take l.entry-index l.entries)) ≡ take l.entry-index l.entries;
}
