use Rattle.std.proofs.Common.{ℕ, ◌≡◌, ◌≤◌, take}
use Rattle.dasd_pool.specs.Disk.{Runs}
use Rattle.redo_core.specs.Reading.{among, placed}
use Rattle.redo_core.specs.Phases.{targets}
use Rattle.redo_core.proofs.commit.place.Given as goal

abbrev pub invariant-loop-entry : goal.invariant-loop-entry
invariant-loop-entry g l = record {
  shape : g.P.Pool.shape l.pool ≡ g.P.Pool.shape l.fn.pool;
  faults : g.P.Pool.faults l.fn.pool ≤ g.P.Pool.faults l.pool;
  runs : g.P.Pool.tells → Runs (among (targets l.entries)) (g.P.Pool.disk l.fn.pool) (g.P.Pool.disk l.pool);
  placed : g.P.Pool.tells → (u b : ℕ) → (g.P.Pool.disk l.pool).state.contents u b ≡ placed (g.P.Pool.disk l.fn.pool).state.contents (take l.entry-index l.entries) u b;
}
