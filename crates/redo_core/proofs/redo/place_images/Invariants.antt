use Rattle.std.proofs.Common.{ℕ, ◌≡◌, ◌≤◌, ◌+◌, take}
use Rattle.dasd_pool.specs.Disk.{Runs}
use Rattle.redo_core.specs.Reading.{among, placed, body_for}
use Rattle.redo_core.proofs.redo.place_images.Given as goal

abbrev pub invariant-loop-target : goal.invariant-loop-target
invariant-loop-target g l = record {
  shape : g.P.Pool.shape l.pool ≡ g.P.Pool.shape l.fn.pool;
  next : l.next ≡ 4 + l.target-index;
  faults : g.P.Pool.faults l.fn.pool ≤ g.P.Pool.faults l.pool;
  runs : g.P.Pool.tells → Runs (among l.targets) (g.P.Pool.disk l.fn.pool) (g.P.Pool.disk l.pool);
  placed : g.P.Pool.tells → (u b : ℕ) → (g.P.Pool.disk l.pool).state.contents u b
      ≡ placed (g.P.Pool.disk l.fn.pool).state.contents (body_for (g.P.Pool.shape l.fn.pool).block_size l.journal (g.P.Pool.disk l.fn.pool).state.contents (take l.target-index l.targets)) u b;
}
