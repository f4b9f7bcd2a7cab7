use Rattle.std.proofs.Common.{◌≡◌, length}
use Rattle.unit_load.specs.Reads.{OnlyReads}
use Rattle.unit_steps.specs.Loaded.{AreLoaded, AreVtocsOf, HaveFills}
use Rattle.unit_session.proofs.Loading.{KeepEach}
use Rattle.unit_session.proofs.load.load_units.Given as goal

abbrev pub invariant-loop-unit : goal.invariant-loop-unit
invariant-loop-unit g l = record {
  reads : OnlyReads g.P.Pool l.fn.journal l.journal;
  count : length l.units.items ≡ l.unit;
  whole : length l.vtocs.items ≡ l.unit;
  kept : KeepEach (g.P.Pool.shape l.fn.journal.pool) l.units.items l.vtocs.items;
  loaded : g.P.Pool.tells → AreLoaded (g.P.Pool.shape l.fn.journal.pool) (g.P.Pool.disk l.fn.journal.pool).state.contents l.units.items;
  slots : g.P.Pool.tells → AreVtocsOf (g.P.Pool.disk l.fn.journal.pool).state.contents l.units.items l.vtocs.items;
  fills : HaveFills l.fn.journal.fills l.units.items;
}
