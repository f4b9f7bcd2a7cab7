use Rattle.std.proofs.Common.{◌≡◌, true, All, take}
use Rattle.unit_load.specs.Reads.{OnlyReads}
use Rattle.unit_session.proofs.planned.ask_units.Given as goal

-- the units of the first of them may be written
abbrev pub invariant-loop-unit : goal.invariant-loop-unit
invariant-loop-unit g l = record {
  reads : OnlyReads g.P.Pool l.fn.journal l.journal;
  writable : All (λ change. (g.P.Pool.shape l.fn.journal.pool).may_write change.0 ≡ true) (take l.unit-index l.changes);
}
