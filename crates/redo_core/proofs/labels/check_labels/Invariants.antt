use Rattle.redo_core.specs.Looks.{OnlyLooks}
use Rattle.redo_core.specs.Faults.{LabelsAre}
use Rattle.redo_core.proofs.Heads.{labelled}
use Rattle.redo_core.proofs.labels.check_labels.Given as goal

abbrev pub invariant-loop-unit : goal.invariant-loop-unit
invariant-loop-unit g l = record {
  looks : OnlyLooks g.P.Pool l.fn.pool l.pool;
  labels : g.P.Pool.tells → LabelsAre (g.P.Pool.shape l.fn.pool) (labelled (g.P.Pool.shape l.fn.pool) (g.P.Pool.disk l.fn.pool).state l.journal l.targets) l.names l.unit;
}
