use Rattle.std.proofs.Common.{take}
use Rattle.std.specs.Prelude.{All}
use Rattle.redo_core.specs.Reading.{IsTarget}
use Rattle.redo_core.proofs.survey.are_there.Given as goal

abbrev pub invariant-loop-target : goal.invariant-loop-target
invariant-loop-target g l = All (IsTarget (g.P.Pool.shape l.pool) l.journal) (take l.target-index l.targets)
