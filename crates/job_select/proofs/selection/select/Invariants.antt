use Rattle.job_select.proofs.Picks.{AreSoFar}
use Rattle.job_select.proofs.selection.select.Given as goal

-- the names of the rows so far
abbrev pub invariant-loop-row : goal.invariant-loop-row
invariant-loop-row l = AreSoFar l.volume l.filter l.today l.row-index l.names.items
