use Rattle.vtoc_core.proofs.Edits.{AreSoFar}
use Rattle.vtoc_core.proofs.edit.put_entries.Given as goal

abbrev pub invariant-loop-place : goal.invariant-loop-place
invariant-loop-place l = AreSoFar l.place l.entries l.initial.dscb l.dscb
