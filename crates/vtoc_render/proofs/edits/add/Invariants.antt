use Rattle.std.proofs.Common.{◌≡◌, ◌++◌, take}
use Rattle.vtoc_render.proofs.edits.add.Given as goal

-- the records so far
abbrev pub invariant-loop-placed : goal.invariant-loop-placed
invariant-loop-placed l = l.edits ≡ l.fn.edits ++ take l.placed-index l.more
