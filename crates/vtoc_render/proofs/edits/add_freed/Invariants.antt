use Rattle.std.proofs.Common.{◌≡◌, ◌++◌, map, take}
use Rattle.layout_edit.specs.Change.{zeroed}
use Rattle.vtoc_render.proofs.edits.add_freed.Given as goal

-- the records so far
abbrev pub invariant-loop-place : goal.invariant-loop-place
invariant-loop-place l = l.edits ≡ l.fn.edits ++ map zeroed (take l.place-index l.freed)
