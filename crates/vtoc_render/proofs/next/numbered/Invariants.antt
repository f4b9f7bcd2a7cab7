use Rattle.std.proofs.Common.{◌≡◌, take}
use Rattle.vtoc_render.specs.Next.{numbered_from}
use Rattle.vtoc_render.proofs.next.numbered.Given as goal

-- the extents so far
abbrev pub invariant-loop-place : goal.invariant-loop-place
invariant-loop-place l = l.numbered ≡ numbered_from 0 (take l.place l.extents)
