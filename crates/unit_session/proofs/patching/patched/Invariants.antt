use Rattle.std.proofs.Common.{take}
use Rattle.unit_steps.specs.Rendering.{VtocsAfter}
use Rattle.unit_session.proofs.patching.patched.Given as goal

-- the tracks of the changes so far are in place
abbrev pub invariant-loop-place : goal.invariant-loop-place
invariant-loop-place l = VtocsAfter l.units l.fn.vtocs.items (take l.place l.changes) (take l.place l.rendered) l.vtocs.items
