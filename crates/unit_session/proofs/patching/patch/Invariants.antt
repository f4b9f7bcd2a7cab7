use Rattle.std.proofs.Common.{take}
use Rattle.unit_steps.specs.Rendering.{ArePatched}
use Rattle.unit_session.proofs.patching.patch.Given as goal

-- the blocks so far are in place
abbrev pub invariant-loop-block : goal.invariant-loop-block
invariant-loop-block l = ArePatched l.run l.size (take l.block-index l.blocks) l.fn.slots l.slots
