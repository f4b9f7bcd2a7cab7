use Rattle.std.proofs.Common.{◌≡◌, ◌++◌, map, take}
use Rattle.unit_steps.specs.Rendering.{entry_for}
use Rattle.unit_session.proofs.rendering.add_entries.Given as goal

abbrev pub invariant-loop-block : goal.invariant-loop-block
invariant-loop-block l = l.entries ≡ record { blocks = l.fn.entries.blocks ++ map (entry_for l.unit) (take l.block-index l.blocks); control = l.fn.entries.control }
