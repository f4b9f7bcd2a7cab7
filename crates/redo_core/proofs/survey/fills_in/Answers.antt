use Rattle.std.proofs.Common.{refl, arith, ◌∙◌}
use Rattle.std.proofs.lemmas.List.{length-set}
use Rattle.redo_core.proofs.Surveying.{fill_more}
use Rattle.redo_core.proofs.survey.fills_in.Goals as goal

pub loop-unit-preserved : goal.loop-unit-preserved
loop-unit-preserved c = record {
  size = length-set c.loop-unit.fills c.loop-unit.unit _ ∙ c.loop-unit.invariant.size;
  each = fill_more c.loop-unit.fills c.args.block.now c.loop-unit.unit _ (omega (arith, c.loop-unit.invariant.size, c.loop-unit-test.true)) refl c.loop-unit.invariant.each;
}
