use Rattle.std.proofs.Common.{arith, sym, ◌∙◌, length-set}
use Rattle.vtoc_core.proofs.Spelled.{pushed_character}
use Rattle.vtoc_core.proofs.names.characters_of.Goals as goal

pub loop-place-preserved : goal.loop-place-preserved
loop-place-preserved c = (
  length-set c.loop-place.text c.loop-place.place c.in-Some.character ∙ c.loop-place.invariant.0,
  pushed_character c.args.name.now c.loop-place.text c.loop-place.place c.in-Some.character
      (omega (arith, c.loop-place.invariant.0, c.loop-place-test.true, c.requires)) c.loop-place.invariant.1 (sym c.to_ascii.ensures ∙ c.in-Some.is),
)
