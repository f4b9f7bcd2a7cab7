use Rattle.std.proofs.Common.{◌+◌, ◌<◌, arith}
use Rattle.std.proofs.lemmas.List.Elements.{All-more}
use Rattle.free_map.specs.declared.run.Run.{Run}
use Rattle.free_map.proofs.change.place_of.Goals as goal

pub loop-place-preserved : goal.loop-place-preserved
loop-place-preserved c =
    All-more (λ (run : Run). run.first + run.len < c.args.track) c.args.runs.now c.loop-place.place (record { first = 0; len = 0 }) c.loop-place-test.true c.loop-place.invariant
    (omega (arith, c.end.ensures, c.if-track-end.false))
