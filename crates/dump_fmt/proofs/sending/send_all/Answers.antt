use Rattle.std.proofs.Common.{arith}
use Rattle.std.proofs.lemmas.Option.{slice_get-get_or}
use Rattle.dump_fmt.proofs.Places.{each_at_none, each_at_turn, each_at_whole}
use Rattle.dump_fmt.proofs.sending.send_all.Goals as goal

pub loop-place-init : goal.loop-place-init
loop-place-init g c = each_at_none _ _

pub loop-place-preserved : goal.loop-place-preserved
loop-place-preserved g c =
    each_at_turn _ c.args.places.now c.loop-place.place-index c.args.outs.now c.loop-place.outs _ _ c.loop-place-test.true c.requires.distinct c.loop-place.invariant
    (slice_get-get_or c.loop-place.outs _ c.index-outs-place.result
    (omega (arith, c.requires.within c.loop-place.place-index 0 c.loop-place-test.true, c.loop-place.invariant.same_length))) c.send.ensures

pub returns : goal.returns
returns g c = each_at_whole _ c.args.places.now c.loop-place.place-index c.args.outs.now c.loop-place.outs c.loop-place-test.false c.loop-place.invariant
