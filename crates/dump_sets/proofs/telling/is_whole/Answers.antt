use Rattle.std.proofs.Common.{refl, true, false, sym, arith}
use Rattle.std.proofs.lemmas.List.{take_all}
use Rattle.dump_sets.proofs.Tellings.{one_whole, none_front, whole_here}
use Rattle.dump_sets.proofs.telling.is_whole.Goals as goal

pub loop-place-init : goal.loop-place-init
loop-place-init g c = refl

pub returns-then-eq : goal.returns-then-eq
returns-then-eq g c =
    sym (one_whole _ c.args.places.now c.loop-place.place-index c.loop-place-test.true
    (whole_here _ c.args.outs.now _ c.index-outs-place.result true (c.requires c.loop-place.place-index 0 c.loop-place-test.true) c.if-eq.ensures))

pub loop-place-preserved : goal.loop-place-preserved
loop-place-preserved g c =
    none_front _ c.args.places.now c.loop-place.place-index c.loop-place-test.true c.loop-place.invariant
    (whole_here _ c.args.outs.now _ c.index-outs-place.result false (c.requires c.loop-place.place-index 0 c.loop-place-test.true) c.if-eq.ensures)

pub returns : goal.returns
returns g c =
    let all = take_all c.loop-place.place-index c.args.places.now (omega (arith, c.loop-place-test.false)) in
    sym (rw all at c.loop-place.invariant)
