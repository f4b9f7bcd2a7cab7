use Rattle.std.proofs.Common.{take, arith, refl}
use Rattle.std.proofs.lemmas.List.{take_all, take_more}
use Rattle.job_outputs.proofs.Placed.{no_name, placed_more, are_known, first_at}
use Rattle.job_outputs.proofs.places.known_places.Goals as goal

pub loop-name-init : goal.loop-name-init
loop-name-init g c = rw c.new-places.ensures.items tt

pub returns-in_default-clause-refused : goal.returns-in_default-clause-refused
returns-in_default-clause-refused g c = (
  _,
  refl,
  first_at _ c.args.names.now c.loop-name.name-index no_name _ c.loop-name-test.true refl c.in_default.ensures.none
      (are_known _ (take c.loop-name.name-index c.args.names.now) c.loop-name.places.items c.loop-name.invariant),
)

pub loop-name-preserved : goal.loop-name-preserved
loop-name-preserved g c =
    rw (c.in_ok-push.ensures.items, c.in-Ok.ensures.1, take_more c.args.names.now c.loop-name.name-index no_name c.loop-name-test.true)
    (placed_more _ (take c.loop-name.name-index c.args.names.now) c.loop-name.places.items _ c.in-Some.place c.loop-name.invariant c.in-Some.ensures.found)

pub returns-clause-places : goal.returns-clause-places
returns-clause-places g c =
    let all = take_all c.loop-name.name-index c.args.names.now (omega (arith, c.loop-name-test.false)) in
    rw all at c.loop-name.invariant
