use Rattle.layout_found.proofs.Taken.{taken_more}
use Rattle.layout_found.proofs.free.free_places.Goals as goal

pub loop-placed-preserved : goal.loop-placed-preserved
loop-placed-preserved c =
    taken_more c.args.records.now c.args.most c.loop-placed.placed-index c.loop-placed.places c.add_free.new.places c.loop-placed-test.true c.loop-placed.invariant c.in_ok-add_free.ensures
