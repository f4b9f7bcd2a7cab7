use Rattle.std.proofs.Common.{◌-◌, length}
use Rattle.ckd_image.proofs.readdressing.move_records.Given as goal
use Rattle.ckd_image.proofs.PartlyMoved.{IsPartlyMoved}

abbrev pub invariant-records : goal.invariant-records
invariant-records l = IsPartlyMoved l.from l.to l.fn.slot l.slot l.start l.place

abbrev pub decreases-records : goal.decreases-records
decreases-records l = length l.slot - l.place
