use Rattle.std.proofs.Common.{◌-◌, length}
use Rattle.ckd_image.proofs.Moved.{IsPartlyRead}
use Rattle.ckd_image.proofs.readdressing.has_records.Given as goal

abbrev pub invariant-records : goal.invariant-records
invariant-records l = IsPartlyRead l.at l.slot l.start l.place

abbrev pub decreases-records : goal.decreases-records
decreases-records l = length l.slot - l.place
