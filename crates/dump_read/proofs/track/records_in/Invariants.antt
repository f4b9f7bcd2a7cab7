use Rattle.std.proofs.Common.{◌-◌, length}
use Rattle.dump_read.proofs.TrackRecords.{HaveRead}
use Rattle.dump_read.proofs.track.records_in.Given as goal

abbrev pub invariant-records : goal.invariant-records
invariant-records l = HaveRead l.fn.room l.count l.bytes l.recs l.left l.rest

abbrev pub decreases-records : goal.decreases-records
decreases-records l = l.count - length l.recs
