use Rattle.std.proofs.Common.{◌++◌}
use Rattle.volume_model.specs.Check.{bad_ranges, bad_overlaps, bad_free}
use Rattle.vtoc_check.proofs.check.broken_space.Goals as goal

pub returns : goal.returns
returns c =
    let vtoc = c.args.vtoc.now in
    c.lower-2.ensures (bad_ranges vtoc ++ bad_overlaps vtoc) (bad_free vtoc)
    (c.lower.ensures (bad_ranges vtoc) (bad_overlaps vtoc) (let h = c.broken_range-range.ensures in rw c.requires.records at h) c.in_ok-overlap.ensures) c.in_ok-free.ensures
