use Rattle.std.proofs.Common.{◌++◌}
use Rattle.volume_model.specs.Check.{bad_dscbs, bad_names, bad_pointers, bad_fives}
use Rattle.vtoc_check.proofs.check.broken_record.Goals as goal

pub returns : goal.returns
returns c =
    let vtoc = c.args.vtoc.now in
    c.lower-3.ensures (bad_dscbs vtoc ++ bad_names vtoc ++ bad_pointers vtoc) (bad_fives vtoc)
    (c.lower-2.ensures (bad_dscbs vtoc ++ bad_names vtoc) (bad_pointers vtoc)
    (c.lower.ensures (bad_dscbs vtoc) (bad_names vtoc) (let h = c.broken_dscb-dscb.ensures in rw c.requires.records at h) (let h = c.in_ok-name.ensures in rw c.requires.records at h))
    (c.in_ok-pointer.ensures vtoc c.requires.heads c.requires.records)) c.in_ok-five.ensures
