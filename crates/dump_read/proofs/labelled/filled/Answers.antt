use Rattle.std.proofs.Common.{rules, ◌≡◌, length, replicate}
use Rattle.ckd_image.specs.Device.{slot_of}
use Rattle.dump_read.proofs.Labels.{slot_filled}
use Rattle.dump_read.proofs.labelled.filled.Goals as goal

pub returns : goal.returns
returns c =
    let zeros : c.as_mut_slice.result.now ≡ replicate (slot_of c.args.device) 0 = search rules in
    let long : length c.put.new.bytes ≡ c.in_ok-slot.slot.len = search rules in
    slot_filled c.put.new.bytes c.args.bytes.now c.as_mut_slice.result.now _ c.put.result (slot_of c.args.device) c.in_ok-slot.slot.len c.put.ensures.end c.put.ensures.written c.put.ensures.behind zeros long
