use Rattle.std.proofs.Common.{rules, ◌≡◌, ◌<◌, length}
use Rattle.std.specs.Prelude.{slice_index}
use Rattle.dump_read.proofs.PartFields.{zeros_more}
use Rattle.dump_read.proofs.part.zeros_in.Goals as goal

pub loop-k-preserved : goal.loop-k-preserved
loop-k-preserved c =
    let less : c.loop-k.k < length c.args.bytes.now = search rules in
    let there : slice_index c.args.bytes.now c.loop-k.k ≡ c.in-Some.byte.now = search rules in
    let none : c.in-Some.byte.now ≡ 0 = search rules in
    zeros_more c.args.bytes.now c.loop-k.invariant.0 c.loop-k.k c.in-Some.byte.now c.loop-k.invariant.1 less there none
