use Rattle.std.proofs.Common.{arith}
use Rattle.vtoc_core.proofs.Edits.{none_so_far, one_more, all_put}
use Rattle.vtoc_core.proofs.edit.put_entries.Goals as goal

pub returns : goal.returns
returns c = all_put c.args.entries.now c.args.dscb.now c.loop-place.dscb c.loop-place.place (omega arith) c.loop-place.invariant

pub loop-place-init : goal.loop-place-init
loop-place-init c = none_so_far c.args.entries.now c.args.dscb.now

pub loop-place-preserved : goal.loop-place-preserved
loop-place-preserved c =
    one_more c.loop-place.place c.args.entries.now c.args.dscb.now c.loop-place.dscb c.put_entry.new.dscb c.entry_or_none.result c.loop-place-test.true c.told-dscb
    c.entry_or_none.ensures c.put_entry.ensures c.loop-place.invariant
