use Rattle.std.proofs.Common.{◌<◌, ◌∙◌, length, arith}
use Rattle.dasd_pool.proofs.Marking.{line_cleared, length_cleared}
use Rattle.std.proofs.lemmas.List.{length-set}
use Rattle.dasd_pool.proofs.marks.clear_all.Goals as goal

pub loop-unit-preserved : goal.loop-unit-preserved
loop-unit-preserved c =
    let inv = c.loop-unit.invariant in
    let there : c.loop-unit.unit < length c.loop-unit.written.items = omega arith in
    record {
      clear = line_cleared c.loop-unit.written.items c.loop-unit.unit c.clear_one.new.marks _ there c.clear_one.ensures inv.clear;
      lengths = λ u. length_cleared c.loop-unit.written.items c.loop-unit.unit c.index_mut.result.now c.clear_one.new.marks there c.index_mut.ensures.value c.clear_one.ensures u ∙ inv.lengths u;
      count = length-set c.loop-unit.written.items c.loop-unit.unit c.clear_one.new.marks ∙ inv.count;
    }
