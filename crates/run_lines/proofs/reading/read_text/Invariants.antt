use Rattle.std.proofs.Common.{◌-◌, ◌≤◌, length}
use Rattle.dasd_pool.specs.Stream.{Takes}
use Rattle.run_lines.proofs.reading.read_text.Given as goal

abbrev pub invariant-chunks : goal.invariant-chunks
invariant-chunks g l = record {
  within : length l.text.items ≤ 1048577;
  later : g.S.Source.faults l.fn.source ≤ g.S.Source.faults l.source;
  bytes : Takes (g.S.Source.left l.fn.source) (g.S.Source.left l.source) l.text.items;
}

abbrev pub decreases-chunks : goal.decreases-chunks
decreases-chunks g l = 1048577 - length l.text.items
