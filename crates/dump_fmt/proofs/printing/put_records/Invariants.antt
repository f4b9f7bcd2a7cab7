use Rattle.std.proofs.Common.{◌≡◌, ◌++◌, take}
use Rattle.dump_fmt.specs.Pieces.{dumped_records}
use Rattle.dump_fmt.proofs.printing.put_records.Given as goal

abbrev pub invariant-loop-rec : goal.invariant-loop-rec
invariant-loop-rec l = l.text ≡ l.fn.text ++ dumped_records (take l.rec-index l.recs)
