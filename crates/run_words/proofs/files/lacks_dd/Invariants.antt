use Rattle.std.proofs.Common.{◌≢◌, take, All}
use Rattle.run_words.proofs.files.lacks_dd.Given as goal

abbrev pub invariant-loop-dd : goal.invariant-loop-dd
invariant-loop-dd l = All (λ dd. dd.0 ≢ l.name) (take l.dd-index l.dds)
