use Rattle.std.proofs.Common.{◌≢◌, take, AllPairs}
use Rattle.run_words.proofs.files.do_dds_differ.Given as goal

abbrev pub invariant-loop-place : goal.invariant-loop-place
invariant-loop-place l = AllPairs (λ one other. one.0 ≢ other.0) (take l.place l.dds)
