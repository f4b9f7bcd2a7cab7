use Rattle.std.proofs.Common.{◌≡◌, ℕ, List, ◌++◌, replicate}
use Rattle.dump_read.proofs.part.zeros_in.Given as goal

abbrev pub invariant-loop-k : goal.invariant-loop-k
invariant-loop-k l = (rest : List ℕ) × (l.bytes ≡ replicate l.k 0 ++ rest)
