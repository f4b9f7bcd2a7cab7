use Rattle.std.proofs.Common.{◌≡◌, ◌+◌, drop}
use Rattle.std.specs.Option.{option_map}
use Rattle.sysin_text.specs.Cleaning.{close_of}
use Rattle.sysin_text.proofs.line.close_of.Given as goal

abbrev pub invariant-loop-at : goal.invariant-loop-at
invariant-loop-at l = close_of l.bytes ≡ option_map (λ n. n + l.at) (close_of (drop l.at l.bytes))
