use Rattle.std.proofs.Common.{◌≡◌, ◌++◌, take, drop}
use Rattle.sysin_text.specs.Cleaning.{bytes_read}
use Rattle.sysin_text.proofs.line.clean.Given as goal

abbrev pub invariant-loop-at : goal.invariant-loop-at
invariant-loop-at l = take l.at l.text ++ bytes_read l.left (drop l.at l.line) ≡ bytes_read 0 l.line
