use Rattle.std.proofs.Common.{◌≡◌, ◌≤◌, length, take}
use Rattle.dsn_filter.specs.Text.{capitals}
use Rattle.enq_table.proofs.line.right_len.Given as goal

abbrev pub invariant-loop-place : goal.invariant-loop-place
invariant-loop-place l = (l.place ≤ length l.word) × (capitals (take l.place l.text) ≡ take l.place l.word)
