use Rattle.std.proofs.Common.{◌≡◌, ◌≤◌, ◌-◌, ℕ, length}
use Rattle.sysin_text.specs.Left.{tokens_behind}
use Rattle.sysin_text.proofs.tokens.behind_blanks.Given as goal

abbrev pub invariant-loop-place : goal.invariant-loop-place
invariant-loop-place l = (l.place ≤ length l.bytes) × ((number : ℕ) → tokens_behind number l.place l.bytes ≡ tokens_behind number l.fn.place l.bytes)

abbrev pub decreases-loop-place : goal.decreases-loop-place
decreases-loop-place l = length l.bytes - l.place
