use Rattle.sysin_text.proofs.Cleaned.{IsUnmarked}
use Rattle.sysin_text.proofs.line.mark_at.Given as goal

abbrev pub invariant-loop-at : goal.invariant-loop-at
invariant-loop-at l = IsUnmarked l.line l.at
