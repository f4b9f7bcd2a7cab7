use Rattle.std.proofs.Common.{sym, ap, ◌∙◌}
use Rattle.sysin_text.specs.Cleaning.{is_mark}
use Rattle.sysin_text.proofs.Cleaned.{mark_behind}
use Rattle.sysin_text.proofs.line.mark_at.Goals as goal

pub loop-at-preserved : goal.loop-at-preserved
loop-at-preserved c = mark_behind c.args.line.now c.loop-at.at c.loop-at-test.true (ap is_mark (sym c.tail.ensures) ∙ sym c.is_mark.ensures ∙ c.if-is_mark.false) c.loop-at.invariant
