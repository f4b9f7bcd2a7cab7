use Rattle.std.proofs.Common.{sym, ap, ◌∙◌}
use Rattle.sysin_text.specs.Cleaning.{begins_with}
use Rattle.sysin_text.proofs.Cleaned.{close_behind}
use Rattle.sysin_text.proofs.line.close_of.Goals as goal

pub loop-at-preserved : goal.loop-at-preserved
loop-at-preserved c =
    close_behind c.args.bytes.now c.loop-at.at c.loop-at-test.true (ap (begins_with 42 47) (sym c.tail.ensures) ∙ sym c.is_close.ensures ∙ c.if-is_close.false) c.loop-at.invariant
