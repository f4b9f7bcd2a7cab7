use Rattle.std.proofs.Common.{◌∙◌, ap, arith}
use Rattle.sysin_text.specs.Cleaning.{inside}
use Rattle.sysin_text.proofs.Cleaned.{read_more}
use Rattle.sysin_text.proofs.line.clean.Goals as goal

pub loop-at-preserved : goal.loop-at-preserved
loop-at-preserved c =
    rw (c.read_in.ensures, c.saturating_sub-left.ensures)
    (read_more c.args.line.now c.loop-at.text c.loop-at.left c.inside-inside.result c.loop-at.at c.loop-at-test.true (omega arith)
    (c.inside-inside.ensures ∙ ap (inside c.loop-at.left) c.tail.ensures) c.loop-at.invariant)
