use Rattle.std.proofs.Common.{◌≡◌, sym, ◌∙◌, arith}
use Rattle.rows_headline.proofs.Forms.{is_made}
use Rattle.rows_headline.proofs.made.make.Goals as goal

pub returns-clause-made : goal.returns-clause-made
returns-clause-made g c = λ told.
    let zero : c.batch-ended.result.status ≡ 0 = omega (arith, c.if-ended-ne0.false) in
    let end = c.batch-ended.ensures.ended in
    is_made g.P.Pool _ _ _ (c.ask_for_journal.ensures c.if-not-ask_for_journal.false) end.3 (sym end.1 ∙ zero) told
