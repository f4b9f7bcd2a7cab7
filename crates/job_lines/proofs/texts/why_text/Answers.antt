use Rattle.std.proofs.Common.{sym, ap, ◌∙◌}
use Rattle.std.specs.Prelude.{string_bytes}
use Rattle.std.proofs.lemmas.Result.{IfOk-weaker}
use Rattle.volume_model.specs.declared.why.Why.{Why}
use Rattle.job_lines.specs.Lines.{why_words}
use Rattle.job_lines.proofs.Pieces.{vtoc_together}
use Rattle.job_lines.proofs.texts.why_text.Goals as goal

pub returns-in-Vtoc : goal.returns-in-Vtoc
returns-in-Vtoc c =
    let words = c.rule_words-words.result.now in
    IfOk-weaker c.format-in-Vtoc.result _ _
    (λ text is. vtoc_together (string_bytes text) words c.in-Vtoc.track c.in-Vtoc.place c.in-Vtoc.rule is c.rule_words-words.ensures ∙ ap (λ (why : Why). why_words why) (sym c.in-Vtoc.is))
    c.format-in-Vtoc.ensures.ok
