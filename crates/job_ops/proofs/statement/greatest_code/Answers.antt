use Rattle.std.proofs.Common.{max, refl, sym, ap, ◌∙◌, List, arith}
use Rattle.std.proofs.lemmas.List.{take_all}
use Rattle.job_lines.specs.declared.message.Message.{Message}
use Rattle.job_lines.specs.declared.severity.Severity.{Severity}
use Rattle.job_lines.specs.Severity.{code_of, greatest_code}
use Rattle.job_ops.proofs.Codes.{code_next}
use Rattle.job_ops.proofs.statement.greatest_code.Goals as goal

pub loop-message-init : goal.loop-message-init
loop-message-init c = refl

pub loop-message-preserved : goal.loop-message-preserved
loop-message-preserved c =
    let said = c.args.messages.now in
    let k = c.loop-message.message-index in
    c.max-code.ensures ∙ (λ i. max ((c.code.ensures ∙ ap (λ (s : Severity). code_of s) c.severity.ensures) i) (c.loop-message.invariant i)) ∙ sym (code_next said k _ c.loop-message-test.true)

pub returns : goal.returns
returns c =
    c.loop-message.invariant
    ∙ ap (λ (l : List Message). greatest_code l) (take_all c.loop-message.message-index c.args.messages.now (omega (arith, c.loop-message-test.false)))
