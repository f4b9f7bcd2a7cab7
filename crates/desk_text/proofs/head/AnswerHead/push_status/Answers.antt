use Rattle.std.proofs.Common.{ap, ◌∙◌, ◌≡◌}
use Rattle.desk_text.proofs.Pieces.{more, adds_as}
use Rattle.http.specs.StatusCode.{code_digits}
use Rattle.desk_text.specs.Answers.{phrase, status_line}
use Rattle.desk_text.proofs.head.AnswerHead.push_status.Goals as goal

pub returns-clause-text : goal.returns-clause-text
unfolding status_line
returns-clause-text c =
    let code : c.in-Ok.code ≡ c.args.status = c.in-Ok.ensures.1 in
    more c.push.ensures.text (more (adds_as (code_digits c.args.status) c.push-2.ensures.text (c.as_bytes.ensures.value ∙ (c.as_str.ensures ∙ ap code_digits code)))
    (more c.push-3.ensures.text (more (adds_as (phrase c.args.status) c.push-4.ensures.text (c.as_bytes-2.ensures.value ∙ (c.phrase_of.ensures ∙ ap phrase code))) c.push-5.ensures.text)))
