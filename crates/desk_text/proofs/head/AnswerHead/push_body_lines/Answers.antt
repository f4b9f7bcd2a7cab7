use Rattle.std.proofs.Common.{ap, sym, ◌∙◌}
use Rattle.std.specs.Fmt.{decimal}
use Rattle.desk_text.proofs.Pieces.{more, adds_as, adds_nothing}
use Rattle.std.proofs.Common.{Bool, ℕ, List, [], ◌++◌}
use Rattle.std.specs.Prelude.{codes, if◌then◌else◌}
use Rattle.std.proofs.lemmas.Bool.{eq-eqb, ne_eqb}
use Rattle.desk_text.specs.Answers.{body_lines, line_end}
use Rattle.desk_text.proofs.head.AnswerHead.push_body_lines.Goals as goal

abbrev long : ℕ → List ℕ
long size = (codes "content-type: application/json" ++ line_end) ++ (codes "content-length: " ++ (decimal size ++ line_end))

pub returns-then-status-eq204-clause-text : goal.returns-then-status-eq204-clause-text
unfolding body_lines
returns-then-status-eq204-clause-text c =
    adds_as (body_lines c.args.status c.args.size) (adds_nothing c.args.self.now) (sym (ap (λ (b : Bool). if b then [] else long c.args.size) (eq-eqb c.args.status 204 c.if-status-eq204.true)))

pub returns-clause-text : goal.returns-clause-text
unfolding body_lines
returns-clause-text c =
    adds_as (body_lines c.args.status c.args.size) (more c.push.ensures.text (more (adds_as (decimal c.args.size) c.push-2.ensures.text (c.as_bytes.ensures.value ∙ c.format.ensures.text)) c.push-3.ensures.text))
    (sym (ap (λ (b : Bool). if b then [] else long c.args.size) (ne_eqb c.args.status 204 c.if-status-eq204.false)))
