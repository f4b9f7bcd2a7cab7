use Rattle.std.proofs.Common.{Err, refl, [], ◌∷◌, ◌++◌, List, ap, ◌∙◌}
use Rattle.std.proofs.lemmas.Result.{IfOk-weaker, IfErr-weaker, err_from_is_err_and}
use Rattle.job_lines.specs.declared.message.Message.{Message}
use Rattle.job_lines.specs.declared.message.Message.TheVariants as messages
use Rattle.job_lines.specs.Severity.{greatest_code}
use Rattle.sysin_words.specs.declared.lead.Verb.{Verb}
use Rattle.job_ops.proofs.Endings.{short_leaves, leaves_first, say_leaves}
use Rattle.job_ops.proofs.Wholly.{not_started, cut_within, ended_framed, ended_wholly}
use Rattle.job_ops.proofs.statement.whole.Goals as goal

-- src/statement.rt:128:19
pub returns-in_err-session-clause-ends : goal.returns-in_err-session-clause-ends
returns-in_err-session-clause-ends g c =
    let p = err_from_is_err_and c.from_residual.result c.from_residual.ensures.1 in
    rw (p.1, p.2)
    (not_started g.P.Pool c.args.command.now c.args.held.now c.args.today c.args.session _ _ c.args.log.now.steps.items c.say.new.messages.items c.in_err-session.field-0.0
    c.in_err-session.ensures.short.0 (c.in_err-session.ensures.short.1 ∙ c.requires.start) refl)

-- src/statement.rt:129:19
pub returns-in_err-session-2-clause-ends : goal.returns-in_err-session-2-clause-ends
returns-in_err-session-2-clause-ends g c =
    let p = err_from_is_err_and c.from_residual-in_err-session-2.result c.from_residual-in_err-session-2.ensures.1 in
    rw (p.1, p.2)
    (cut_within g.P.Pool c.args.command.now c.args.held.now c.args.today c.args.session _ _ c.in_ok-session.session c.args.log.now.steps.items c.perform.new.log.steps.items
    c.say.new.messages.items c.perform.new.log.messages.items c.in_err-session-2.field-0.0 c.in_ok-session.ensures.said.0
    (c.in_ok-session.ensures.said.1 ∙ ap (λ (l : List Message). l ++ (messages.Started c.verb_of-verb.result ∷ [])) c.requires.start
    ∙ ap (λ (v : Verb). messages.Started v ∷ []) c.verb_of-verb.ensures)
    c.in_err-session-2.ensures.ends)

-- src/statement.rt:112:1
pub returns-clause-ends : goal.returns-clause-ends
returns-clause-ends g c =
    let between = c.perform.new.log.messages.items in
    ended_wholly g.P.Pool c.args.command.now c.args.held.now c.args.today c.args.session _ _ c.in_ok-session.session c.in_ok-session-2.session c.args.log.now.steps.items
    c.perform.new.log.steps.items c.say.new.messages.items between c.say-2.new.messages.items c.greatest_code-code.result c.say-2.result c.in_ok-session.ensures.said.0
    (c.in_ok-session.ensures.said.1 ∙ ap (λ (l : List Message). l ++ (messages.Started c.verb_of-verb.result ∷ [])) c.requires.start
    ∙ ap (λ (v : Verb). messages.Started v ∷ []) c.verb_of-verb.ensures)
    c.in_ok-session-2.ensures.ends (c.greatest_code-code.ensures ∙ ap (λ (l : List Message). greatest_code l) c.deref.ensures.value)
    (IfOk-weaker c.say-2.result _ _
    (λ kept p. (p.0, p.1 ∙ ap (λ (v : Verb). between ++ (messages.Ended v c.greatest_code-code.result ∷ [])) c.verb_of-verb.ensures)) c.say-2.ensures.said)
    c.say-2.ensures.short

-- ---- what only reads

pub returns-in_err-session-clause-reads : goal.returns-in_err-session-clause-reads
returns-in_err-session-clause-reads g c =
    let p = err_from_is_err_and c.from_residual.result c.from_residual.ensures.1 in
    rw (p.1, p.2) (λ reads. short_leaves c.args.session c.in_err-session.field-0.0 c.in_err-session.ensures.short.0)

pub returns-in_err-session-2-clause-reads : goal.returns-in_err-session-2-clause-reads
returns-in_err-session-2-clause-reads g c =
    let p = err_from_is_err_and c.from_residual-in_err-session-2.result c.from_residual-in_err-session-2.ensures.1 in
    rw (p.1, p.2) (λ reads. leaves_first c.args.session c.in_ok-session.session (Err c.in_err-session-2.field-0.0) c.in_ok-session.ensures.said.0 (c.in_err-session-2.ensures.reads reads))

pub returns-clause-reads : goal.returns-clause-reads
returns-clause-reads g c = λ reads.
    say_leaves c.args.session c.in_ok-session-2.session c.say-2.result (c.in_ok-session-2.ensures.reads reads ∙ c.in_ok-session.ensures.said.0)
    (IfOk-weaker c.say-2.result _ _ (λ kept p. p.0) c.say-2.ensures.said) (IfErr-weaker c.say-2.result _ _ (λ cut p. p.0) c.say-2.ensures.short)

-- ---- its two lines

pub returns-clause-framed : goal.returns-clause-framed
returns-clause-framed g c =
    let between = c.perform.new.log.messages.items in
    ended_framed g.P.Pool c.args.command.now c.args.held.now c.args.today c.args.session _ _ c.in_ok-session.session c.in_ok-session-2.session c.args.log.now.steps.items
    c.perform.new.log.steps.items c.say.new.messages.items between c.say-2.new.messages.items c.greatest_code-code.result c.say-2.result
    (c.in_ok-session.ensures.said.1 ∙ ap (λ (l : List Message). l ++ (messages.Started c.verb_of-verb.result ∷ [])) c.requires.start
    ∙ ap (λ (v : Verb). messages.Started v ∷ []) c.verb_of-verb.ensures)
    c.in_ok-session-2.ensures.ends (c.greatest_code-code.ensures ∙ ap (λ (l : List Message). greatest_code l) c.deref.ensures.value)
    (IfOk-weaker c.say-2.result _ _
    (λ kept p. (p.0, p.1 ∙ ap (λ (v : Verb). between ++ (messages.Ended v c.greatest_code-code.result ∷ [])) c.verb_of-verb.ensures)) c.say-2.ensures.said)
