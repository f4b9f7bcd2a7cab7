use Rattle.std.proofs.Common.{◌≡◌, [], ◌∷◌, ◌++◌, List, Bool, sym, ap, ◌∙◌, append_assoc}
use Rattle.std.specs.Prelude.{if◌then◌else◌}
use Rattle.std.proofs.lemmas.List.{append-nil}
use Rattle.std.proofs.lemmas.Result.{IfOk-weaker}
use Rattle.job_lines.specs.declared.message.Message.{Message}
use Rattle.job_lines.specs.declared.message.Message.TheVariants as messages
use Rattle.dump_sets.specs.job_turns.job_steps.declared.cut.Cut.TheVariants as cuts
use Rattle.dump_sets.specs.job_turns.declared.log.Log.{Log}
use Rattle.dump_sets.proofs.job_turns.SameSessions.{told_grows}
use Rattle.job_ops.proofs.log.say_done.Goals.{then-candidate+in_ok-session, else-candidate}
use Rattle.job_ops.proofs.log.say_done.Goals as goal

pub returns-clause-said : goal.returns-clause-said
returns-clause-said g c =
    let old = c.args.log.now.messages.items in
    let last = c.args.message ∷ [] in
    let first = messages.Rebuilt c.args.candidate.serial ∷ [] in
    elim c.if-candidate.branch [
      | then-candidate+in_ok-session w ↦
          IfOk-weaker c.say-2.result _ _
          (λ next p. (
            p.0 ∙ w.session-is ∙ w.in_ok-session.ensures.said.0,
            p.1 ∙ ap (λ (log : Log). log.messages.items ++ last) w.log-is ∙ ap (λ (l : List Message). l ++ last) w.in_ok-session.ensures.said.1 ∙ append_assoc old first last
                ∙ ap (λ (b : Bool). old ++ ((if b then first else []) ++ last)) (sym w.if-candidate.true),
          ))
          c.say-2.ensures.said
      | else-candidate w ↦
          IfOk-weaker c.say-2.result _ _
          (λ next p. (
            p.0 ∙ w.session-is,
            p.1 ∙ ap (λ (log : Log). log.messages.items ++ last) w.log-is ∙ ap (λ (b : Bool). old ++ ((if b then first else []) ++ last)) (sym w.if-candidate.false),
          ))
          c.say-2.ensures.said
    ]

pub returns-clause-grows : goal.returns-clause-grows
returns-clause-grows g c =
    let old = c.args.log.now.messages.items in
    let grown = told_grows (λ next. next ≡ c.if-candidate.session) (λ cut. cut ≡ cuts.Short c.if-candidate.session) c.if-candidate.log.messages.items c.say-2.new.messages.items
    (c.args.message ∷ []) c.say-2.result c.say-2.ensures.said c.say-2.ensures.short in
    elim c.if-candidate.branch [
      | then-candidate+in_ok-session w ↦ (
        (messages.Rebuilt c.args.candidate.serial ∷ []) ++ grown.0,
        grown.1 ∙ ap (λ (log : Log). log.messages.items ++ grown.0) w.log-is ∙ ap (λ (l : List Message). l ++ grown.0) w.in_ok-session.ensures.said.1
            ∙ append_assoc old (messages.Rebuilt c.args.candidate.serial ∷ []) grown.0,
      )
      | else-candidate w ↦ (grown.0, grown.1 ∙ ap (λ (log : Log). log.messages.items ++ grown.0) w.log-is)
    ]

pub returns-in_err-session-clause-grows : goal.returns-in_err-session-clause-grows
returns-in_err-session-clause-grows g c = ([], c.in_err-session.ensures.short.1 ∙ sym (append-nil c.args.log.now.messages.items))
