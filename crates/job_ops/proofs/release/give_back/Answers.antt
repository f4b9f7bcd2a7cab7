use Rattle.std.proofs.Common.{[], ◌∷◌, ◌-◌, Vec, Global, inl, refl, ap, arith}
use Rattle.std.proofs.lemmas.Result.{IfOk-weaker, err_from_is_err_and}
use Rattle.move_core.specs.declared.steps.Step.{Step}
use Rattle.job_lines.specs.declared.message.Message.TheVariants as messages
use Rattle.job_lines.specs.declared.message.Reason.TheVariants as reasons
use Rattle.job_lines.specs.declared.severity.Severity.TheVariants as severities
use Rattle.job_ops.specs.declared.reshaping.Layout.TheVariants as layouts
use Rattle.job_ops.specs.Asked.{said_of}
use Rattle.dump_sets.proofs.job_turns.SameSessions.{ends_said}
use Rattle.job_ops.proofs.Changing.{cut_reshape, full_reshape, done_reshape, full_stays, done_stays, may_reshape, needs_repair, stays_same}
use Rattle.job_ops.proofs.GivingBack.{cut_of, nothing_given, too_full, given_back}
use Rattle.job_ops.proofs.release.give_back.Goals as goal

pub returns-then-candidate-clause-ends : goal.returns-then-candidate-clause-ends
returns-then-candidate-clause-ends g c =
    ends_said g.P.Pool (messages.Released c.args.candidate.name 0 ∷ []) c.say.result refl c.say.ensures.said c.say.ensures.short
    (λ told units settled. nothing_given c.args.scene.held.now (c.requires.seen told units settled) (c.requires.reason told units settled) c.if-candidate.true) (λ units. inl (refl, refl))

pub returns-then-candidate-clause-next : goal.returns-then-candidate-clause-next
returns-then-candidate-clause-next g c =
    IfOk-weaker c.say.result _ _
    (λ next p. stays_same g.P.Pool c.args.session.room c.args.scene.unit (λ i. (p.0 i).units)) c.say.ensures.said

pub carry_out-requires-clause-may : goal.carry_out-requires-clause-may
carry_out-requires-clause-may g c =
    may_reshape (layouts.Front c.args.candidate.keep) c.requires.may.may c.requires.candidate c.requires.moves (omega (arith, c.if-candidate.false, c.requires.candidate.size_is))

pub returns-in_err-session-clause-ends : goal.returns-in_err-session-clause-ends
returns-in_err-session-clause-ends g c =
    let candidate = c.args.candidate in
    let p = err_from_is_err_and c.from_residual.result c.from_residual.ensures.1 in
    rw (p.1, p.2)
    (cut_reshape g.P.Pool (said_of candidate (messages.Released candidate.name (candidate.size - candidate.keep))) c.in_err-session.ensures
    (λ told units settled. given_back c.args.scene.held.now (c.requires.seen told units settled) (c.requires.reason told units settled) c.if-candidate.false))

pub returns-in-Full-clause-ends : goal.returns-in-Full-clause-ends
returns-in-Full-clause-ends g c =
    full_reshape g.P.Pool {reshape = cut_of c.args.scene.unit c.args.name.now c.args.candidate} (messages.NotProcessed c.args.candidate.name reasons.VtocFull severities.Error ∷ []) c.in_ok-session.field-0 c.refuse.result
    c.in_ok-session.ensures c.in-Full.is (ap (λ (list : Vec Step Global). list.items) c.refuse.ensures.steps) c.refuse.ensures.said c.refuse.ensures.short
    (λ told units settled. too_full c.args.scene.held.now (c.requires.seen told units settled) (c.requires.reason told units settled) c.if-candidate.false)

pub returns-in-Full-clause-next : goal.returns-in-Full-clause-next
returns-in-Full-clause-next g c =
    full_stays g.P.Pool {reshape = cut_of c.args.scene.unit c.args.name.now c.args.candidate} c.args.log.now.messages.items c.refuse.new.log.messages.items (messages.NotProcessed c.args.candidate.name reasons.VtocFull severities.Error ∷ []) c.in_ok-session.field-0 c.refuse.result
    c.in_ok-session.ensures c.in-Full.is c.refuse.ensures.said

pub returns-clause-ends : goal.returns-clause-ends
returns-clause-ends g c =
    let candidate = c.args.candidate in
    done_reshape g.P.Pool {reshape = cut_of c.args.scene.unit c.args.name.now candidate} {after = c.carry_out.new.steps.items} (said_of candidate (messages.Released candidate.name (candidate.size - candidate.keep))) c.in_ok-session.field-0 c.say_done.result
    c.in_ok-session.ensures c.in-Done.is (ap (λ (list : Vec Step Global). list.items) c.say_done.ensures.steps) c.say_done.ensures.said c.say_done.ensures.short c.say_done.ensures.grows
    (λ told units settled. given_back c.args.scene.held.now (c.requires.seen told units settled) (c.requires.reason told units settled) c.if-candidate.false)

pub returns-clause-next : goal.returns-clause-next
returns-clause-next g c =
    let candidate = c.args.candidate in
    done_stays g.P.Pool {reshape = cut_of c.args.scene.unit c.args.name.now candidate} c.args.log.now.messages.items c.say_done.new.log.messages.items (said_of candidate (messages.Released candidate.name (candidate.size - candidate.keep))) c.in_ok-session.field-0 c.say_done.result
    c.in_ok-session.ensures c.in-Done.is c.say_done.ensures.said

pub carry_out-requires-clause-repair : goal.carry_out-requires-clause-repair
carry_out-requires-clause-repair g c = needs_repair (layouts.Front c.args.candidate.keep) c.requires.candidate
