use Rattle.std.proofs.Common.{◌<◌, [], ◌∷◌, length, Vec, Global, inl, refl, sym, ap, arith}
use Rattle.std.proofs.lemmas.List.{append-nil}
use Rattle.std.specs.Prelude.{Ok}
use Rattle.std.proofs.lemmas.Result.{IfOk-weaker, err_from_is_err_and}
use Rattle.move_core.specs.declared.steps.Step.{Step}
use Rattle.job_lines.specs.declared.message.Message.TheVariants as messages
use Rattle.job_lines.specs.declared.message.Reason.TheVariants as reasons
use Rattle.job_lines.specs.declared.severity.Severity.TheVariants as severities
use Rattle.job_ops.specs.declared.reshaping.Layout.TheVariants as layouts
use Rattle.job_ops.specs.Asked.{said_of}
use Rattle.job_ops.proofs.Changing.{cut_reshape, full_reshape, done_reshape, full_stays, done_stays, may_reshape, needs_repair, stays_same}
use Rattle.job_ops.proofs.Joining.{joined_from, join_of, nothing_joined, no_place, too_full, brought_together}
use Rattle.job_ops.proofs.Places.{is_sized}
use Rattle.dump_sets.proofs.job_turns.SameSessions.{ends_said}
use Rattle.job_ops.proofs.consolidate.join.Goals as goal

pub returns-then-candidate-le1-clause-ends : goal.returns-then-candidate-le1-clause-ends
returns-then-candidate-le1-clause-ends g c =
    ends_said g.P.Pool [] (Ok c.args.session) refl (refl, sym (append-nil c.args.log.now.messages.items)) tt
    (λ told units settled. nothing_joined c.args.scene.held.now (c.requires.seen told units settled) (c.requires.reason told units settled) c.if-candidate-le1.true) (λ units. inl (refl, refl))

pub returns-then-candidate-le1-clause-next : goal.returns-then-candidate-le1-clause-next
returns-then-candidate-le1-clause-next g c = stays_same g.P.Pool c.args.session.room c.args.scene.unit refl

pub returns-in_default-clause-ends : goal.returns-in_default-clause-ends
returns-in_default-clause-ends g c =
    ends_said g.P.Pool (messages.NotProcessed c.args.candidate.name reasons.NoSpace severities.Error ∷ []) c.refuse.result (ap (λ (list : Vec Step Global). list.items) c.refuse.ensures.steps)
    c.refuse.ensures.said c.refuse.ensures.short
    (λ told units settled. no_place c.args.scene.held.now (c.requires.seen told units settled) (c.requires.reason told units settled) c.if-candidate-le1.false (c.in_default.ensures.none told units settled))
    (λ units. inl (refl, refl))

pub returns-in_default-clause-next : goal.returns-in_default-clause-next
returns-in_default-clause-next g c =
    IfOk-weaker c.refuse.result _ _
    (λ next p. stays_same g.P.Pool c.args.session.room c.args.scene.unit (λ i. (p.0 i).units)) c.refuse.ensures.said

pub carry_out-requires-clause-may : goal.carry_out-requires-clause-may
carry_out-requires-clause-may g c =
    let is = c.requires.candidate in
    let more : 1 < length is.row.extents = omega (arith, c.if-candidate-le1.false, is.extents_are) in
    may_reshape (layouts.Joined (joined_from c.in-Some.first c.args.candidate)) c.requires.may.may is c.requires.moves (
      λ one. omega (arith, more, one),
      omega (arith, is.size_is, (is_sized is.volume is.sound is.row is.row_is.there more).0),
      is.size_is,
      c.in-Some.ensures.place is.volume is.row is.loaded is.row_is,
    )

pub carry_out-requires-clause-repair : goal.carry_out-requires-clause-repair
carry_out-requires-clause-repair g c = needs_repair (layouts.Joined (joined_from c.in-Some.first c.args.candidate)) c.requires.candidate

pub returns-in_err-session-clause-ends : goal.returns-in_err-session-clause-ends
returns-in_err-session-clause-ends g c =
    let candidate = c.args.candidate in
    let first = c.in-Some.first in
    let p = err_from_is_err_and c.from_residual.result c.from_residual.ensures.1 in
    rw (p.1, p.2)
    (cut_reshape g.P.Pool (said_of candidate (messages.Consolidated candidate.name candidate.extents first)) c.in_err-session.ensures
    (λ told units settled. brought_together c.args.scene.held.now (c.requires.seen told units settled) (c.requires.reason told units settled) c.if-candidate-le1.false first
    (c.in-Some.ensures.found told units settled)))

pub returns-in-Full-clause-ends : goal.returns-in-Full-clause-ends
returns-in-Full-clause-ends g c =
    let first = c.in-Some.first in
    full_reshape g.P.Pool {reshape = join_of c.args.scene.unit c.args.name.now c.args.candidate first} (messages.NotProcessed c.args.candidate.name reasons.VtocFull severities.Error ∷ []) c.in_ok-session.field-0
    c.refuse-in-Full.result c.in_ok-session.ensures c.in-Full.is (ap (λ (list : Vec Step Global). list.items) c.refuse-in-Full.ensures.steps) c.refuse-in-Full.ensures.said c.refuse-in-Full.ensures.short
    (λ told units settled. too_full c.args.scene.held.now (c.requires.seen told units settled) (c.requires.reason told units settled) c.if-candidate-le1.false first
    (c.in-Some.ensures.found told units settled))

pub returns-in-Full-clause-next : goal.returns-in-Full-clause-next
returns-in-Full-clause-next g c =
    full_stays g.P.Pool {reshape = join_of c.args.scene.unit c.args.name.now c.args.candidate c.in-Some.first} c.args.log.now.messages.items c.refuse-in-Full.new.log.messages.items
    (messages.NotProcessed c.args.candidate.name reasons.VtocFull severities.Error ∷ []) c.in_ok-session.field-0 c.refuse-in-Full.result c.in_ok-session.ensures c.in-Full.is c.refuse-in-Full.ensures.said

pub returns-clause-ends : goal.returns-clause-ends
returns-clause-ends g c =
    let candidate = c.args.candidate in
    let first = c.in-Some.first in
    done_reshape g.P.Pool {reshape = join_of c.args.scene.unit c.args.name.now candidate first} {after = c.carry_out.new.steps.items}
    (said_of candidate (messages.Consolidated candidate.name candidate.extents first)) c.in_ok-session.field-0 c.say_done.result c.in_ok-session.ensures c.in-Done.is
    (ap (λ (list : Vec Step Global). list.items) c.say_done.ensures.steps) c.say_done.ensures.said c.say_done.ensures.short c.say_done.ensures.grows
    (λ told units settled. brought_together c.args.scene.held.now (c.requires.seen told units settled) (c.requires.reason told units settled) c.if-candidate-le1.false first
    (c.in-Some.ensures.found told units settled))

pub returns-clause-next : goal.returns-clause-next
returns-clause-next g c =
    let candidate = c.args.candidate in
    done_stays g.P.Pool {reshape = join_of c.args.scene.unit c.args.name.now candidate c.in-Some.first} c.args.log.now.messages.items c.say_done.new.log.messages.items
    (said_of candidate (messages.Consolidated candidate.name candidate.extents c.in-Some.first)) c.in_ok-session.field-0 c.say_done.result c.in_ok-session.ensures c.in-Done.is c.say_done.ensures.said
