use Rattle.std.proofs.Common.{[], ◌∷◌, Vec, Global, Option, None, sym, ap, subst}
use Rattle.move_core.specs.declared.steps.Step.{Step}
use Rattle.job_lines.specs.declared.message.Message.TheVariants as messages
use Rattle.job_lines.specs.declared.message.Reason.{Reason}
use Rattle.job_ops.specs.declared.task.Task.{Task}
use Rattle.job_ops.specs.Asked.{IsSeen, IsReasonBefore}
use Rattle.dump_sets.specs.job_turns.job_steps.Units.{ForUnits}
use Rattle.dump_sets.specs.job_turns.Ends.{Ends}
use Rattle.job_ops.specs.Meaning.{TurnOf}
use Rattle.job_ops.specs.Task.{severity_for}
use Rattle.dump_sets.specs.job_turns.Turns.{IsCutAction}
use Rattle.dump_sets.proofs.job_turns.job_acts.Sessions.{for_new}
use Rattle.dump_sets.proofs.job_turns.SameSessions.{ends_after}
use Rattle.job_ops.proofs.OneTurn.{refused, refused_stays, stays_after}
use Rattle.dump_sets.proofs.job_turns.SameSessions.{halted, short}
use Rattle.job_ops.proofs.sets.take_turn.Goals as goal

pub give_back-requires-clause-seen : goal.give_back-requires-clause-seen
give_back-requires-clause-seen g c =
    for_new g.P.Pool c.reason_before.ensures.same
    (subst (λ (task : Task). ForUnits g.P.Pool c.args.session (IsSeen task c.args.scene.unit c.args.name.now c.look_up-candidate.result)) c.in-Release.is c.look_up-candidate.ensures.seen)

pub give_back-requires-clause-reason : goal.give_back-requires-clause-reason
give_back-requires-clause-reason g c =
    for_new g.P.Pool c.reason_before.ensures.same
    (subst (λ (task : Task). ForUnits g.P.Pool c.args.session (IsReasonBefore task c.args.scene.held.now c.args.scene.unit c.args.name.now None)) c.in-Release.is
    (subst (λ (found : Option Reason). ForUnits g.P.Pool c.args.session (IsReasonBefore c.args.task c.args.scene.held.now c.args.scene.unit c.args.name.now found)) c.in-Ok-None.field-0-is c.in-Ok-None.ensures.reason))

pub join-requires-clause-seen : goal.join-requires-clause-seen
join-requires-clause-seen g c =
    for_new g.P.Pool c.reason_before.ensures.same
    (subst (λ (task : Task). ForUnits g.P.Pool c.args.session (IsSeen task c.args.scene.unit c.args.name.now c.look_up-candidate.result)) c.in-Consolidate.is c.look_up-candidate.ensures.seen)

pub join-requires-clause-reason : goal.join-requires-clause-reason
join-requires-clause-reason g c =
    for_new g.P.Pool c.reason_before.ensures.same
    (subst (λ (task : Task). ForUnits g.P.Pool c.args.session (IsReasonBefore task c.args.scene.held.now c.args.scene.unit c.args.name.now None)) c.in-Consolidate.is
    (subst (λ (found : Option Reason). ForUnits g.P.Pool c.args.session (IsReasonBefore c.args.task c.args.scene.held.now c.args.scene.unit c.args.name.now found)) c.in-Ok-None.field-0-is c.in-Ok-None.ensures.reason))

pub returns-in-Ok-Some-clause-ends : goal.returns-in-Ok-Some-clause-ends
returns-in-Ok-Some-clause-ends g c =
    refused g.P.Pool c.reason_before.ensures.run c.reason_before.ensures.same c.args.task c.args.scene.held.now c.in-Ok-Some.reason c.in-Ok-Some.field-0 c.refuse.result c.in-Ok-Some.field-0-is
    c.look_up-candidate.ensures.seen c.in-Ok-Some.ensures.reason (ap (λ (list : Vec Step Global). list.items) c.refuse.ensures.steps) c.refuse.ensures.said c.refuse.ensures.short

pub returns-in-Ok-Some-clause-next : goal.returns-in-Ok-Some-clause-next
returns-in-Ok-Some-clause-next g c =
    refused_stays g.P.Pool c.reason_before.ensures.same c.args.scene.unit c.args.log.now.messages.items c.refuse.new.log.messages.items
    (messages.NotProcessed c.look_up-candidate.result.name c.in-Ok-Some.reason (severity_for c.args.task c.in-Ok-Some.reason) ∷ []) c.refuse.result c.refuse.ensures.said

pub returns-in-Release-clause-ends : goal.returns-in-Release-clause-ends
returns-in-Release-clause-ends g c =
    subst (λ (task : Task). Ends g.P.Pool (TurnOf task c.args.scene.held.now c.args.scene.unit c.args.name.now) (IsCutAction (TurnOf task c.args.scene.held.now c.args.scene.unit c.args.name.now)) c.args.session
    c.args.log.now.steps.items c.give_back.new.log.steps.items c.args.log.now.messages.items c.give_back.new.log.messages.items c.give_back.result) (sym c.in-Release.is)
    (ends_after g.P.Pool c.reason_before.ensures.run c.reason_before.ensures.same c.give_back.ensures.ends)

pub returns-in-Release-clause-next : goal.returns-in-Release-clause-next
returns-in-Release-clause-next g c = stays_after g.P.Pool c.reason_before.ensures.same c.args.scene.unit c.give_back.result c.give_back.ensures.next

pub returns-in-Consolidate-clause-ends : goal.returns-in-Consolidate-clause-ends
returns-in-Consolidate-clause-ends g c =
    subst (λ (task : Task). Ends g.P.Pool (TurnOf task c.args.scene.held.now c.args.scene.unit c.args.name.now) (IsCutAction (TurnOf task c.args.scene.held.now c.args.scene.unit c.args.name.now)) c.args.session
    c.args.log.now.steps.items c.join.new.log.steps.items c.args.log.now.messages.items c.join.new.log.messages.items c.join.result) (sym c.in-Consolidate.is)
    (ends_after g.P.Pool c.reason_before.ensures.run c.reason_before.ensures.same c.join.ensures.ends)

pub returns-in-Consolidate-clause-next : goal.returns-in-Consolidate-clause-next
returns-in-Consolidate-clause-next g c = stays_after g.P.Pool c.reason_before.ensures.same c.args.scene.unit c.join.result c.join.ensures.next

pub returns-in-Err-Pool-clause-ends : goal.returns-in-Err-Pool-clause-ends
returns-in-Err-Pool-clause-ends g c =
    halted g.P.Pool c.reason_before.ensures.run c.reason_before.ensures.same c.into.result (c.in-Err-Pool.ensures.cause c.in-Err-Pool.field-0-is) c.into.ensures.0 c.into.ensures.1

pub returns-in-Err-NoMemory-clause-ends : goal.returns-in-Err-NoMemory-clause-ends
returns-in-Err-NoMemory-clause-ends g c = short g.P.Pool c.reason_before.ensures.run c.reason_before.ensures.same
