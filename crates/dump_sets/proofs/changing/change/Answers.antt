use Rattle.std.proofs.Common.{Vec, Global, Ok, Err, [], inl, refl, sym, ap, subst}
use Rattle.std.proofs.lemmas.List.Elements.{All-head}
use Rattle.std.proofs.lemmas.Result.{err_from_is_err_and}
use Rattle.move_core.specs.declared.steps.Step.{Step}
use Rattle.job_dumps.proofs.job_turns.LoadedUnits.{known_units}
use Rattle.job_dumps.proofs.job_turns.SameSessions.{ends_short}
use Rattle.dump_sets.specs.Changing.{AreLines, HasFew}
use Rattle.dump_sets.proofs.Changes.{dumped_acts}
use Rattle.dump_sets.proofs.ChangeEnds.{change_ends, cut_change, done_change, done_stays}
use Rattle.dump_sets.proofs.changing.change.Goals as goal

pub lines-requires-clause-name : goal.lines-requires-clause-name
lines-requires-clause-name g c = (All-head (HasFew c.requires.may.may.volume) c.args.dumped.name [] c.requires.may.sets).1.lawful

pub returns-in_default-clause-ends : goal.returns-in_default-clause-ends
returns-in_default-clause-ends g c = ends_short g.P.Pool c.args.session c.args.log.now.steps.items c.args.log.now.messages.items (λ units. inl (refl, refl))

pub returns-in_default-acts-clause-ends : goal.returns-in_default-acts-clause-ends
returns-in_default-acts-clause-ends g c = ends_short g.P.Pool c.args.session c.args.log.now.steps.items c.args.log.now.messages.items (λ units. inl (refl, refl))

pub carry_out-requires : goal.carry_out-requires
carry_out-requires g c =
    dumped_acts c.room_laws.ensures.alike c.room_laws.ensures.stated c.room_laws.ensures.states c.args.dumped
    (known_units g.P.Pool c.args.session c.stands.ensures.kept c.stands.ensures.models).sound c.requires.may c.in-Ok-acts.acts c.in-Ok-acts.ensures.steps c.in-Ok-acts.ensures.looked

pub returns-in_err-session-clause-ends : goal.returns-in_err-session-clause-ends
returns-in_err-session-clause-ends g c =
    let p = err_from_is_err_and c.from_residual.result c.from_residual.ensures.1 in
    rw (p.1, p.2)
    (cut_change g.P.Pool c.args.session c.args.dumped c.requires.may (known_units g.P.Pool c.args.session c.stands.ensures.kept c.stands.ensures.models) c.in-Ok.ensures
    (change_ends g.P.Pool c.args.session c.args.dumped c.in-Ok-acts.acts c.args.log.now.steps.items c.carry_out.new.steps.items (Err c.in_err-session.field-0.0) c.in-Ok-acts.ensures.steps
    c.in-Ok-acts.ensures.looked c.in_err-session.ensures))

pub returns-clause-ends : goal.returns-clause-ends
returns-clause-ends g c =
    done_change g.P.Pool c.args.session c.args.dumped c.requires.may (known_units g.P.Pool c.args.session c.stands.ensures.kept c.stands.ensures.models)
    (subst (AreLines c.args.session.units c.args.dumped) (sym c.deref.ensures.value) c.in-Ok.ensures) c.in_ok-session.field-0 c.say_all.result
    (change_ends g.P.Pool c.args.session c.args.dumped c.in-Ok-acts.acts c.args.log.now.steps.items c.carry_out.new.steps.items (Ok c.in_ok-session.field-0) c.in-Ok-acts.ensures.steps
    c.in-Ok-acts.ensures.looked c.in_ok-session.ensures) c.in-Done.is (ap (λ (list : Vec Step Global). list.items) c.say_all.ensures.steps) c.say_all.ensures.said c.say_all.ensures.short c.say_all.ensures.grows

pub returns-clause-next : goal.returns-clause-next
returns-clause-next g c =
    done_stays g.P.Pool c.args.session c.args.dumped c.room_laws.ensures.states c.args.log.now.messages.items c.say_all.new.log.messages.items c.deref.result.now c.in_ok-session.field-0 c.say_all.result
    (change_ends g.P.Pool c.args.session c.args.dumped c.in-Ok-acts.acts c.args.log.now.steps.items c.carry_out.new.steps.items (Ok c.in_ok-session.field-0) c.in-Ok-acts.ensures.steps
    c.in-Ok-acts.ensures.looked c.in_ok-session.ensures) c.in-Done.is c.say_all.ensures.said
