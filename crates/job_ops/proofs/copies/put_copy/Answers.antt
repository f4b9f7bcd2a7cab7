use Rattle.std.proofs.Common.{Vec, Global, inl, refl, sym, ap, subst}
use Rattle.std.proofs.lemmas.Result.{err_from_is_err_and}
use Rattle.move_core.specs.declared.steps.Step.{Step}
use Rattle.job_ops.specs.Copying.{AreLines}
use Rattle.dump_sets.proofs.job_turns.LoadedUnits.{known_units}
use Rattle.job_ops.proofs.CopyEnds.{cut_copy, done_copy, full_told, done_stays, full_left}
use Rattle.dump_sets.proofs.job_turns.SameSessions.{ends_short}
use Rattle.job_ops.proofs.copies.put_copy.Goals as goal

pub returns-in_default-clause-ends : goal.returns-in_default-clause-ends
returns-in_default-clause-ends g c = ends_short g.P.Pool c.args.session c.args.log.now.steps.items c.args.log.now.messages.items (λ units. inl (refl, refl))

pub returns-in_err-session-clause-ends : goal.returns-in_err-session-clause-ends
returns-in_err-session-clause-ends g c =
    let p = err_from_is_err_and c.from_residual.result c.from_residual.ensures.1 in
    rw (p.1, p.2)
    (cut_copy g.P.Pool c.args.session c.args.scene c.args.transfer.now c.requires.may (known_units g.P.Pool c.args.session c.stands.ensures.kept c.stands.ensures.models) c.requires.transfer c.requires.renamed c.run_laws.ensures.same c.choice_laws.ensures.one
    c.choice_laws.ensures.none c.room_laws.ensures.full c.room_laws.ensures.fits c.requires.there c.requires.goes c.requires.replaced c.requires.placed c.requires.texts c.in-Ok.ensures c.in_err-session.ensures)

pub returns-in-Done-clause-ends : goal.returns-in-Done-clause-ends
returns-in-Done-clause-ends g c =
    done_copy g.P.Pool c.args.session c.args.scene c.args.transfer.now c.requires.may (known_units g.P.Pool c.args.session c.stands.ensures.kept c.stands.ensures.models) c.requires.transfer c.requires.renamed c.run_laws.ensures.same c.choice_laws.ensures.one
    c.choice_laws.ensures.none c.room_laws.ensures.full c.room_laws.ensures.fits c.requires.there c.requires.goes c.requires.replaced c.requires.placed c.requires.texts
    (subst (AreLines c.args.session.units c.args.transfer.now) (sym c.as_slice.ensures.value) c.in-Ok.ensures) c.in_ok-session.field-0 c.say_all.result c.in_ok-session.ensures c.in-Done.is
    (ap (λ (list : Vec Step Global). list.items) c.say_all.ensures.steps) c.say_all.ensures.said c.say_all.ensures.short c.say_all.ensures.grows

pub returns-in-Done-clause-next : goal.returns-in-Done-clause-next
returns-in-Done-clause-next g c =
    done_stays g.P.Pool c.args.session c.args.scene c.args.transfer.now c.requires.may (known_units g.P.Pool c.args.session c.stands.ensures.kept c.stands.ensures.models) c.requires.transfer c.requires.renamed c.run_laws.ensures.same c.choice_laws.ensures.one
    c.choice_laws.ensures.none c.room_laws.ensures.full c.room_laws.ensures.fits c.requires.there c.requires.goes c.requires.replaced c.requires.placed c.requires.texts
    c.args.log.now.messages.items c.say_all.new.log.messages.items c.as_slice.result.now c.in_ok-session.field-0 c.say_all.result c.in_ok-session.ensures c.in-Done.is c.say_all.ensures.said

pub returns-clause-ends : goal.returns-clause-ends
returns-clause-ends g c =
    full_told g.P.Pool c.args.session c.args.scene c.args.transfer.now c.requires.may (known_units g.P.Pool c.args.session c.stands.ensures.kept c.stands.ensures.models) c.requires.transfer c.requires.renamed c.run_laws.ensures.same c.choice_laws.ensures.one
    c.choice_laws.ensures.none c.room_laws.ensures.full c.room_laws.ensures.fits c.requires.there c.requires.goes c.requires.replaced c.requires.placed c.requires.texts
    c.in-Ok.ensures c.in_ok-session.field-0 c.not_copied.result c.in_ok-session.ensures c.in-Full.is (ap (λ (list : Vec Step Global). list.items) c.not_copied.ensures.steps) c.not_copied.ensures.said
    c.not_copied.ensures.short

pub returns-clause-next : goal.returns-clause-next
returns-clause-next g c =
    full_left g.P.Pool c.args.session c.args.scene c.args.transfer.now c.requires.may (known_units g.P.Pool c.args.session c.stands.ensures.kept c.stands.ensures.models) c.requires.transfer c.requires.renamed c.run_laws.ensures.same c.choice_laws.ensures.one
    c.choice_laws.ensures.none c.room_laws.ensures.full c.room_laws.ensures.fits c.requires.there c.requires.goes c.requires.replaced c.requires.placed c.requires.texts
    c.args.log.now.messages.items c.not_copied.new.log.messages.items c.in_ok-session.field-0 c.not_copied.result c.in_ok-session.ensures c.in-Full.is c.not_copied.ensures.said
