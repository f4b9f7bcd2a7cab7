use Rattle.std.proofs.Common.{ℕ, List, [], ◌∷◌, Ok, inl, refl, sym, subst}
use Rattle.std.proofs.lemmas.Result.{err_from_is_err_and}
use Rattle.unit_load.specs.declared.state.UnitState.{UnitState}
use Rattle.move_core.specs.declared.steps.Step.TheVariants as steps
use Rattle.job_dumps.specs.job_turns.job_acts.declared.acts.Looked.{Looked}
use Rattle.job_dumps.specs.job_turns.job_acts.Acting.{EndsLook}
use Rattle.job_dumps.proofs.job_turns.job_acts.Sessions.{for_new}
use Rattle.job_dumps.proofs.job_turns.LoadedUnits.{known_units}
use Rattle.dump_sets.specs.Going.{CanState}
use Rattle.dump_sets.proofs.DumpMeant.{looked_ends}
use Rattle.dump_sets.proofs.Looked.{can_state, look_cut, says_full, says_room}
use Rattle.dump_sets.proofs.dumping.look_and_dump.Goals as goal

pub returns-in_err-session-clause-ends : goal.returns-in_err-session-clause-ends
returns-in_err-session-clause-ends g c =
    let p = err_from_is_err_and c.from_residual.result c.from_residual.ensures.1 in
    rw (p.1, p.2)
    (look_cut g.P.Pool c.args.session c.in_err-session.field-0.0 c.in_err-session.ensures.run c.in_err-session.ensures.answers (λ units. inl (inl refl, refl, refl)) c.args.log.now.steps.items
    c.args.log.now.messages.items)

pub go_on-requires-in-Fits-clause-full : goal.go_on-requires-in-Fits-clause-full
go_on-requires-in-Fits-clause-full g c = λ changes.
    let looked : EndsLook g.P.Pool c.args.session (steps.Repair c.args.course.unit ∷ []) (Ok _) =
    subst (λ (l : Looked g.row.P.Denot). EndsLook g.P.Pool c.args.session (steps.Repair c.args.course.unit ∷ []) (Ok l)) c.in-Fits.is c.in_ok-session.ensures in
    for_new g.P.Pool looked.answers.0
    (says_room g.P.Pool c.args.session (known_units g.P.Pool c.args.session c.stands.ensures.kept c.stands.ensures.models) c.requires.taken.volume c.requires.taken.loaded c.room_laws.ensures.fits
    looked.answers.1)

pub go_on-requires-in-Fits-clause-may : goal.go_on-requires-in-Fits-clause-may
go_on-requires-in-Fits-clause-may g c = λ changes fits.
    let looked : EndsLook g.P.Pool c.args.session (steps.Repair c.args.course.unit ∷ []) (Ok _) =
    subst (λ (l : Looked g.row.P.Denot). EndsLook g.P.Pool c.args.session (steps.Repair c.args.course.unit ∷ []) (Ok l)) c.in-Fits.is c.in_ok-session.ensures in
    subst (λ (least : ℕ). CanState least c.in-Fits.session.units c.args.course.unit) (sym looked.answers.0.room)
    (subst (λ (units : List UnitState). CanState c.args.session.room units c.args.course.unit) (sym looked.answers.0.units) (can_state (c.requires.may changes) looked.answers.1))

pub returns-in-Fits-clause-ends : goal.returns-in-Fits-clause-ends
returns-in-Fits-clause-ends g c =
    let looked : EndsLook g.P.Pool c.args.session (steps.Repair c.args.course.unit ∷ []) (Ok _) =
    subst (λ (l : Looked g.row.P.Denot). EndsLook g.P.Pool c.args.session (steps.Repair c.args.course.unit ∷ []) (Ok l)) c.in-Fits.is c.in_ok-session.ensures in
    looked_ends g.P.Pool c.args.session c.args.job.held.now c.args.job.today c.args.job.wish c.args.job.outs.now c.args.course.unit c.args.course.names.now c.args.course.places.now _ _ looked.run
    looked.answers.0 c.go_on-in-Fits.ensures.ends

pub go_on-requires-in-Full-clause-full : goal.go_on-requires-in-Full-clause-full
go_on-requires-in-Full-clause-full g c = λ changes.
    let looked : EndsLook g.P.Pool c.args.session (steps.Repair c.args.course.unit ∷ []) (Ok _) =
    subst (λ (l : Looked g.row.P.Denot). EndsLook g.P.Pool c.args.session (steps.Repair c.args.course.unit ∷ []) (Ok l)) c.in-Full.is c.in_ok-session.ensures in
    for_new g.P.Pool looked.answers.0
    (says_full g.P.Pool c.args.session (known_units g.P.Pool c.args.session c.stands.ensures.kept c.stands.ensures.models) c.requires.taken.volume c.requires.taken.loaded c.room_laws.ensures.full
    looked.answers.1)

pub returns-clause-ends : goal.returns-clause-ends
returns-clause-ends g c =
    let looked : EndsLook g.P.Pool c.args.session (steps.Repair c.args.course.unit ∷ []) (Ok _) =
    subst (λ (l : Looked g.row.P.Denot). EndsLook g.P.Pool c.args.session (steps.Repair c.args.course.unit ∷ []) (Ok l)) c.in-Full.is c.in_ok-session.ensures in
    looked_ends g.P.Pool c.args.session c.args.job.held.now c.args.job.today c.args.job.wish c.args.job.outs.now c.args.course.unit c.args.course.names.now c.args.course.places.now _ _ looked.run
    looked.answers.0 c.go_on-in-Full.ensures.ends
