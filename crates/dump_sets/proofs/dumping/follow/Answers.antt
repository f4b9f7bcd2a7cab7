use Rattle.std.proofs.Common.{◌≢◌, ◌++◌, refl, sym, ap, subst, List, ◌∙◌}
use Rattle.std.specs.Prelude.{AllPairs}
use Rattle.std.proofs.lemmas.Result.{err_from_is_err_and}
use Rattle.dsn_filter.specs.declared.dsn.Dsn.{Dsn}
use Rattle.job_lines.specs.declared.message.Message.{Message}
use Rattle.job_dumps.specs.job_turns.Setting.{setting_of}
use Rattle.job_dumps.proofs.job_turns.Names.{no_names}
use Rattle.job_dumps.proofs.job_turns.SameSessions.{ends_short}
use Rattle.dump_sets.specs.Telling.{taken_of}
use Rattle.dump_sets.proofs.Following.{all_changed, cut_nothing, none_changed, none_left, none_taken, none_whole, short_within, taken_apart}
use Rattle.dump_sets.proofs.dumping.follow.Goals as goal

pub returns-in_default : goal.returns-in_default
returns-in_default g c =
    ends_short g.P.Pool c.args.session c.args.log.now.steps.items c.args.log.now.messages.items
    (cut_nothing (setting_of g.P.Pool c.args.session c.args.job.held.now c.args.job.today) c.args.job.wish c.args.course.unit (taken_of c.args.course.names.now c.args.told.now) _ _)

pub returns-in_err-session : goal.returns-in_err-session
returns-in_err-session g c =
    let p = err_from_is_err_and c.from_residual.result c.from_residual.ensures.1 in
    rw (p.1, p.2)
    (short_within g.P.Pool c.args.session c.in_err-session.field-0.0 c.in_err-session.ensures.short (λ i. (c.in_err-session.ensures.steps i).items) c.in_err-session.ensures.grows
    (cut_nothing (setting_of g.P.Pool c.args.session c.args.job.held.now c.args.job.today) c.args.job.wish c.args.course.unit (taken_of c.args.course.names.now c.args.told.now) _ _))

pub returns-then-not-is_whole : goal.returns-then-not-is_whole
returns-then-not-is_whole g c =
    none_whole g.P.Pool c.args.session c.args.job.held.now c.args.job.today c.args.job.wish c.args.job.outs.now c.args.course.unit c.args.course.names.now c.args.course.places.now _ c.args.told.now
    c.in-Ok.ensures c.in_ok-session.session c.in_ok-session.ensures.said.0 (λ i. (c.in_ok-session.ensures.steps i).items)
    (c.in_ok-session.ensures.said.1 ∙ ap (λ (l : List Message). c.args.log.now.messages.items ++ l) c.deref.ensures.value) (sym c.is_whole.ensures ∙ c.if-not-is_whole.true) refl c.say.result c.say.ensures.said
    c.say.ensures.short

pub returns-then-not-changes : goal.returns-then-not-changes
returns-then-not-changes g c =
    none_changed g.P.Pool c.args.session c.args.job.held.now c.args.job.today c.args.job.wish c.args.job.outs.now c.args.course.unit c.args.course.names.now c.args.course.places.now _ c.args.told.now
    c.in-Ok.ensures c.in_ok-session.session c.in_ok-session.ensures.said.0 (λ i. (c.in_ok-session.ensures.steps i).items)
    (c.in_ok-session.ensures.said.1 ∙ ap (λ (l : List Message). c.args.log.now.messages.items ++ l) c.deref.ensures.value) (sym c.is_whole.ensures ∙ c.if-not-is_whole.false) (sym c.changes.ensures ∙ c.if-not-changes.true) refl refl

pub returns-then-is_empty : goal.returns-then-is_empty
returns-then-is_empty g c =
    none_left g.P.Pool c.args.session c.args.job.held.now c.args.job.today c.args.job.wish c.args.job.outs.now c.args.course.unit c.args.course.names.now c.args.course.places.now _ c.args.told.now
    c.in-Ok.ensures c.in_ok-session.session c.in_ok-session.ensures.said.0 (λ i. (c.in_ok-session.ensures.steps i).items)
    (c.in_ok-session.ensures.said.1 ∙ ap (λ (l : List Message). c.args.log.now.messages.items ++ l) c.deref.ensures.value) (sym c.is_whole.ensures ∙ c.if-not-is_whole.false) (sym c.changes.ensures ∙ c.if-not-changes.false)
    (sym c.in-Ok-taken.ensures ∙ no_names c.in-Ok-taken.names.items c.in-Ok-taken.names.len c.in-Ok-taken.names.ok.0 (sym c.is_empty.ensures ∙ c.if-is_empty.true)) refl refl

pub change_all-requires-clause-apart : goal.change_all-requires-clause-apart
change_all-requires-clause-apart g c =
    subst (λ (list : List Dsn). AllPairs (λ name other. name ≢ other) list) (sym (c.deref-2.ensures.value ∙ c.in-Ok-taken.ensures))
    (taken_apart (λ name other. name ≢ other) c.args.course.names.now c.args.told.now c.requires.may.apart)

pub returns-in_default-taken : goal.returns-in_default-taken
returns-in_default-taken g c =
    none_taken g.P.Pool c.args.session c.args.job.held.now c.args.job.today c.args.job.wish c.args.job.outs.now c.args.course.unit c.args.course.names.now c.args.course.places.now _ c.args.told.now
    c.in-Ok.ensures c.in_ok-session.session c.in_ok-session.ensures.said.0 (λ i. (c.in_ok-session.ensures.steps i).items)
    (c.in_ok-session.ensures.said.1 ∙ ap (λ (l : List Message). c.args.log.now.messages.items ++ l) c.deref.ensures.value) refl refl

pub returns : goal.returns
returns g c =
    all_changed g.P.Pool c.args.session c.args.job.held.now c.args.job.today c.args.job.wish c.args.job.outs.now c.args.course.unit c.args.course.names.now c.args.course.places.now _ c.args.told.now
    c.in-Ok.ensures c.in_ok-session.session c.in_ok-session.ensures.said.0 (λ i. (c.in_ok-session.ensures.steps i).items)
    (c.in_ok-session.ensures.said.1 ∙ ap (λ (l : List Message). c.args.log.now.messages.items ++ l) c.deref.ensures.value) (sym c.is_whole.ensures ∙ c.if-not-is_whole.false) (sym c.changes.ensures ∙ c.if-not-changes.false)
    c.deref-2.result.now (c.deref-2.ensures.value ∙ c.in-Ok-taken.ensures) c.change_all.result c.change_all.ensures
