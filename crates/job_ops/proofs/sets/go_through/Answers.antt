use Rattle.std.proofs.Common.{List, [], ◌∷◌, inl, refl, sym, subst, ◌∙◌}
use Rattle.dsn_filter.specs.declared.dsn.Dsn.{Dsn}
use Rattle.job_lines.specs.declared.message.Message.TheVariants as messages
use Rattle.job_ops.specs.Asked.{MayProcess}
use Rattle.job_ops.specs.Meaning.{TurnOf}
use Rattle.dump_sets.proofs.job_turns.SameSessions.{ends_said, ends_short}
use Rattle.job_ops.proofs.Going.{refuses, none_selected, all_turns}
use Rattle.dump_sets.proofs.job_turns.Names.{no_names, some_names}
use Rattle.job_ops.proofs.sets.go_through.Goals as goal

pub returns-in-Err : goal.returns-in-Err
returns-in-Err g c =
    ends_said g.P.Pool (c.in-Err.message ∷ []) c.say.result refl c.say.ensures.said c.say.ensures.short
    (refuses g.P.Pool (TurnOf c.args.job.task c.args.job.held.now) c.args.session c.args.job.held.now c.args.job.today c.args.job.filter.now c.args.job.serial c.unit_for.ensures.models c.in-Err.message c.in-Err.ensures.refused) (λ units. inl (refl, refl))

pub returns-in-Err-taken : goal.returns-in-Err-taken
returns-in-Err-taken g c = ends_short g.P.Pool c.args.session c.args.log.now.steps.items c.args.log.now.messages.items (λ units. inl (refl, refl))

pub returns-then-is_empty : goal.returns-then-is_empty
returns-then-is_empty g c =
    ends_said g.P.Pool (messages.NothingSelected ∷ []) c.say-then-is_empty.result refl c.say-then-is_empty.ensures.said c.say-then-is_empty.ensures.short
    (none_selected g.P.Pool (TurnOf c.args.job.task c.args.job.held.now) c.args.session c.args.job.held.now c.args.job.today c.args.job.filter.now c.args.job.serial c.unit_for.ensures.models c.in-Ok.ensures.unit c.in-Ok.ensures.lets c.in-Ok-taken.names.items
    c.in-Ok-taken.ensures.taken (no_names c.in-Ok-taken.names.items c.in-Ok-taken.names.len c.in-Ok-taken.names.ok.0 (sym c.is_empty.ensures ∙ c.if-is_empty.true)))
    (λ units. inl (refl, refl))

pub take_turns-requires : goal.take_turns-requires
take_turns-requires g c =
    let may = c.in-Ok.ensures.unit.may refl in
    record {
      may =
          subst (λ (names : List Dsn). MayProcess c.args.session.room c.args.session.units c.in-Ok.unit names) (sym c.deref.ensures.value)
          (record { may = may; sets = c.in-Ok-taken.ensures.there may.volume may.loaded });
    }

pub returns : goal.returns
returns g c =
    all_turns g.P.Pool (TurnOf c.args.job.task c.args.job.held.now) c.args.session c.args.job.held.now c.args.job.today c.args.job.filter.now c.args.job.serial c.unit_for.ensures.models c.in-Ok.ensures.unit c.in-Ok.ensures.lets c.in-Ok-taken.names.items
    c.in-Ok-taken.ensures.taken c.take_turns.result c.deref.result.now c.deref.ensures.value (some_names c.in-Ok-taken.names.items c.in-Ok-taken.names.len c.in-Ok-taken.names.ok.0 (sym c.is_empty.ensures ∙ c.if-is_empty.false)) c.take_turns.ensures
