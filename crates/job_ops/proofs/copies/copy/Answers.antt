use Rattle.std.proofs.Common.{List, [], ◌∷◌, inl, refl, sym, subst, ◌∙◌}
use Rattle.dsn_filter.specs.declared.dsn.Dsn.{Dsn}
use Rattle.job_lines.specs.declared.message.Message.TheVariants as messages
use Rattle.job_ops.specs.Copying.{MayBeCopied}
use Rattle.job_ops.proofs.CopyGoing.{refuses, unlike, none_selected, all_turns, may_be_copied}
use Rattle.dump_sets.proofs.job_turns.Names.{no_names, some_names}
use Rattle.dump_sets.proofs.job_turns.SameSessions.{ends_said, ends_short}
use Rattle.job_ops.proofs.copies.copy.Goals as goal

pub returns-in-Err : goal.returns-in-Err
returns-in-Err g c =
    ends_said g.P.Pool (c.in-Err.message ∷ []) c.say.result refl c.say.ensures.said c.say.ensures.short
    (refuses g.P.Pool c.args.session c.args.job.held.now c.args.job.today c.args.job.filter.now c.args.job.serial c.args.job.to c.args.job.wish c.args.job.rename.now c.units_for.ensures.models c.in-Err.message
    c.in-Err.ensures.refused) (λ units. inl (refl, refl))

pub returns-then-not-are_alike : goal.returns-then-not-are_alike
returns-then-not-are_alike g c =
    ends_said g.P.Pool (messages.UnlikeDevices ∷ []) c.say-then-not-are_alike.result refl c.say-then-not-are_alike.ensures.said c.say-then-not-are_alike.ensures.short
    (unlike g.P.Pool c.args.session c.args.job.held.now c.args.job.today c.args.job.filter.now c.args.job.serial c.args.job.to c.args.job.wish c.args.job.rename.now c.units_for.ensures.models
    c.in-Ok.ensures.first c.in-Ok.ensures.second c.in-Ok.ensures.lets c.are_alike.ensures c.if-not-are_alike.true) (λ units. inl (refl, refl))

pub returns-in_default : goal.returns-in_default
returns-in_default g c = ends_short g.P.Pool c.args.session c.args.log.now.steps.items c.args.log.now.messages.items (λ units. inl (refl, refl))

pub returns-then-is_empty : goal.returns-then-is_empty
returns-then-is_empty g c =
    ends_said g.P.Pool (messages.NothingSelected ∷ []) c.say-then-is_empty.result refl c.say-then-is_empty.ensures.said c.say-then-is_empty.ensures.short
    (none_selected g.P.Pool c.args.session c.args.job.held.now c.args.job.today c.args.job.filter.now c.args.job.serial c.args.job.to c.args.job.wish c.args.job.rename.now c.units_for.ensures.models
    c.in-Ok.ensures.first c.in-Ok.ensures.second c.in-Ok.ensures.lets c.are_alike.ensures c.if-not-are_alike.false c.in-Ok-taken.names.items c.in-Ok-taken.ensures.taken
    (no_names c.in-Ok-taken.names.items c.in-Ok-taken.names.len c.in-Ok-taken.names.ok.0 (sym c.is_empty.ensures ∙ c.if-is_empty.true)))
    (λ units. inl (refl, refl))

pub take_turns-requires-clause-may : goal.take_turns-requires-clause-may
take_turns-requires-clause-may g c =
    subst (λ (names : List Dsn). MayBeCopied c.args.job.wish.delete c.args.session.room c.args.session.units c.in-Ok.units.0 c.in-Ok.units.1 names) (sym c.deref.ensures.value)
    (may_be_copied c.in-Ok.ensures.first c.in-Ok.ensures.second c.are_alike.ensures c.if-not-are_alike.false c.in-Ok-taken.names.items c.in-Ok-taken.ensures.there)

pub returns : goal.returns
returns g c =
    all_turns g.P.Pool c.args.session c.args.job.held.now c.args.job.today c.args.job.filter.now c.args.job.serial c.args.job.to c.args.job.wish c.args.job.rename.now c.units_for.ensures.models
    c.in-Ok.ensures.first c.in-Ok.ensures.second c.in-Ok.ensures.lets c.are_alike.ensures c.if-not-are_alike.false c.in-Ok-taken.names.items c.in-Ok-taken.ensures.taken
    c.take_turns.result c.deref.result.now c.deref.ensures.value (some_names c.in-Ok-taken.names.items c.in-Ok-taken.names.len c.in-Ok-taken.names.ok.0 (sym c.is_empty.ensures ∙ c.if-is_empty.false))
    c.take_turns.ensures
