use Rattle.std.proofs.Common.{Bool, List, [], ◌∷◌, inl, refl, map, subst, sym, ◌∙◌}
use Rattle.dsn_filter.specs.declared.dsn.Dsn.{Dsn}
use Rattle.redo_core.specs.Reading.{journal_of}
use Rattle.job_lines.specs.declared.message.Message.TheVariants as messages
use Rattle.job_outputs.specs.Outputs.{ArePlacesOf, IsTold, LetsOutputs, RefusesOutputs}
use Rattle.job_dumps.specs.job_turns.Refusal.{IsUnitFor, Lets, Refuses, standing_in}
use Rattle.job_dumps.proofs.job_turns.LoadedUnits.{known_units}
use Rattle.job_dumps.proofs.job_turns.Names.{no_names, some_names}
use Rattle.job_dumps.proofs.job_turns.SameSessions.{ends_said, ends_short}
use Rattle.dump_sets.specs.Going.{AreTaken}
use Rattle.dump_sets.proofs.DumpGoing.{all_dumped, are_ready, are_taken, fault_said, kept_used, none_selected, told_of, unit_refuses, unknown}
use Rattle.dump_sets.proofs.dumping.dump.Goals as goal

pub returns-in-Err-clause-ends : goal.returns-in-Err-clause-ends
returns-in-Err-clause-ends g c =
    ends_said g.P.Pool (c.in-Err.message ∷ []) c.say.result refl c.say.ensures.said c.say.ensures.short
    (unknown g.P.Pool c.args.session c.args.job.held.now c.args.job.today c.args.job.filter.now c.args.job.serial c.args.job.outs.now c.args.job.wish _ c.in-Err.message c.in-Err.ensures.unknown)
    (λ units. inl (refl, refl, refl))

pub returns-in-Err-places_of-clause-ends : goal.returns-in-Err-places_of-clause-ends
returns-in-Err-places_of-clause-ends g c =
    fault_said g.P.Pool c.args.session c.args.job.held.now c.args.job.today c.args.job.filter.now c.args.job.serial c.args.job.outs.now c.args.job.wish _ c.in_default.ensures.found
    c.in-Err-places_of.fault (told_of _ c.deref.ensures.value (λ outs. IsTold (RefusesOutputs outs c.args.job.outs.now) c.in-Err-places_of.fault) c.in-Err-places_of.ensures.refused)
    c.args.log.now.steps.items c.say_fault.result c.say_fault.ensures.said c.say_fault.ensures.short

pub returns-in-Err-unit_for-clause-ends : goal.returns-in-Err-unit_for-clause-ends
returns-in-Err-unit_for-clause-ends g c =
    ends_said g.P.Pool (c.in-Err-unit_for.message ∷ []) c.say-in-Err-unit_for.result refl c.say-in-Err-unit_for.ensures.said c.say-in-Err-unit_for.ensures.short
    (unit_refuses g.P.Pool c.args.session c.args.job.held.now c.args.job.today c.args.job.filter.now c.args.job.serial c.args.job.outs.now c.args.job.wish _ c.unit_for.ensures.models
    (told_of _ c.deref.ensures.value (λ outs. LetsOutputs outs c.args.job.outs.now) c.in-Ok.ensures.lets) c.in-Err-unit_for.message
    (subst (λ (b : Bool). Refuses c.args.session.names c.args.session.room (map standing_in c.args.session.units) (record { serial = c.args.job.serial; changes = b } ∷ []) c.in-Err-unit_for.message)
    c.changes.ensures c.in-Err-unit_for.ensures.refused))
    (λ units. inl (refl, refl, refl))

pub returns-in_default-names_taken-clause-ends : goal.returns-in_default-names_taken-clause-ends
returns-in_default-names_taken-clause-ends g c =
    ends_short g.P.Pool c.args.session c.args.log.now.steps.items c.args.log.now.messages.items (λ units. inl (refl, refl, refl))

pub returns-then-is_empty-clause-ends : goal.returns-then-is_empty-clause-ends
returns-then-is_empty-clause-ends g c =
    ends_said g.P.Pool (messages.NothingSelected ∷ []) c.say-then-is_empty.result refl c.say-then-is_empty.ensures.said c.say-then-is_empty.ensures.short
    (none_selected g.P.Pool c.args.session c.args.job.held.now c.args.job.today c.args.job.filter.now c.args.job.serial c.args.job.outs.now c.args.job.wish _ c.unit_for.ensures.models
    (told_of _ c.deref.ensures.value (λ outs. LetsOutputs outs c.args.job.outs.now) c.in-Ok.ensures.lets)
    (subst (λ (b : Bool). IsUnitFor (journal_of (g.P.Pool.shape c.args.session.pool)) c.args.session.names c.args.session.room c.args.session.units (record { serial = c.args.job.serial; changes = b }) c.in-Ok-unit_for.unit) c.changes.ensures
    c.in-Ok-unit_for.ensures.unit)
    (subst (λ (b : Bool). Lets c.args.session.names c.args.session.room (map standing_in c.args.session.units) (record { serial = c.args.job.serial; changes = b } ∷ [])) c.changes.ensures
    c.in-Ok-unit_for.ensures.lets)
    c.in-Ok.places.items (told_of _ c.deref.ensures.value (λ outs. ArePlacesOf outs c.args.job.outs.now c.in-Ok.places.items) c.in-Ok.ensures.places)
    c.in-Ok-names_taken.names.items c.in-Ok-names_taken.ensures.taken
    (no_names c.in-Ok-names_taken.names.items c.in-Ok-names_taken.names.len c.in-Ok-names_taken.names.ok.0 (sym c.is_empty.ensures ∙ c.if-is_empty.true)))
    (λ units. inl (refl, refl, refl))

pub look_and_dump-requires-clause-taken : goal.look_and_dump-requires-clause-taken
look_and_dump-requires-clause-taken g c =
    let is = c.in-Ok-unit_for.ensures.unit in
    let known = known_units g.P.Pool c.args.session c.stands.ensures.kept c.stands.ensures.models in
    subst (λ (list : List Dsn). AreTaken c.args.session.units c.in-Ok-unit_for.unit list) (sym c.deref-2.ensures.value)
    (are_taken c.args.session.units c.in-Ok-unit_for.unit is.volume is.loaded (known.sound c.in-Ok-unit_for.unit is.volume is.loaded) c.count_laws.ensures.counted c.in-Ok-names_taken.names.items
    (c.in-Ok-names_taken.ensures.picked is.volume is.loaded) (c.in-Ok-names_taken.ensures.there is.volume is.loaded) c.in-Ok-names_taken.ensures.apart)

pub look_and_dump-requires-clause-ready : goal.look_and_dump-requires-clause-ready
look_and_dump-requires-clause-ready g c =
    are_ready _ c.deref.ensures.value c.deref-3.ensures.value c.in-Ok.ensures.places c.requires.named c.in-Ok.ensures.within c.in-Ok.ensures.distinct c.in-Ok.ensures.unused

pub returns-clause-ends : goal.returns-clause-ends
returns-clause-ends g c =
    all_dumped g.P.Pool c.args.session c.args.job.held.now c.args.job.today c.args.job.filter.now c.args.job.serial c.args.job.outs.now c.args.job.wish _ c.unit_for.ensures.models
    (told_of _ c.deref.ensures.value (λ outs. LetsOutputs outs c.args.job.outs.now) c.in-Ok.ensures.lets)
    (subst (λ (b : Bool). IsUnitFor (journal_of (g.P.Pool.shape c.args.session.pool)) c.args.session.names c.args.session.room c.args.session.units (record { serial = c.args.job.serial; changes = b }) c.in-Ok-unit_for.unit) c.changes.ensures
    c.in-Ok-unit_for.ensures.unit)
    (subst (λ (b : Bool). Lets c.args.session.names c.args.session.room (map standing_in c.args.session.units) (record { serial = c.args.job.serial; changes = b } ∷ [])) c.changes.ensures
    c.in-Ok-unit_for.ensures.lets)
    c.in-Ok.places.items (told_of _ c.deref.ensures.value (λ outs. ArePlacesOf outs c.args.job.outs.now c.in-Ok.places.items) c.in-Ok.ensures.places)
    c.in-Ok-names_taken.names.items c.in-Ok-names_taken.ensures.taken _ c.deref-2.result.now c.deref-3.result.now c.deref-2.ensures.value c.deref-3.ensures.value
    (some_names c.in-Ok-names_taken.names.items c.in-Ok-names_taken.names.len c.in-Ok-names_taken.names.ok.0 (sym c.is_empty.ensures ∙ c.if-is_empty.false)) c.look_and_dump.result c.look_and_dump.ensures.ends

pub returns-clause-outs : goal.returns-clause-outs
returns-clause-outs g c = kept_used _ c.deref.ensures.value c.deref-3.ensures.value c.look_and_dump.ensures.outs c.in-Ok.ensures.unused
