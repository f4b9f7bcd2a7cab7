use Rattle.std.proofs.Common.{◌<◌, length, Option, Some, None, ap, arith}
use Rattle.std.specs.Prelude.{IfNone}
use Rattle.std.proofs.lemmas.Option.{IfSome_then}
use Rattle.vtoc_core.specs.declared.volume.Row.{Row}
use Rattle.dump_sets.proofs.job_turns.job_copies.step_plans.LoadedRows.{sound_named}
use Rattle.dump_sets.proofs.job_turns.LoadedUnits.{known_units}
use Rattle.job_ops.proofs.Places.{is_sized, one_here, place_here, place_seen, none_seen}
use Rattle.job_ops.proofs.consolidate.place_of.Goals as goal
use Rattle.dump_sets.proofs.job_turns.job_copies.FreePlaces.{free_heads}

pub next_consolidate-requires-clause-rows : goal.next_consolidate-requires-clause-rows
next_consolidate-requires-clause-rows g c = sound_named c.volume.result.now ((known_units g.P.Pool c.args.session.now c.stands.ensures.kept c.stands.ensures.models).sound c.args.unit c.volume.result.now c.volume.ensures)

pub next_consolidate-requires-clause-heads : goal.next_consolidate-requires-clause-heads
next_consolidate-requires-clause-heads g c = free_heads c.volume.result.now ((known_units g.P.Pool c.args.session.now c.stands.ensures.kept c.stands.ensures.models).sound c.args.unit c.volume.result.now c.volume.ensures)

pub next_consolidate-requires-clause-sizes : goal.next_consolidate-requires-clause-sizes
next_consolidate-requires-clause-sizes g c row is =
    let candidate = c.requires.candidate in
    let sound = (known_units g.P.Pool c.args.session.now c.stands.ensures.kept c.stands.ensures.models).sound c.args.unit c.volume.result.now c.volume.ensures in
    let one = one_here c.volume.result.now sound c.args.name.now candidate.row_is.lawful row is c.args.session.now.units c.args.unit c.volume.ensures candidate.volume candidate.row candidate.loaded candidate.row_is in
    let more : 1 < length row.extents = omega (arith, c.requires.several, candidate.extents_are, ap (λ (r : Row). length r.extents) one.1) in
    is_sized c.volume.result.now sound row is.0 more

pub returns-clause-place : goal.returns-clause-place
returns-clause-place g c =
    let sound = (known_units g.P.Pool c.args.session.now c.stands.ensures.kept c.stands.ensures.models).sound c.args.unit c.volume.result.now c.volume.ensures in
    IfSome_then c.next_consolidate.result c.next_consolidate.ensures.found
    (λ first found. place_here c.volume.result.now sound c.args.name.now c.requires.candidate.row_is.lawful found.0 found.1 first found.2 c.args.session.now.units c.args.unit c.volume.ensures)

pub returns-clause-found : goal.returns-clause-found
returns-clause-found g c =
    let sound = (known_units g.P.Pool c.args.session.now c.stands.ensures.kept c.stands.ensures.models).sound c.args.unit c.volume.result.now c.volume.ensures in
    IfSome_then c.next_consolidate.result c.next_consolidate.ensures.found
    (λ first found told units settled volume set is.
    place_seen c.volume.result.now sound c.args.name.now c.requires.candidate.row_is.lawful found.0 found.1 first found.2 volume
    ((known_units g.P.Pool c.args.session.now c.stands.ensures.kept c.stands.ensures.models).described told units settled c.args.unit c.volume.result.now volume c.volume.ensures is.online_is)
    set is.there is.name_is)

none_then : {X P Q : Type 0} (r : Option X) → IfNone r P → (P → Q) → IfNone r Q
none_then None holds implies = implies holds
none_then (Some x) holds implies = tt

pub returns-clause-none : goal.returns-clause-none
returns-clause-none g c =
    let sound = (known_units g.P.Pool c.args.session.now c.stands.ensures.kept c.stands.ensures.models).sound c.args.unit c.volume.result.now c.volume.ensures in
    none_then c.next_consolidate.result c.next_consolidate.ensures.none
    (λ found told units settled volume set is.
    none_seen c.volume.result.now sound c.args.name.now c.requires.candidate.row_is.lawful found.0 found.1 found.2 volume
    ((known_units g.P.Pool c.args.session.now c.stands.ensures.kept c.stands.ensures.models).described told units settled c.args.unit c.volume.result.now volume c.volume.ensures is.online_is)
    set is.there is.name_is)

pub volume-requires : goal.volume-requires
volume-requires g c = (c.requires.candidate.volume, c.requires.candidate.loaded)
