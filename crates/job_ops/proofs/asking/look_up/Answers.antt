use Rattle.std.proofs.Common.{length, refl, ap}
use Rattle.std.proofs.lemmas.List.Elements.{All-contains}
use Rattle.ckd_image.specs.Device.{heads_of}
use Rattle.volume_model.specs.Pinned.{IsNameOf}
use Rattle.job_ops.proofs.Looking.{few_extents, seen, loaded_there, found_row, stays_pinned}
use Rattle.dump_sets.proofs.job_turns.LoadedUnits.{known_units}
use Rattle.dump_sets.proofs.job_turns.job_copies.step_plans.LoadedRows.{sound_named}
use Rattle.job_ops.proofs.asking.look_up.Goals as goal

pub find-requires-clause-name : goal.find-requires-clause-name
find-requires-clause-name g c = (loaded_there c.args.name.now c.requires.may c.volume-volume.result.now c.volume-volume.ensures).1.lawful

pub unreachable-requires : goal.unreachable-requires
unreachable-requires g c =
    let name = c.args.name.now in
    let has = loaded_there name c.requires.may c.volume-volume.result.now c.volume-volume.ensures in
    All-contains (λ row. ¬ IsNameOf name row.name) c.volume-volume.result.now.rows has.0 c.in_default.ensures.none has.1.there has.1.name_is

pub returns-clause-candidate : goal.returns-clause-candidate
returns-clause-candidate g c =
    let name = c.args.name.now in
    let volume = c.volume-volume.result.now in
    let row = c.index-as_slice-place.result in
    let heads = heads_of volume.device in
    let loaded = c.volume-volume.ensures in
    let lawful = (loaded_there name c.requires.may volume loaded).1.lawful in
    record {
      volume = volume;
      row = row;
      loaded = loaded;
      sound = (known_units g.P.Pool c.args.session.now c.stands.ensures.kept c.stands.ensures.models).sound c.args.unit c.volume-volume.result.now c.volume-volume.ensures;
      row_is = found_row volume name c.as_slice.result.now c.in-Some.place row lawful c.as_slice.ensures c.in-Some.ensures.found.0 (c.in-Some.ensures.found.1 row) c.index-as_slice-place.is;
      name_is = refl;
      size_is = c.track_count.ensures.count;
      repair_is = refl;
      serial_is = refl;
      extents_are = ap length c.as_slice-2.ensures;
      few = few_extents heads row c.stays_for.result (λ set has pinned. (c.stays_for.ensures set has).1 (stays_pinned c.args.task heads set pinned));
      stays = c.stays_for.ensures;
      keep_is = c.kept_tracks.ensures;
    }

pub returns-clause-seen : goal.returns-clause-seen
unfolding returns-clause-candidate
returns-clause-seen g c told units settled =
    let at = (known_units g.P.Pool c.args.session.now c.stands.ensures.kept c.stands.ensures.models).online_at told units settled c.args.unit c.volume-volume.result.now c.volume-volume.ensures in
    seen (returns-clause-candidate g c) at.0 at.2 units at.1

pub volume-volume-requires : goal.volume-volume-requires
volume-volume-requires g c = (c.requires.may.may.volume, c.requires.may.may.loaded)

pub find-requires-clause-rows : goal.find-requires-clause-rows
find-requires-clause-rows g c = sound_named c.volume-volume.result.now ((known_units g.P.Pool c.args.session.now c.stands.ensures.kept c.stands.ensures.models).sound c.args.unit c.volume-volume.result.now c.volume-volume.ensures)

pub track_count-requires-clause-sound : goal.track_count-requires-clause-sound
track_count-requires-clause-sound g c = (known_units g.P.Pool c.args.session.now c.stands.ensures.kept c.stands.ensures.models).sound c.args.unit c.volume-volume.result.now c.volume-volume.ensures
