use Rattle.std.proofs.Common.{List, refl, subst}
use Rattle.dscb_rec.specs.declared.field.Extent.{Extent}
use Rattle.dump_fmt.specs.Front.{begun}
use Rattle.move_core.specs.Steps.{IsNewKind}
use Rattle.job_turns.specs.job_copies.step_plans.Plans.{extents_from}
use Rattle.job_dumps.proofs.RowParts.{sound_of}
use Rattle.job_dumps.proofs.parts.set_to_dump.Goals as goal

pub row_of-requires-clause-sound : goal.row_of-requires-clause-sound
row_of-requires-clause-sound g c =
    sound_of (g.P.Pool.shape c.args.session.now.pool) c.args.session.now.units c.stands.ensures.kept c.args.unit c.volume-volume.result.now c.volume-volume.ensures

pub track_count-requires-clause-sound : goal.track_count-requires-clause-sound
track_count-requires-clause-sound g c =
    sound_of (g.P.Pool.shape c.args.session.now.pool) c.args.session.now.units c.stands.ensures.kept c.args.unit c.volume-volume.result.now c.volume-volume.ensures

pub returns : goal.returns
returns g c =
    let volume = c.volume-volume.result.now in
    let row = c.in-Some.row.now in
    record {
      at = record { volume = volume; row = row; loaded = c.volume-volume.ensures; row_is = c.in-Some.ensures.found };
      part = begun c.without_places.result c.track_count.result c.kind_for.result;
      of_row = record {
        f1_is = c.without_places.ensures;
        tracks_are = c.track_count.ensures.count;
        kind_is = subst (λ (extents : List Extent). IsNewKind (extents_from volume.device extents) c.kind_for.result) c.as_slice.ensures (c.kind_for.ensures volume.device);
      };
      head_is = refl;
      unit_is = refl;
      device_is = refl;
      tracks_are = c.in_ok-tracks_of.ensures;
    }
