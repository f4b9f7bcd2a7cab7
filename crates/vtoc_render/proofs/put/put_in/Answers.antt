use Rattle.std.proofs.Common.{◌≡◌, ℕ, ◌+◌, ◌-◌, ◌≤◌, List, ◌∷◌, ◌++◌, map, All, Option, IfSome, length, sym, ap, subst, ◌∙◌}
use Rattle.std.specs.Prelude.{option_to_list}
use Rattle.std.specs.Option.{option_copied}
use Rattle.ckd_image.specs.Device.{heads_of}
use Rattle.free_map.specs.Free.{Free}
use Rattle.free_map.specs.Runs.{AreMaximalRuns}
use Rattle.volume_model.specs.declared.place.Place.{Place}
use Rattle.layout_edit.specs.Change.{place_of, zeroed}
use Rattle.volume_model.specs.Check.{records_of}
use Rattle.vtoc_layout.specs.Layout.{AreDistinct}
use Rattle.vtoc_allot.specs.declared.held.Wanted.{Wanted}
use Rattle.vtoc_allot.specs.Allotted.{held_count, wanted_count, free_count, IsAllotted, IsHeld, IsAllotFault}
use Rattle.vtoc_write.specs.Written.{AreRewritten}
use Rattle.volume_change.specs.Runs.{IsFreeAfter}
use Rattle.vtoc_render.specs.Next.{runs_of_rows}
use Rattle.vtoc_render.specs.Written.{second_of, free_left, volume_with, StateFree}
use Rattle.volume_model.specs.declared.format.Format.TheVariants.{F1}
use Rattle.volume_model.specs.declared.place.Placed.{Placed}
use Rattle.volume_model.specs.Dscbs.{format_of}
use Rattle.vtoc_core.specs.declared.volume.Row.{Row}
use Rattle.dscb_made.specs.Slots.{IsThere}
use Rattle.volume_change.specs.Spot.{AreNamed}
use Rattle.render_laws.proofs.Before.{four_format, has_layout}
use Rattle.vtoc_render.specs.Steps.{AreBelow, IsSpotFor, gone_from, wanted_for, IsSetFor, IsFourFor, records_put}
use Rattle.vtoc_render.proofs.Known.{usable_small, rows_named, texts}
use Rattle.vtoc_render.proofs.May.{IsFit, put_fits, if_some}
use Rattle.vtoc_render.proofs.Places.{behind_within}
use Rattle.vtoc_render.proofs.Holds.{named_held}
use Rattle.vtoc_render.proofs.Allots.{one_there}
use Rattle.std.proofs.Common.{arith}
use Rattle.std.proofs.lemmas.Result.{err_from_is_err_and}
use Rattle.volume_model.specs.Unit.{fives_for}
use Rattle.vtoc_making.specs.Places.{IsPlace}
use Rattle.vtoc_render.proofs.Few.{few_runs}
use Rattle.vtoc_render.proofs.PutFaults.{put_fault}
use Rattle.vtoc_render.proofs.PutPlaces.{records_placed, records_small, few_records, few_left, few_fives, so_many_fives, fives_placed, three_placed}
use Rattle.vtoc_render.proofs.PutRows.{gone_below}
use Rattle.vtoc_render.proofs.put.put_in.Goals as goal

pub spot_for-spot-requires : goal.spot_for-spot-requires
spot_for-spot-requires c =
    subst AreNamed (sym c.as_slice-rows.ensures) (rows_named c.requires.loads.was)

pub free_with-requires-clause-gone : goal.free_with-requires-clause-gone
free_with-requires-clause-gone c =
    subst (λ (row : Option Row). IfSome row (λ row. AreBelow c.args.volume.now row.extents)) (sym (c.gone_from.ensures ∙ ap (λ (rows : List Row). gone_from rows c.spot_for-spot.result) c.as_slice-rows.ensures))
    (gone_below c.requires.loads.was c.spot_for-spot.result)

pub free_with-requires-clause-put : goal.free_with-requires-clause-put
free_with-requires-clause-put c =
    let fits = put_fits c.args.volume.now c.requires.may.0 c.args.aim.name (option_copied c.args.aim.put) c.requires.may.1 c.requires.may.2 in
    if_some (IsFit c.args.volume.now) (λ row. AreBelow c.args.volume.now row.extents) (λ row is. is.below) (option_copied c.args.aim.put) fits

pub free_with-requires-clause-small : goal.free_with-requires-clause-small
free_with-requires-clause-small c =
    usable_small c.requires.loads.was

pub allot-requires-clause-held : goal.allot-requires-clause-held
allot-requires-clause-held c =
    let l = c.requires.loads in
    let items : c.records-records.result.now ≡ records_of l.vtoc = c.records-records.ensures ∙ (c.in_ok-ground.ensures l.head l.label l.unit l.sliding l.vtoc l.four l.was).records_are in
    subst (λ (rs : List Placed). IsHeld rs c.in_ok-held.held) (sym items) (named_held l.vtoc l.four c.args.aim.name c.in_ok-held.held l.was.sized (has_layout l.was) (c.in_ok-held.ensures l.head l.label l.unit l.sliding l.vtoc l.four l.was)).0

pub allot-requires-clause-apart : goal.allot-requires-clause-apart
allot-requires-clause-apart c =
    let l = c.requires.loads in
    let items : c.records-records.result.now ≡ records_of l.vtoc = c.records-records.ensures ∙ (c.in_ok-ground.ensures l.head l.label l.unit l.sliding l.vtoc l.four l.was).records_are in
    subst (λ (rs : List Placed). AreDistinct (map place_of rs)) (sym items) (named_held l.vtoc l.four c.args.aim.name c.in_ok-held.held l.was.sized (has_layout l.was) (c.in_ok-held.ensures l.head l.label l.unit l.sliding l.vtoc l.four l.was)).1

pub allot-requires-clause-few_records : goal.allot-requires-clause-few_records
allot-requires-clause-few_records c =
    let l = c.requires.loads in
    let items : c.records-records.result.now ≡ records_of l.vtoc = c.records-records.ensures ∙ (c.in_ok-ground.ensures l.head l.label l.unit l.sliding l.vtoc l.four l.was).records_are in
    omega (arith, ap length items, few_records l.vtoc l.was.sized)

pub allot-requires-clause-few_fives : goal.allot-requires-clause-few_fives
allot-requires-clause-few_fives c =
    let fives : c.wanted_for-wanted.result.fives ≡ fives_for (length c.in_ok-free.free.runs) = ap (λ (w : Wanted). w.fives) c.wanted_for-wanted.ensures in
    omega (arith, fives, few_fives (length c.in_ok-free.free.runs) (subst (λ (free : Free). length free.runs ≤ 65535) c.free.view_is (few_runs c.free.inside.usable c.free.inside.heads c.free.inside.runs.items c.free.invariant)))

pub returns-in_err-places-clause-fault : goal.returns-in_err-places-clause-fault
returns-in_err-places-clause-fault c =
    let p = err_from_is_err_and c.from_residual-in_err-places.result c.from_residual-in_err-places.ensures.1 in
    let v = c.args.volume.now in
    let put = option_copied c.args.aim.put in
    let spot = c.spot_for-spot.result in
    let free = c.in_ok-free.free in
    let base = c.in_ok-ground.ground in
    let held = c.in_ok-held.held in
    let fault = c.in_err-places.field-0.0 in
    let gone : option_copied c.gone_from.result ≡ gone_from v.rows spot = c.gone_from.ensures ∙ ap (λ (rows : List Row). gone_from rows spot) c.as_slice-rows.ensures in
    rw (p.1, p.2)
    (put_fault v c.args.slots.now c.args.aim.name put spot free base held
    (subst (λ (rows : List Row). IsSpotFor rows c.args.aim.name spot) c.as_slice-rows.ensures c.spot_for-spot.ensures)
    (record {
      usable_is = c.in_ok-free.ensures.sizes.0;
      heads_are = c.in_ok-free.ensures.sizes.1;
      free_are = subst (λ (row : Option Row). AreMaximalRuns (IsFreeAfter v.free (runs_of_rows v (option_to_list row)) (runs_of_rows v (option_to_list put))) free.runs) gone c.in_ok-free.ensures.free;
    })
    c.in_ok-ground.ensures c.in_ok-held.ensures fault
    (subst (λ (w : Wanted). IsAllotFault base.directory.records.items held w fault) c.wanted_for-wanted.ensures
    (subst (λ (rs : List Placed). IsAllotFault rs held c.wanted_for-wanted.result fault) c.records-records.ensures c.in_err-places.ensures.fault)))

pub set_for-set-requires-clause-formats : goal.set_for-set-requires-clause-formats
set_for-set-requires-clause-formats c =
    let fits = put_fits c.args.volume.now c.requires.may.0 c.args.aim.name (option_copied c.args.aim.put) c.requires.may.1 c.requires.may.2 in
    if_some (IsFit c.args.volume.now) (λ row. format_of row.f1 ≡ F1) (λ row is. is.format) (option_copied c.args.aim.put) fits

pub set_for-set-requires-clause-few : goal.set_for-set-requires-clause-few
set_for-set-requires-clause-few c =
    let fits = put_fits c.args.volume.now c.requires.may.0 c.args.aim.name (option_copied c.args.aim.put) c.requires.may.1 c.requires.may.2 in
    if_some (IsFit c.args.volume.now) (λ row. length row.extents ≤ 16) (λ row is. is.few) (option_copied c.args.aim.put) fits

pub set_for-set-requires-clause-there : goal.set_for-set-requires-clause-there
set_for-set-requires-clause-there c =
    let fits = put_fits c.args.volume.now c.requires.may.0 c.args.aim.name (option_copied c.args.aim.put) c.requires.may.1 c.requires.may.2 in
    if_some (IsFit c.args.volume.now) (λ row. All IsThere row.extents) (λ row is. is.there) (option_copied c.args.aim.put) fits

pub set_for-set-requires-clause-one : goal.set_for-set-requires-clause-one
set_for-set-requires-clause-one c =
    λ some. one_there c.records-records.result.now c.second_of.result c.in_ok-held.held c.wanted_for-wanted.result c.in_ok-places.places c.in_ok-places.ensures.allotted (ap (λ (w : Wanted). w.one) c.wanted_for-wanted.ensures ∙ some)

pub set_for-set-requires-clause-place : goal.set_for-set-requires-clause-place
set_for-set-requires-clause-place c =
    let l = c.requires.loads in
    let items : c.records-records.result.now ≡ records_of l.vtoc = c.records-records.ensures ∙ (c.in_ok-ground.ensures l.head l.label l.unit l.sliding l.vtoc l.four l.was).records_are in
    let known = named_held l.vtoc l.four c.args.aim.name c.in_ok-held.held l.was.sized (has_layout l.was) (c.in_ok-held.ensures l.head l.label l.unit l.sliding l.vtoc l.four l.was) in
    three_placed (records_of l.vtoc) c.second_of.result c.in_ok-held.held c.wanted_for-wanted.result c.in_ok-places.places known.0 known.1
    (subst (λ (rs : List Placed). IsAllotted rs c.second_of.result c.in_ok-held.held c.wanted_for-wanted.result c.in_ok-places.places) items c.in_ok-places.ensures.allotted) (records_placed l.vtoc l.was.sized)

pub free_left-left-requires-clause-few : goal.free_left-left-requires-clause-few
free_left-left-requires-clause-few c =
    let l = c.requires.loads in
    let known = named_held l.vtoc l.four c.args.aim.name c.in_ok-held.held l.was.sized (has_layout l.was) (c.in_ok-held.ensures l.head l.label l.unit l.sliding l.vtoc l.four l.was) in
    let free : c.args.volume.now.free_dscbs ≡ free_count (records_of l.vtoc) = l.was.volume_is.free_dscbs_are in
    omega (arith, free, few_left (records_of l.vtoc) c.in_ok-held.held (few_records l.vtoc l.was.sized) known.0 known.1)

pub free_left-left-requires-clause-room : goal.free_left-left-requires-clause-room
free_left-left-requires-clause-room c =
    let l = c.requires.loads in
    let items : c.records-records.result.now ≡ records_of l.vtoc = c.records-records.ensures ∙ (c.in_ok-ground.ensures l.head l.label l.unit l.sliding l.vtoc l.four l.was).records_are in
    subst (λ (n : ℕ). wanted_count c.wanted_for-wanted.result ≤ held_count c.in_ok-held.held + n) (ap free_count items ∙ sym l.was.volume_is.free_dscbs_are) c.in_ok-places.ensures.room

pub four_for-four-requires-clause-small : goal.four_for-four-requires-clause-small
four_for-four-requires-clause-small c =
    let l = c.requires.loads in
    let items : c.records-records.result.now ≡ records_of l.vtoc = c.records-records.ensures ∙ (c.in_ok-ground.ensures l.head l.label l.unit l.sliding l.vtoc l.four l.was).records_are in
    subst (λ (rs : List Placed). All (λ placed. placed.place.track ≤ 65535) rs) (sym items) (records_small l.vtoc l.was.sized)

pub four_for-four-requires-clause-format : goal.four_for-four-requires-clause-format
four_for-four-requires-clause-format c =
    let l = c.requires.loads in
    ap (λ (placed : Placed). format_of placed.bytes) (c.in_ok-ground.ensures l.head l.label l.unit l.sliding l.vtoc l.four l.was).four_is ∙ four_format l.was

pub fives_at-requires-clause-places : goal.fives_at-requires-clause-places
fives_at-requires-clause-places c =
    let l = c.requires.loads in
    let items : c.records-records.result.now ≡ records_of l.vtoc = c.records-records.ensures ∙ (c.in_ok-ground.ensures l.head l.label l.unit l.sliding l.vtoc l.four l.was).records_are in
    let known = named_held l.vtoc l.four c.args.aim.name c.in_ok-held.held l.was.sized (has_layout l.was) (c.in_ok-held.ensures l.head l.label l.unit l.sliding l.vtoc l.four l.was) in
    subst (λ (places : List Place). All IsPlace places) (sym c.as_slice.ensures)
    (fives_placed (records_of l.vtoc) c.second_of.result c.in_ok-held.held c.wanted_for-wanted.result c.in_ok-places.places known.0 known.1
    (subst (λ (rs : List Placed). IsAllotted rs c.second_of.result c.in_ok-held.held c.wanted_for-wanted.result c.in_ok-places.places) items c.in_ok-places.ensures.allotted) (records_placed l.vtoc l.was.sized))

pub fives_at-requires-clause-few : goal.fives_at-requires-clause-few
fives_at-requires-clause-few c =
    let fives : c.wanted_for-wanted.result.fives ≡ fives_for (length c.in_ok-free.free.runs) = ap (λ (w : Wanted). w.fives) c.wanted_for-wanted.ensures in
    omega (
      arith,
      ap length c.as_slice.ensures,
      fives,
      so_many_fives c.records-records.result.now c.second_of.result c.in_ok-held.held c.wanted_for-wanted.result c.in_ok-places.places c.in_ok-places.ensures.allotted,
      few_fives (length c.in_ok-free.free.runs) (subst (λ (free : Free). length free.runs ≤ 65535) c.free.view_is (few_runs c.free.inside.usable c.free.inside.heads c.free.inside.runs.items c.free.invariant)),
    )

pub row_for-requires-clause-few : goal.row_for-requires-clause-few
row_for-requires-clause-few c =
    let fits = put_fits c.args.volume.now c.requires.may.0 c.args.aim.name (option_copied c.args.aim.put) c.requires.may.1 c.requires.may.2 in
    if_some (IsFit c.args.volume.now) (λ row. length row.extents ≤ 16) (λ row is. is.few) (option_copied c.args.aim.put) fits

pub changed_tracks-requires-clause-dscbs : goal.changed_tracks-requires-clause-dscbs
changed_tracks-requires-clause-dscbs c =
    texts c.requires.loads.was

pub volume_with-requires : goal.volume_with-requires
volume_with-requires c =
    behind_within c.args.volume.now.rows c.args.aim.name c.spot_for-spot.result (subst (λ (rows : List Row). IsSpotFor rows c.args.aim.name c.spot_for-spot.result) c.as_slice-rows.ensures c.spot_for-spot.ensures)

pub returns-clause-written : goal.returns-clause-written
returns-clause-written c =
    let v = c.args.volume.now in
    let name = c.args.aim.name in
    let put = option_copied c.args.aim.put in
    let spot = c.spot_for-spot.result in
    let free = c.in_ok-free.free in
    let base = c.in_ok-ground.ground in
    let held = c.in_ok-held.held in
    let places = c.in_ok-places.places in
    let wanted : c.wanted_for-wanted.result ≡ wanted_for put (length free.runs) = c.wanted_for-wanted.ensures in
    let records : c.records-records.result.now ≡ base.directory.records.items = c.records-records.ensures in
    let gone : option_copied c.gone_from.result ≡ gone_from v.rows spot = c.gone_from.ensures ∙ ap (λ (rows : List Row). gone_from rows spot) c.as_slice-rows.ensures in
    let left : c.free_left-left.result ≡ free_left v held put free = c.free_left-left.ensures ∙ ap (λ (w : Wanted). v.free_dscbs + held_count held - wanted_count w) wanted in
    record {
      spot = spot;
      free = free;
      base = base;
      held = held;
      allotment = places;
      set = c.set_for-set.result;
      row = c.in_ok-row.row;
      four = c.four_for-four.result;
      fives = c.in_ok-fives.fives;
      spot_is = subst (λ (rows : List Row). IsSpotFor rows name spot) c.as_slice-rows.ensures c.spot_for-spot.ensures;
      space =
          record {
            usable_is = c.in_ok-free.ensures.sizes.0;
            heads_are = c.in_ok-free.ensures.sizes.1;
            free_are = subst (λ (row : Option Row). AreMaximalRuns (IsFreeAfter v.free (runs_of_rows v (option_to_list row)) (runs_of_rows v (option_to_list put))) free.runs) gone c.in_ok-free.ensures.free;
          };
      ground_is = c.in_ok-ground.ensures;
      held_is = c.in_ok-held.ensures;
      allotted =
          subst (λ (w : Wanted). IsAllotted base.directory.records.items (second_of v) held w places) wanted
          (subst (λ (second : Place). IsAllotted base.directory.records.items second held c.wanted_for-wanted.result places) c.second_of.ensures
          (subst (λ (rs : List Placed). IsAllotted rs c.second_of.result held c.wanted_for-wanted.result places) records c.in_ok-places.ensures.allotted));
      room =
          subst (λ (w : Wanted). wanted_count w ≤ held_count held + free_count base.directory.records.items) wanted
          (subst (λ (rs : List Placed). wanted_count c.wanted_for-wanted.result ≤ held_count held + free_count rs) records c.in_ok-places.ensures.room);
      set_is = subst (λ (heads : ℕ). IsSetFor heads put places c.set_for-set.result) c.heads-heads.ensures c.set_for-set.ensures;
      row_is = c.in_ok-row.ensures;
      four_is =
          subst (λ (n : ℕ). IsFourFor (heads_of v.device) base.directory.records.items base.four held.one places.one n c.four_for-four.result) left
          (subst (λ (rs : List Placed). IsFourFor (heads_of v.device) rs base.four held.one places.one c.free_left-left.result c.four_for-four.result) records
          (subst (λ (heads : ℕ). IsFourFor heads c.records-records.result.now base.four held.one places.one c.free_left-left.result c.four_for-four.result) c.heads-heads.ensures c.four_for-four.ensures));
      fives_are =
          subst (λ (at : List Place). StateFree (heads_of v.device) free at c.in_ok-fives.fives) c.as_slice.ensures
          (subst (λ (heads : ℕ). StateFree heads free c.as_slice.result.now c.in_ok-fives.fives) c.heads-heads.ensures c.in_ok-fives.ensures);
      blocks_are =
          subst (λ (edits : List Placed). AreRewritten edits v.device v.vtoc c.args.slots.now c.in_ok-tracks.tracks)
          (c.as_slice-4.ensures ∙ c.in_ok-edits.ensures
          ∙ ap (λ (fives : List Placed). c.four_for-four.result ∷ (fives ++ (records_put c.set_for-set.result ++ map zeroed c.as_slice-3.result.now))) c.as_slice-2.ensures
          ∙ ap (λ (freed : List Place). c.four_for-four.result ∷ (c.in_ok-fives.fives ++ (records_put c.set_for-set.result ++ map zeroed freed))) c.as_slice-3.ensures)
          c.in_ok-tracks.ensures;
      next_is = c.in_ok-next.ensures ∙ ap (λ (n : ℕ). volume_with v spot c.in_ok-row.row free n) left;
    }
