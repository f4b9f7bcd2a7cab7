-- The slots of a VTOC whose format 4 is marked load to the volume that they loaded to, while a slide is open.
use Rattle.std.proofs.Common.{◌≡◌, ℕ, ◌==◌, ◌&&◌, List, [], ◌∷◌, ◌++◌, length, map, filter, not, Bool, true, false, refl, sym, ap, subst, ◌∙◌}
use Rattle.std.specs.Prelude.{if◌then◌else◌, IsTrue}
use Rattle.std.specs.List.{flat_map}
use Rattle.std.specs.List.Sorted.{IsPermutation}
use Rattle.std.proofs.lemmas.List.{length-map}
use Rattle.std.proofs.lemmas.List.Sorted.{IsPermutation-sym, IsPermutation-trans}
use Rattle.ckd_image.specs.declared.head.Head.{Head}
use Rattle.free_map.specs.declared.run.Run.{Run}
use Rattle.free_map.specs.Runs.{AreMaximalRuns}
use Rattle.vol_label.specs.declared.label.Label.{Label}
use Rattle.volume_model.specs.declared.format.Format.{Format}
use Rattle.volume_model.specs.declared.format.Format.TheVariants.{F4}
use Rattle.volume_model.specs.declared.place.Placed.{Placed}
use Rattle.volume_model.specs.declared.place.Vtoc.{Vtoc}
use Rattle.volume_model.specs.declared.rule.VtocRule.TheVariants as rules
use Rattle.volume_model.specs.Dscbs.{format_of, is_f5, extent_offsets, extent_at, is_free_record, is_free_dscb}
use Rattle.volume_model.specs.Directory.{rows_of}
use Rattle.volume_model.specs.Space.{is_run, run_of, entries_of, runs_of, usable_of, is_free}
use Rattle.volume_model.specs.Check.{records_of, fives_of, extents_in, entries_in, usable_in, states_free, bad_free, breaches_of}
use Rattle.volume_model.specs.Sound.{Slots, is_valid}
use Rattle.vtoc_core.specs.declared.volume.Volume.{Volume}
use Rattle.vtoc_core.specs.Loaded.{row_in}
use Rattle.vtoc_load.specs.LoadedVtoc.{free_records_of, IsSpaceOf, IsVolumeOf}
use Rattle.vtoc_layout.specs.Layout.{Layout, AreExtentsApart, row_by, layout_of, sets_of}
use Rattle.vtoc_layout.proofs.PlainRules.{no_bad_tracks, no_bad_dscbs, no_bad_names}
use Rattle.vtoc_layout.proofs.PointerRules.{no_bad_pointers}
use Rattle.vtoc_layout.proofs.FiveRules.{no_bad_fives}
use Rattle.vtoc_layout.proofs.ExtentRules.{no_bad_ranges, no_bad_overlaps}
use Rattle.vtoc_layout.proofs.Layouts.{rows}
use Rattle.dscb_made.specs.Made.{IsMarkedFormat4}
use Rattle.layout_edit.specs.Change.{vtoc_after}
use Rattle.render_laws.specs.Rendered.{WasLoaded, MarkedVolumesLoad}
use Rattle.render_laws.proofs.Indicators.{marked_long, marked_valid, marked_index, marked_fields}
use Rattle.render_laws.proofs.Before.{four_long, has_layout, linked, apart, tracks_stand, free_stated, stands_after}
use Rattle.render_laws.proofs.LayoutAfter.{tracks_stay}
use Rattle.render_laws.proofs.MarkedLayout.{edited, found, records_are, sized_marked, filter_same, flat_unchanged, marked_layout, marked_is, fives_linked}

module _ {head : Head} {label : Label} {old : Slots} {before : Bool} {slots : List ℕ} {volume : Volume} {vtoc : Vtoc} {four marked : Placed} (was : WasLoaded head label old before slots volume vtoc four)
    (off : volume.repair ≡ false) (at : marked.place ≡ four.place) (mark : IsMarkedFormat4 four.bytes marked.bytes) where
  abbrev after : Vtoc
  after = vtoc_after vtoc (marked ∷ [])

  abbrev layout : Layout
  layout = layout_of vtoc four

  abbrev layout_then : Layout
  layout_then = marked_layout vtoc layout marked was.sized (has_layout was) at mark.format

  valid : vtoc.valid ≡ true
  valid = by vtoc.valid (sym was.volume_is.repair_is ∙ off)
    where
      by : (t : Bool) → not t ≡ false → t ≡ true
      by true e = refl
      by false e = sym e

  -- ---- its lists of records, extents and entries

  same_filter : (test : Placed → Bool) → ((placed : Placed) → format_of placed.bytes ≡ F4 → test placed ≡ false) → filter test (records_of after) ≡ filter test (records_of vtoc)
  same_filter test none = filter_same vtoc layout marked was.sized (has_layout was) at mark.format test none

  same_fives : fives_of after ≡ fives_of vtoc
  same_fives = same_filter (λ placed. is_f5 (format_of placed.bytes)) (λ placed is. ap is_f5 is)

  same_free : free_records_of after ≡ free_records_of vtoc
  same_free = same_filter is_free_record (λ placed is. ap is_free_dscb is)

  same_entries : entries_in after ≡ entries_in vtoc
  same_entries = ap (λ (fives : List Placed). flat_map (λ five. entries_of vtoc.heads five.bytes) fives) same_fives

  same_extents : extents_in after ≡ extents_in vtoc
  same_extents =
      flat_unchanged vtoc layout marked was.sized (has_layout was) at mark.format (λ placed. runs_of vtoc.heads vtoc.limit placed.bytes)
      (λ placed is.
      ap (λ (f : Format). map (run_of vtoc.heads) (filter (is_run vtoc.heads vtoc.limit) (filter (λ extent. not (extent.kind == 0)) (map (extent_at placed.bytes) (extent_offsets f))))) is)

  same_usable : usable_in after ≡ usable_in vtoc
  same_usable = λ i. usable_of (sym valid i) vtoc.heads vtoc.limit vtoc.alternates vtoc.run (same_extents i) (same_entries i)

  -- ---- it breaks no rule

  free_then : bad_free after ≡ []
  free_then =
      (λ i.
      if sym valid i && not (states_free vtoc.limit vtoc.run (same_extents i) (same_entries i) (same_usable i)) then (record { place = vtoc.format_4; rule = rules.Free } ∷ []) else [])
      ∙ free_stated was

  sound_then : breaches_of after ≡ []
  sound_then =
      let sized = sized_marked vtoc layout marked was.sized (has_layout was) at mark.format in
      let is = marked_is vtoc layout marked was.sized (has_layout was) at mark.format in
      let apart_then : AreExtentsApart after layout_then =
      record { ranges = (apart was).ranges; off_track_0 = (apart was).off_track_0; off_vtoc = (apart was).off_vtoc; apart = (apart was).apart } in
      let tracks = tracks_stay (marked ∷ []) vtoc.run.first vtoc.tracks (tracks_stand was) in
      let dscbs = no_bad_dscbs after layout_then sized is in
      let names = no_bad_names after layout_then sized is in
      let pointers = no_bad_pointers after layout_then sized is in
      let fives = no_bad_fives after layout_then sized is (λ now. fives_linked vtoc layout marked was.sized (has_layout was) at mark.format (linked was valid)) in
      let ranges = no_bad_ranges after layout_then sized is apart_then in
      let overlaps = no_bad_overlaps after layout_then sized is apart_then in
      (λ i. no_bad_tracks vtoc.run.first after.tracks tracks i ++ dscbs i ++ names i ++ pointers i ++ fives i ++ ranges i ++ overlaps i ++ free_then i)

  -- ---- the volume

  same_rows : IsPermutation (rows_of vtoc.heads (records_of after)) (rows_of vtoc.heads (records_of vtoc))
  same_rows =
      let sized = sized_marked vtoc layout marked was.sized (has_layout was) at mark.format in
      let is = marked_is vtoc layout marked was.sized (has_layout was) at mark.format in
      let sets = map row_by (sets_of vtoc) in
      let old_rows = rows_of vtoc.heads (records_of vtoc) in
      IsPermutation-trans (rows_of vtoc.heads (records_of after)) sets old_rows (rows after layout_then sized is)
      (IsPermutation-sym old_rows sets (rows vtoc layout was.sized (has_layout was)))

  space_then : IsSpaceOf after volume.usable volume.free
  space_then =
      let space = was.volume_is.space in
      record {
        usable_is = space.usable_is ∙ sym same_usable;
        free_are =
            subst (λ (extents : List Run). AreMaximalRuns (λ track. IsTrue (is_free volume.usable vtoc.run extents track)) volume.free.runs) (sym same_extents) space.free_are;
        limit_is = space.limit_is;
        heads_are = space.heads_are;
      }

  volume_then : IsVolumeOf label head.device after marked.bytes volume
  volume_then =
      let is = was.volume_is in
      record {
        serial_is = is.serial_is;
        device_is = is.device_is;
        vtoc_is = is.vtoc_is;
        rows_are = record {
          same =
              IsPermutation-trans (rows_of vtoc.heads (records_of after)) (rows_of vtoc.heads (records_of vtoc)) (map row_in volume.rows) same_rows is.rows_are.same;
          order = is.rows_are.order;
        };
        names_are = is.names_are;
        space = space_then;
        repair_is = off;
        indexed_is = is.indexed_is ∙ sym (marked_index four.bytes marked.bytes (four_long was) mark);
        dscbs_are =
            is.dscbs_are ∙ sym (length-map (records_of vtoc) (edited vtoc layout marked was.sized (has_layout was) at mark.format))
            ∙ sym (ap length (records_are vtoc layout marked was.sized (has_layout was) at mark.format));
        fives_are = is.fives_are ∙ sym (ap length same_fives);
        free_dscbs_are = is.free_dscbs_are ∙ sym (ap length same_free);
      }

  was_valid : is_valid before four.bytes ≡ true
  was_valid = ap (is_valid before) was.stands.four_is ∙ sym was.stands.stands.valid_is ∙ valid

pub marked_loads : MarkedVolumesLoad
marked_loads head label old new before slots blocks volume vtoc four marked was off at mark long rewritten slots_after = record {
  vtoc = vtoc_after vtoc (marked ∷ []);
  four = marked.bytes;
  stands =
      stands_after was new true (marked ∷ []) blocks marked rewritten slots_after
      (found vtoc (layout_of vtoc four) marked was.sized (has_layout was) at mark.format vtoc.format_4 (at ∙ was.four_at)) (marked_long four.bytes marked.bytes long mark) mark.format
      (marked_fields four.bytes marked.bytes long mark) (marked_valid four.bytes marked.bytes long mark before (was_valid was off at mark));
  sized = sized_marked vtoc (layout_of vtoc four) marked was.sized (has_layout was) at mark.format;
  sound = sound_then was off at mark;
  volume = volume_then was off at mark;
}
