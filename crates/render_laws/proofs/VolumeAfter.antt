-- The slots after a change that was planned and allotted load to the volume after it.
use Rattle.std.proofs.Common.{◌≡◌, ◌⊎◌, inl, inr, ℕ, ◌≤◌, ◌||◌, ◌&&◌, ◌==◌, not, List, [], ◌∷◌, ◌++◌, length, map, Contains, Bool, true, refl, sym, ap, subst, ◌∙◌, arith}
use Rattle.std.specs.Prelude.{nat_lt, IsTrue}
use Rattle.std.specs.List.Sorted.{IsPermutation}
use Rattle.std.proofs.lemmas.List.{length-map}
use Rattle.std.proofs.lemmas.List.Sorted.{IsPermutation-sym, IsPermutation-cons, IsPermutation-append, IsPermutation-trans, list_any-IsPermutation}
use Rattle.ckd_image.specs.declared.head.Head.{Head}
use Rattle.dscb_rec.specs.declared.field.Entry5.{Entry5}
use Rattle.free_map.specs.declared.run.Run.{Run}
use Rattle.free_map.specs.Runs.{AreMaximalRuns}
use Rattle.vol_label.specs.declared.label.Label.{Label}
use Rattle.volume_model.specs.declared.place.Placed.{Placed}
use Rattle.volume_model.specs.declared.place.Vtoc.{Vtoc}
use Rattle.volume_model.specs.Directory.{rows_of}
use Rattle.volume_model.specs.Space.{end_of, greatest_end, usable_of, has_track, is_free}
use Rattle.volume_model.specs.Check.{records_of, track_0, extents_in, entries_in, usable_in, breaches_of}
use Rattle.volume_model.specs.Sound.{Slots}
use Rattle.vtoc_check.specs.Sized.{IsSized, IsVtocWith}
use Rattle.vtoc_core.specs.declared.volume.Volume.{Volume}
use Rattle.vtoc_core.specs.Loaded.{row_in}
use Rattle.vtoc_load.specs.LoadedVtoc.{free_records_of, IsSpaceOf, IsVolumeOf}
use Rattle.vtoc_layout.specs.Layout.{SetRecords, Layout, IsLayoutOf, AreExtentsApart, row_by, runs_by, entries_by, usable_by, layout_of}
use Rattle.vtoc_layout.proofs.Distinct.{first_or_later, at_first, in_later}
use Rattle.vtoc_layout.proofs.ExtentRules.{extents_permuted}
use Rattle.vtoc_layout.proofs.FreeRules.{entries_permuted, greatest_le}
use Rattle.vtoc_layout.proofs.Layouts.{sound, rows}
use Rattle.layout_edit.specs.Change.{LayoutChange, edits_of, vtoc_after, layout_after}
use Rattle.layout_edit.proofs.Spaces.{usable_stay}
use Rattle.vtoc_write.specs.declared.blocks.Block.{Block}
use Rattle.vtoc_write.specs.Edited.{edit_of, placed_with}
use Rattle.vtoc_write.specs.Written.{AreRewritten}
use Rattle.vtoc_rewrite.specs.Rewrite.{AreSlotsAfter}
use Rattle.vtoc_plan.specs.Plan.{Putting}
use Rattle.render_laws.specs.Rendered.{WasLoaded, WasPlanned, MayTakeTracks, IsVolumeAfter, RenderedVolumesLoad}
use Rattle.render_laws.proofs.Indicators.{stated_long, stated_valid, stated_index}
use Rattle.render_laws.proofs.Before.{four_long, has_layout, apart, tracks_stand, usable_within, ends, extent_there, stands_after}
use Rattle.render_laws.proofs.LayoutAfter.{tracks_stay, sized_after, records_after, layout_stands, linked_after, four_found, fives_long}
use Rattle.render_laws.proofs.SpaceAfter.{apart_after, entries_free, ends_all, right_after}

-- ---- the space of a VTOC is that of its layout

module _ (vtoc : Vtoc) (layout : Layout) (sized : IsSized vtoc) (is : IsLayoutOf vtoc layout) (are_apart : AreExtentsApart vtoc layout) where
  abbrev extents : List Run
  extents = runs_by vtoc.heads layout

  abbrev entries : List Run
  entries = entries_by vtoc.heads layout

  same_extents : IsPermutation (extents_in vtoc) extents
  same_extents = extents_permuted vtoc layout sized is are_apart

  usable_same : vtoc.valid ≡ true → usable_in vtoc ≡ usable_by vtoc layout
  usable_same valid = at (extents_in vtoc) (entries_in vtoc) ∙ greatest ∙ sym (at extents entries)
    where
      at : (some others : List Run) → usable_of vtoc.valid vtoc.heads vtoc.limit vtoc.alternates vtoc.run some others ≡ greatest_end (vtoc.run ∷ (some ++ others))
      at some others = ap (λ (b : Bool). usable_of b vtoc.heads vtoc.limit vtoc.alternates vtoc.run some others) valid

      moved : IsPermutation (vtoc.run ∷ (extents_in vtoc ++ entries_in vtoc)) (vtoc.run ∷ (extents ++ entries))
      moved =
          IsPermutation-cons vtoc.run (extents_in vtoc ++ entries_in vtoc) (extents ++ entries)
          (IsPermutation-append (extents_in vtoc) extents (entries_in vtoc) entries same_extents (entries_permuted vtoc layout sized is))

      greatest : greatest_end (vtoc.run ∷ (extents_in vtoc ++ entries_in vtoc)) ≡ greatest_end (vtoc.run ∷ (extents ++ entries))
      greatest =
          omega (
            arith,
            greatest_le (vtoc.run ∷ (extents_in vtoc ++ entries_in vtoc)) (vtoc.run ∷ (extents ++ entries)) moved,
            greatest_le (vtoc.run ∷ (extents ++ entries)) (vtoc.run ∷ (extents_in vtoc ++ entries_in vtoc))
                (IsPermutation-sym (vtoc.run ∷ (extents_in vtoc ++ entries_in vtoc)) (vtoc.run ∷ (extents ++ entries)) moved),
          )

  free_same : (usable track : ℕ) → is_free usable vtoc.run extents track ≡ is_free usable vtoc.run (extents_in vtoc) track
  free_same usable track =
      ap (λ (b : Bool). nat_lt track usable && not ((track == 0) || has_track track vtoc.run || b)) (sym (list_any-IsPermutation (has_track track) (extents_in vtoc) extents same_extents))

  runs_same : (usable : ℕ) (runs : List Run) → AreMaximalRuns (λ track. IsTrue (is_free usable vtoc.run extents track)) runs
      → AreMaximalRuns (λ track. IsTrue (is_free usable vtoc.run (extents_in vtoc) track)) runs
  runs_same usable runs are = record {
    apart = are.apart;
    exact = λ track. ((λ free. (are.exact track).0 (free_same usable track ∙ free)), (λ there. sym (free_same usable track) ∙ (are.exact track).1 there));
  }

-- ---- the volume

module _ {head : Head} {label : Label} {old : Slots} {before : Bool} {slots : List ℕ} {volume next : Volume} {vtoc : Vtoc} {four : Placed}
    {front gone back : List SetRecords} {putting : List Putting} {parts : List (List Entry5)} {change : LayoutChange} (was : WasLoaded head label old before slots volume vtoc four)
    (plan : WasPlanned vtoc four front gone back putting parts change) (takes : MayTakeTracks vtoc volume.usable (front ++ back) putting)
    (is : IsVolumeAfter vtoc volume (layout_after front change back) parts next) where
  abbrev vtoc_then : Vtoc
  vtoc_then = vtoc_after vtoc (edits_of change)

  abbrev layout : Layout
  layout = layout_after front change back

  some : 1 ≤ volume.usable
  some = ends was track_0 (at_first track_0 (vtoc.run ∷ extents_in vtoc))

  stood_ends : (run : Run) → Contains (vtoc.run ∷ runs_by vtoc.heads (layout_of vtoc four)) run → end_of run ≤ volume.usable
  stood_ends run c = by (first_or_later vtoc.run run (runs_by vtoc.heads (layout_of vtoc four)) c)
    where
      by : ((vtoc.run ≡ run) ⊎ Contains (runs_by vtoc.heads (layout_of vtoc four)) run) → end_of run ≤ volume.usable
      by (inl same) = ends was run (1, omega arith, same)
      by (inr later) = ends was run (in_later track_0 run (vtoc.run ∷ extents_in vtoc) (in_later vtoc.run run (extents_in vtoc) (extent_there was run later)))

  sized_then : IsSized vtoc_then
  sized_then = sized_after was.sized (has_layout was) plan

  layout_then : IsLayoutOf vtoc_then layout
  layout_then = layout_stands was.sized (has_layout was) plan

  apart_then : AreExtentsApart vtoc_then layout
  apart_then = apart_after was.sized (has_layout was) (apart was) plan takes (usable_within was) stood_ends some

  abbrev free_runs : AreMaximalRuns (λ track. IsTrue (is_free volume.usable vtoc.run (runs_by vtoc.heads layout) track)) next.free.runs
  free_runs = is.free_are

  pub sound_then : breaches_of vtoc_then ≡ []
  sound_then =
      sound vtoc_then layout sized_then (tracks_stay (edits_of change) vtoc.run.first vtoc.tracks (tracks_stand was)) layout_then (λ valid. linked_after was.sized (has_layout was) plan) apart_then
      (λ valid. right_after was.sized (has_layout was) (apart was) plan takes (usable_within was) stood_ends some next.free.runs free_runs is.stated)

  usable_then : usable_in vtoc_then ≡ volume.usable
  usable_then =
      usable_same vtoc_then layout sized_then layout_then apart_then refl
      ∙ usable_stay vtoc_then layout volume.usable refl some (ends_all was.sized (has_layout was) (apart was) plan takes (usable_within was) stood_ends some next.free.runs free_runs is.stated)
      (entries_free was.sized (has_layout was) (apart was) plan takes (usable_within was) stood_ends some next.free.runs free_runs is.stated)

  space_then : IsSpaceOf vtoc_then next.usable next.free
  space_then = record {
    usable_is = is.usable_is ∙ sym usable_then;
    free_are =
        subst (λ (n : ℕ). AreMaximalRuns (λ track. IsTrue (is_free n vtoc.run (extents_in vtoc_then) track)) next.free.runs) (sym is.usable_is)
        (runs_same vtoc_then layout sized_then layout_then apart_then volume.usable next.free.runs free_runs);
    limit_is = is.limit_is ∙ sym is.usable_is;
    heads_are = is.heads_are;
  }

  so_many : length (records_of vtoc) ≡ length (records_of vtoc_then)
  so_many =
      sym (length-map (records_of vtoc) (λ placed. placed_with placed (edit_of (edits_of change) placed.place))) ∙ sym (ap length (records_after was.sized (has_layout was) plan))

  pub volume_then : next.free_dscbs ≡ length (free_records_of vtoc_then) → IsVolumeOf label head.device vtoc_then change.four.bytes next
  volume_then free_is = record {
    serial_is = is.serial_is ∙ was.volume_is.serial_is;
    device_is = is.device_is ∙ was.volume_is.device_is;
    vtoc_is = is.vtoc_is ∙ was.volume_is.vtoc_is;
    rows_are = record {
      same =
          IsPermutation-trans (rows_of vtoc.heads (records_of vtoc_then)) (map row_by layout.sets) (map row_in next.rows) (rows vtoc_then layout sized_then layout_then) is.rows_are;
      order = is.in_order;
    };
    names_are = is.names_are;
    space = space_then;
    repair_is = is.repair_is;
    indexed_is = is.indexed_is ∙ was.volume_is.indexed_is ∙ sym (stated_index four.bytes change.four.bytes plan.highest plan.free (four_long was) plan.planned.four_is);
    dscbs_are = is.dscbs_are ∙ was.volume_is.dscbs_are ∙ so_many;
    fives_are = is.fives_are ∙ sym (fives_long was.sized (has_layout was) plan);
    free_dscbs_are = free_is;
  }

  stands_then : (new : Slots) (after : Bool) (blocks : List Block) → AreRewritten (edits_of change) head.device vtoc.run slots blocks → AreSlotsAfter vtoc.run blocks old new → IsVtocWith head new label.vtoc after vtoc_then change.four.bytes
  stands_then new after blocks rewritten slots_after =
      stands_after was new after (edits_of change) blocks change.four rewritten slots_after (four_found was.sized (has_layout was) plan)
      (stated_long four.bytes change.four.bytes plan.highest plan.free (four_long was) plan.planned.four_is) plan.planned.four_is.format plan.planned.four_is.fields
      (stated_valid four.bytes change.four.bytes plan.highest plan.free (four_long was) plan.planned.four_is after)

pub rendered : RenderedVolumesLoad
rendered head label old new before after slots blocks volume next vtoc four front gone back putting parts change was plan takes rewritten slots_after is free_is = record {
  vtoc = vtoc_after vtoc (edits_of change);
  four = change.four.bytes;
  stands = stands_then was plan takes is new after blocks rewritten slots_after;
  sized = sized_then was plan takes is;
  sound = sound_then was plan takes is;
  volume = volume_then was plan takes is free_is;
}
