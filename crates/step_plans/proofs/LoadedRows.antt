-- The rows of a volume as it was loaded.
use Rattle.std.proofs.Common.{◌≡◌, ◌≢◌, ℕ, ◌≤◌, ◌==◌, not, List, ◌∷◌, map, get_or, All, Contains, Bool, true, sym, ap, subst, ◌∙◌, arith}
use Rattle.std.specs.List.{flat_map}
use Rattle.std.proofs.lemmas.Bool.{both_ways, eq-eqb}
use Rattle.std.proofs.lemmas.List.Elements.{All-contains}
use Rattle.ckd_image.specs.declared.head.Head.{Head}
use Rattle.ckd_image.specs.Device.{heads_of}
use Rattle.dscb_rec.specs.declared.field.Extent.{Extent}
use Rattle.dscb_made.specs.Slots.{IsThere}
use Rattle.free_map.specs.declared.run.Run.{Run}
use Rattle.vol_label.specs.declared.label.Label.{Label}
use Rattle.volume_model.specs.declared.extent.ExtentField.{ExtentField}
use Rattle.volume_model.specs.declared.format.Format.TheVariants.{F1}
use Rattle.volume_model.specs.declared.place.Placed.{Placed}
use Rattle.volume_model.specs.declared.place.Vtoc.{Vtoc}
use Rattle.volume_model.specs.Check.{track_0, records_of, extents_in}
use Rattle.volume_model.specs.Directory.{DirectoryRow}
use Rattle.volume_model.specs.Dscbs.{format_of, extents_of, extent_at, extent_offsets}
use Rattle.volume_model.specs.Sound.{Slots}
use Rattle.volume_model.specs.Space.{end_of, is_run, run_of}
use Rattle.vtoc_core.specs.declared.volume.Row.{Row}
use Rattle.vtoc_core.specs.declared.volume.Volume.{Volume}
use Rattle.vtoc_core.specs.Loaded.{field_of, HasItsName}
use Rattle.vtoc_layout.specs.Layout.{SetRecords, AreApart, AreSetRecords, layout_of, name_of, sets_of, extents_in_set, extents_by, runs_by, records_in_set}
use Rattle.vtoc_layout.proofs.Apart.{NoneShared, all_from, apart_each, apart_two, map_flat}
use Rattle.vtoc_layout.proofs.Distinct.{from_filter, from_flat, in_flat, in_later}
use Rattle.volume_change.specs.Runs.{runs_in}
use Rattle.volume_change.specs.Spot.{AreNamed}
use Rattle.unit_steps.specs.render_laws.Rendered.{WasLoaded}
use Rattle.unit_steps.proofs.render_laws.Before.{has_layout, apart, ends, extent_there}
use Rattle.vtoc_check.proofs.Overlapping.{run_facts}
use Rattle.unit_steps.proofs.vtoc_render.Known.{rows_named, usable_small}
use Rattle.unit_steps.proofs.vtoc_render.NextCounts.{set_of_row}
use Rattle.unit_steps.proofs.vtoc_render.PlacedTakes.{heads_same}
use Rattle.unit_steps.proofs.Blocks.{from_slots}
use Rattle.step_plans.specs.Plans.{IsSound, AreRuns}
use Rattle.ckd_image.proofs.Lists.{contains_map}
use Rattle.unit_steps.proofs.unit_change.vtoc_render.PutRows.{run_below}

-- The row of a data set as it was loaded.
pub record IsLoadedRow (volume : Volume) (row : Row) : Type 0 where
  pub named : HasItsName row
  pub format : format_of row.f1 ≡ F1
  pub there : All IsThere row.extents
  pub ranges : All (λ extent. is_run (heads_of volume.device) volume.usable (field_of extent) ≡ true) row.extents
  pub apart : AreApart (runs_in (heads_of volume.device) row.extents)

module _ {head : Head} {label : Label} {unit : Slots} {before : Bool} {slots : List ℕ} {volume : Volume} {vtoc : Vtoc} {four : Placed}
    (was : WasLoaded head label unit before slots volume vtoc four) (row : Row) (c : Contains volume.rows row) where
  abbrev set : SetRecords
  set = (set_of_row was row c).set

  set_there : Contains (sets_of vtoc) set
  set_there = (set_of_row was row c).there

  f1_same : row.f1 ≡ set.one.bytes
  f1_same = ap (λ (d : DirectoryRow). d.format_1) (sym (set_of_row was row c).same)

  fields_same : map field_of row.extents ≡ extents_in_set set
  fields_same = ap (λ (d : DirectoryRow). d.extents) (sym (set_of_row was row c).same)

  set_records : AreSetRecords vtoc.heads (records_of vtoc) set
  set_records = All-contains (AreSetRecords vtoc.heads (records_of vtoc)) (sets_of vtoc) set (has_layout was).sets_are set_there

  field_in_set : (extent : Extent) → Contains row.extents extent → Contains (extents_in_set set) (field_of extent)
  field_in_set extent in_row = subst (λ (fields : List ExtentField). Contains fields (field_of extent)) fields_same (contains_map field_of row.extents extent in_row)

  kind_some : (extent : Extent) → Contains row.extents extent → IsThere extent
  kind_some extent in_row none =
      let found = from_flat (λ (placed : Placed). extents_of placed.bytes) (records_in_set set) (field_of extent) (field_in_set extent in_row) in
      let kept = from_filter (λ (field : ExtentField). not (field.kind == 0)) (map (extent_at found.0.bytes) (extent_offsets (format_of found.0.bytes))) (field_of extent) found.2 in
      both_ways (not (extent.kind == 0)) (ap not (eq-eqb extent.kind 0 none)) kept.1

  in_range : (extent : Extent) → Contains row.extents extent → is_run (heads_of volume.device) volume.usable (field_of extent) ≡ true
  in_range extent in_row =
      let of_all : Contains (extents_by (layout_of vtoc four)) (field_of extent) = in_flat extents_in_set (sets_of vtoc) set (field_of extent) set_there (field_in_set extent in_row) in
      let run = run_of vtoc.heads (field_of extent) in
      let of_runs : Contains (runs_by vtoc.heads (layout_of vtoc four)) run = contains_map (run_of vtoc.heads) (extents_by (layout_of vtoc four)) (field_of extent) of_all in
      let below : end_of run ≤ volume.usable =
      ends was run (in_later track_0 run (vtoc.run ∷ extents_in vtoc) (in_later vtoc.run run (extents_in vtoc) (extent_there was run of_runs))) in
      let is : is_run vtoc.heads vtoc.limit (field_of extent) ≡ true =
      All-contains (λ (field : ExtentField). is_run vtoc.heads vtoc.limit field ≡ true) (extents_by (layout_of vtoc four)) (field_of extent) (apart was).ranges of_all in
      subst (λ (heads : ℕ). is_run heads volume.usable (field_of extent) ≡ true) (sym (heads_same was)) (run_below vtoc.heads vtoc.limit volume.usable (field_of extent) is below)

  runs_apart : AreApart (runs_in (heads_of volume.device) row.extents)
  runs_apart =
      let of_set : SetRecords → List Run = λ set. map (run_of vtoc.heads) (extents_in_set set) in
      let all : AreApart (flat_map of_set (sets_of vtoc)) = subst AreApart (map_flat (run_of vtoc.heads) extents_in_set (sets_of vtoc)) (apart was).apart in
      subst AreApart (sym (λ i. map (run_of (heads_same was i)) (fields_same i))) (apart_each of_set (sets_of vtoc) set all set_there)

  placed : IsLoadedRow volume row
  placed = record {
    named = All-contains HasItsName volume.rows row was.volume_is.names_are c;
    format = ap format_of f1_same ∙ set_records.one_is;
    there = all_from IsThere row.extents kind_some;
    ranges = all_from (λ extent. is_run (heads_of volume.device) volume.usable (field_of extent) ≡ true) row.extents in_range;
    apart = runs_apart;
  }

module _ {head : Head} {label : Label} {unit : Slots} {before : Bool} {slots : List ℕ} {volume : Volume} {vtoc : Vtoc} {four : Placed}
    (was : WasLoaded head label unit before slots volume vtoc four) where
  -- the runs of two rows have no track in common
  none_shared : (row other : Row) → Contains volume.rows row → Contains volume.rows other → row.name ≢ other.name
      → NoneShared (runs_in (heads_of volume.device) row.extents) (runs_in (heads_of volume.device) other.extents)
  none_shared row other here there differ =
      let one = set_of_row was row here in
      let two = set_of_row was other there in
      let of_set : SetRecords → List Run = λ set. map (run_of vtoc.heads) (extents_in_set set) in
      let all : AreApart (flat_map of_set (sets_of vtoc)) = subst AreApart (map_flat (run_of vtoc.heads) extents_in_set (sets_of vtoc)) (apart was).apart in
      let none : NoneShared (of_set one.set) (of_set two.set) =
      apart_two of_set (sets_of vtoc) one.set two.set all one.there two.there (λ same. differ (sym one.named ∙ ap name_of same ∙ two.named)) in
      subst (λ (runs : List Run). NoneShared runs (runs_in (heads_of volume.device) other.extents)) (sym (λ i. map (run_of (heads_same was i)) (fields_same was row here i)))
      (subst (NoneShared (of_set one.set)) (sym (λ i. map (run_of (heads_same was i)) (fields_same was other there i))) none)

-- ---- a volume that was loaded from slots

pub sound_named : (volume : Volume) → IsSound volume → AreNamed volume.rows
sound_named volume sound = rows_named (from_slots sound.3)

pub sound_row : (volume : Volume) → IsSound volume → (row : Row) → Contains volume.rows row → IsLoadedRow volume row
sound_row volume sound row there = placed (from_slots sound.3) row there

-- its extents are runs of the largest volume's tracks
pub sound_runs : (volume : Volume) → IsSound volume → (row : Row) → Contains volume.rows row → AreRuns volume.device row.extents
sound_runs volume sound row there =
    let heads = heads_of volume.device in
    let ranges = (sound_row volume sound row there).ranges in
    (λ k d less. let field = field_of (get_or row.extents k d) in
    run_below heads volume.usable 65536 field (ranges k d less) (omega (arith, (run_facts heads volume.usable field (ranges k d less)).0, usable_small (from_slots sound.3))))

-- the runs of rows of different names have no track in common
pub sound_apart : (volume : Volume) → IsSound volume → (row other : Row) → Contains volume.rows row → Contains volume.rows other → row.name ≢ other.name
    → NoneShared (runs_in (heads_of volume.device) row.extents) (runs_in (heads_of volume.device) other.extents)
sound_apart volume sound row other here there differ = none_shared (from_slots sound.3) row other here there differ
