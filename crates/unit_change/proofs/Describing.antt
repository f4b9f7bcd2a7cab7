-- An online volume is what the volume that was loaded from it describes.
use Rattle.std.proofs.Common.{◌≡◌, ℕ, ◌≤◌, not, List, [], ◌∷◌, ◌++◌, length, map, All, false, refl, sym, ap, subst, ◌∙◌, arith, sum_by}
use Rattle.std.proofs.lemmas.List.Elements.{All-head, All-tail}
use Rattle.std.proofs.lemmas.List.Sums.{sum-map, sum_by-cons}
use Rattle.ckd_image.specs.declared.device.Device.{Device}
use Rattle.ckd_image.specs.declared.head.Head.{Head}
use Rattle.ckd_image.specs.Device.{heads_of}
use Rattle.dscb_rec.specs.declared.field.Extent.{Extent as Field}
use Rattle.free_map.specs.declared.run.Run.{Run}
use Rattle.free_map.specs.Free.{IsFree}
use Rattle.free_map.specs.Runs.{HasTrack, InRuns}
use Rattle.vol_label.specs.declared.label.Label.{Label}
use Rattle.volume_model.specs.declared.place.Vtoc.{Vtoc}
use Rattle.volume_model.specs.Changed.{records_for as records_of_set, free_records}
use Rattle.volume_model.specs.Check.{records_of, fives_of, usable_in}
use Rattle.volume_model.specs.Directory.{DirectoryRow}
use Rattle.volume_model.specs.Reads.{IsDataSet, AreDataSets, IsOnline, extent_in, has_index}
use Rattle.volume_model.specs.Sound.{Slots}
use Rattle.volume_model.specs.Space.{run_of}
use Rattle.volume_model.specs.Unit.{Extent, DataSet, OnlineVolume, run_in, runs_of_sets, IsFreeTrack}
use Rattle.vtoc_core.specs.declared.volume.Row.{Row}
use Rattle.vtoc_core.specs.declared.volume.Volume.{Volume}
use Rattle.vtoc_core.specs.Loaded.{row_in, field_of, records_for, HasItsName}
use Rattle.vtoc_load.specs.LoadedVtoc.{IsLoadedVtoc}
use Rattle.volume_change.specs.Runs.{runs_in}
use Rattle.vtoc_render.specs.Next.{runs_of_rows}
use Rattle.vtoc_render.proofs.PlacedTracks.{IsUnused}
use Rattle.unit_change.specs.Described.{own_place, DescribesSet, DescribesSets, Describes}
use Rattle.unit_change.proofs.FormatFour.{home_of}
use Rattle.unit_change.proofs.LoadedTracks.{free_unused_by_rows, unused_by_rows_free, all_counted}

-- ---- rows and data sets

-- the extents of a row, as a data set has them
abbrev pub extents_in_row : ℕ → List Field → List Extent
extents_in_row heads extents = map (λ extent. extent_in heads (field_of extent)) extents

pub in_one_step : (heads : ℕ) (extents : List Field) → map (extent_in heads) (map field_of extents) ≡ extents_in_row heads extents
in_one_step heads [] = refl
in_one_step heads (extent ∷ extents) = (λ i. extent_in heads (field_of extent) ∷ in_one_step heads extents i)

describes_set : (heads : ℕ) (slots : Slots) (row : Row) (set : DataSet) → HasItsName row → IsDataSet heads own_place slots (row_in row) set → DescribesSet heads row set
describes_set heads slots row set named is = record {
  name_is = is.name_is ∙ sym named;
  fields_are = is.fields_are;
  extents_are = is.extents_are ∙ in_one_step heads row.extents;
  threes_are = is.threes_are;
}

pub describes_sets : (heads : ℕ) (slots : Slots) (rows : List Row) (sets : List DataSet) → All HasItsName rows → AreDataSets heads own_place slots (map row_in rows) sets
    → DescribesSets heads rows sets
describes_sets heads slots [] [] named are = tt
describes_sets heads slots [] (set ∷ sets) named are = absurd are
describes_sets heads slots (row ∷ rows) [] named are = absurd are
describes_sets heads slots (row ∷ rows) (set ∷ sets) named are =
    (describes_set heads slots row set (All-head HasItsName row rows named) are.0, describes_sets heads slots rows sets (All-tail HasItsName row rows named) are.1)

-- ---- what is described

pub runs_in_row : (heads : ℕ) (extents : List Field) → map run_in (extents_in_row heads extents) ≡ runs_in heads extents
runs_in_row heads [] = refl
runs_in_row heads (extent ∷ extents) = (λ i. run_of heads (field_of extent) ∷ runs_in_row heads extents i)

pub runs_described : (volume : Volume) (rows : List Row) (sets : List DataSet) → DescribesSets (heads_of volume.device) rows sets → runs_of_sets sets ≡ runs_of_rows volume rows
runs_described volume [] [] are = refl
runs_described volume [] (set ∷ sets) are = absurd are
runs_described volume (row ∷ rows) [] are = absurd are
runs_described volume (row ∷ rows) (set ∷ sets) are =
    let here : map run_in set.extents ≡ runs_in (heads_of volume.device) row.extents = ap (map run_in) are.0.extents_are ∙ runs_in_row (heads_of volume.device) row.extents in
    (λ i. here i ++ runs_described volume rows sets are.1 i)

pub uses_described : (heads : ℕ) (rows : List Row) (sets : List DataSet) → DescribesSets heads rows sets → sum_by records_of_set sets ≡ sum_by records_for rows
uses_described heads [] [] are = refl
uses_described heads [] (set ∷ sets) are = absurd are
uses_described heads (row ∷ rows) [] are = absurd are
uses_described heads (row ∷ rows) (set ∷ sets) are =
    omega (arith, sum_by-cons records_of_set set sets, sum_by-cons records_for row rows, are.0.threes_are, uses_described heads rows sets are.1)

-- ---- a volume

-- what an online volume was found to be is what was loaded
pub record IsFoundLoaded {head : List ℕ} {blocks : ℕ} {slots : Slots} {image : Head} {label : Label} {volume : OnlineVolume} {loaded : Volume}
    (on : IsOnline false own_place head blocks slots volume) (is : IsLoadedVtoc image label slots false loaded) : Type 0 where
  pub image_is : on.stands.image ≡ image
  pub label_is : on.found.label ≡ label
  pub vtoc_is : on.stands.vtoc ≡ is.vtoc
  pub bytes_are : on.stands.vtoc_stands.bytes ≡ is.four
  pub rows_are : on.found.rows ≡ map row_in loaded.rows

module _ {head : List ℕ} {blocks : ℕ} {slots : Slots} {image : Head} {label : Label} {volume : OnlineVolume} {loaded : Volume}
    {on : IsOnline false own_place head blocks slots volume} {is : IsLoadedVtoc image label slots false loaded} (same : IsFoundLoaded on is)
    (small : image.tracks ≤ 65535) (short : length (slots (home_of image label.vtoc)) ≤ 65536) where
  device_found : on.found.device ≡ loaded.device
  device_found = on.stands.device_is ∙ ap (λ (i : Head). i.device) same.image_is ∙ sym is.volume.device_is

  pub usable_found : volume.usable ≡ loaded.usable
  usable_found = on.usable_is ∙ on.stands.usable_is ∙ ap usable_in same.vtoc_is ∙ sym is.volume.space.usable_is

  vtoc_found : volume.vtoc ≡ is.vtoc.run
  vtoc_found = on.vtoc_is ∙ ap (λ (v : Vtoc). v.run) same.vtoc_is

  pub sets_found : AreDataSets (heads_of loaded.device) own_place slots (map row_in loaded.rows) volume.sets
  sets_found =
      subst (λ (rows : List DirectoryRow). AreDataSets (heads_of loaded.device) own_place slots rows volume.sets) same.rows_are
      (subst (λ (d : Device). AreDataSets (heads_of d) own_place slots on.found.rows volume.sets) device_found on.sets_are)

  sets_described : DescribesSets (heads_of loaded.device) loaded.rows volume.sets
  sets_described = describes_sets (heads_of loaded.device) slots loaded.rows volume.sets is.volume.names_are sets_found

  runs_are : runs_of_sets volume.sets ≡ runs_of_rows loaded loaded.rows
  runs_are = runs_described loaded loaded.rows volume.sets sets_described

  free_to : (track : ℕ) → IsFreeTrack volume track → IsFree loaded.free track
  free_to track free =
      unused_by_rows_free is small short track (record {
        below = omega (arith, free.usable, usable_found);
        some = free.not_0;
        off = λ held. free.not_vtoc (subst (λ (run : Run). HasTrack run track) (sym vtoc_found) held);
        none = λ held. free.not_set (subst (λ (runs : List Run). InRuns runs track) (sym runs_are) held);
      })

  free_from : (track : ℕ) → IsFree loaded.free track → IsFreeTrack volume track
  free_from track free =
      let unused : IsUnused loaded.usable is.vtoc.run (runs_of_rows loaded loaded.rows) track = free_unused_by_rows is small short track free in
      record {
        usable = omega (arith, unused.below, usable_found);
        not_0 = unused.some;
        not_vtoc = λ held. unused.off (subst (λ (run : Run). HasTrack run track) vtoc_found held);
        not_set = λ held. unused.none (subst (λ (runs : List Run). InRuns runs track) runs_are held);
      }

  dscbs_found : volume.dscbs ≡ loaded.dscbs
  dscbs_found = on.dscbs_are ∙ ap (λ (v : Vtoc). length (records_of v)) same.vtoc_is ∙ sym is.volume.dscbs_are

  fives_found : volume.fives ≡ loaded.fives
  fives_found = on.fives_are ∙ ap (λ (v : Vtoc). length (fives_of v)) same.vtoc_is ∙ sym is.volume.fives_are

  free_counted : loaded.free_dscbs ≡ free_records volume
  free_counted =
      omega (
        arith,
        all_counted is small short,
        dscbs_found,
        fives_found,
        sum-map records_of_set volume.sets,
        uses_described (heads_of loaded.device) loaded.rows volume.sets sets_described,
      )

  pub describes : Describes loaded volume
  describes = record {
    serial_is = on.serial_is ∙ ap (λ (l : Label). l.serial) same.label_is ∙ sym is.volume.serial_is;
    device_is = on.device_is ∙ device_found;
    usable_is = usable_found;
    vtoc_is = vtoc_found ∙ sym is.volume.vtoc_is;
    sets_are = sets_described;
    free_are = record { apart = is.volume.space.free_are.apart; exact = λ track. (free_to track, free_from track) };
    repair_is = on.repair_is ∙ ap (λ (v : Vtoc). not v.valid) same.vtoc_is ∙ sym is.volume.repair_is;
    indexed_is = on.indexed_is ∙ ap has_index same.bytes_are ∙ sym is.volume.indexed_is;
    dscbs_are = dscbs_found;
    fives_are = fives_found;
    free_dscbs_are = free_counted;
  }
