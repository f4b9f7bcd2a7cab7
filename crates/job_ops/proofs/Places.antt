-- The place of a data set on a volume that was loaded, and on what it describes.
use Rattle.std.proofs.Common.{◌≡◌, ◌↔◌, ℕ, ◌+◌, ◌<◌, ◌≤◌, List, [], ◌∷◌, length, map, All, Contains, true, sym, ap, subst, arith}
use Rattle.std.proofs.lemmas.List.{length-append, length-map}
use Rattle.std.proofs.lemmas.List.Elements.{All-head}
use Rattle.ckd_image.specs.Device.{heads_of}
use Rattle.dscb_rec.specs.declared.field.Extent.{Extent as Field}
use Rattle.dsn_filter.specs.declared.dsn.Dsn.{Dsn}
use Rattle.dsn_filter.specs.Dsn.{IsDsn}
use Rattle.free_map.specs.Free.{IsFree}
use Rattle.free_map.specs.Place.{IsPlace, IsLowestPlace}
use Rattle.volume_model.specs.Dscbs.{numbers_below}
use Rattle.volume_model.specs.Pinned.{IsNameOf}
use Rattle.volume_model.specs.Reads.{extent_in}
use Rattle.volume_model.specs.Space.{is_run, run_of}
use Rattle.volume_model.specs.Unit.{Extent, DataSet, OnlineVolume, IsFreeTrack, tracks_in as tracks_in_run, tracks_of}
use Rattle.vtoc_check.proofs.Overlapping.{run_facts}
use Rattle.vtoc_core.specs.declared.volume.Row.{Row}
use Rattle.vtoc_core.specs.declared.volume.Volume.{Volume}
use Rattle.vtoc_core.specs.Loaded.{field_of}
use Rattle.volume_change.proofs.Names.{one_text}
use Rattle.dump_sets.specs.job_turns.job_copies.unit_change.Described.{DescribesSet, Describes}
use Rattle.unit_load.specs.declared.state.UnitState.{UnitState}
use Rattle.dump_sets.specs.job_turns.job_copies.unit_steps.Plans.{IsLoadedAt, HasRow, extents_in}
use Rattle.plan_core.specs.Consolidate.{IsRowOf, IsSized, IsPlaceFor, HasNoPlace}
use Rattle.dump_sets.specs.job_turns.job_copies.step_plans.Plans.{IsSound, IsPlaceOn}
use Rattle.dump_sets.proofs.job_turns.job_copies.step_plans.LoadedRows.{sound_row}
use Rattle.dump_sets.proofs.job_turns.job_copies.step_room.SoundRows.{one_row}
use Rattle.dump_sets.proofs.job_turns.job_copies.job_select.Counts.{row_tracks_few}
use Rattle.job_ops.proofs.ReshapeTargets.{described_by}
use Rattle.job_ops.proofs.NewKinds.{one_step}
use Rattle.job_ops.specs.Consolidate.{IsPlaceOf, LacksPlace}
use Rattle.volume_model.proofs.Numbers.{numbers_long}
use Rattle.dump_sets.proofs.job_turns.job_steps.unit_session.unit_steps.OneChange.{same_volume}

-- ---- places

-- there is one place
pub one_place : {set : ℕ → Type 0} {heads : ℕ} {extents : List Extent} {a b : ℕ} → IsPlaceFor set heads extents a → IsPlaceFor set heads extents b → a ≡ b
one_place {set} {heads} {extents} {a} {b} (step, step_is, one) (other_step, other_is, other) =
    let same : IsLowestPlace set (length (tracks_of extents)) step b =
    subst (λ (s : ℕ). IsLowestPlace set (length (tracks_of extents)) s b) (one_step heads extents other_step step other_is step_is) other in
    omega (arith, one.lowest b same.place, same.lowest a one.place)

pub has_place : {set : ℕ → Type 0} {heads : ℕ} {extents : List Extent} {first : ℕ} → IsPlaceFor set heads extents first → ¬ HasNoPlace set heads extents
has_place (step, step_is, lowest) none = none step _ step_is lowest.place

-- a place in one set is one in another with the same tracks
module _ {one other : ℕ → Type 0} (to : (track : ℕ) → one track → other track) where
  pub place_in : {need step start : ℕ} → IsPlace one need step start → IsPlace other need step start
  place_in place = record { aligned = place.aligned; held = λ track from below. to track (place.held track from below) }

module _ {one other : ℕ → Type 0} (same : (track : ℕ) → one track ↔ other track) where
  lowest_in : {need step start : ℕ} → IsLowestPlace one need step start → IsLowestPlace other need step start
  lowest_in lowest = record {
    place = place_in (λ track. (same track).0) lowest.place;
    lowest = λ start place. lowest.lowest start (place_in (λ track. (same track).1) place);
  }

  pub placed_in : {heads : ℕ} {extents : List Extent} {first : ℕ} → IsPlaceFor one heads extents first → IsPlaceFor other heads extents first
  placed_in (step, step_is, lowest) = (step, step_is, lowest_in lowest)

  pub none_in : {heads : ℕ} {extents : List Extent} → HasNoPlace one heads extents → HasNoPlace other heads extents
  none_in none step start step_is place = none step start step_is (place_in (λ track. (same track).1) place)

-- ---- the volume

-- the free tracks are those that were loaded
pub same_free : (loaded : Volume) (volume : OnlineVolume) → Describes loaded volume → (track : ℕ) → IsFree loaded.free track ↔ IsFreeTrack volume track
same_free loaded volume is track = ((is.free_are.exact track).1, (is.free_are.exact track).0)

module _ (loaded : Volume) (volume : OnlineVolume) (describes : Describes loaded volume) (row : Row) (set : DataSet) (is : DescribesSet (heads_of loaded.device) row set) where
  heads_told : heads_of volume.device ≡ heads_of loaded.device
  heads_told = ap heads_of describes.device_is

  pub place_told : (first : ℕ) → IsPlaceFor (IsFree loaded.free) (heads_of loaded.device) (extents_in loaded row) first → IsPlaceOf volume set first
  place_told first placed =
      subst (λ (heads : ℕ). IsPlaceFor (IsFreeTrack volume) heads set.extents first) (sym heads_told)
      (subst (λ (extents : List Extent). IsPlaceFor (IsFreeTrack volume) (heads_of loaded.device) extents first) (sym is.extents_are) (placed_in (same_free loaded volume describes) placed))

  pub none_told : HasNoPlace (IsFree loaded.free) (heads_of loaded.device) (extents_in loaded row) → LacksPlace volume set
  none_told none =
      subst (λ (heads : ℕ). HasNoPlace (IsFreeTrack volume) heads set.extents) (sym heads_told)
      (subst (λ (extents : List Extent). HasNoPlace (IsFreeTrack volume) (heads_of loaded.device) extents) (sym is.extents_are) (none_in (same_free loaded volume describes) none))

-- ---- what was loaded

-- a place that was found is one to move to
pub place_on : (volume : Volume) (row : Row) (first : ℕ) → IsPlaceFor (IsFree volume.free) (heads_of volume.device) (extents_in volume row) first → IsPlaceOn volume row volume first
place_on volume row first (step, step_is, lowest) = record { step = step; step_is = step_is; place = lowest.place }

some_tracks : (heads usable : ℕ) (extents : List Field) → All (λ extent. is_run heads usable (field_of extent) ≡ true) extents → 1 < length extents
    → 1 ≤ length (tracks_of (map (λ extent. extent_in heads (field_of extent)) extents))
some_tracks heads usable [] all more = absurd (omega (arith, more))
some_tracks heads usable (extent ∷ extents) all more =
    let run = run_of heads (field_of extent) in
    omega (
      arith,
      (run_facts heads usable (field_of extent) (All-head (λ (e : Field). is_run heads usable (field_of e) ≡ true) extent extents all)).1,
      length-map (numbers_below run.len) (λ place. run.first + place),
      numbers_long run.len,
      length-append (tracks_in_run run) (tracks_of (map (λ e. extent_in heads (field_of e)) extents)),
    )

-- a data set of several extents has a track, and no more than the largest volume
pub is_sized : (volume : Volume) → IsSound volume → (row : Row) → Contains volume.rows row → 1 < length row.extents → IsSized (extents_in volume row)
is_sized volume sound row there more = (
  some_tracks (heads_of volume.device) volume.usable row.extents (sound_row volume sound row there).ranges more,
  row_tracks_few volume sound row there,
)

-- ---- the data set of a name

module _ (loaded : Volume) (sound : IsSound loaded) (name : Dsn) (lawful : IsDsn name) (row : Row) (row_is : IsRowOf loaded name row) where
  has : HasRow loaded name row
  has = record { lawful = lawful; there = row_is.0; name_is = row_is.1 }

  -- there is one on the unit
  pub one_here : (units : List UnitState) (unit : ℕ) → IsLoadedAt units unit loaded → (volume : Volume) (other : Row) → IsLoadedAt units unit volume → HasRow volume name other
      → (loaded ≡ volume) × (row ≡ other)
  one_here units unit at volume other other_at other_has =
      let same : loaded ≡ volume = same_volume units unit loaded volume at other_at in
      let there : HasRow loaded name other = subst (λ (v : Volume). HasRow v name other) (sym same) other_has in
      (same, one_row loaded sound row other row_is.0 there.there (one_text name row.name other.name row_is.1 there.name_is))

  module _ (first : ℕ) (placed : IsPlaceFor (IsFree loaded.free) (heads_of loaded.device) (extents_in loaded row) first) where
    pub place_here : (units : List UnitState) (unit : ℕ) → IsLoadedAt units unit loaded → (volume : Volume) (other : Row) → IsLoadedAt units unit volume → HasRow volume name other
        → IsPlaceOn volume other volume first
    place_here units unit at volume other other_at other_has =
        let same = one_here units unit at volume other other_at other_has in
        subst (λ (v : Volume). IsPlaceOn v other v first) same.0 (subst (λ (r : Row). IsPlaceOn loaded r loaded first) same.1 (place_on loaded row first placed))

    pub place_seen : (volume : OnlineVolume) → Describes loaded volume → (set : DataSet) → Contains volume.sets set → IsNameOf name set.name → IsPlaceOf volume set first
    place_seen volume describes set there named =
        place_told loaded volume describes row set (described_by loaded volume name row set sound describes has there named) first placed

  pub none_seen : HasNoPlace (IsFree loaded.free) (heads_of loaded.device) (extents_in loaded row) → (volume : OnlineVolume) → Describes loaded volume → (set : DataSet) → Contains volume.sets set
      → IsNameOf name set.name → LacksPlace volume set
  none_seen none volume describes set there named = none_told loaded volume describes row set (described_by loaded volume name row set sound describes has there named) none
