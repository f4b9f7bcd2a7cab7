-- Units of which free tracks were written load as they did.
use Rattle.std.proofs.Common.{◌≡◌, ℕ, ◌+◌, ◌<◌, ◌≤◌, List, Bool, false, Some, refl, sym, subst, ◌∙◌, arith}
use Rattle.std.specs.Prelude.{slice_get, slice_index_or, None}
use Rattle.std.proofs.lemmas.Option.{same_Some, slice_get_within}
use Rattle.ckd_image.specs.declared.head.Head.{Head}
use Rattle.ckd_image.specs.declared.track.Cchhr.{Cchhr}
use Rattle.ckd_image.specs.Address.{address_of}
use Rattle.ckd_image.specs.Device.{heads_of, slot_of}
use Rattle.ckd_image.specs.Track.{IsTrackText}
use Rattle.dasd_pool.specs.Disk.{Image}
use Rattle.free_map.specs.declared.run.Run.{Run}
use Rattle.free_map.specs.Free.{IsFree}
use Rattle.free_map.specs.Runs.{HasTrack}
use Rattle.vol_label.specs.declared.label.Label.{Label}
use Rattle.volume_model.specs.declared.why.Why.{Why}
use Rattle.volume_model.specs.declared.place.Vtoc.{Vtoc}
use Rattle.volume_model.specs.Reads.{HasLabelOf}
use Rattle.volume_model.specs.Sound.{Slots, IsTrackReading, IsVtoc}
use Rattle.vtoc_check.specs.Slots.{AreSlotsOf}
use Rattle.vtoc_core.specs.declared.volume.Volume.{Volume}
use Rattle.vtoc_load.specs.LoadedVtoc.{IsLoadedVtoc}
use Rattle.unit_change.specs.vtoc_render.Next.{runs_of_rows}
use Rattle.unit_change.proofs.vtoc_render.PlacedTracks.{IsUnused}
use Rattle.unit_change.specs.Described.{AreShort}
use Rattle.unit_change.proofs.FormatFour.{home_of, home_in}
use Rattle.unit_change.proofs.LoadedTracks.{free_unused_by_rows}
use Rattle.unit_change.proofs.LoadedUnits.{pointer_short}
use Rattle.unit_load.specs.declared.state.UnitState.{UnitState}
use Rattle.unit_load.specs.declared.state.UnitState.TheVariants as states
use Rattle.unit_load.specs.Kept.{AreKeptOf}
use Rattle.unit_load.specs.State.{IsStateOf}
use Rattle.move_core.proofs.Frames.{format4_moves}
use Rattle.unit_steps.specs.Copied.{IsFreeAt, DifferOnFree}
use Rattle.unit_steps.specs.Laws.{CopiedUnitsLoad}
use Rattle.unit_load.proofs.Keeping.{few_tracks}

-- ---- a VTOC

vtoc_kept : (image : Head) (pointer : Cchhr) (old new : Slots) (sliding : Bool) (vtoc : Vtoc) → IsVtoc image old pointer sliding vtoc → new (home_of image pointer) ≡ old (home_of image pointer)
    → ((k : ℕ) → k < vtoc.run.len → new (vtoc.run.first + k) ≡ old (vtoc.run.first + k)) → IsVtoc image new pointer sliding vtoc
vtoc_kept image pointer old new sliding vtoc is home same = record {
  bytes = is.bytes;
  format_4 = format4_moves (heads_of image.device) pointer old new home is.bytes is.format_4;
  geometry = is.geometry;
  extent = is.extent;
  heads_are = is.heads_are;
  limit_is = is.limit_is;
  place_is = is.place_is;
  valid_is = is.valid_is;
  alternates_are = is.alternates_are;
  run_is = is.run_is;
  reading = record {
    whole = is.reading.whole;
    each = λ k less.
        subst (λ (slot : List ℕ). IsTrackReading (heads_of image.device) (vtoc.run.first + k) slot (slice_index_or vtoc.tracks k None)) (sym (same k less)) (is.reading.each k less);
  };
}

-- ---- an online unit

module _ (head : List ℕ) (blocks : ℕ) (old new : Slots) (volume : Volume) (is : IsStateOf false head blocks old (states.Online volume)) (short : AreShort blocks old)
    (same : (track : ℕ) → ¬ IsFree volume.free track → new track ≡ old track) where
  abbrev image : Head
  image = is.0

  abbrev label : Label
  label = is.1

  abbrev loaded : IsLoadedVtoc image label old false volume
  loaded = is.3

  few : image.tracks ≤ 65535
  few = few_tracks head blocks image is.2.head_stands

  unused : (track : ℕ) → IsFree volume.free track → IsUnused volume.usable loaded.vtoc.run (runs_of_rows volume volume.rows) track
  unused = free_unused_by_rows loaded few (pointer_short head blocks old image label volume few short is.2 loaded)

  first_same : new 0 ≡ old 0
  first_same = same 0 (λ free. (unused 0 free).some refl)

  vtoc_same : (track : ℕ) → HasTrack loaded.vtoc.run track → new track ≡ old track
  vtoc_same track held = same track (λ free. (unused track free).off held)

  place_same : (k : ℕ) → k < loaded.vtoc.run.len → new (loaded.vtoc.run.first + k) ≡ old (loaded.vtoc.run.first + k)
  place_same k less = vtoc_same (loaded.vtoc.run.first + k) (omega arith, omega (arith, less))

  labelled : HasLabelOf head blocks new image label
  labelled = record {
    head_stands = is.2.head_stands;
    text = is.2.text;
    text_stands = subst (λ (slot : List ℕ). IsTrackText (address_of (heads_of image.device) 0) slot is.2.text) (sym first_same) is.2.text_stands;
    stands = is.2.stands;
  }

  loads : IsLoadedVtoc image label new false volume
  unfolding vtoc_kept
  loads = record {
    vtoc = loaded.vtoc;
    four = loaded.four;
    stands =
        record {
          stands =
              vtoc_kept image label.vtoc old new false loaded.vtoc loaded.stands.stands
              (vtoc_same (home_of image label.vtoc) (home_in image old label.vtoc false loaded.vtoc loaded.stands.stands)) place_same;
          four_is = loaded.stands.four_is;
        };
    sized = loaded.sized;
    sound = loaded.sound;
    volume = loaded.volume;
  }

  online_kept : IsStateOf false head blocks new (states.Online volume)
  online_kept = (image, label, labelled, loads)

  slots_kept : (slots : List ℕ) → AreSlotsOf volume.vtoc (slot_of volume.device) slots old → AreSlotsOf volume.vtoc (slot_of volume.device) slots new
  slots_kept slots are k less =
      let held : HasTrack loaded.vtoc.run (volume.vtoc.first + k) = subst (λ (run : Run). HasTrack run (volume.vtoc.first + k)) loaded.volume.vtoc_is (omega arith, omega (arith, less)) in
      vtoc_same (volume.vtoc.first + k) held ∙ are k less

-- ---- units

-- a free track of a unit that was loaded is one of its volume's
pub free_of : (units : List UnitState) (u track : ℕ) (volume : Volume) → slice_get units u ≡ Some (states.Online volume) → IsFreeAt units u track → IsFree volume.free track
free_of units u track volume at (other, loaded, free) =
    let states : states.Online other ≡ states.Online volume = same_Some (states.Online other) (states.Online volume) (sym loaded ∙ at) in
    let same : other ≡ volume = cc in
    subst (λ (v : Volume). IsFree v.free track) same free

none_offline : (units : List UnitState) (u track : ℕ) (why : Why) → slice_get units u ≡ Some (states.Offline why) → ¬ IsFreeAt units u track
none_offline units u track why at (other, loaded, free) =
    let states : states.Online other ≡ states.Offline why = same_Some (states.Online other) (states.Offline why) (sym loaded ∙ at) in cc

module _ (units : List UnitState) (old new : Image) (differ : DifferOnFree units old new) (u : ℕ) where
  same_offline : (why : Why) → slice_get units u ≡ Some (states.Offline why) → old u ≡ new u
  same_offline why at = λ i b. sym (differ u b (none_offline units u b why at)) i

  state_kept : (head : List ℕ) (blocks : ℕ) (state : UnitState) → slice_get units u ≡ Some state → AreShort blocks (old u) → IsStateOf false head blocks (old u) state
      → IsStateOf false head blocks (new u) state
  state_kept head blocks (states.Online volume) at short is =
      online_kept head blocks (old u) (new u) volume is short (λ track taken. differ u track (λ free. taken (free_of units u track volume at free)))
  state_kept head blocks (states.Offline why) at short is = subst (λ (slots : Slots). IsStateOf false head blocks slots (states.Offline why)) (same_offline why at) is

  kept_kept : (head : List ℕ) (blocks : ℕ) (state : UnitState) (slots : List ℕ) → slice_get units u ≡ Some state → AreShort blocks (old u) → IsStateOf false head blocks (old u) state
      → AreKeptOf (old u) state slots → AreKeptOf (new u) state slots
  kept_kept head blocks (states.Online volume) slots at short is are =
      slots_kept head blocks (old u) (new u) volume is short (λ track taken. differ u track (λ free. taken (free_of units u track volume at free))) slots are
  kept_kept head blocks (states.Offline why) slots at short is are = are

pub copied_load : CopiedUnitsLoad
copied_load shape old new units vtocs have loaded kept differ short = (
  λ u state at.
      let is = loaded u state at in
      (state_kept units old new differ u (shape.head u) (shape.blocks u) state at is.1 is.0, short u (omega (arith, slice_get_within units u state at, have))),
  λ u state slots at here.
      let is = loaded u state at in
      kept_kept units old new differ u (shape.head u) (shape.blocks u) state slots at is.1 is.0 (kept u state slots at here),
)
