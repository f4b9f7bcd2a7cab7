-- The slots from which a volume was loaded are those of its VTOC.
use Rattle.std.proofs.Common.{◌≡◌, ℕ, ◌+◌, ◌*◌, ◌<◌, ◌≤◌, List, length, Bool, refl, sym, ap, subst, ◌∙◌, arith}
use Rattle.ckd_image.specs.declared.device.Device.{Device}
use Rattle.ckd_image.specs.declared.device.Device.TheVariants.{D3390, D3380, D3350}
use Rattle.ckd_image.specs.declared.head.Head.{Head}
use Rattle.ckd_image.specs.declared.track.Cchhr.{Cchhr}
use Rattle.ckd_image.specs.declared.track.TrackAt.{TrackAt}
use Rattle.ckd_image.specs.Address.{IsAddress}
use Rattle.ckd_image.specs.Device.{heads_of, slot_of}
use Rattle.free_map.specs.declared.run.Run.{Run}
use Rattle.free_map.specs.Runs.{HasTrack}
use Rattle.vol_label.specs.declared.label.Label.{Label}
use Rattle.vol_label.specs.Label.{IsInside}
use Rattle.volume_model.specs.Dscbs.{extent_at}
use Rattle.volume_model.specs.Reads.{HasImage}
use Rattle.volume_model.specs.Sound.{Slots}
use Rattle.volume_model.specs.Space.{run_of, track_at}
use Rattle.vtoc_check.specs.Front.{IsFront, IsVtocRun}
use Rattle.vtoc_check.specs.Slots.{slot_in, AreSlotsOf}
use Rattle.vtoc_check.proofs.VtocRead.{same_run, slot_short}
use Rattle.vtoc_core.specs.declared.volume.Volume.{Volume}
use Rattle.vtoc_load.specs.LoadedVtoc.{IsLoadedVtoc}
use Rattle.unit_load.specs.Kept.{IsFromSlots}
use Rattle.unit_load.proofs.Runs.{run_holds}

-- an address on an image fits its bytes
address_in : (device : Device) (at : TrackAt) (tracks : ℕ) → at.head < heads_of device → at.cylinder * heads_of device + at.head < tracks → tracks ≤ 65535 → IsAddress at
address_in D3390 at tracks head within few = (omega (arith, within, few), omega (arith, head))
address_in D3380 at tracks head within few = (omega (arith, within, few), omega (arith, head))
address_in D3350 at tracks head within few = (omega (arith, within, few), omega (arith, head))

pub few_tracks : (head : List ℕ) (blocks : ℕ) (image : Head) → HasImage head blocks image → image.tracks ≤ 65535
few_tracks head blocks image has = omega (arith, has.tracks_are, has.stands.cylinders.1)

-- slots that were read are those of the unit, by the size that its device says
pub read_slots : (run : Run) (size said : ℕ) (read slots : List ℕ) (now unit : Slots) → size ≡ said → slots ≡ read → now ≡ unit → AreSlotsOf run size read now → AreSlotsOf run said slots unit
read_slots run size said read slots now unit long same still are =
    subst (λ (s : Slots). AreSlotsOf run said slots s) still
    (subst (λ (l : List ℕ). AreSlotsOf run said l now) (sym same) (subst (λ (n : ℕ). AreSlotsOf run n read now) long are))

-- the run of a VTOC is the one that its own slots say, as the one that was at hand says it
pub run_stands : (image : Head) (pointer : Cchhr) (run : Run) (size track : ℕ) (read slots slot hand : List ℕ)
    → ((unit : Slots) → unit (track_at (heads_of image.device) pointer.at) ≡ slot → IsVtocRun image unit pointer run)
    → track_at (heads_of image.device) pointer.at ≡ track → size ≡ slot_of image.device → slots ≡ read → hand ≡ slot → (HasTrack run track → slot_in run size read track ≡ hand)
    → IsVtocRun image (slot_in run (slot_of image.device) slots) pointer run
run_stands image pointer run size track read slots slot hand stands home long same told at_hand =
    let first : IsVtocRun image (λ _. slot) pointer run = stands (λ _. slot) refl in
    let holds : HasTrack run track = subst (λ (n : ℕ). HasTrack run n) home (run_holds image (λ _. slot) pointer run first) in
    let there : slot_in run (slot_of image.device) slots track ≡ slot =
    ap (λ (l : List ℕ). slot_in run (slot_of image.device) l track) same ∙ (ap (λ (n : ℕ). slot_in run n read track) (sym long) ∙ (at_hand holds ∙ told)) in
    stands (slot_in run (slot_of image.device) slots) (ap (slot_in run (slot_of image.device) slots) home ∙ there)

module _ (sliding : Bool) (head : List ℕ) (blocks : ℕ) (image : Head) (label : Label) (run : Run) (slots : List ℕ) (volume : Volume) (has : HasImage head blocks image)
    (inside : IsInside image label.vtoc) (is : IsVtocRun image (slot_in run (slot_of image.device) slots) label.vtoc run)
    (loads : (unit : Slots) → AreSlotsOf run (slot_of image.device) slots unit → IsLoadedVtoc image label unit sliding volume) where
  loaded : IsLoadedVtoc image label (slot_in run (slot_of image.device) slots) sliding volume
  loaded = loads (slot_in run (slot_of image.device) slots) (λ k less. refl)

  run_is : volume.vtoc ≡ run
  run_is =
      let stands = loaded.stands.stands in
      let front : IsFront image (slot_in run (slot_of image.device) slots) label.vtoc stands.bytes = record { format_4 = stands.format_4; geometry = stands.geometry; extent = stands.extent } in
      let bytes : is.bytes ≡ stands.bytes =
      same_run image (slot_in run (slot_of image.device) slots) label.vtoc run stands.bytes
      (slot_short image.device run slots (track_at (heads_of image.device) label.vtoc.at)) is front in
      loaded.volume.vtoc_is ∙ (stands.run_is ∙ (ap (λ (four : List ℕ). run_of (heads_of image.device) (extent_at four 105)) (sym bytes) ∙ sym is.run_is))

  size_is : slot_of volume.device ≡ slot_of image.device
  size_is = ap slot_of loaded.volume.device_is

  -- they are those of a unit's VTOC where they are those of the run
  pub slots_of_vtoc : (unit : Slots) → AreSlotsOf run (slot_of image.device) slots unit → AreSlotsOf volume.vtoc (slot_of volume.device) slots unit
  slots_of_vtoc unit are =
      subst (λ (r : Run). AreSlotsOf r (slot_of volume.device) slots unit) (sym run_is) (subst (λ (n : ℕ). AreSlotsOf run n slots unit) (sym size_is) are)

  pub from_slots : length slots ≡ run.len * slot_of image.device → IsFromSlots sliding head blocks volume slots
  from_slots long = record {
    image = image;
    label = label;
    unit = slot_in run (slot_of image.device) slots;
    image_is = has;
    loaded = loaded;
    slots_are = slots_of_vtoc (slot_in run (slot_of image.device) slots) (λ k less. refl);
    whole = long ∙ (ap (λ (r : Run). r.len * slot_of image.device) (sym run_is) ∙ ap (λ (n : ℕ). volume.vtoc.len * n) (sym size_is));
  }
