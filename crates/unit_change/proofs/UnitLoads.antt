-- A change may be rendered on the slots of an online unit.
use Rattle.std.proofs.Common.{◌≡◌, ℕ, ◌+◌, ◌-◌, ◌*◌, ◌<◌, ◌≤◌, List, length, take, drop, false, refl, sym, ap, subst, ◌∙◌, arith}
use Rattle.std.proofs.lemmas.List.{length-take, length-drop}
use Rattle.ckd_image.specs.declared.device.Device.{Device}
use Rattle.ckd_image.specs.declared.device.Device.TheVariants.{D3390, D3380, D3350}
use Rattle.ckd_image.specs.declared.head.Head.{Head}
use Rattle.ckd_image.specs.Device.{slot_of}
use Rattle.free_map.specs.declared.run.Run.{Run}
use Rattle.vol_label.specs.declared.label.Label.{Label}
use Rattle.vol_label.specs.Label.{IsLabel}
use Rattle.volume_model.specs.Reads.{HasImage, IsFirstText, HasLabelOf}
use Rattle.volume_model.specs.Sound.{Slots}
use Rattle.volume_model.specs.Unit.{OnlineVolume}
use Rattle.vtoc_check.specs.Slots.{AreSlotsOf}
use Rattle.vtoc_core.specs.declared.volume.Volume.{Volume}
use Rattle.vtoc_load.specs.LoadedVtoc.{IsLoadedVtoc}
use Rattle.vtoc_render.specs.render_laws.Rendered.{WasLoaded}
use Rattle.unit_change.specs.Changed.{IsUnitOf, OnlineUnitsLoad}
use Rattle.unit_change.proofs.FormatFour.{home_of}
use Rattle.unit_change.proofs.LoadedTracks.{four, four_here}
use Rattle.unit_change.proofs.LoadedUnits.{pointer_short}

-- slots of a whole number of tracks have each track's whole
pub slot_long : (device : Device) (first k len : ℕ) (slots : List ℕ) → k < len → length slots ≡ len * slot_of device
    → length (take (slot_of device) (drop ((first + k - first) * slot_of device) slots)) ≡ slot_of device
slot_long D3390 first k len slots less long =
    omega (arith, length-take (slot_of D3390) (drop ((first + k - first) * slot_of D3390) slots), length-drop ((first + k - first) * slot_of D3390) slots, less, long)
slot_long D3380 first k len slots less long =
    omega (arith, length-take (slot_of D3380) (drop ((first + k - first) * slot_of D3380) slots), length-drop ((first + k - first) * slot_of D3380) slots, less, long)
slot_long D3350 first k len slots less long =
    omega (arith, length-take (slot_of D3350) (drop ((first + k - first) * slot_of D3350) slots), length-drop ((first + k - first) * slot_of D3350) slots, less, long)

module _ {head : List ℕ} {blocks : ℕ} {slots : Slots} {image : Head} {label : Label} {volume : OnlineVolume} {loaded : Volume} {vtoc_slots : List ℕ}
    (of : IsUnitOf head blocks slots image label volume loaded vtoc_slots) where
  abbrev is : IsLoadedVtoc image label slots false loaded
  is = of.loaded_is

  -- head and label, as they were read
  pub head_stands : HasImage head blocks image
  head_stands = subst (HasImage head blocks) (sym of.image_is) (record { stands = of.online.stands.head_stands; tracks_are = of.online.stands.tracks_are })

  pub first_text : IsFirstText image slots of.online.stands.track_0
  first_text = subst (λ (i : Head). IsFirstText i slots of.online.stands.track_0) (sym of.image_is) of.online.stands.track_0_stands

  pub label_stands : IsLabel image of.online.stands.track_0.recs label
  label_stands =
      subst (λ (l : Label). IsLabel image of.online.stands.track_0.recs l) (sym of.label_is)
      (subst (λ (i : Head). IsLabel i of.online.stands.track_0.recs of.online.found.label) (sym of.image_is) of.online.stands.label_stands)

  pub labelled : HasLabelOf head blocks slots image label
  labelled = record { head_stands = head_stands; text = of.online.stands.track_0; text_stands = first_text; stands = label_stands }

  pub four_short : length (slots (home_of image label.vtoc)) ≤ 65536
  four_short = pointer_short head blocks slots image label loaded of.few of.short labelled of.loaded_is

  of_device : AreSlotsOf is.vtoc.run (slot_of image.device) vtoc_slots slots
  of_device =
      subst (λ (d : Device). AreSlotsOf is.vtoc.run (slot_of d) vtoc_slots slots) is.volume.device_is
      (subst (λ (run : Run). AreSlotsOf run (slot_of loaded.device) vtoc_slots slots) is.volume.vtoc_is of.slots_are)

  whole : length vtoc_slots ≡ is.vtoc.run.len * slot_of image.device
  whole = of.whole ∙ (λ i. (is.volume.vtoc_is i).len * slot_of (is.volume.device_is i))

  pub was_loaded : WasLoaded image label slots false vtoc_slots loaded of.loaded_is.vtoc (four of.loaded_is of.few four_short)
  was_loaded = record {
    small = of.few;
    stands = is.stands;
    sized = is.sized;
    sound = is.sound;
    volume_is = is.volume;
    slots_are = of_device;
    long = λ k less. ap length (of_device k less) ∙ slot_long image.device is.vtoc.run.first k is.vtoc.run.len vtoc_slots less whole;
    four_there = four_here is of.few four_short;
    four_at = refl;
  }

pub online_loads : OnlineUnitsLoad
online_loads head blocks slots image label volume loaded vtoc_slots of = record {
  head = image;
  label = label;
  unit = slots;
  sliding = false;
  vtoc = of.loaded_is.vtoc;
  four = four of.loaded_is of.few (four_short of);
  was = was_loaded of;
  whole = of.whole;
}
