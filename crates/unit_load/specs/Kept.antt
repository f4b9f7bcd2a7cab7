-- The slots of a unit's VTOC, which are kept beside what was loaded from them.
use Rattle.std.specs.Prelude.{◌≡◌, ℕ, ◌*◌, Bool, List, [], length}
use Rattle.ckd_image.specs.declared.head.Head.{Head}
use Rattle.ckd_image.specs.Device.{slot_of}
use Rattle.vol_label.specs.declared.label.Label.{Label}
use Rattle.volume_model.specs.Reads.{HasImage}
use Rattle.volume_model.specs.Sound.{Slots}
use Rattle.vtoc_check.specs.Slots.{AreSlotsOf}
use Rattle.vtoc_core.specs.declared.volume.Volume.{Volume}
use Rattle.vtoc_load.specs.LoadedVtoc.{IsLoadedVtoc}
use Rattle.unit_load.specs.declared.state.UnitState.{UnitState}
use Rattle.unit_load.specs.declared.state.UnitState.TheVariants as states

-- A volume was loaded from these slots of its VTOC, with a slide open on it or not, on a unit with this head and so many blocks, whatever its other tracks hold.
pub record IsFromSlots (sliding : Bool) (head : List ℕ) (blocks : ℕ) (volume : Volume) (slots : List ℕ) : Type 0 where
  pub image : Head
  pub label : Label
  pub unit : Slots
  pub image_is : HasImage head blocks image
  pub loaded : IsLoadedVtoc image label unit sliding volume
  pub slots_are : AreSlotsOf volume.vtoc (slot_of volume.device) slots unit
  pub whole : length slots ≡ volume.vtoc.len * slot_of volume.device

-- of an online unit the slots from which its volume was loaded are kept, and of another one none
abbrev pub IsKept : Bool → List ℕ → ℕ → UnitState → List ℕ → Type 0
IsKept sliding head blocks (states.Online volume) slots = IsFromSlots sliding head blocks volume slots
IsKept sliding head blocks (states.Offline why) slots = slots ≡ []

-- the kept slots are those of a unit's tracks
abbrev pub AreKeptOf : Slots → UnitState → List ℕ → Type 0
AreKeptOf unit (states.Online volume) slots = AreSlotsOf volume.vtoc (slot_of volume.device) slots unit
AreKeptOf unit (states.Offline why) slots = slots ≡ []
