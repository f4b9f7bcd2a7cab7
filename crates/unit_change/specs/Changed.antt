-- A unit after a change of its VTOC.
use Rattle.std.specs.Prelude.{◌≡◌, ◌≢◌, ℕ, ◌≤◌, ◌*◌, false, List, [], ◌∷◌, length, map}
use Rattle.ckd_image.specs.declared.head.Head.{Head}
use Rattle.ckd_image.specs.Device.{heads_of, slot_of}
use Rattle.vol_label.specs.declared.label.Label.{Label}
use Rattle.volume_model.specs.Changed.{threes_for, ChangesSets}
use Rattle.volume_model.specs.Pinned.{IsNameOf}
use Rattle.volume_model.specs.Reads.{IsOnline, extent_in, fields_of_1, AreTexts}
use Rattle.volume_model.specs.Sound.{Slots}
use Rattle.volume_model.specs.Unit.{Text, Extent, DataSet, OnlineVolume, tracks_of}
use Rattle.vtoc_check.specs.Slots.{AreSlotsOf}
use Rattle.vtoc_core.specs.declared.volume.Row.{Row}
use Rattle.vtoc_core.specs.declared.volume.Volume.{Volume}
use Rattle.vtoc_core.specs.Loaded.{field_of}
use Rattle.vtoc_load.specs.LoadedVtoc.{IsLoadedVtoc}
use Rattle.vtoc_rewrite.specs.Rewrite.{AreSlotsAfter}
use Rattle.volume_change.specs.declared.change.Change.{Change}
use Rattle.volume_change.specs.declared.change.Change.TheVariants.{Repair, Put, Swap, Remove, Mark}
use Rattle.vtoc_render.specs.declared.change.Rendered.{Rendered}
use Rattle.vtoc_render.specs.Change.{IsChangeWritten}
use Rattle.vtoc_render.specs.Loads.{LoadsFrom, OfEachVtoc}
use Rattle.vtoc_render.specs.Next.{MayChange, IsNext}
use Rattle.vtoc_render.specs.Render.{LoadsAfter}
use Rattle.unit_change.specs.Described.{own_place, AreShort, Describes}

-- ---- data sets that go and come

-- the extents of a row
abbrev pub extents_of : ℕ → Row → List Extent
extents_of heads row = map (λ extent. extent_in heads (field_of extent)) row.extents

-- the data set of a row once it is put, with these texts on its tracks
abbrev pub set_put : ℕ → Row → List Text → DataSet
set_put heads row texts =
    record { name = row.name; fields = fields_of_1 row.f1; extents = extents_of heads row; texts = texts; threes = threes_for (length row.extents) }

-- the data set that a change takes away, if it does
abbrev pub AreGone : Change → List DataSet → Type 0
AreGone Repair gone = gone ≡ []
AreGone (Put row) gone = gone ≡ []
AreGone (Swap name row) gone = (old : DataSet) × (gone ≡ old ∷ []) × (old.name ≡ row.name)
AreGone (Remove name) gone = (old : DataSet) × (gone ≡ old ∷ []) × IsNameOf name old.name
AreGone Mark gone = ⊥

-- the one that it puts, if it does, where these texts stand on its tracks
abbrev pub sets_put : ℕ → Change → List Text → List DataSet
sets_put heads (Put row) texts = set_put heads row texts ∷ []
sets_put heads (Swap name row) texts = set_put heads row texts ∷ []
sets_put heads _ texts = []

-- these texts stand there
abbrev pub AreTextsPut : ℕ → Slots → Change → List Text → Type 0
AreTextsPut heads slots (Put row) texts = AreTexts heads own_place slots (tracks_of (extents_of heads row)) texts
AreTextsPut heads slots (Swap name row) texts = AreTexts heads own_place slots (tracks_of (extents_of heads row)) texts
AreTextsPut heads slots _ texts = texts ≡ []

-- ---- laws

-- what a unit says from which a volume was loaded, and the slots of its VTOC
pub record IsUnitOf (head : List ℕ) (blocks : ℕ) (slots : Slots) (image : Head) (label : Label) (volume : OnlineVolume) (loaded : Volume) (vtoc_slots : List ℕ) : Type 0 where
  pub few : image.tracks ≤ 65535
  pub short : AreShort blocks slots
  pub online : IsOnline false own_place head blocks slots volume
  pub image_is : image ≡ online.stands.image
  pub label_is : label ≡ online.found.label
  pub loaded_is : IsLoadedVtoc image label slots false loaded
  pub slots_are : AreSlotsOf loaded.vtoc (slot_of loaded.device) vtoc_slots slots
  pub whole : length vtoc_slots ≡ loaded.vtoc.len * slot_of loaded.device

-- A change may be rendered on the slots of such a unit.
abbrev pub OnlineUnitsLoad : Type 0
OnlineUnitsLoad =
    (head : List ℕ) (blocks : ℕ) (slots : Slots) (image : Head) (label : Label) (volume : OnlineVolume) (loaded : Volume) (vtoc_slots : List ℕ)
    → IsUnitOf head blocks slots image label volume loaded vtoc_slots → LoadsFrom loaded vtoc_slots

-- Once the tracks of a rendered change are written, and no other track changes, the unit is the volume after that change, and the rendered volume
-- describes it. What is put has the texts that stand on its tracks.
abbrev pub RenderedUnitsStand : Type 0
RenderedUnitsStand =
    (head : List ℕ) (blocks : ℕ) (old new : Slots) (image : Head) (label : Label) (before : OnlineVolume) (loaded : Volume) (vtoc_slots : List ℕ) (change : Change) (rendered : Rendered)
    (texts : List Text)
    → IsUnitOf head blocks old image label before loaded vtoc_slots → MayChange loaded change → change ≢ Mark → IsNext loaded change rendered.next
    → LoadsAfter loaded vtoc_slots change rendered → OfEachVtoc loaded vtoc_slots (IsChangeWritten loaded vtoc_slots change rendered)
    → AreSlotsAfter loaded.vtoc rendered.blocks old new → AreShort blocks new → AreTextsPut (heads_of loaded.device) old change texts
    → (after : OnlineVolume) × (gone : List DataSet) × IsOnline false own_place head blocks new after × Describes rendered.next after
    × ChangesSets before after gone (sets_put (heads_of loaded.device) change texts) × AreGone change gone
