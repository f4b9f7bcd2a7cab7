-- A volume that was loaded from the slots of its VTOC.
use Rattle.std.specs.Prelude.{◌≡◌, ℕ, ◌*◌, ◌≤◌, Bool, List, [], length, Option, Some, None}
use Rattle.std.specs.Option.{option_to_list}
use Rattle.ckd_image.specs.declared.head.Head.{Head}
use Rattle.ckd_image.specs.Device.{slot_of}
use Rattle.vol_label.specs.declared.label.Label.{Label}
use Rattle.volume_model.specs.declared.place.Placed.{Placed}
use Rattle.volume_model.specs.declared.place.Vtoc.{Vtoc}
use Rattle.volume_model.specs.Sound.{Slots}
use Rattle.volume_model.specs.Check.{records_of}
use Rattle.vtoc_check.specs.Slots.{AreSlotsOf}
use Rattle.vtoc_core.specs.declared.volume.Volume.{Volume}
use Rattle.vtoc_load.specs.LoadedVtoc.{IsLoadedVtoc}
use Rattle.vtoc_layout.specs.Layout.{SetRecords, layout_of}
use Rattle.layout_found.specs.Sets.{set_named}
use Rattle.vtoc_allot.specs.declared.held.Held.{Held}
use Rattle.vtoc_plan.specs.Plan.{HoldsLayout}
use Rattle.render_laws.specs.Rendered.{WasLoaded}
use Rattle.vtoc_render.specs.declared.ground.Ground.{Ground}

-- some head, label and slots of a unit say so
pub record LoadsFrom (volume : Volume) (slots : List ℕ) : Type 0 where
  pub head : Head
  pub label : Label
  pub unit : Slots
  pub sliding : Bool
  pub vtoc : Vtoc
  pub four : Placed
  pub was : WasLoaded head label unit sliding slots volume vtoc four
  pub whole : length slots ≡ volume.vtoc.len * slot_of volume.device

-- whichever say so, this holds of their VTOC and its format 4
abbrev pub OfEachVtoc : Volume → List ℕ → (Vtoc → Placed → Type 0) → Type 0
OfEachVtoc volume slots P =
    (head : Head) (label : Label) (unit : Slots) (sliding : Bool) (vtoc : Vtoc) (four : Placed) → WasLoaded head label unit sliding slots volume vtoc four → P vtoc four

-- the records that were found are the VTOC's, and so is the format 4
pub record IsGroundOf (base : Ground) (vtoc : Vtoc) (four : Placed) : Type 0 where
  pub records_are : base.directory.records.items ≡ records_of vtoc
  pub heads_are : base.directory.heads ≡ vtoc.heads
  pub four_is : base.four ≡ four

-- the data set of a name, if one is named and is there
abbrev pub gone_of : Vtoc → Option (List ℕ) → List SetRecords
gone_of vtoc None = []
gone_of vtoc (Some name) = option_to_list (set_named vtoc name)

-- these are the places of its records, and of the format 5s
abbrev pub HoldsNamed : Option (List ℕ) → Held → Vtoc → Placed → Type 0
HoldsNamed name held vtoc four = HoldsLayout (layout_of vtoc four) (gone_of vtoc name) held

-- A volume that was loaded from a unit's slots loads from them.
abbrev pub LoadedVolumesLoadFrom : Type 0
LoadedVolumesLoadFrom =
    (head : Head) (label : Label) (unit : Slots) (sliding : Bool) (slots : List ℕ) (volume : Volume)
    → head.tracks ≤ 65535 → IsLoadedVtoc head label unit sliding volume → AreSlotsOf volume.vtoc (slot_of head.device) slots unit
    → length slots ≡ volume.vtoc.len * slot_of head.device → LoadsFrom volume slots
