-- What is loaded of the units of a pool, and what they are.
use Rattle.std.specs.Prelude.{◌≡◌, ℕ, Bool, false, List, [], ◌∷◌, length, Some, slice_get}
use Rattle.dasd_pool.specs.Disk.{Image, Shape}
use Rattle.redo_core.specs.declared.entries.Entry.{Entry}
use Rattle.redo_core.specs.Reading.{journal_of, fills_of}
use Rattle.volume_model.specs.Unit.{OnlineVolume, UnitModel, online, offline}
use Rattle.unit_change.specs.Described.{AreShort, Describes}
use Rattle.unit_load.specs.declared.state.UnitState.{UnitState}
use Rattle.unit_load.specs.declared.state.UnitState.TheVariants as states
use Rattle.unit_load.specs.Kept.{IsKept, AreKeptOf}
use Rattle.unit_load.specs.State.{IsStateOf, FitsFill}
use Rattle.move_core.specs.declared.steps.Step.{Step}
use Rattle.move_core.specs.Facts.{Facts}
use Rattle.move_core.specs.Taking.{TakeUnitsFor}

-- each unit but the journal's has a state
abbrev pub HaveStates : Shape → List UnitState → Type 0
HaveStates shape units = length units ≡ journal_of shape

-- each state is what the blocks of its unit say, and no block is longer than a slot can be
abbrev pub AreLoaded : Shape → Image → List UnitState → Type 0
AreLoaded shape contents units =
    (u : ℕ) (state : UnitState) → slice_get units u ≡ Some state → IsStateOf false (shape.head u) (shape.blocks u) (contents u) state × AreShort (shape.blocks u) (contents u)

-- each unit's state fits whether a fill is open on it
abbrev pub HaveFills : List Bool → List UnitState → Type 0
HaveFills fills units = (u : ℕ) (state : UnitState) → slice_get units u ≡ Some state → FitsFill (fills_of fills u) state

-- On each quiet pool whose open fills fit the states of its units the entries take the units by this step.
abbrev pub TakeLoaded : (Facts → Type 0) → Shape → ℕ → List UnitState → Image → Step → List Entry → Type 0
TakeLoaded allows shape room units contents step entries = (fills : List Bool) → HaveFills fills units → TakeUnitsFor allows shape room fills contents step entries

-- beside each state the slots of its VTOC are kept
pub record KeepVtocs (shape : Shape) (units : List UnitState) (vtocs : List (List ℕ)) : Type 0 where
  pub count : length vtocs ≡ journal_of shape
  pub each : (u : ℕ) (state : UnitState) (slots : List ℕ) → slice_get units u ≡ Some state → slice_get vtocs u ≡ Some slots
      → IsKept false (shape.head u) (shape.blocks u) state slots

-- they are those that the volumes have
abbrev pub AreVtocsOf : Image → List UnitState → List (List ℕ) → Type 0
AreVtocsOf contents units vtocs =
    (u : ℕ) (state : UnitState) (slots : List ℕ) → slice_get units u ≡ Some state → slice_get vtocs u ≡ Some slots → AreKeptOf (contents u) state slots

-- what is loaded describes a unit: the volume on it, or why it is offline
abbrev pub IsModel : UnitState → UnitModel → Type 0
IsModel (states.Online loaded) model = (volume : OnlineVolume) × (model ≡ online volume) × Describes loaded volume
IsModel (states.Offline why) model = (kept : List (List ℕ)) × (model ≡ offline why kept)

abbrev pub AreModels : List UnitState → List UnitModel → Type 0
AreModels [] [] = Unit {0}
AreModels (state ∷ states) (model ∷ models) = IsModel state model × AreModels states models
AreModels _ _ = ⊥
