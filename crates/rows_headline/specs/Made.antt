-- A pool whose journal was made for a volume that is online.
use Rattle.std.specs.Prelude.{◌≡◌, ℕ, ◌<◌, false, List, Some, slice_get}
use Rattle.dasd_pool.specs.Disk.{Shape, State}
use Rattle.vol_label.specs.declared.serial.Serial.{Serial}
use Rattle.redo_core.specs.Faults.{MayFormat}
use Rattle.redo_core.specs.Opening.{IsFormatted}
use Rattle.redo_core.specs.Reading.{Reading, Reads}
use Rattle.vtoc_core.specs.declared.volume.Volume.{Volume as LoadedVolume}
use Rattle.unit_load.specs.declared.state.UnitState.TheVariants as states
use Rattle.unit_load.specs.State.{IsStateOf}
use Rattle.volume_model.specs.Sound.{Volume, IsVolume}
use Rattle.volume_model.specs.Unit.{OnlineVolume, UnitModel, online}
use Rattle.run_words.specs.declared.run.Run.{Run}
use Rattle.run_words.specs.declared.run.Run.TheVariants.{Format}
use Rattle.move_core.specs.Facts.{Facts}
use Rattle.move_core.specs.Stands.{IsSettled}

-- a pool of this shape is settled for some units, of which the first is a volume that is online
pub record IsSettledVolume (shape : Shape) (state : State) : Type 0 where
  pub facts : Facts
  pub shape_is : facts.shape ≡ shape
  pub units : List UnitModel
  pub settled : IsSettled facts state units
  pub volume : OnlineVolume
  pub is_first : slice_get units 0 ≡ Some (online volume)

-- a run is not the making of a journal
abbrev pub MakesNoJournal : Run → Type 0
MakesNoJournal (Format units journal room) = ⊥
MakesNoJournal _ = Unit {0}

-- a journal was made under some names, and nothing stood against it
pub record IsMade (shape : Shape) (old new : State) : Type 0 where
  pub names : List Serial
  pub room : ℕ
  pub allowed : MayFormat shape old.contents names room
  pub formatted : IsFormatted shape old names room new

-- a loader finds a volume on unit 0, by the blocks that the pool has
abbrev pub HasLoaded : Shape → State → Type 0
HasLoaded shape state = (loaded : LoadedVolume) × IsStateOf false (shape.head 0) (shape.blocks 0) (state.contents 0) (states.Online loaded)

-- unit 0 is a volume, as the pool's blocks read
pub record HasVolume (shape : Shape) (state : State) : Type 0 where
  pub reading : Reading
  pub reads : Reads shape state.contents reading
  pub found : Volume
  pub stands : IsVolume (shape.head 0) (shape.blocks 0) (reading.volumes 0) false found

-- a pool that was settled for units is settled for them still
abbrev pub StaysSettled : Shape → State → State → Type 0
StaysSettled shape old new = (facts : Facts) (units : List UnitModel) → facts.shape ≡ shape → IsSettled facts old units → IsSettled facts new units
