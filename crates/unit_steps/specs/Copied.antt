-- What copies leave on the volumes.
use Rattle.std.specs.Prelude.{◌≡◌, ℕ, ◌-◌, ◌<◌, List, ◌∷◌, ◌++◌, length, replicate}
use Rattle.ckd_image.specs.Device.{heads_of}
use Rattle.dasd_pool.specs.Disk.{Image, Shape}
use Rattle.free_map.specs.Free.{IsFree}
use Rattle.redo_core.specs.Reading.{journal_of}
use Rattle.volume_model.specs.Reads.{AreTexts}
use Rattle.volume_model.specs.Sound.{Slots}
use Rattle.volume_model.specs.Unit.{Text}
use Rattle.vtoc_core.specs.declared.volume.Row.{Row}
use Rattle.vtoc_core.specs.declared.volume.Volume.{Volume}
use Rattle.volume_change.specs.declared.change.Change.{Change}
use Rattle.volume_change.specs.declared.change.Change.TheVariants.{Put, Swap}
use Rattle.unit_change.specs.Described.{own_place, AreShort}
use Rattle.unit_load.specs.declared.state.UnitState.{UnitState}
use Rattle.move_core.specs.Steps.{empty_text}
use Rattle.unit_steps.specs.declared.plan.Tracks.{Tracks}
use Rattle.unit_steps.specs.declared.plan.Tracks.TheVariants as texts
use Rattle.unit_steps.specs.Plans.{IsLoadedAt, HasRow, tracks_in}

-- a track of a unit is free, as it was loaded
abbrev pub IsFreeAt : List UnitState → ℕ → ℕ → Type 0
IsFreeAt units unit track = (volume : Volume) × IsLoadedAt units unit volume × IsFree volume.free track

-- only free tracks are others
abbrev pub DifferOnFree : List UnitState → Image → Image → Type 0
DifferOnFree units old new = (u b : ℕ) → ¬ IsFreeAt units u b → new u b ≡ old u b

-- no block of a volume is longer than a slot can be
abbrev pub AreShortOn : Shape → Image → Type 0
AreShortOn shape contents = (u : ℕ) → u < journal_of shape → AreShort (shape.blocks u) (contents u)

-- The texts of some tracks stand on others, in their order, and the tracks behind these are empty.
abbrev pub HoldTexts : ℕ → Slots → List ℕ → Slots → List ℕ → Type 0
HoldTexts heads old source new target =
    (list : List Text) → AreTexts heads own_place old source list → AreTexts heads own_place new target (list ++ replicate (length target - length source) empty_text)

-- what a change puts
abbrev pub IsPutBy : Change → Row → Type 0
IsPutBy (Put row) put = put ≡ row
IsPutBy (Swap name row) put = put ≡ row
IsPutBy _ put = ⊥

-- Where new tracks take the texts of a data set, the tracks of what the first change puts hold these.
abbrev pub AreHeld : List UnitState → Tracks → List (ℕ × Change) → Image → Image → Type 0
AreHeld units (texts.Rows from name) (change ∷ changes) old new =
    (source volume : Volume) (origin row : Row) → IsLoadedAt units from source → HasRow source name origin → IsLoadedAt units change.0 volume → IsPutBy change.1 row
    → HoldTexts (heads_of source.device) (old from) (tracks_in source origin) (new change.0) (tracks_in volume row)
AreHeld units tracks changes old new = Unit {0}
