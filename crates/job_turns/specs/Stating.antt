-- Free space that isn't stated is stated before the first change of its volume.
use Rattle.std.specs.Prelude.{ℕ, Bool, false, if◌then◌else◌, List, [], ◌∷◌, Option, Some, slice_get}
use Rattle.volume_model.specs.Unit.{OnlineVolume}
use Rattle.unit_load.specs.declared.state.UnitState.{UnitState}
use Rattle.unit_load.specs.declared.state.UnitState.TheVariants as states
use Rattle.move_core.specs.declared.steps.Step.{Step}
use Rattle.move_core.specs.declared.steps.Step.TheVariants.{Repair}
use Rattle.job_lines.specs.declared.message.Message.{Message}
use Rattle.job_lines.specs.declared.message.Message.TheVariants as messages

-- ---- of a volume

-- where the free space isn't stated, it is stated before the first change
abbrev pub repairs : ℕ → OnlineVolume → List Step
repairs unit volume = if volume.repair then Repair unit ∷ [] else []

abbrev pub rebuilt : OnlineVolume → List Message
rebuilt volume = if volume.repair then messages.Rebuilt volume.serial ∷ [] else []

-- ---- of a unit as it was loaded

-- the free space of a unit's volume isn't stated
abbrev pub says_unstated : Option UnitState → Bool
says_unstated (Some (states.Online volume)) = volume.repair
says_unstated _ = false

abbrev pub is_unstated : List UnitState → ℕ → Bool
is_unstated units unit = says_unstated (slice_get units unit)

-- and is to be
abbrev pub due : List UnitState → ℕ → List ℕ
due units unit = if is_unstated units unit then unit ∷ [] else []

-- that it was stated
abbrev pub rebuilt_of : Option UnitState → List Message
rebuilt_of (Some (states.Online volume)) = if volume.repair then messages.Rebuilt volume.serial ∷ [] else []
rebuilt_of _ = []

abbrev pub rebuilt_in : List UnitState → ℕ → List Message
rebuilt_in units unit = rebuilt_of (slice_get units unit)
