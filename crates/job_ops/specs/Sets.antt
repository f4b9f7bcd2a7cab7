-- Statements that go through the data sets of a volume that a filter takes.
use Rattle.std.specs.Prelude.{◌≡◌, ◌≢◌, ◌⊎◌, ℕ, true, List, [], ◌∷◌, map, Contains, Option, Some, None, slice_get}
use Rattle.dsn_filter.specs.declared.dsn.Dsn.{Dsn}
use Rattle.vol_label.specs.declared.serial.Serial.{Serial}
use Rattle.volume_model.specs.Pinned.{IsNameOf}
use Rattle.volume_model.specs.Unit.{DataSet, OnlineVolume, UnitModel, online}
use Rattle.sysin_lang.specs.declared.command.Filter.{Filter}
use Rattle.move_core.specs.declared.steps.Step.{Step}
use Rattle.job_lines.specs.declared.message.Message.{Message}
use Rattle.job_lines.specs.declared.message.Message.TheVariants as messages
use Rattle.job_lines.specs.declared.message.Reason.{Reason}
use Rattle.job_lines.specs.declared.severity.Severity.{Severity}
use Rattle.dump_sets.specs.job_turns.job_copies.job_select.Selection.{Selects}
use Rattle.dump_sets.specs.job_turns.declared.units.UnitUse.{UnitUse}
use Rattle.job_lines.specs.Order.{IsReason, HasNoReason}
use Rattle.dump_sets.specs.job_turns.Refusal.{IsUnitOf, standing_of, Refuses, Lets}
use Rattle.dump_sets.specs.job_turns.Setting.{Setting}
use Rattle.dump_sets.specs.job_turns.Turns.{Action, Turns, AreCutTurns}

-- ---- one data set

-- The turn of a name: its data set has a reason, which is told, or something is done with it.
pub record TakesTurn (Prevents : OnlineVolume → DataSet → Reason → Type 0) (severity : Reason → Severity) (Does : OnlineVolume → DataSet → List Step → List Message → Type 0)
    (unit : ℕ) (name : Dsn) (units : List UnitModel) (steps : List Step) (said : List Message) : Type 0 where
  pub volume : OnlineVolume
  pub online_is : slice_get units unit ≡ Some (online volume)
  pub set : DataSet
  pub there : Contains volume.sets set
  pub name_is : IsNameOf name set.name
  pub outcome : ((reason : Reason) × IsReason (Prevents volume set) reason × (steps ≡ [])
      × (said ≡ messages.NotProcessed set.name reason (severity reason) ∷ []))
      ⊎ (HasNoReason (Prevents volume set) × Does volume set steps said)

-- ---- the statement

-- a unit is named, and changed
abbrev pub changed : Serial → UnitUse
changed serial = record { serial = serial; changes = true }

-- the filter takes these data sets of the unit's volume, and nothing refuses the statement
pub record GoesThrough (setting : Setting) (filter : Filter) (serial : Serial) (units : List UnitModel) (unit : ℕ) (names : List Dsn) : Type 0 where
  pub lets : Lets setting.facts.names setting.facts.room (map standing_of units) (changed serial ∷ [])
  pub unit_is : IsUnitOf setting.facts.names serial unit
  pub volume : OnlineVolume
  pub online_is : slice_get units unit ≡ Some (online volume)
  pub names_are : Selects filter setting.today volume.sets names

-- It is refused; or its filter takes no data set; or each that it takes has its turn.
abbrev pub OverSets : (ℕ → Dsn → Action) → Setting → Filter → Serial → Action
OverSets Turn setting filter serial units steps said =
    ((message : Message) × Refuses setting.facts.names setting.facts.room (map standing_of units) (changed serial ∷ []) message × (steps ≡ []) × (said ≡ message ∷ []))
    ⊎ ((unit : ℕ) × (names : List Dsn) × GoesThrough setting filter serial units unit names
    × (((names ≡ []) × (steps ≡ []) × (said ≡ messages.NothingSelected ∷ []))
    ⊎ ((names ≢ []) × Turns setting.facts (Turn unit) names units steps said)))

-- it was cut: before its first turn, or in its turns
abbrev pub IsCutOverSets : (ℕ → Dsn → Action) → Setting → Filter → Serial → List UnitModel → List Step → Option Step → Type 0
IsCutOverSets Turn setting filter serial units steps pending =
    ((steps ≡ []) × (pending ≡ None))
    ⊎ ((unit : ℕ) × (names : List Dsn) × GoesThrough setting filter serial units unit names × AreCutTurns setting.facts (Turn unit) names units steps pending)
