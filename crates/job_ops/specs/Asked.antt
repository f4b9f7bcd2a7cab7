-- What the parts of a statement that goes through data sets are asked for and answer: words that link them.
use Rattle.std.specs.Prelude.{◌≡◌, ◌⊎◌, ◌↔◌, ℕ, ◌≤◌, IsTrue, if◌then◌else◌, List, [], ◌∷◌, ◌++◌, length, All, Contains, Option, Some, None}
use Rattle.ckd_image.specs.Device.{heads_of}
use Rattle.dsn_filter.specs.declared.dsn.Dsn.{Dsn}
use Rattle.enq_table.specs.declared.hold.Hold.{Hold}
use Rattle.volume_model.specs.Pinned.{IsNameOf, kept_tracks}
use Rattle.volume_model.specs.Unit.{DataSet, OnlineVolume, UnitModel}
use Rattle.vtoc_core.specs.declared.volume.Row.{Row}
use Rattle.vtoc_core.specs.declared.volume.Volume.{Volume}
use Rattle.dump_sets.specs.job_turns.job_copies.unit_change.Described.{DescribesSet}
use Rattle.unit_load.specs.declared.state.UnitState.{UnitState}
use Rattle.dump_sets.specs.job_turns.job_copies.unit_steps.Plans.{IsLoadedAt, HasRow, tracks_in}
use Rattle.move_core.specs.Stands.{IsGood}
use Rattle.dump_sets.specs.job_turns.job_copies.step_plans.Plans.{IsSound}
use Rattle.job_ops.specs.declared.asking.Candidate.{Candidate}
use Rattle.job_ops.specs.declared.task.Task.{Task}
use Rattle.job_lines.specs.declared.message.Message.{Message}
use Rattle.job_lines.specs.declared.message.Message.TheVariants as messages
use Rattle.job_lines.specs.declared.message.Reason.{Reason}
use Rattle.job_lines.specs.declared.message.Reason.TheVariants as reasons
use Rattle.job_ops.specs.Reasons.{IsHeld}
use Rattle.job_ops.specs.Release.{size_of, keep_of}
use Rattle.job_ops.specs.Task.{StaysFor}
use Rattle.dump_sets.specs.job_turns.job_steps.Units.{IsSet}
use Rattle.dump_sets.specs.job_turns.job_acts.Making.{MayBeChanged}

-- a unit whose volume a statement may change, and which has a data set of each of these names
pub record MayProcess (room : ℕ) (units : List UnitState) (unit : ℕ) (names : List Dsn) : Type 0 where
  pub may : MayBeChanged room units unit
  pub sets : All (λ name. (row : Row) × HasRow may.volume name row) names

-- what is asked of a data set before anything is done with it is so
pub record IsCandidate (task : Task) (units : List UnitState) (unit : ℕ) (name : Dsn) (candidate : Candidate) : Type 0 where
  pub volume : Volume
  pub row : Row
  pub loaded : IsLoadedAt units unit volume
  pub sound : IsSound volume
  pub row_is : HasRow volume name row
  pub name_is : candidate.name ≡ row.name
  pub size_is : candidate.size ≡ length (tracks_in volume row)
  pub extents_are : candidate.extents ≡ length row.extents
  pub repair_is : candidate.repair ≡ volume.repair
  pub serial_is : candidate.serial ≡ volume.serial
  pub few : IsTrue candidate.stays ⊎ (length row.extents ≤ 16)
  pub stays : (set : DataSet) → DescribesSet (heads_of volume.device) row set → (IsTrue candidate.stays ↔ StaysFor task (heads_of volume.device) set)
  pub keep_is : (set : DataSet) → DescribesSet (heads_of volume.device) row set → candidate.keep ≡ kept_tracks (heads_of volume.device) set

-- ---- a data set that has its turn

-- it is there, alone under its name, and what is asked of it is so
pub record IsSeen (task : Task) (unit : ℕ) (name : Dsn) (candidate : Candidate) (units : List UnitModel) : Type 0 where
  pub volume : OnlineVolume
  pub set : DataSet
  pub set_is : IsSet units unit name volume set
  pub alone : (other : DataSet) → Contains volume.sets other → IsNameOf name other.name → other ≡ set
  pub name_is : candidate.name ≡ set.name
  pub size_is : candidate.size ≡ size_of set
  pub extents_are : candidate.extents ≡ length set.extents
  pub keep_is : candidate.keep ≡ keep_of volume set
  pub repair_is : candidate.repair ≡ volume.repair
  pub serial_is : candidate.serial ≡ volume.serial
  pub stays : IsTrue candidate.stays ↔ StaysFor task (heads_of volume.device) set

-- Its reason, as far as neither a place nor the room in the VTOC is asked.
abbrev pub ReasonSoFar : List Hold → Dsn → DataSet → (stays : Type 0) → Option Reason → Type 0
ReasonSoFar held name set stays (Some reasons.Pinned) = stays
ReasonSoFar held name set stays (Some reasons.Held) = (¬ stays) × IsHeld held name
ReasonSoFar held name set stays (Some reasons.BadTrack) = (¬ stays) × (¬ IsHeld held name) × (¬ All IsGood set.texts)
ReasonSoFar held name set stays (Some _) = ⊥
ReasonSoFar held name set stays None = (¬ stays) × (¬ IsHeld held name) × All IsGood set.texts

abbrev pub IsReasonBefore : Task → List Hold → ℕ → Dsn → Option Reason → List UnitModel → Type 0
IsReasonBefore task held unit name found units =
    (volume : OnlineVolume) (set : DataSet) → IsSet units unit name volume set → ReasonSoFar held name set (StaysFor task (heads_of volume.device) set) found

-- what is said before a message of what was done
abbrev pub said_of : Candidate → Message → List Message
said_of candidate message = (if candidate.repair then messages.Rebuilt candidate.serial ∷ [] else []) ++ (message ∷ [])
