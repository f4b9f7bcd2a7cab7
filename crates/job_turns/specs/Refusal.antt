-- Which unit a serial stands for, and what stands against a statement that names units.
use Rattle.std.specs.Prelude.{◌≡◌, ◌≢◌, ℕ, ◌-◌, ◌/◌, ◌<◌, Bool, true, List, All, Some, slice_get}
use Rattle.vol_label.specs.declared.serial.Serial.{Serial}
use Rattle.volume_model.specs.declared.why.Why.{Why}
use Rattle.volume_model.specs.Unit.{UnitModel, online, offline}
use Rattle.vtoc_core.specs.declared.volume.Volume.{Volume}
use Rattle.unit_load.specs.declared.state.UnitState.{UnitState}
use Rattle.unit_load.specs.declared.state.UnitState.TheVariants as states
use Rattle.job_copies.specs.unit_steps.Plans.{IsLoadedAt}
use Rattle.job_acts.specs.Making.{MayBeChanged}
use Rattle.job_lines.specs.declared.message.Message.{Message}
use Rattle.job_lines.specs.declared.message.Message.TheVariants as messages
use Rattle.job_lines.specs.Order.{IsFirst}
use Rattle.job_turns.specs.declared.units.UnitUse.{UnitUse}

-- ---- units

-- the unit of a serial: the first that is registered under it
pub record IsUnitOf (names : List Serial) (serial : Serial) (unit : ℕ) : Type 0 where
  pub name_is : slice_get names unit ≡ Some serial
  pub first : (other : ℕ) → other < unit → slice_get names other ≢ Some serial

-- what a unit is to a statement that names it: offline, or a volume with or without an index, and with a VTOC of so many tracks
pub data Standing : Type 0 where
  gone : Why → Standing
  ready : Bool → ℕ → Standing

abbrev pub standing_of : UnitModel → Standing
standing_of (online volume) = ready volume.indexed volume.vtoc.len
standing_of (offline why kept) = gone why

-- the same of a unit as it was loaded
abbrev pub standing_in : UnitState → Standing
standing_in (states.Online volume) = ready volume.indexed volume.vtoc.len
standing_in (states.Offline why) = gone why

-- the unit of a serial stands so
pub record StandsAs (names : List Serial) (units : List Standing) (serial : Serial) (standing : Standing) : Type 0 where
  pub unit : ℕ
  pub unit_is : IsUnitOf names serial unit
  pub standing_is : slice_get units unit ≡ Some standing

-- ---- what stands against a statement

abbrev pub IsUnknown : List Serial → UnitUse → Type 0
IsUnknown names named = All (λ name. name ≢ named.serial) names

abbrev pub IsGone : List Serial → List Standing → UnitUse → Type 0
IsGone names units named = (why : Why) × StandsAs names units named.serial (gone why)

-- it is to be changed and has an index
abbrev pub HasIndex : List Serial → List Standing → UnitUse → Type 0
HasIndex names units named = (named.changes ≡ true) × ((tracks : ℕ) × StandsAs names units named.serial (ready true tracks))

-- it is to be changed and its VTOC has more tracks than one commit can change beside those of another
abbrev pub HasLongVtoc : List Serial → ℕ → List Standing → UnitUse → Type 0
HasLongVtoc names room units named = (named.changes ≡ true) × ((tracks : ℕ) × ((room - 1) / 2 < tracks) × ((indexed : Bool) × StandsAs names units named.serial (ready indexed tracks)))

-- the first of the named units of which something holds has this serial
abbrev pub IsFirstNamed : (UnitUse → Type 0) → List UnitUse → Serial → Type 0
IsFirstNamed Holds uses serial = (named : UnitUse) × IsFirst Holds uses named × (named.serial ≡ serial)

abbrev pub IsNone : (UnitUse → Type 0) → List UnitUse → Type 0
IsNone Holds uses = All (λ named. ¬ Holds named) uses

-- What refuses a statement that names these units: an unknown name, and else an offline unit, and else an index, and else a long VTOC; of several the first.
abbrev pub Refuses : List Serial → ℕ → List Standing → List UnitUse → Message → Type 0
Refuses names room units uses (messages.UnknownName serial) = IsFirstNamed (IsUnknown names) uses serial
Refuses names room units uses (messages.Offline serial why) =
    IsNone (IsUnknown names) uses × IsFirstNamed (IsGone names units) uses serial × StandsAs names units serial (gone why)
Refuses names room units uses (messages.Indexed serial) =
    IsNone (IsUnknown names) uses × IsNone (IsGone names units) uses × IsFirstNamed (HasIndex names units) uses serial
Refuses names room units uses (messages.VtocTooLong serial) =
    IsNone (IsUnknown names) uses × IsNone (IsGone names units) uses × IsNone (HasIndex names units) uses × IsFirstNamed (HasLongVtoc names room units) uses serial
Refuses names room units uses _ = ⊥

-- nothing does
pub record Lets (names : List Serial) (room : ℕ) (units : List Standing) (uses : List UnitUse) : Type 0 where
  pub known : IsNone (IsUnknown names) uses
  pub there : IsNone (IsGone names units) uses
  pub not_indexed : IsNone (HasIndex names units) uses
  pub not_long : IsNone (HasLongVtoc names room units) uses

-- ---- what a statement goes on with

-- The unit that a statement names: it has a volume, which may be changed if the statement changes it.
pub record IsUnitFor (count : ℕ) (names : List Serial) (room : ℕ) (units : List UnitState) (named : UnitUse) (unit : ℕ) : Type 0 where
  pub unit_is : IsUnitOf names named.serial unit
  pub below : unit < count
  pub volume : Volume
  pub loaded : IsLoadedAt units unit volume
  pub may : named.changes ≡ true → MayBeChanged room units unit
