-- What each step changes on the volumes.
use Rattle.std.specs.Prelude.{◌≡◌, ◌≢◌, ◌⊎◌, ℕ, ◌-◌, ◌*◌, ◌%◌, ◌<◌, ◌≤◌, Bool, true, false, ◌==◌, nat_le, if◌then◌else◌, List, [], ◌∷◌, ◌++◌, length, map, take, drop, replicate, All, AllPairs, Contains, Some, bit_and, slice_get, slice_index}
use Rattle.ckd_image.specs.Device.{heads_of, ceil_div}
use Rattle.dd_names.specs.declared.dd.DdName.{DdName}
use Rattle.dsn_filter.specs.declared.dsn.Dsn.{Dsn}
use Rattle.dsn_filter.specs.Dsn.{IsDsn}
use Rattle.free_map.specs.declared.run.Run.{Run}
use Rattle.free_map.specs.Runs.{HasTrack, InRuns}
use Rattle.vol_label.specs.declared.serial.Serial.{Serial}
use Rattle.volume_model.specs.Changed.{threes_for, ChangesSets}
use Rattle.volume_model.specs.Pinned.{AreByCylinders, IsNameOf}
use Rattle.volume_model.specs.Reads.{IsUnit}
use Rattle.volume_model.specs.Sound.{Slots}
use Rattle.volume_model.specs.Unit.{Text, good, Extent, DataSet, AreByName, OnlineVolume, UnitModel, online, offline, run_in, tracks_of, IsFreeTrack}
use Rattle.volume_model.specs.declared.why.Why.TheVariants as whys
use Rattle.move_core.specs.declared.steps.Origin.{Origin}
use Rattle.move_core.specs.declared.steps.Origin.TheVariants.{Row, Part}
use Rattle.move_core.specs.declared.steps.Step.{Step}
use Rattle.move_core.specs.declared.steps.Step.TheVariants.{Move, Shrink, Add, Replace, Delete, Carry, ResetFlag, Repair, FillStart, FillEnd}
use Rattle.move_core.specs.Facts.{Facts, Original}

-- ---- one unit

-- a list with another element at one place
pub record Replaces {X : Type 0} (place : ℕ) (old new : X) (before after : List X) : Type 0 where
  pub front : List X
  pub back : List X
  pub long : length front ≡ place
  pub before_is : before ≡ front ++ (old ∷ back)
  pub after_is : after ≡ front ++ (new ∷ back)

-- On the online volume of one unit some data sets go, and others come. They stand in the order of their names then. All other units stay.
pub record ChangesUnit (unit : ℕ) (before after : List UnitModel) (gone put : List DataSet) : Type 0 where
  pub old : OnlineVolume
  pub new : OnlineVolume
  pub unit_is : Replaces unit (online old) (online new) before after
  pub changes : ChangesSets old new gone put
  pub order : AreByName new.sets

-- the heads of the unit's device
abbrev pub heads_in : OnlineVolume → ℕ
heads_in volume = heads_of volume.device

-- ---- places

-- Tracks of a volume that a data set may be put on: each run has some, none is in two of them, and each is free or one that the data set has.
pub record MayTake (volume : OnlineVolume) (own to : List Run) : Type 0 where
  pub some : All (λ run. 1 ≤ run.len) to
  pub apart : AllPairs (λ one other. (track : ℕ) → HasTrack one track → ¬ HasTrack other track) to
  pub tracks : (track : ℕ) → InRuns to track → IsFreeTrack volume track ⊎ InRuns own track

-- the type of new extents: of cylinders where the data set is, and else of tracks
abbrev pub IsNewKind : List Extent → ℕ → Type 0
IsNewKind extents kind =
    (AreByCylinders (λ extent. extent.kind) extents × (kind ≡ 0x81))
    ⊎ ((¬ AreByCylinders (λ extent. extent.kind) extents) × (kind ≡ 0x01))

abbrev pub extents_on : ℕ → List Run → List Extent
extents_on kind to = map (λ run. record { run = run; kind = kind }) to

-- runs for extents of a type: of whole cylinders where it is theirs
abbrev pub LieOnCylinders : ℕ → ℕ → List Run → Type 0
LieOnCylinders heads kind to = kind ≡ 0x81 → All (λ run. (run.first % heads ≡ 0) × (run.len % heads ≡ 0)) to

-- each extent of the type of cylinders begins where a cylinder does
abbrev pub BeginOnCylinders : ℕ → List Extent → Type 0
BeginOnCylinders heads extents = All (λ extent. extent.kind ≡ 0x81 → extent.run.first % heads ≡ 0) extents

-- ---- a data set elsewhere

-- the extents stand on other runs, one for each, of the same lengths and types
pub record KeepsExtents (old : List Extent) (to : List Run) (new : List Extent) : Type 0 where
  pub runs_are : map run_in new ≡ to
  pub lengths_are : map (λ extent. extent.run.len) new ≡ map (λ extent. extent.run.len) old
  pub kinds_are : map (λ extent. extent.kind) new ≡ map (λ extent. extent.kind) old

-- all extents become one
pub record JoinsExtents (old : List Extent) (to : List Run) (new : List Extent) : Type 0 where
  pub several : length old ≢ 1
  pub run : Run
  pub one : to ≡ run ∷ []
  pub kind : ℕ
  pub kind_is : IsNewKind old kind
  pub new_is : new ≡ extents_on kind to

-- a data set with other extents, on as many tracks
abbrev pub moved : DataSet → List Extent → DataSet
moved set extents = record set { extents = extents; threes = threes_for (length extents) }

-- the texts of a data set move to other tracks
pub record Moves (unit : ℕ) (name : Dsn) (to : List Run) (before after : List UnitModel) : Type 0 where
  pub set : DataSet
  pub name_is : IsNameOf name set.name
  pub extents : List Extent
  pub extents_are : KeepsExtents set.extents to extents ⊎ JoinsExtents set.extents to extents
  pub as_many : length (tracks_of extents) ≡ length (tracks_of set.extents)
  pub change : ChangesUnit unit before after (set ∷ []) (moved set extents ∷ [])
  pub place : MayTake change.old (map run_in set.extents) to

-- ---- a data set that keeps its place

-- so many tracks from the front of extents
abbrev pub cut : ℕ → List Extent → List Extent
cut count [] = []
cut count (extent ∷ extents) =
    if count == 0 then []
    else if nat_le extent.run.len count then extent ∷ cut (count - extent.run.len) extents
    else record { run = record { first = extent.run.first; len = count }; kind = extent.kind } ∷ []

-- a data set of which only so many tracks stay
abbrev pub shrunk : ℕ → DataSet → DataSet
shrunk keep set = record {
  name = set.name;
  fields = set.fields;
  extents = cut keep set.extents;
  texts = take keep set.texts;
  threes = threes_for (length (cut keep set.extents));
}

-- the tracks behind the first ones are given back
pub record Shrinks (unit : ℕ) (name : Dsn) (keep : ℕ) (before after : List UnitModel) : Type 0 where
  pub set : DataSet
  pub name_is : IsNameOf name set.name
  pub fewer : keep < length (tracks_of set.extents)
  pub change : ChangesUnit unit before after (set ∷ []) (shrunk keep set ∷ [])

-- the fields of a format 1 whose indicator of a change since the last dump is off
abbrev pub reset_fields : List ℕ → List ℕ
reset_fields fields = take 93 fields ++ (bit_and (slice_index fields 93) 0xFD ∷ drop 94 fields)

abbrev pub reset : DataSet → DataSet
reset set = record set { fields = reset_fields set.fields; threes = threes_for (length set.extents) }

-- a data set counts as dumped
pub record Resets (unit : ℕ) (name : Dsn) (before after : List UnitModel) : Type 0 where
  pub set : DataSet
  pub name_is : IsNameOf name set.name
  pub change : ChangesUnit unit before after (set ∷ []) (reset set ∷ [])

-- a data set goes
pub record Deletes (unit : ℕ) (name : Dsn) (before after : List UnitModel) : Type 0 where
  pub set : DataSet
  pub name_is : IsNameOf name set.name
  pub change : ChangesUnit unit before after (set ∷ []) []

-- ---- a data set that is copied

-- the data set of a name on a unit, and its volume
pub record IsRow (units : List UnitModel) (unit : ℕ) (name : Dsn) (volume : OnlineVolume) (set : DataSet) : Type 0 where
  pub at : slice_get units unit ≡ Some (online volume)
  pub there : Contains volume.sets set
  pub name_is : IsNameOf name set.name

-- what a copy of a data set is made of, where its extents get this type
abbrev pub original_of : OnlineVolume → DataSet → ℕ → Original
original_of volume set kind = record { device = volume.device; fields = set.fields; kind = kind; texts = set.texts }

-- what a copy of a data set is made of
pub record IsOriginal (volume : OnlineVolume) (set : DataSet) (original : Original) : Type 0 where
  pub kind_is : IsNewKind set.extents original.kind
  pub original_is : original ≡ original_of volume set original.kind

-- what a copy is made of: a data set of a unit, or a part of a dump that an input holds
abbrev pub IsOrigin : Facts → List UnitModel → Origin → Original → Type 0
IsOrigin facts units (Row unit name) original = (volume : OnlineVolume) × (set : DataSet) × IsRow units unit name volume set × IsOriginal volume set original
IsOrigin facts units (Part input number) original = facts.inputs.part input number ≡ Some original

-- the fields of a format 1 with another name and another volume's serial
abbrev pub fields_at : List ℕ → Serial → List ℕ → List ℕ
fields_at name serial fields = name ++ (take 1 (drop 44 fields) ++ (serial.text ++ drop 51 fields))

-- a track with record 0 alone
abbrev pub empty_text : Text
empty_text = good (record { flag = 0; r0 = replicate 8 0; recs = [] })

-- the tracks that a copy takes: as many as its origin has, and of cylinders whole ones
abbrev pub tracks_for : ℕ → ℕ → ℕ → ℕ
tracks_for heads kind tracks = if kind == 0x81 then ceil_div tracks heads * heads else tracks

-- A copy under a name on a volume of a like device: it keeps the fields of its origin but for name and serial, and the texts; tracks behind them are
-- empty. On an unlike device its records would be packed anew, which isn't built.
pub record IsCopy (volume : OnlineVolume) (original : Original) (name : Dsn) (to : List Run) (copy : DataSet) : Type 0 where
  pub like : volume.device ≡ original.device
  pub lawful : IsDsn name
  pub name_is : IsNameOf name copy.name
  pub fields_are : copy.fields ≡ fields_at copy.name volume.serial original.fields
  pub whole : LieOnCylinders (heads_in volume) original.kind to
  pub extents_are : copy.extents ≡ extents_on original.kind to
  pub size : length (tracks_of copy.extents) ≡ tracks_for (heads_in volume) original.kind (length original.texts)
  pub texts_are : copy.texts ≡ original.texts ++ replicate (length (tracks_of copy.extents) - length original.texts) empty_text

-- what stands on a unit under the name of a copy goes, where something is replaced, and else nothing does
abbrev pub Gives : Bool → OnlineVolume → DataSet → List DataSet → Type 0
Gives false volume copy gone = (gone ≡ []) × All (λ other. other.name ≢ copy.name) volume.sets
Gives true volume copy gone = (old : DataSet) × (gone ≡ old ∷ []) × (old.name ≡ copy.name)

-- A copy is put on free tracks of a unit, beside the data sets that are there or in the place of the one that has its name.
pub record Copies (replaced : Bool) (original : Original) (unit : ℕ) (name : Dsn) (to : List Run) (before after : List UnitModel) : Type 0 where
  pub gone : List DataSet
  pub copy : DataSet
  pub change : ChangesUnit unit before after gone (copy ∷ [])
  pub copy_is : IsCopy change.old original name to copy
  pub gives : Gives replaced change.old copy gone
  pub place : MayTake change.old [] to

-- a data set of a unit, or a part of a dump, is put on another unit or the same
pub record Puts (facts : Facts) (replaced : Bool) (origin : Origin) (unit : ℕ) (name : Dsn) (to : List Run) (before after : List UnitModel) : Type 0 where
  pub original : Original
  pub origin_is : IsOrigin facts before origin original
  pub copies : Copies replaced original unit name to before after

-- a data set goes from one unit to another, at once
pub record Carries (from : ℕ) (old : Dsn) (unit : ℕ) (name : Dsn) (to : List Run) (replaced : Bool) (before after : List UnitModel) : Type 0 where
  pub apart : from ≢ unit
  pub volume : OnlineVolume
  pub set : DataSet
  pub row_is : IsRow before from old volume set
  pub original : Original
  pub original_is : IsOriginal volume set original
  pub between : List UnitModel
  pub copies : Copies replaced original unit name to before between
  pub takes : ChangesUnit from between after (set ∷ []) []

-- ---- a volume that is restored as a whole

-- what makes a unit's head no head of an image keeps it from being restored
abbrev pub HasGoodHead : UnitModel → Type 0
HasGoodHead (offline (whys.Head why) kept) = ⊥
HasGoodHead model = Unit {0}

-- From its start on a unit has no contents. Any unit but one of a bad head may be restored, where the input holds a full dump.
pub record StartsFill (facts : Facts) (unit : ℕ) (input : DdName) (before after : List UnitModel) : Type 0 where
  pub slots : Serial → Slots
  pub full : facts.inputs.full input ≡ Some slots
  pub old : UnitModel
  pub head : HasGoodHead old
  pub unit_is : Replaces unit old (offline whys.Filling []) before after

-- With its end it is what the slots of the dump say, with the unit's own serial.
pub record EndsFill (facts : Facts) (unit : ℕ) (input : DdName) (before after : List UnitModel) : Type 0 where
  pub slots : Serial → Slots
  pub full : facts.inputs.full input ≡ Some slots
  pub serial : Serial
  pub serial_is : slice_get facts.names unit ≡ Some serial
  pub new : UnitModel
  pub says : IsUnit false false (λ track. track) (facts.shape.head unit) (facts.shape.blocks unit) (slots serial) new
  pub unit_is : Replaces unit (offline whys.Filling []) new before after

-- ---- steps

-- What a step changes on a pool with these facts.
abbrev pub IsStep : Facts → Step → List UnitModel → List UnitModel → Type 0
IsStep facts (Move unit name to) before after = Moves unit name to before after
IsStep facts (Shrink unit name keep) before after = Shrinks unit name keep before after
IsStep facts (Add unit name to origin) before after = Puts facts false origin unit name to before after
IsStep facts (Replace unit name to origin) before after = Puts facts true origin unit name to before after
IsStep facts (Delete unit name) before after = Deletes unit name before after
IsStep facts (Carry from old unit name to replaced) before after = Carries from old unit name to replaced before after
IsStep facts (ResetFlag unit name) before after = Resets unit name before after
IsStep facts (Repair unit) before after = ChangesUnit unit before after [] []
IsStep facts (FillStart unit input) before after = StartsFill facts unit input before after
IsStep facts (FillEnd unit input) before after = EndsFill facts unit input before after

-- steps one after another
abbrev pub Reaches : Facts → List UnitModel → List Step → List UnitModel → Type 0
Reaches facts before [] after = after ≡ before
Reaches facts before (step ∷ steps) after = (between : List UnitModel) × IsStep facts step before between × Reaches facts between steps after
