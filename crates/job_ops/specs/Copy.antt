-- What COPY does and says: each data set is copied to a volume, under its name or another, beside those that are there or in the place of one; and deleted, if
-- the statement says so.
use Rattle.std.specs.Prelude.{◌≡◌, ◌≢◌, ◌⊎◌, ◌↔◌, ℕ, ◌<◌, ◌==◌, nat_lt, Bool, true, false, IsTrue, if◌then◌else◌, List, [], ◌∷◌, ◌++◌, length, map, All, Contains, Option, Some, None, slice_get}
use Rattle.by_rules.specs.declared.day.Day.{Day}
use Rattle.dsn_filter.specs.declared.dsn.Dsn.{Dsn}
use Rattle.dsn_filter.specs.declared.rename.Rename.{Rename}
use Rattle.dsn_filter.specs.Dsn.{IsDsn, text_of}
use Rattle.dsn_filter.specs.Rename.{Renames}
use Rattle.enq_table.specs.declared.hold.Hold.{Hold}
use Rattle.free_map.specs.declared.run.Run.{Run}
use Rattle.vol_label.specs.declared.serial.Serial.{Serial}
use Rattle.volume_model.specs.Pinned.{IsNameOf}
use Rattle.volume_model.specs.Unit.{DataSet, OnlineVolume, UnitModel, online}
use Rattle.sysin_lang.specs.declared.command.Filter.{Filter}
use Rattle.move_core.specs.declared.steps.Step.{Step}
use Rattle.move_core.specs.declared.steps.Step.TheVariants as steps
use Rattle.move_core.specs.Stands.{IsGood}
use Rattle.move_core.specs.Facts.{Original}
use Rattle.move_core.specs.Steps.{IsOriginal, IsCopy}
use Rattle.dump_sets.specs.job_turns.job_copies.step_room.Room.{IsFullFor}
use Rattle.job_lines.specs.declared.message.Message.{Message}
use Rattle.job_lines.specs.declared.message.Message.TheVariants as messages
use Rattle.job_lines.specs.declared.message.Reason.{Reason}
use Rattle.job_lines.specs.declared.message.Reason.TheVariants as reasons
use Rattle.job_lines.specs.declared.severity.Severity.TheVariants as severities
use Rattle.job_lines.specs.Order.{IsReason, HasNoReason}
use Rattle.dump_sets.specs.job_turns.job_copies.job_select.Selection.{Selects}
use Rattle.dump_sets.specs.job_turns.job_copies.declared.wish.Wish.{Wish}
use Rattle.dump_sets.specs.job_turns.job_copies.Case.{Case, Replaces, ReplacesSome}
use Rattle.dump_sets.specs.job_turns.job_copies.Places.{ArePlacesFor, HasNoPlaces}
use Rattle.dump_sets.specs.job_turns.job_copies.Reasons.{PreventsAtFirst}
use Rattle.dump_sets.specs.job_turns.declared.units.UnitUse.{UnitUse}
use Rattle.job_ops.specs.Reasons.{LacksRoomFor}
use Rattle.dump_sets.specs.job_turns.Refusal.{IsUnitOf, standing_of, Refuses, Lets}
use Rattle.dump_sets.specs.job_turns.Stating.{repairs, rebuilt}
use Rattle.dump_sets.specs.job_turns.Setting.{Setting}
use Rattle.dump_sets.specs.job_turns.Turns.{Action, Turns, AreCutTurns}
use Rattle.dump_sets.specs.job_turns.job_acts.Making.{put_step}

-- ---- one data set

-- it goes to another unit in the step that puts its copy there
abbrev pub IsCarried : Case → Type 0
IsCarried case = (case.wish.delete ≡ true) × (case.within ≡ false)

-- what goes from the place of the copy
abbrev pub GoFor : Case → List DataSet → Type 0
GoFor case gone = ((other : DataSet) × Replaces case other × (gone ≡ other ∷ [])) ⊎ ((¬ ReplacesSome case) × (gone ≡ []))

-- the VTOC of the volume that it goes to has no room for its copy
abbrev pub LacksRoomForCopy : Case → Type 0
LacksRoomForCopy case =
    (to : List Run) × (original : Original) × (copy : DataSet) × (gone : List DataSet) × ArePlacesFor case to × IsOriginal case.from case.set original × IsCopy case.to original case.new to copy × GoFor case gone
    × IsFullFor case.to gone (copy ∷ [])

-- A VTOC has no room: that of the volume that it goes to, for stating its free space, where it isn't stated, or for the copy; or that of its own, where it goes
-- from there in the same step, for stating its free space or for what is left.
abbrev pub LacksRoomToCopy : Case → Type 0
LacksRoomToCopy case =
    ((case.to.repair ≡ true) × IsFullFor case.to [] []) ⊎ (LacksRoomForCopy case ⊎ (IsCarried case × LacksRoomFor case.from (case.set ∷ []) []))

-- why it isn't copied
abbrev pub PreventsCopy : List Hold → Day → Case → Reason → Type 0
PreventsCopy held today case reasons.BadTrack = ¬ All IsGood case.set.texts
PreventsCopy held today case reasons.NoSpace = HasNoPlaces case
PreventsCopy held today case reasons.VtocFull = LacksRoomToCopy case
PreventsCopy held today case reason = PreventsAtFirst held today case reason

-- ---- steps and messages

-- Copied and, where the statement says so, deleted: in one step where it goes to another unit, in two where it stays on its own.
abbrev pub copying_steps : (delete within : Bool) → ℕ → Dsn → ℕ → Dsn → List Run → Bool → List Step
copying_steps true false from name to new runs replaced = steps.Carry from name to new runs replaced ∷ []
copying_steps true true from name to new runs replaced = put_step from name to new runs replaced ∷ steps.Delete from name ∷ []
copying_steps false within from name to new runs replaced = put_step from name to new runs replaced ∷ []

-- Of two parts the one of the lower unit comes first.
abbrev pub lower_first : {X : Type 0} → ℕ → ℕ → List X → List X → List X
lower_first from to of_from of_to = if nat_lt from to then of_from ++ of_to else of_to ++ of_from

-- The free space of each volume that is changed is stated before, where it isn't.
abbrev pub all_repairs : Case → ℕ → ℕ → List Step
all_repairs case from to = if case.wish.delete then (if case.within then repairs to case.to else lower_first from to (repairs from case.from) (repairs to case.to)) else repairs to case.to

abbrev pub all_rebuilt : Case → ℕ → ℕ → List Message
all_rebuilt case from to = if case.wish.delete then (if case.within then rebuilt case.to else lower_first from to (rebuilt case.from) (rebuilt case.to)) else rebuilt case.to

-- the name of the copy is told where it is another than the name of its origin
abbrev pub IsToldName : Case → Option (List ℕ) → Type 0
IsToldName case None = case.new ≡ case.name
IsToldName case (Some copy) = (case.new ≢ case.name) × IsNameOf case.new copy

-- it is copied onto its places
pub record Copies (from to : ℕ) (case : Case) (done : List Step) (said : List Message) : Type 0 where
  pub runs : List Run
  pub places : ArePlacesFor case runs
  pub replaced : Bool
  pub replaced_is : IsTrue replaced ↔ ReplacesSome case
  pub steps_are : done ≡ all_repairs case from to ++ copying_steps case.wish.delete case.within from case.name to case.new runs replaced
  pub told : Option (List ℕ)
  pub told_is : IsToldName case told
  pub said_are : said ≡ all_rebuilt case from to ++ (messages.Copied case.set.name case.to.serial told ∷ (if case.wish.delete then messages.Deleted case.set.name ∷ [] else []))

-- it has a reason, which is told, or is copied
abbrev pub IsCopiedOrNot : List Hold → Day → ℕ → ℕ → Case → List Step → List Message → Type 0
IsCopiedOrNot held today from to case done said =
    ((reason : Reason) × IsReason (PreventsCopy held today case) reason × (done ≡ []) × (said ≡ messages.NotProcessed case.set.name reason severities.Error ∷ []))
    ⊎ (HasNoReason (PreventsCopy held today case) × Copies from to case done said)

-- the name of its copy, and that the rename makes one of over 44 characters
abbrev pub IsNewName : Rename → Dsn → Dsn → Type 0
IsNewName rename name new = IsDsn new × Renames rename name (text_of new)

abbrev pub IsTooLong : Rename → Dsn → Type 0
IsTooLong rename name = (text : List ℕ) × Renames rename name text × (44 < length text)

-- What statements ask of copies beside the filter: from which unit to which, how they are renamed, and the wish; and what they are judged by.
pub record Request : Type 0 where
  pub from : ℕ
  pub to : ℕ
  pub rename : Rename
  pub wish : Wish
  pub held : List Hold
  pub today : Day

-- the turn of a name: the new name is too long, which is told before all else, or it is copied under it or not
pub record CopiesSet (request : Request) (name : Dsn) (units : List UnitModel) (done : List Step) (said : List Message) : Type 0 where
  pub source : OnlineVolume
  pub source_is : slice_get units request.from ≡ Some (online source)
  pub target : OnlineVolume
  pub target_is : slice_get units request.to ≡ Some (online target)
  pub set : DataSet
  pub there : Contains source.sets set
  pub name_is : IsNameOf name set.name
  pub outcome : (IsTooLong request.rename name × (done ≡ []) × (said ≡ messages.NotProcessed set.name reasons.NewNameTooLong severities.Error ∷ []))
      ⊎ ((new : Dsn) × IsNewName request.rename name new
      × IsCopiedOrNot request.held request.today request.from request.to
      (record { from = source; to = target; within = request.from == request.to; name = name; new = new; set = set; wish = request.wish }) done said)

-- ---- the statement

-- its units: the one of the data sets, which is changed where they are deleted, and the one of the copies
abbrev pub uses_of : Wish → Serial → Serial → List UnitUse
uses_of wish serial to = record { serial = serial; changes = wish.delete } ∷ record { serial = to; changes = true } ∷ []

-- nothing refuses it as far as units go one by one; they are these
pub record GoesBetween (setting : Setting) (wish : Wish) (serial to : Serial) (units : List UnitModel) (from unit : ℕ) : Type 0 where
  pub lets : Lets setting.facts.names setting.facts.room (map standing_of units) (uses_of wish serial to)
  pub from_is : IsUnitOf setting.facts.names serial from
  pub to_is : IsUnitOf setting.facts.names to unit
  pub source : OnlineVolume
  pub source_is : slice_get units from ≡ Some (online source)
  pub target : OnlineVolume
  pub target_is : slice_get units unit ≡ Some (online target)

-- both are of one device, and the filter takes these data sets
pub record CopiesBetween (setting : Setting) (filter : Filter) (wish : Wish) (serial to : Serial) (units : List UnitModel) (from unit : ℕ) (names : List Dsn) : Type 0 where
  pub goes : GoesBetween setting wish serial to units from unit
  pub like : goes.target.device ≡ goes.source.device
  pub names_are : Selects filter setting.today goes.source.sets names

-- their devices are unlike
abbrev pub IsBetweenUnlike : Setting → Wish → Serial → Serial → List UnitModel → Type 0
IsBetweenUnlike setting wish serial to units =
    (from unit : ℕ) × (goes : GoesBetween setting wish serial to units from unit) × (goes.target.device ≢ goes.source.device)

abbrev pub request_of : Setting → Wish → Rename → ℕ → ℕ → Request
request_of setting wish rename from to = record { from = from; to = to; rename = rename; wish = wish; held = setting.held; today = setting.today }

-- It is refused for a unit, or for unlike devices; or its filter takes no data set; or each that it takes has its turn.
abbrev pub CopiesSets : Setting → Filter → Serial → Serial → Wish → Rename → Action
CopiesSets setting filter serial to wish rename units done said =
    ((message : Message) × Refuses setting.facts.names setting.facts.room (map standing_of units) (uses_of wish serial to) message × (done ≡ []) × (said ≡ message ∷ []))
    ⊎ ((IsBetweenUnlike setting wish serial to units × (done ≡ []) × (said ≡ messages.UnlikeDevices ∷ []))
    ⊎ ((from unit : ℕ) × (names : List Dsn) × CopiesBetween setting filter wish serial to units from unit names
    × (((names ≡ []) × (done ≡ []) × (said ≡ messages.NothingSelected ∷ []))
    ⊎ ((names ≢ []) × Turns setting.facts (CopiesSet (request_of setting wish rename from unit)) names units done said))))

-- it was cut: before its first turn, or in its turns
abbrev pub IsCutCopy : Setting → Filter → Serial → Serial → Wish → Rename → List UnitModel → List Step → Option Step → Type 0
IsCutCopy setting filter serial to wish rename units done pending =
    ((done ≡ []) × (pending ≡ None))
    ⊎ ((from unit : ℕ) × (names : List Dsn) × CopiesBetween setting filter wish serial to units from unit names
    × AreCutTurns setting.facts (CopiesSet (request_of setting wish rename from unit)) names units done pending)
