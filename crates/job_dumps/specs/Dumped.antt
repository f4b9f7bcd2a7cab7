-- The data sets that a dump takes: which of them stand in it, and why the others don't.
use Rattle.std.specs.Prelude.{◌≡◌, ◌⊎◌, ℕ, List, [], ◌∷◌, ◌++◌, Contains, Option, Some, None, slice_get}
use Rattle.by_rules.specs.declared.day.Day.{Day}
use Rattle.dsn_filter.specs.declared.dsn.Dsn.{Dsn}
use Rattle.dump_fmt.specs.Parts.{DumpPart}
use Rattle.enq_table.specs.declared.hold.Hold.{Hold}
use Rattle.volume_model.specs.Pinned.{IsNameOf}
use Rattle.volume_model.specs.Unit.{DataSet, OnlineVolume, UnitModel, online}
use Rattle.job_lines.specs.declared.message.Reason.{Reason}
use Rattle.job_lines.specs.declared.message.Reason.TheVariants as reasons
use Rattle.job_lines.specs.Order.{IsReason, HasNoReason}
use Rattle.job_dumps.specs.declared.wish.DumpWish.{DumpWish}
use Rattle.job_dumps.specs.Parts.{IsFrontOf, IsPartOfSet}
use Rattle.job_dumps.specs.Reasons.{LacksRoomToChange, PreventsDump}

-- What is asked of a unit's data sets that are to be dumped, and what they are judged by.
pub record DumpRequest : Type 0 where
  pub unit : ℕ
  pub wish : DumpWish
  pub held : List Hold
  pub today : Day

-- the reason, or none where nothing prevents it
abbrev pub IsToldReason : (Reason → Type 0) → Option Reason → Type 0
IsToldReason Prevents (Some reason) = IsReason Prevents reason
IsToldReason Prevents None = HasNoReason Prevents

-- A part is begun for it: nothing prevents the dump but a bad track, which shows while its tracks are written.
abbrev pub BeginsPart : DumpWish → OnlineVolume → Option Reason → Type 0
BeginsPart wish volume None = Unit {0}
BeginsPart wish volume (Some reasons.BadTrack) = ¬ LacksRoomToChange wish volume
BeginsPart wish volume (Some _) = ⊥

-- the turn of a name: the reason of its data set, if there is one, and its part, if one is begun for it
pub record DumpsSet (request : DumpRequest) (name : Dsn) (units : List UnitModel) (reason : Option Reason) (parts : List DumpPart) : Type 0 where
  pub volume : OnlineVolume
  pub online_is : slice_get units request.unit ≡ Some (online volume)
  pub set : DataSet
  pub there : Contains volume.sets set
  pub name_is : IsNameOf name set.name
  pub told : IsToldReason (PreventsDump request.held request.today request.wish volume name set) reason
  pub parts_are : (BeginsPart request.wish volume reason × ((part : DumpPart) × IsPartOfSet volume set part × (parts ≡ part ∷ [])))
      ⊎ ((¬ BeginsPart request.wish volume reason) × (parts ≡ []))

-- the turns of names, one after the other
abbrev pub DumpsSets : DumpRequest → List Dsn → List UnitModel → List (Option Reason) → List DumpPart → Type 0
DumpsSets request [] units told parts = (told ≡ []) × (parts ≡ [])
DumpsSets request (name ∷ names) units told parts =
    (reason : Option Reason) × (more : List (Option Reason)) × (first : List DumpPart) × (rest : List DumpPart) × (told ≡ reason ∷ more) × (parts ≡ first ++ rest)
    × DumpsSet request name units reason first × DumpsSets request names units more rest

-- what is under way in the turn of the next name, if anything is
abbrev pub IsUnderWayFor : DumpRequest → List Dsn → List UnitModel → Option DumpPart → Type 0
IsUnderWayFor request left units None = Unit {0}
IsUnderWayFor request [] units (Some part) = ⊥
IsUnderWayFor request (name ∷ left) units (Some part) = (whole : DumpPart) × (reason : Option Reason) × DumpsSet request name units reason (whole ∷ []) × IsFrontOf part whole

-- a dump that was cut: it holds the parts of the first names, and what is under way
pub record IsCutDump (request : DumpRequest) (names : List Dsn) (units : List UnitModel) (parts : List DumpPart) (current : Option DumpPart) : Type 0 where
  pub done : List Dsn
  pub left : List Dsn
  pub names_are : names ≡ done ++ left
  pub told : List (Option Reason)
  pub dumped : DumpsSets request done units told parts
  pub under_way : IsUnderWayFor request left units current
