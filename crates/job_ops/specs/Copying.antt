-- What the parts of a COPY are asked for and answer: words that link them.
use Rattle.std.specs.Prelude.{◌≡◌, ◌≢◌, ◌↔◌, ℕ, ◌≤◌, ◌==◌, Bool, true, IsTrue, if◌then◌else◌, List, [], ◌∷◌, ◌++◌, length, All, Contains, Option, Some, None, slice_get}
use Rattle.dsn_filter.specs.declared.dsn.Dsn.{Dsn}
use Rattle.free_map.specs.declared.run.Run.{Run}
use Rattle.volume_model.specs.Pinned.{IsNameOf}
use Rattle.volume_model.specs.Unit.{DataSet, OnlineVolume, UnitModel, online}
use Rattle.vtoc_core.specs.declared.volume.Row.{Row}
use Rattle.vtoc_core.specs.declared.volume.Volume.{Volume}
use Rattle.unit_load.specs.declared.state.UnitState.{UnitState}
use Rattle.dump_sets.specs.job_turns.job_copies.unit_steps.Plans.{IsLoadedAt, HasRow}
use Rattle.move_core.specs.Stands.{IsGood}
use Rattle.dump_sets.specs.job_turns.job_copies.step_plans.Plans.{ArePlacesOn, IsClear}
use Rattle.job_lines.specs.declared.message.Message.{Message}
use Rattle.job_lines.specs.declared.message.Message.TheVariants as messages
use Rattle.job_lines.specs.Order.{IsFirst}
use Rattle.dump_sets.specs.job_turns.job_copies.Case.{Case, ReplacesSome}
use Rattle.dump_sets.specs.job_turns.job_copies.Places.{ArePlacesFor, HasNoPlaces}
use Rattle.dump_sets.specs.job_turns.job_copies.Reasons.{PreventsAtFirst, first_reasons}
use Rattle.job_ops.specs.declared.copies.Scene.{Scene}
use Rattle.job_ops.specs.declared.copies.Judged.{Judged}
use Rattle.job_ops.specs.declared.copies.Judged.TheVariants as judges
use Rattle.job_ops.specs.declared.transfer.Transfer.{Transfer}
use Rattle.job_ops.specs.Transfers.{is_carried}
use Rattle.dump_sets.specs.job_turns.job_acts.Making.{MayBeChanged}
use Rattle.dump_sets.specs.job_turns.Stating.{rebuilt_in}
use Rattle.job_ops.specs.Copy.{Request, lower_first}

abbrev pub request_in : Scene → Request
request_in scene = record { from = scene.from; to = scene.to; rename = scene.rename.now; wish = scene.wish; held = scene.held.now; today = scene.today }

-- ---- units

-- Data sets of a unit may be copied to a unit: both have volumes, of one device; that of the copies may be changed, and that of the data sets where they are
-- deleted; and each name is one of a data set there.
pub record MayBeCopied (delete : Bool) (room : ℕ) (units : List UnitState) (from to : ℕ) (names : List Dsn) : Type 0 where
  pub source : Volume
  pub source_loaded : IsLoadedAt units from source
  pub may_source : delete ≡ true → MayBeChanged room units from
  pub target : MayBeChanged room units to
  pub like : target.volume.device ≡ source.device
  pub sets : All (λ name. (row : Row) × HasRow source name row) names

-- the data sets of other names may still be copied
abbrev pub StaysCopyable : Bool → ℕ → List UnitState → List UnitState → ℕ → ℕ → Dsn → Type 0
StaysCopyable delete room before after from to name =
    (names : List Dsn) → All (λ other. other ≢ name) names → MayBeCopied delete room before from to names → MayBeCopied delete room after from to names

-- ---- one data set

-- a data set of the units that is to be copied under a name
pub record IsCase (request : Request) (name new : Dsn) (units : List UnitModel) (case : Case) : Type 0 where
  pub source_is : slice_get units request.from ≡ Some (online case.from)
  pub target_is : slice_get units request.to ≡ Some (online case.to)
  pub within_is : case.within ≡ (request.from == request.to)
  pub case_name : case.name ≡ name
  pub case_new : case.new ≡ new
  pub wish_is : case.wish ≡ request.wish
  pub there : Contains case.from.sets case.set
  pub named : IsNameOf name case.set.name

-- the data set of a name is there, and the volume to which it is to be copied
pub record IsThere (request : Request) (name : Dsn) (units : List UnitModel) : Type 0 where
  pub source : OnlineVolume
  pub source_is : slice_get units request.from ≡ Some (online source)
  pub target : OnlineVolume
  pub target_is : slice_get units request.to ≡ Some (online target)
  pub set : DataSet
  pub there : Contains source.sets set
  pub name_is : IsNameOf name set.name

-- nothing prevents it that is asked at first
pub record GoesSoFar (request : Request) (name new : Dsn) (units : List UnitModel) : Type 0 where
  pub lets : (case : Case) → IsCase request name new units case → All (λ reason. ¬ PreventsAtFirst request.held request.today case reason) first_reasons

abbrev pub IsReplacedIn : Request → Dsn → Dsn → Bool → List UnitModel → Type 0
IsReplacedIn request name new replaced units = (case : Case) → IsCase request name new units case → IsTrue replaced ↔ ReplacesSome case

abbrev pub ArePlacedIn : Request → Dsn → Dsn → List Run → List UnitModel → Type 0
ArePlacedIn request name new runs units = (case : Case) → IsCase request name new units case → ArePlacesFor case runs

-- what was judged of it
abbrev pub IsJudged : Request → Dsn → Dsn → Judged → List UnitModel → Type 0
IsJudged request name new (judges.Refused reason) units =
    (case : Case) → IsCase request name new units case → IsFirst (PreventsAtFirst request.held request.today case) first_reasons reason
IsJudged request name new judges.NoPlaces units = GoesSoFar request name new units × ((case : Case) → IsCase request name new units case → HasNoPlaces case)
IsJudged request name new (judges.Placed replaced runs) units =
    GoesSoFar request name new units × IsReplacedIn request name new replaced units × ArePlacedIn request name new runs units

-- the same as far as the units were loaded: it has at most 16 extents, its places are free, and what is to be replaced is there, or nothing of the new name is
pub record MayStand (units : List UnitState) (from to : ℕ) (name new : Dsn) (replaced : Bool) (runs : List Run) : Type 0 where
  pub few : (source : Volume) (row : Row) → IsLoadedAt units from source → HasRow source name row → length row.extents ≤ 16
  pub places : (source target : Volume) (row : Row) → IsLoadedAt units from source → IsLoadedAt units to target → HasRow source name row → ArePlacesOn source row target runs
  pub clear : (target : Volume) → IsLoadedAt units to target → IsClear replaced target new
  pub apart : from ≡ to → new ≢ name

abbrev pub MayStandAs : List UnitState → ℕ → ℕ → Dsn → Dsn → Judged → Type 0
MayStandAs units from to name new (judges.Placed replaced runs) = MayStand units from to name new replaced runs
MayStandAs units from to name new _ = Unit {0}

-- each of its tracks has a text
abbrev pub HasGoodTexts : Request → Dsn → Dsn → List UnitModel → Type 0
HasGoodTexts request name new units = (case : Case) → IsCase request name new units case → All IsGood case.set.texts

-- ---- lines

-- that free space was stated, the lower unit's first
abbrev pub rebuilt_for : Bool → List UnitState → ℕ → ℕ → List Message
rebuilt_for carried units from to = if carried then lower_first from to (rebuilt_in units from) (rebuilt_in units to) else rebuilt_in units to

-- the name of the copy where it is another
abbrev pub IsTold : Dsn → Dsn → Option (List ℕ) → Type 0
IsTold name new None = new ≡ name
IsTold name new (Some copy) = (new ≢ name) × IsNameOf new copy

-- what is said of a data set that was copied
pub record AreLines (units : List UnitState) (transfer : Transfer) (said : List Message) : Type 0 where
  pub volume : Volume
  pub loaded : IsLoadedAt units transfer.to.unit volume
  pub text : List ℕ
  pub text_is : IsNameOf transfer.from.name text
  pub told : Option (List ℕ)
  pub told_is : IsTold transfer.from.name transfer.to.name told
  pub said_are : said ≡ rebuilt_for (is_carried transfer) units transfer.from.unit transfer.to.unit
      ++ (messages.Copied text volume.serial told ∷ (if transfer.delete then messages.Deleted text ∷ [] else []))

-- it is the transfer of a data set of the scene
pub record IsTransferOf (scene : Scene) (transfer : Transfer) : Type 0 where
  pub from_is : transfer.from.unit ≡ scene.from
  pub to_is : transfer.to.unit ≡ scene.to
  pub delete_is : transfer.delete ≡ scene.wish.delete
