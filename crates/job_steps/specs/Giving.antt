-- A planned part of a dump whose texts are given one after the other.
use Rattle.std.specs.Prelude.{◌≡◌, ℕ, ◌+◌, ◌-◌, ◌≤◌, Bool, List, [], ◌++◌, length, take, Option, Some, None, Result, Ok, Err}
use Rattle.ckd_image.specs.Device.{heads_of}
use Rattle.dasd_pool.specs.Disk.{Image}
use Rattle.dasd_pool.specs.declared.pool.Pool.{Ghosts}
use Rattle.dd_names.specs.declared.dd.DdName.{DdName}
use Rattle.dsn_filter.specs.declared.dsn.Dsn.{Dsn}
use Rattle.free_map.specs.declared.run.Run.{Run}
use Rattle.volume_model.specs.Reads.{AreTexts}
use Rattle.volume_model.specs.Unit.{Text}
use Rattle.move_core.specs.Facts.{Original}
use Rattle.unit_session.specs.unit_steps.Parts.{step_of_part}
use Rattle.unit_session.specs.unit_steps.Plans.{PlansPart}
use Rattle.unit_session.specs.unit_steps.unit_change.Described.{own_place}
use Rattle.unit_session.specs.declared.copies.GivenTracks.{GivenTracks}
use Rattle.unit_session.specs.Given.{AreGivenOf, count_given}
use Rattle.unit_session.specs.Planned.{PlannedView}
use Rattle.unit_session.specs.Sessions.{BrokenView}

-- a planned step, and how many of its tracks have no text yet
pub record GivingView (P : Type 0) : Type 0 where
  pub planned : PlannedView P
  pub left : ℕ

abbrev pub pool_giving : {P : Type 0} → Result (GivingView P) (BrokenView P) → P
pool_giving (Ok giving) = giving.planned.session.pool
pool_giving (Err broken) = broken.pool

-- the place of the next track among those that are given
abbrev pub next_place : {P : Type 0} → GivingView P → ℕ
next_place giving = count_given giving.planned.given - giving.left

-- the tracks that are given are those of the plan's new row, and no more than all of them have no text yet
pub record IsGiving {P : Type 0} (giving : GivingView P) : Type 0 where
  pub left : giving.left ≤ count_given giving.planned.given
  pub given : AreGivenOf giving.planned.session.units giving.planned.plan.tracks giving.planned.plan.changes giving.planned.given

-- the same step of the same units
pub record IsPlannedAs {P : Type 0} (old new : PlannedView P) : Type 0 where
  pub plan : new.plan ≡ old.plan
  pub given : new.given ≡ old.given
  pub room : new.session.room ≡ old.session.room
  pub names : new.session.names ≡ old.session.names
  pub units : new.session.units ≡ old.session.units

-- the first of given tracks hold these texts, in order
abbrev pub HoldFirst : Option GivenTracks → Image → List Text → Type 0
HoldFirst (Some given) contents texts = AreTexts (heads_of given.device) own_place (contents given.unit) (take (length texts) given.tracks.items) texts
HoldFirst None contents texts = texts ≡ []

-- these texts were given so far
pub record HoldsSoFar {P : Type 0} (pools : Ghosts P) (giving : GivingView P) (texts : List Text) : Type 0 where
  pub count : length texts + giving.left ≡ count_given giving.planned.given
  pub hold : pools.tells → HoldFirst giving.planned.given (pools.disk giving.planned.session.pool).state.contents texts

-- such texts more were given, to the tracks behind those that have one
pub record GivesMore {P : Type 0} (pools : Ghosts P) (old new : GivingView P) (texts : List Text) : Type 0 where
  pub planned : IsPlannedAs old.planned new.planned
  pub count : length texts + new.left ≡ old.left
  pub hold : (before : List Text) → HoldsSoFar pools old before → HoldsSoFar pools new (before ++ texts)

-- the planned step puts this part
pub record PutsPart {P : Type 0} (planned : PlannedView P) (original : Original) : Type 0 where
  pub replaced : Bool
  pub unit : ℕ
  pub name : Dsn
  pub to : List Run
  pub input : DdName
  pub number : ℕ
  pub step_is : planned.plan.step ≡ step_of_part replaced unit name to input number
  pub part : PlansPart replaced planned.session.units original unit name to planned.plan.changes

-- it does, and all of the part's texts were given
pub record HasGiven {P : Type 0} (pools : Ghosts P) (giving : GivingView P) (original : Original) : Type 0 where
  pub puts : PutsPart giving.planned original
  pub texts : HoldsSoFar pools giving original.texts
