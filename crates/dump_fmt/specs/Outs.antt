-- Outputs, and what is done to them.
use Rattle.std.specs.Prelude.{◌≡◌, ◌≢◌, ◌⊎◌, ℕ, ◌≤◌, Bool, true, List, length, map, Option, Some, AllPairs, slice_get}
use Rattle.std.specs.List.{Contains}
use Rattle.dd_names.specs.declared.dd.DdName.{DdName}
use Rattle.dasd_pool.specs.Count.{Rose}
use Rattle.dasd_pool.specs.Failures.{one_more}
use Rattle.dasd_pool.specs.Stream.{Appends, AppendsSome}
use Rattle.dump_fmt.specs.declared.outs.OutState.{OutState}
use Rattle.dump_fmt.specs.declared.outs.OutState.TheVariants as states

-- what contracts see of an output: its name and state, what its medium holds where that tells, its medium's counts of faults and of puts, and whether
-- the medium was finished and nothing put on it since
pub record OutSeen : Type 0 where
  pub name : DdName
  pub state : OutState
  pub held : Option (List ℕ)
  pub faults : ℕ
  pub puts : ℕ
  pub finished : Bool

-- what contracts see of an input: its name, what its reel holds where that tells, and its reel's count of faults
pub record InSeen : Type 0 where
  pub name : DdName
  pub held : Option (List ℕ)
  pub faults : ℕ

-- the outputs and inputs of a run, each in its order
pub record Files : Type 0 where
  pub outs : List OutSeen
  pub ins : List InSeen

-- what they were before something, and what they are after it
pub record FilesSeen : Type 0 where
  pub before : Files
  pub after : Files

abbrev pub files_of : {X Y : Type 0} → (X → OutSeen) → (Y → InSeen) → List X → List Y → Files
files_of out_seen in_seen outs ins = record { outs = map out_seen outs; ins = map in_seen ins }

-- ---- one output

-- the same with another state
abbrev pub marked : OutState → OutSeen → OutSeen
marked state out = record { name = out.name; state = state; held = out.held; faults = out.faults; puts = out.puts; finished = out.finished }

-- it took all of the bytes, and has this state
pub record HoldsAll (state : OutState) (text : List ℕ) (old new : OutSeen) : Type 0 where
  pub state_is : new.state ≡ state
  pub later : old.faults ≤ new.faults
  pub took : Appends old.held new.held text

-- it failed at a front of them, and is lost
pub record HoldsFront (text : List ℕ) (old new : OutSeen) : Type 0 where
  pub state_is : new.state ≡ states.Lost
  pub cause : Rose old.faults new.faults
  pub took : AppendsSome old.held new.held text

-- it has this state and took all of the bytes, or it is lost
pub record HasTaken (state : OutState) (text : List ℕ) (old new : OutSeen) : Type 0 where
  pub name : new.name ≡ old.name
  pub taken : HoldsAll state text old new ⊎ HoldsFront text old new

-- Bytes were put on it, in one put. One that is lost is the very same: no call was made on it.
pub record IsSentTo {X : Type 0} (seen : X → OutSeen) (text : List ℕ) (old new : X) : Type 0 where
  pub lost : (seen old).state ≡ states.Lost → new ≡ old
  pub sent : (seen old).state ≢ states.Lost → HasTaken (seen old).state text (seen old) (seen new)
  pub puts : (seen old).state ≢ states.Lost → (seen new).puts ≡ one_more (seen old).puts

-- What it holds stays, and nothing is put on it. It is whole, and then its medium is finished, or lost.
pub record IsEnded (old new : OutSeen) : Type 0 where
  pub name : new.name ≡ old.name
  pub held : new.held ≡ old.held
  pub puts : new.puts ≡ old.puts
  pub later : old.faults ≤ new.faults
  pub ended : (new.state ≡ states.Whole) ⊎ ((new.state ≡ states.Lost) × Rose old.faults new.faults)
  pub finished : new.state ≡ states.Whole → new.finished ≡ true

-- its medium was finished, unless it is lost
pub record IsFinished {X : Type 0} (seen : X → OutSeen) (old new : X) : Type 0 where
  pub lost : (seen old).state ≡ states.Lost → new ≡ old
  pub done : (seen old).state ≢ states.Lost → IsEnded (seen old) (seen new)

-- ---- the outputs at some places

-- this was done to each output at these places, and every other one is the very same
pub record EachAt {X : Type 0} (Done : X → X → Type 0) (places : List ℕ) (old new : List X) : Type 0 where
  pub same_length : length new ≡ length old
  pub done : (place : ℕ) (a b : X) → Contains places place → slice_get old place ≡ Some a → slice_get new place ≡ Some b → Done a b
  pub kept : (place : ℕ) → ¬ Contains places place → slice_get new place ≡ slice_get old place

-- the medium of each output at these places that is whole was finished, and nothing was put on it since
abbrev pub AreFinished : {X : Type 0} → (X → OutSeen) → List ℕ → List X → Type 0
AreFinished {X} seen places outs = (place : ℕ) (out : X) → Contains places place → slice_get outs place ≡ Some out → (seen out).state ≡ states.Whole → (seen out).finished ≡ true

abbrev pub AreDistinct : List ℕ → Type 0
AreDistinct places = AllPairs (λ a b. a ≢ b) places
