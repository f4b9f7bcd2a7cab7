-- Which outputs of a run the names of a statement stand for, and what refuses the statement.
use Rattle.std.specs.Prelude.{◌≡◌, ◌≢◌, ◌⊎◌, ℕ, ◌<◌, List, [], ◌∷◌, All, Some, slice_get}
use Rattle.dd_names.specs.declared.dd.DdName.{DdName}
use Rattle.dump_fmt.specs.Outs.{OutSeen}
use Rattle.dump_fmt.specs.declared.outs.OutState.TheVariants as states
use Rattle.job_lines.specs.declared.message.Message.{Message}
use Rattle.job_lines.specs.declared.message.Message.TheVariants as messages
use Rattle.job_lines.specs.Order.{IsFirst}
use Rattle.job_outputs.specs.declared.places.OutputsFault.{OutputsFault}
use Rattle.job_outputs.specs.declared.places.OutputsFault.TheVariants as faults

-- ---- one name

-- the output of a name: the first that has it
pub record IsPlaceOf (outs : List OutSeen) (name : DdName) (place : ℕ) : Type 0 where
  pub out : OutSeen
  pub there : slice_get outs place ≡ Some out
  pub name_is : out.name ≡ name
  pub first : (other : ℕ) (earlier : OutSeen) → other < place → slice_get outs other ≡ Some earlier → earlier.name ≢ name

-- no output has it
abbrev pub IsMissing : List OutSeen → DdName → Type 0
IsMissing outs name = All (λ out. out.name ≢ name) outs

-- it stands at two places of a list
abbrev pub StandsTwice : List DdName → DdName → Type 0
StandsTwice names name = (place later : ℕ) × (place < later) × (slice_get names place ≡ Some name) × (slice_get names later ≡ Some name)

-- a dump was begun on its output before
abbrev pub WasBegun : List OutSeen → DdName → Type 0
WasBegun outs name = (place : ℕ) × (is : IsPlaceOf outs name place) × (is.out.state ≢ states.Unused)

-- or it is named twice
abbrev pub IsUsedBefore : List OutSeen → List DdName → DdName → Type 0
IsUsedBefore outs names name = WasBegun outs name ⊎ StandsTwice names name

-- ---- the names of a statement

-- each has its output
abbrev pub ArePlacesOf : List OutSeen → List DdName → List ℕ → Type 0
ArePlacesOf outs [] [] = Unit {0}
ArePlacesOf outs (name ∷ names) (place ∷ places) = IsPlaceOf outs name place × ArePlacesOf outs names places
ArePlacesOf outs _ _ = ⊥

abbrev pub AreKnown : List OutSeen → List DdName → Type 0
AreKnown outs names = All (λ name. ¬ IsMissing outs name) names

-- What refuses a statement that names these outputs: an unknown name, and else one that was used before; of several the first.
abbrev pub RefusesOutputs : List OutSeen → List DdName → Message → Type 0
RefusesOutputs outs names (messages.UnknownFile name) = IsFirst (IsMissing outs) names name
RefusesOutputs outs names (messages.OutputUsed name) = AreKnown outs names × IsFirst (IsUsedBefore outs names) names name
RefusesOutputs outs names _ = ⊥

-- nothing does
pub record LetsOutputs (outs : List OutSeen) (names : List DdName) : Type 0 where
  pub known : AreKnown outs names
  pub unused : All (λ name. ¬ IsUsedBefore outs names name) names

-- the message of a fault refuses; want of memory says nothing
abbrev pub IsTold : (Message → Type 0) → OutputsFault → Type 0
IsTold Refuses (faults.Refused message) = Refuses message
IsTold Refuses faults.NoMemory = Unit {0}
