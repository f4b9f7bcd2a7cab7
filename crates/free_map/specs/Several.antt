-- Places for a need in several runs.
use Rattle.std.specs.Prelude.{◌≡◌, ℕ, ◌+◌, ◌<◌, ◌≤◌, ◌%◌, ◌⊎◌, nat_lt, List, [], ◌∷◌, ◌++◌, length, take, map, All}
use Rattle.std.specs.List.{filter, AllPairs}
use Rattle.std.specs.List.Sorted.{IsPermutation}
use Rattle.free_map.specs.declared.run.Run.{Run}
use Rattle.free_map.specs.declared.fault.FreeFault.{FreeFault}
use Rattle.free_map.specs.declared.fault.FreeFault.TheVariants as faults
use Rattle.free_map.specs.Runs.{HasTrack, InRuns, AreApart}
use Rattle.free_map.specs.Free.{count_of, longest_of}
use Rattle.free_map.specs.Place.{rounded, aligned_part, IsPlace, IsLowestPlace}

-- the parts of runs that lie on whole steps, where there are any
abbrev pub parts_of : ℕ → List Run → List Run
parts_of step runs = filter (λ part. nat_lt 0 part.len) (map (aligned_part step) runs)

-- the longer comes first, and of equal ones the lower
abbrev pub Precedes : Run → Run → Type 0
Precedes a b = (b.len < a.len) ⊎ ((a.len ≡ b.len) × (a.first ≤ b.first))

-- the same runs in this order
pub record AreLongestFirst (parts sorted : List Run) : Type 0 where
  pub same : IsPermutation parts sorted
  pub order : AllPairs Precedes sorted

-- the shortest front of runs that reaches a count of tracks, with its last run cut to what remains
pub record IsCutFront (count : ℕ) (runs chosen : List Run) : Type 0 where
  pub whole : List Run
  pub last : Run
  pub rest : List Run
  pub kept : ℕ
  pub runs_are : runs ≡ whole ++ (last ∷ rest)
  pub chosen_are : chosen ≡ whole ++ (record { first = last.first; len = kept } ∷ [])
  pub count_is : count_of whole + kept ≡ count
  pub some_kept : 1 ≤ kept
  pub kept_within : kept ≤ last.len

-- no need takes no run
pub record IsForNothing (need : ℕ) (chosen : List Run) : Type 0 where
  pub no_need : need ≡ 0
  pub none : chosen ≡ []

-- where one run holds the need, the lowest place is taken
pub record IsInOneRun (runs : List Run) (need step : ℕ) (chosen : List Run) : Type 0 where
  pub some_need : 1 ≤ need
  pub start : ℕ
  pub lowest : IsLowestPlace (InRuns runs) need step start
  pub one : chosen ≡ record { first = start; len = rounded need step } ∷ []

-- where none does, the longest parts are taken, at most 16 of them
pub record IsInLongest (runs : List Run) (need step : ℕ) (chosen : List Run) : Type 0 where
  pub some_need : 1 ≤ need
  pub no_place : (start : ℕ) → ¬ IsPlace (InRuns runs) need step start
  pub sorted : List Run
  pub order : AreLongestFirst (parts_of step runs) sorted
  pub cut : IsCutFront (rounded need step) (take 16 sorted) chosen

-- the runs that are chosen among free ones for a need
abbrev pub AreChosen : List Run → ℕ → ℕ → List Run → Type 0
AreChosen runs need step chosen = IsForNothing need chosen ⊎ (IsInOneRun runs need step chosen ⊎ IsInLongest runs need step chosen)

-- the 16 longest parts together are too short
pub record AreTooShort (runs : List Run) (need step longest : ℕ) : Type 0 where
  pub sorted : List Run
  pub order : AreLongestFirst (parts_of step runs) sorted
  pub short : count_of (take 16 sorted) < rounded need step
  pub longest_is : longest ≡ longest_of (parts_of step runs)

-- why none are chosen
abbrev pub IsChoiceFault : List Run → ℕ → ℕ → FreeFault → Type 0
IsChoiceFault runs need step (faults.NoRun longest) = AreTooShort runs need step longest
IsChoiceFault runs need step faults.NoMemory = Unit {0}

-- what holds of all that is chosen: runs of whole steps of tracks of a set, none of them in two runs, as many as the need has, in 16 runs at most
pub record ArePlaces (set : ℕ → Type 0) (need step : ℕ) (chosen : List Run) : Type 0 where
  pub whole_steps : All (λ run. (1 ≤ run.len) × (run.first % step ≡ 0) × (run.len % step ≡ 0)) chosen
  pub held : (track : ℕ) → InRuns chosen track → set track
  pub disjoint : AllPairs (λ a b. (track : ℕ) → HasTrack a track → ¬ HasTrack b track) chosen
  pub count_is : count_of chosen ≡ rounded need step
  pub few : length chosen ≤ 16

-- one list at most is chosen for a need
abbrev pub OneChoice : Type 0
OneChoice = (runs a b : List Run) (need step : ℕ) → AreChosen runs need step a → AreChosen runs need step b → a ≡ b

-- where runs are too short, none is
abbrev pub NoChoiceWhereShort : Type 0
NoChoiceWhereShort = (runs chosen : List Run) (need step longest : ℕ) → AreApart 0 runs → 1 ≤ step → AreTooShort runs need step longest → ¬ AreChosen runs need step chosen
