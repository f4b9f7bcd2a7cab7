-- Sets of tracks as lists of runs.
use Rattle.std.specs.Prelude.{◌≡◌, ℕ, ◌+◌, ◌-◌, ◌<◌, ◌≤◌, ◌↔◌, ◌⊎◌, Bool, IsTrue, nat_lt, if◌then◌else◌, List, [], ◌∷◌}
use Rattle.free_map.specs.declared.run.Run.{Run}

-- a track is one of a run's
abbrev pub HasTrack : Run → ℕ → Type 0
HasTrack run track = (run.first ≤ track) × (track < run.first + run.len)

-- a track is in one of the runs
abbrev pub InRuns : List Run → ℕ → Type 0
InRuns [] track = ⊥
InRuns (run ∷ runs) track = HasTrack run track ⊎ InRuns runs track

-- In ascending order from a track on: each run has a track, and between a run and the next lies at least one.
abbrev pub AreApart : ℕ → List Run → Type 0
AreApart from [] = Unit {0}
AreApart from (run ∷ runs) = (from ≤ run.first) × (1 ≤ run.len) × AreApart (run.first + run.len + 1) runs

-- the maximal runs of a set of tracks
pub record AreMaximalRuns (set : ℕ → Type 0) (runs : List Run) : Type 0 where
  pub apart : AreApart 0 runs
  pub exact : (track : ℕ) → set track ↔ InRuns runs track

-- a set of tracks has one list of maximal runs at most
abbrev pub OneList : Type 0
OneList = (set : ℕ → Bool) (a b : List Run) → AreMaximalRuns (λ track. IsTrue (set track)) a → AreMaximalRuns (λ track. IsTrue (set track)) b → a ≡ b

-- lists of runs that are apart and hold the same tracks are one list
abbrev pub SameTracksSameRuns : Type 0
SameTracksSameRuns = (a b : List Run) → AreApart 0 a → AreApart 0 b → ((track : ℕ) → InRuns a track ↔ InRuns b track) → a ≡ b

-- the run of the tracks from one up to another, or no run where there are none
abbrev pub tracks_between : ℕ → ℕ → List Run
tracks_between from to = if nat_lt from to then record { first = from; len = to - from } ∷ [] else []
