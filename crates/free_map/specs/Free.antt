-- What contracts see of a map of free tracks.
use Rattle.std.specs.Prelude.{◌≡◌, ℕ, ◌+◌, ◌*◌, ◌-◌, ◌/◌, ◌==◌, ◌≤◌, ◌⊎◌, List, [], ◌∷◌, All, sum_by, if◌then◌else◌, max}
use Rattle.free_map.specs.declared.run.Run.{Run}
use Rattle.free_map.specs.Runs.{AreApart, InRuns}

-- the tracks of a volume that may be free are those below `usable`; a cylinder has `heads` tracks
pub record Free : Type 0 where
  pub usable : ℕ
  pub heads : ℕ
  pub runs : List Run

-- the set that a map stands for
abbrev pub IsFree : Free → ℕ → Type 0
IsFree free track = InRuns free.runs track

-- what every map keeps
pub record AreFreeRuns (usable heads : ℕ) (runs : List Run) : Type 0 where
  pub tracks_fit : usable ≤ 65535
  pub some_heads : 1 ≤ heads
  pub heads_fit : heads ≤ 255
  pub apart : AreApart 0 runs
  pub within : All (λ run. run.first + run.len ≤ usable) runs

-- a place is looked for track by track, or cylinder by cylinder
abbrev pub IsStep : Free → ℕ → Type 0
IsStep free step = (step ≡ 1) ⊎ (step ≡ free.heads)

-- how many tracks the runs have together
abbrev pub count_of : List Run → ℕ
count_of runs = sum_by (λ run. run.len) runs

-- the length of the longest run, 0 where there is none
abbrev pub longest_of : List Run → ℕ
longest_of [] = 0
longest_of (run ∷ runs) = max run.len (longest_of runs)

-- the fragmentation index: how far the longest run is from all that is free, in thousandths
abbrev pub index_of : List Run → ℕ
index_of runs = if count_of runs == 0 then 0 else 1000 - (1000 * longest_of runs) / count_of runs
