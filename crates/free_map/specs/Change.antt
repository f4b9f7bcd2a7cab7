-- Lists of free runs before and after a run is taken or given.
use Rattle.std.specs.Prelude.{ℕ, ◌+◌, ◌↔◌, ◌⊎◌, List, ◌++◌}
use Rattle.free_map.specs.declared.run.Run.{Run}
use Rattle.free_map.specs.Runs.{HasTrack, InRuns, AreApart, tracks_between}

-- what lies before and behind a run in one that covers it
abbrev pub parts_without : Run → Run → List Run
parts_without run whole = tracks_between whole.first run.first ++ tracks_between (run.first + run.len) (whole.first + whole.len)

-- the tracks of a run are free no more, and all others are as they were
pub record TakesRun (run : Run) (old new : List Run) : Type 0 where
  pub apart : AreApart 0 new
  pub exact : (track : ℕ) → InRuns new track ↔ (InRuns old track × ¬ HasTrack run track)

-- the tracks of a run are free too
pub record AddsRun (run : Run) (old new : List Run) : Type 0 where
  pub apart : AreApart 0 new
  pub exact : (track : ℕ) → InRuns new track ↔ (InRuns old track ⊎ HasTrack run track)
