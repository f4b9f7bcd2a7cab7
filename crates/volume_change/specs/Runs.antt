-- The tracks of extents, and the tracks that are free once some are given back and others are taken.
use Rattle.std.specs.Prelude.{◌⊎◌, ℕ, List, map}
use Rattle.dscb_rec.specs.declared.field.Extent.{Extent}
use Rattle.free_map.specs.declared.run.Run.{Run}
use Rattle.free_map.specs.Free.{Free, IsFree}
use Rattle.free_map.specs.Runs.{InRuns}
use Rattle.volume_model.specs.Space.{run_of}
use Rattle.vtoc_core.specs.Loaded.{field_of}

-- the runs of extents in order
abbrev pub runs_in : ℕ → List Extent → List Run
runs_in heads extents = map (run_of heads) (map field_of extents)

-- a track is free once the tracks of runs are given back and those of others are taken
abbrev pub IsFreeAfter : Free → List Run → List Run → ℕ → Type 0
IsFreeAfter free gone put track = (IsFree free track ⊎ InRuns gone track) × ¬ InRuns put track
