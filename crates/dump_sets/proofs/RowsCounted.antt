-- The rows of a loaded volume can be counted.
use Rattle.std.proofs.Common.{◌≡◌, ℕ, ◌+◌, ◌*◌, ◌≤◌, List, [], ◌∷◌, length, sum_by, Option, Some, None, arith, length-append}
use Rattle.std.proofs.lemmas.List.Elements.{All-head, All-tail}
use Rattle.std.proofs.lemmas.List.Sums.{sum_by-cons}
use Rattle.dump_fmt.specs.Front.{largest_count}
use Rattle.vtoc_check.specs.Places.{AreShort, IsShort}
use Rattle.volume_model.specs.Directory.{placed_from, placed_in}
use Rattle.vtoc_core.specs.declared.volume.Row.{Row}
use Rattle.vtoc_core.specs.declared.volume.Volume.{Volume}
use Rattle.vtoc_core.specs.Loaded.{records_for}
use Rattle.vtoc_load.specs.Counted.{RecordsAreCounted}
use Rattle.job_dumps.specs.job_turns.job_copies.step_plans.Plans.{IsSound}

-- a row has a record at least
row_records : (rows : List Row) → length rows ≤ sum_by records_for rows
row_records [] = omega arith
row_records (row ∷ rows) = omega (arith, row_records rows, sum_by-cons records_for row rows)

on_track : (track r : ℕ) (dscbs : List (List ℕ)) → length (placed_from track r dscbs) ≡ length dscbs
on_track track r [] = omega arith
on_track track r (dscb ∷ dscbs) = omega (arith, on_track track (r + 1) dscbs)

in_tracks : (first : ℕ) (tracks : List (Option (List (List ℕ)))) → AreShort tracks → length (placed_in first tracks) ≤ 255 * length tracks
in_tracks first [] short = omega arith
in_tracks first (None ∷ tracks) short = omega (arith, in_tracks (first + 1) tracks (All-tail IsShort None tracks short))
in_tracks first (Some dscbs ∷ tracks) short =
    omega (
      arith,
      in_tracks (first + 1) tracks (All-tail IsShort (Some dscbs) tracks short),
      All-head IsShort (Some dscbs) tracks short,
      on_track first 1 dscbs,
      length-append (placed_from first 1 dscbs) (placed_in (first + 1) tracks),
    )

pub rows_few : (volume : Volume) → IsSound volume → RecordsAreCounted → length volume.rows ≤ largest_count
rows_few volume sound law =
    let loaded = sound.3.loaded in
    omega (
      arith,
      row_records volume.rows,
      law loaded.vtoc volume.rows loaded.sized.short loaded.sound loaded.volume.rows_are,
      in_tracks loaded.vtoc.run.first loaded.vtoc.tracks loaded.sized.short,
      loaded.sized.whole,
      loaded.sized.run_within,
      loaded.sized.limit_fits,
    )
