-- How many records a VTOC has at most.
use Rattle.std.proofs.Common.{◌≡◌, ℕ, ◌+◌, ◌*◌, ◌<◌, ◌≤◌, List, [], ◌∷◌, length, Option, Some, None, arith, length-append}
use Rattle.std.proofs.lemmas.List.Elements.{All-head, All-tail}
use Rattle.volume_model.specs.declared.place.Vtoc.{Vtoc}
use Rattle.volume_model.specs.Directory.{placed_from, placed_in}
use Rattle.volume_model.specs.Check.{records_of}
use Rattle.vtoc_check.specs.Places.{AreShort, IsShort}
use Rattle.vtoc_check.specs.Sized.{IsSized}

on_track : (track number : ℕ) (dscbs : List (List ℕ)) → length (placed_from track number dscbs) ≡ length dscbs
on_track track number [] = omega arith
on_track track number (bytes ∷ more) = omega (arith, on_track track (number + 1) more)

in_tracks : (first : ℕ) (tracks : List (Option (List (List ℕ)))) → AreShort tracks → length (placed_in first tracks) ≤ 255 * length tracks
in_tracks first [] h = omega arith
in_tracks first (None ∷ tracks) h = omega (arith, in_tracks (first + 1) tracks (All-tail IsShort None tracks h))
in_tracks first (Some dscbs ∷ tracks) h =
    omega (
      arith,
      in_tracks (first + 1) tracks (All-tail IsShort (Some dscbs) tracks h),
      All-head IsShort (Some dscbs) tracks h,
      on_track first 1 dscbs,
      length-append (placed_from first 1 dscbs) (placed_in (first + 1) tracks),
    )

pub few_records : (vtoc : Vtoc) → IsSized vtoc → length (records_of vtoc) < 4294967296
few_records vtoc sized = omega (arith, in_tracks vtoc.run.first vtoc.tracks sized.short, sized.whole, sized.run_within, sized.limit_fits)
