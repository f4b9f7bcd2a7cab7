use Rattle.std.proofs.Common.{◌≡◌, ℕ, false, List, length, take, All}
use Rattle.std.specs.Prelude.{◌||◌}
use Rattle.std.specs.List.{list_any}
use Rattle.free_map.specs.declared.run.Run.{Run}
use Rattle.volume_model.specs.Space.{has_track}
use Rattle.volume_model.specs.Check.{any_overlap, overlap_within}
use Rattle.vtoc_check.specs.Reach.{is_marked}
use Rattle.vtoc_check.specs.Tracks.{AreTracksOf, HasTracks}
use Rattle.vtoc_check.proofs.tracks.mark_runs.Given as goal

abbrev pub invariant-loop-run : goal.invariant-loop-run
invariant-loop-run l = record {
  long : length l.marks ≡ length l.fn.marks;
  marked : l.hit ≡ false → (track : ℕ) → is_marked l.marks track ≡ (is_marked l.fn.marks track || list_any (has_track track) (take l.run-index l.runs));
  hit : (others : List Run) → AreTracksOf others l.fn.marks → All HasTracks others → All HasTracks l.runs
      → l.hit ≡ (any_overlap (take l.run-index l.runs) others || overlap_within (take l.run-index l.runs));
}
