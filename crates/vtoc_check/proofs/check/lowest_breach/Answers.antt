use Rattle.std.proofs.Common.{List, ℕ, Option, ◌++◌, subst}
use Rattle.volume_model.specs.declared.place.Breach.{Breach}
use Rattle.volume_model.specs.Check.{bad_tracks, bad_dscbs, bad_names, bad_pointers, bad_fives, bad_ranges, bad_overlaps, bad_free, IsLowestOf}
use Rattle.vtoc_check.proofs.Joined.{all_rules}
use Rattle.vtoc_check.proofs.check.lowest_breach.Goals as goal

pub returns : goal.returns
returns c =
    let vtoc = c.args.vtoc.now in
    let T : List (Option (List (List ℕ))) → Type 0 = λ tracks. IsLowestOf (bad_tracks vtoc.run.first tracks) c.broken_track-track.result in
    let P : List Breach → Type 0 = λ xs. IsLowestOf xs c.lower-2.result in
    let a = bad_tracks vtoc.run.first vtoc.tracks in
    let r = bad_dscbs vtoc ++ bad_names vtoc ++ bad_pointers vtoc ++ bad_fives vtoc in
    subst P (all_rules a (bad_dscbs vtoc) (bad_names vtoc) (bad_pointers vtoc) (bad_fives vtoc) (bad_ranges vtoc) (bad_overlaps vtoc) (bad_free vtoc))
    (c.lower-2.ensures (a ++ r) (bad_ranges vtoc ++ bad_overlaps vtoc ++ bad_free vtoc) (c.lower.ensures a r (subst T c.as_slice-tracks.ensures c.broken_track-track.ensures) c.in_ok-record.ensures) c.in_ok-space.ensures)
