-- Records in the order of their places, one behind the other.
use Rattle.std.proofs.Common.{ℕ, ◌+◌, ◌≤◌, List, [], ◌∷◌}
use Rattle.volume_model.specs.declared.place.Placed.{Placed}
use Rattle.vtoc_check.specs.Places.{rank_of}

-- in ascending order of their places, from a rank on
abbrev pub IsAscending : ℕ → List Placed → Type 0
IsAscending from [] = Unit {0}
IsAscending from (placed ∷ more) = (from ≤ rank_of placed.place) × (placed.place.record_number ≤ 255) × IsAscending (rank_of placed.place + 1) more
