-- The tracks of a VTOC, as they are read one after the other.
use Rattle.std.specs.Prelude.{◌≡◌, ℕ, ◌+◌, ◌<◌, List, Option, None, length, slice_index_or}
use Rattle.volume_model.specs.Sound.{Slots, IsTrackReading}

-- so many tracks are read, from one on
pub record AreReadUpTo (heads : ℕ) (slots : Slots) (first count : ℕ) (tracks : List (Option (List (List ℕ)))) : Type 0 where
  pub long : length tracks ≡ count
  pub each : (k : ℕ) → k < count → IsTrackReading heads (first + k) (slots (first + k)) (slice_index_or tracks k None)
