-- Sets of tracks as marks.
use Rattle.std.specs.Prelude.{◌≡◌, ℕ, ◌+◌, ◌<◌, ◌≤◌, Bool, true, false, ◌||◌, ◌&&◌, nat_le, nat_lt, List, length, take}
use Rattle.std.specs.List.{list_any}
use Rattle.free_map.specs.declared.run.Run.{Run}
use Rattle.volume_model.specs.Space.{has_track}
use Rattle.vtoc_check.specs.Reach.{is_marked}

-- a run has a track
abbrev pub HasTracks : Run → Type 0
HasTracks run = 1 ≤ run.len

-- exactly the tracks of these runs have their marks
abbrev pub AreTracksOf : List Run → List Bool → Type 0
AreTracksOf runs marks = (track : ℕ) → is_marked marks track ≡ list_any (has_track track) runs

-- the tracks from one up to another are marked, and whether one was
pub record AreMarkedUpTo (first end : ℕ) (before : List Bool) (hit : Bool) (after : List Bool) : Type 0 where
  pub long : length after ≡ length before
  pub marked : (track : ℕ) → is_marked after track ≡ (is_marked before track || (nat_le first track && nat_lt track end))
  pub some : hit ≡ true → (track : ℕ) × (first ≤ track) × (track < end) × (is_marked before track ≡ true)
  pub none : hit ≡ false → (track : ℕ) → first ≤ track → track < end → is_marked before track ≡ false

-- At each track the greatest end is noted of the runs that begin there: a track is one of the runs' exactly where an end is noted
-- at or before it that lies behind it.
abbrev pub AreEndsOf : List Run → List ℕ → Type 0
AreEndsOf runs ends = (track : ℕ) → track < length ends → list_any (nat_lt track) (take (track + 1) ends) ≡ list_any (has_track track) runs

-- exactly the tracks are marked that lie before an end that is noted at or before them
pub record AreBeforeEnds (ends : List ℕ) (marks : List Bool) : Type 0 where
  pub long : length marks ≡ length ends
  pub exact : (track : ℕ) → track < length ends → is_marked marks track ≡ list_any (nat_lt track) (take (track + 1) ends)
