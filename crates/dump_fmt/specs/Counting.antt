-- The counts of a dump while it is written.
use Rattle.std.specs.Prelude.{◌≡◌, ℕ, ◌+◌, ◌<◌, ◌^◌}
use Rattle.dump_fmt.specs.declared.progress.Progress.{Progress}
use Rattle.dump_fmt.specs.declared.piece.Piece.{Piece}
use Rattle.dump_fmt.specs.declared.piece.Piece.TheVariants.{Part, PartEnd, Slot}

-- the counts of whole parts and their tracks have room for the piece
abbrev pub FitsCounts : Piece → Progress → Type 0
FitsCounts PartEnd old = (old.parts + 1 < 2 ^ 32) × (old.tracks + old.due < 2 ^ 32)
FitsCounts (Slot number bytes) old = (old.parts + 1 < 2 ^ 32) × (old.tracks + 1 < 2 ^ 32)
FitsCounts _ old = Unit {0}

abbrev pub HasCounts : ℕ → ℕ → ℕ → Progress → Type 0
HasCounts parts tracks due new = (new.parts ≡ parts) × (new.tracks ≡ tracks) × (new.due ≡ due)

-- a part begins and says its tracks; a whole one ends, and counts with them; each slot is a part of one track
abbrev pub AreCounted : Piece → Progress → Progress → Type 0
AreCounted (Part f1 tracks kind) old new = HasCounts old.parts old.tracks tracks new
AreCounted PartEnd old new = HasCounts (old.parts + 1) (old.tracks + old.due) old.due new
AreCounted (Slot number bytes) old new = HasCounts (old.parts + 1) (old.tracks + 1) old.due new
AreCounted _ old new = HasCounts old.parts old.tracks old.due new

pub record IsCounted (piece : Piece) (old new : Progress) : Type 0 where
  pub counts : AreCounted piece old new
  pub places : new.places ≡ old.places
  pub digest : new.digest ≡ old.digest
