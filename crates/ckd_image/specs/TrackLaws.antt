-- What holds of track texts whatever reads or writes them.
use Rattle.std.specs.Prelude.{◌≡◌, ℕ, ◌≤◌, List, length}
use Rattle.ckd_image.specs.declared.track.TrackAt.{TrackAt}
use Rattle.ckd_image.specs.declared.track.Track.{Track}
use Rattle.ckd_image.specs.declared.track.TrackField.{TrackField}
use Rattle.ckd_image.specs.Address.{IsAddress}
use Rattle.ckd_image.specs.Track.{IsTrackText}
use Rattle.ckd_image.specs.TrackFault.{IsFirstWrong}

-- A slot of at most 65,536 bytes spells one track at most: a record that began as the end mark does would be longer.
abbrev pub OneText : Type 0
OneText = (at : TrackAt) (slot : List ℕ) (a b : Track) → IsAddress at → length slot ≤ 65536 → IsTrackText at slot a → IsTrackText at slot b → a ≡ b

-- where a field is wrong, a slot spells none
abbrev pub NoTextWhereWrong : Type 0
NoTextWhereWrong = (at : TrackAt) (slot : List ℕ) (track : Track) (offset : ℕ) (field : TrackField) → IsAddress at → length slot ≤ 65536
    → IsTrackText at slot track → ¬ IsFirstWrong at slot offset field

-- one field at most is the first that is wrong, at one place
abbrev pub OnePlace : Type 0
OnePlace = (at : TrackAt) (slot : List ℕ) (o n : ℕ) (f g : TrackField) → IsAddress at → length slot ≤ 65536
    → IsFirstWrong at slot o f → IsFirstWrong at slot n g → (o ≡ n) × (f ≡ g)
