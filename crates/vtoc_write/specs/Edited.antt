-- Records of a VTOC that get other bytes, each in its place.
use Rattle.std.specs.Prelude.{◌≡◌, ℕ, ◌+◌, List, [], ◌∷◌, map, find, take, drop, replicate, ◌-◌, ◌++◌, length, Any, Option, Some, None}
use Rattle.ckd_image.specs.declared.track.Rec.{Rec}
use Rattle.ckd_image.specs.declared.track.Track.{Track}
use Rattle.ckd_image.specs.declared.track.TrackAt.{TrackAt}
use Rattle.ckd_image.specs.Track.{track_text}
use Rattle.volume_model.specs.declared.place.Place.{Place}
use Rattle.volume_model.specs.declared.place.Placed.{Placed}
use Rattle.volume_model.specs.Directory.{same_place}

-- An edit says at which place which bytes stand afterwards. Of two edits of one place the first counts.
abbrev pub edit_of : List Placed → Place → Option Placed
edit_of edits place = find (λ edit. same_place edit.place place) edits

-- some edit is of a record of this track
abbrev pub NamesTrack : List Placed → ℕ → Type 0
NamesTrack edits track = Any (λ edit. edit.place.track ≡ track) edits

-- ---- records with their places

abbrev pub placed_with : Placed → Option Placed → Placed
placed_with placed None = placed
placed_with placed (Some edit) = record { place = placed.place; bytes = edit.bytes }

-- the records of a VTOC, once the edits are made
abbrev pub after_edits : List Placed → List Placed → List Placed
after_edits edits records = map (λ placed. placed_with placed (edit_of edits placed.place)) records

abbrev pub bytes_with : List ℕ → Option Placed → List ℕ
bytes_with bytes None = bytes
bytes_with bytes (Some edit) = edit.bytes

-- the DSCBs of a track, the first of them with this number
abbrev pub dscbs_after : List Placed → ℕ → ℕ → List (List ℕ) → List (List ℕ)
dscbs_after edits track number [] = []
dscbs_after edits track number (bytes ∷ more) =
    bytes_with bytes (edit_of edits (record { track = track; record_number = number })) ∷ dscbs_after edits track (number + 1) more

-- the tracks of a VTOC, from one on
abbrev pub tracks_after : List Placed → ℕ → List (Option (List (List ℕ))) → List (Option (List (List ℕ)))
tracks_after edits track [] = []
tracks_after edits track (None ∷ more) = None ∷ tracks_after edits (track + 1) more
tracks_after edits track (Some dscbs ∷ more) = Some (dscbs_after edits track 1 dscbs) ∷ tracks_after edits (track + 1) more

-- ---- the text of a track

abbrev pub rec_with : Rec → Option Placed → Rec
rec_with rec None = rec
rec_with rec (Some edit) = record { r = rec.r; key = take 44 edit.bytes; body = drop 44 edit.bytes }

-- a record of a track, once the edits are made
abbrev pub rec_after : List Placed → ℕ → Rec → Rec
rec_after edits track rec = rec_with rec (edit_of edits (record { track = track; record_number = rec.r }))

-- flag and record 0 stay
abbrev pub text_after : List Placed → ℕ → Track → Track
text_after edits track text = record { flag = text.flag; r0 = text.r0; recs = map (rec_after edits track) text.recs }

-- the slot of a track as it is written: its text, and zeros behind it
abbrev pub written : TrackAt → ℕ → Track → List ℕ
written at size text = track_text at text ++ replicate (size - length (track_text at text)) 0
