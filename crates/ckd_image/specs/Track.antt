-- What a track's slot spells.
use Rattle.std.specs.Prelude.{◌≡◌, ℕ, ◌≤◌, List, [], ◌∷◌, ◌++◌, length, replicate, All}
use Rattle.std.specs.List.{flat_map}
use Rattle.byteorder.specs.Endian.{big_bytes}
use Rattle.ckd_image.specs.declared.track.TrackAt.{TrackAt}
use Rattle.ckd_image.specs.declared.track.Count.{Count}
use Rattle.ckd_image.specs.declared.track.Rec.{Rec}
use Rattle.ckd_image.specs.declared.track.Track.{Track}
use Rattle.ckd_image.specs.Bytes.{Begins}
use Rattle.ckd_image.specs.Address.{address}

-- a count field: address, number, and the lengths of key and body
abbrev pub count_text : Count → List ℕ
count_text count = address count.at ++ (count.r ∷ count.key ∷ []) ++ big_bytes 2 count.body

-- the count field of record 0, which has no key and eight bytes
abbrev pub zero_count : TrackAt → Count
zero_count at = record { at = at; r = 0; key = 0; body = 8 }

abbrev pub count_of : TrackAt → Rec → Count
count_of at rec = record { at = at; r = rec.r; key = length rec.key; body = length rec.body }

-- a record: its count field, key and body
abbrev pub record_text : TrackAt → Rec → List ℕ
record_text at rec = count_text (count_of at rec) ++ rec.key ++ rec.body

abbrev pub records_text : TrackAt → List Rec → List ℕ
records_text at recs = flat_map (record_text at) recs

abbrev pub end_mark : List ℕ
end_mark = replicate 8 255

-- the parts of a track before its end mark: flag, home address, record 0 and the records in order
abbrev pub home_text : TrackAt → ℕ → List ℕ
home_text at flag = flag ∷ address at

abbrev pub zero_text : TrackAt → List ℕ → List ℕ
zero_text at r0 = count_text (zero_count at) ++ r0

abbrev pub track_text : TrackAt → Track → List ℕ
track_text at track = home_text at track.flag ++ zero_text at track.r0 ++ records_text at track.recs ++ end_mark

-- what a record may be
pub record IsRecord (rec : Rec) : Type 0 where
  pub numbered : 1 ≤ rec.r
  pub number_fits : rec.r ≤ 255
  pub key_fits : length rec.key ≤ 255
  pub body_fits : length rec.body ≤ 65535

-- what a track may be
pub record IsTrack (track : Track) : Type 0 where
  pub zero : length track.r0 ≡ 8
  pub records : All IsRecord track.recs

-- the slot is the track's text, and then any rest
pub record IsTrackText (at : TrackAt) (slot : List ℕ) (track : Track) : Type 0 where
  pub sound : IsTrack track
  pub text : Begins (track_text at track) slot
