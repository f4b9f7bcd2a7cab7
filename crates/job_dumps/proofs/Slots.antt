-- A track that is read from a slot of a device stands in a slot of it under any address.
use Rattle.std.proofs.Common.{◌≡◌, ℕ, List, [], ◌∷◌, ◌++◌, length, refl, ap, arith, length-append}
use Rattle.ckd_image.specs.declared.device.Device.{Device}
use Rattle.ckd_image.specs.declared.track.Rec.{Rec}
use Rattle.ckd_image.specs.declared.track.Track.{Track}
use Rattle.ckd_image.specs.declared.track.TrackAt.{TrackAt}
use Rattle.ckd_image.specs.Device.{slot_of}
use Rattle.ckd_image.specs.Track.{IsTrackText, count_of, count_text, end_mark, home_text, record_text, records_text, track_text, zero_count, zero_text}
use Rattle.dump_fmt.specs.Parts.{StandsOn}

module _ (a b : TrackAt) where
  record_long : (rec : Rec) → length (record_text a rec) ≡ length (record_text b rec)
  record_long rec =
      let same : length (count_text (count_of a rec)) ≡ length (count_text (count_of b rec)) = refl in
      omega (arith, same, length-append (count_text (count_of a rec)) (rec.key ++ rec.body), length-append (count_text (count_of b rec)) (rec.key ++ rec.body))

  records_long : (recs : List Rec) → length (records_text a recs) ≡ length (records_text b recs)
  records_long [] = refl
  records_long (rec ∷ recs) =
      omega (
        arith,
        record_long rec,
        records_long recs,
        length-append (record_text a rec) (records_text a recs),
        length-append (record_text b rec) (records_text b recs),
      )

  track_long : (track : Track) → length (track_text a track) ≡ length (track_text b track)
  track_long track =
      let home : length (home_text a track.flag) ≡ length (home_text b track.flag) = refl in
      let count : length (count_text (zero_count a)) ≡ length (count_text (zero_count b)) = refl in
      omega (
        arith,
        home,
        count,
        records_long track.recs,
        length-append ((home_text a track.flag ++ zero_text a track.r0) ++ records_text a track.recs) end_mark,
        length-append ((home_text b track.flag ++ zero_text b track.r0) ++ records_text b track.recs) end_mark,
        length-append (home_text a track.flag ++ zero_text a track.r0) (records_text a track.recs),
        length-append (home_text b track.flag ++ zero_text b track.r0) (records_text b track.recs),
        length-append (home_text a track.flag) (zero_text a track.r0),
        length-append (home_text b track.flag) (zero_text b track.r0),
        length-append (count_text (zero_count a)) track.r0,
        length-append (count_text (zero_count b)) track.r0,
      )

-- a track that was read
pub read_stands : (device : Device) (at : TrackAt) (slot : List ℕ) (track : Track) → length slot ≡ slot_of device → IsTrackText at slot track → StandsOn device track
read_stands device at slot track long is = record {
  sound = is.sound;
  short = λ other. omega (arith, track_long other at track, ap length is.text.1, length-append (track_text at track) is.text.0, long);
}
