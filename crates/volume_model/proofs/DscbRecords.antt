-- Records of the lengths of DSCBs in the text of a track.
use Rattle.std.proofs.Common.{◌≡◌, ◌*◌, List, [], ◌∷◌, ◌++◌, length, refl, arith, length-append}
use Rattle.std.specs.List.{AllByRecursion}
use Rattle.ckd_image.specs.declared.track.Rec.{Rec}
use Rattle.ckd_image.specs.declared.track.TrackAt.{TrackAt}
use Rattle.ckd_image.specs.Track.{record_text, records_text, count_of, count_text}
use Rattle.volume_model.specs.Sound.{IsDscbRecord}

-- each is 148 bytes long
pub long_records : (at : TrackAt) (recs : List Rec) → AllByRecursion IsDscbRecord recs → length (records_text at recs) ≡ 148 * length recs
long_records at [] h = refl
long_records at (rec ∷ recs) h =
    omega (arith, length-append (record_text at rec) (records_text at recs), long_record, long_records at recs h.1)
  where
    long_record : length (record_text at rec) ≡ 148
    long_record = omega (arith, length-append (count_text (count_of at rec)) (rec.key ++ rec.body), length-append rec.key rec.body, h.0.0, h.0.1)
