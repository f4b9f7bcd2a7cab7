-- Records of a track that get other bytes.
use Rattle.std.proofs.Common.{◌≡◌, take, drop, ap, Some}
use Rattle.ckd_image.specs.declared.track.Rec.{Rec}
use Rattle.volume_model.specs.declared.place.Placed.{Placed}
use Rattle.vtoc_write.specs.Edited.{rec_with}

pub same_body : (rec : Rec) (edit : Placed) → rec_with rec (Some edit) ≡ rec → drop 44 edit.bytes ≡ rec.body
same_body rec edit e = ap (λ (r : Rec). r.body) e

pub same_rec : (rec : Rec) (edit : Placed) → take 44 edit.bytes ≡ rec.key → drop 44 edit.bytes ≡ rec.body → rec_with rec (Some edit) ≡ rec
same_rec rec edit key body = λ i. record { r = rec.r; key = key i; body = body i }
