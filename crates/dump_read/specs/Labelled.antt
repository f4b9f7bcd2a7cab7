-- What two tracks of a full dump have to hold: the label, and the format 4 that it names.
use Rattle.std.specs.Prelude.{◌≡◌, ℕ, ◌+◌, ◌*◌, List, ◌++◌, length}
use Rattle.ckd_image.specs.declared.track.Rec.{Rec}
use Rattle.ckd_image.specs.declared.track.Track.{Track as Text}
use Rattle.ckd_image.specs.Address.{address_of}
use Rattle.ckd_image.specs.Device.{heads_of}
use Rattle.ckd_image.specs.Track.{IsTrackText}
use Rattle.vol_label.specs.declared.label.Label.{Label}
use Rattle.vol_label.specs.Label.{IsFirstNumbered, IsLabel}
use Rattle.dscb_rec.specs.Dscb.{IsDscb}
use Rattle.dscb_rec.specs.declared.dscb.Dscb.TheVariants.{F4}
use Rattle.dump_fmt.specs.declared.piece.DumpHead.{DumpHead}
use Rattle.dump_fmt.specs.Front.{filled_slot}

-- the slot of track 0, without the zeros at its end, holds this label, whose pointer names a record on the track that the header says
pub record IsLabelSlot (head : DumpHead) (bytes : List ℕ) (label : Label) : Type 0 where
  pub track : Text
  pub text : IsTrackText (address_of (heads_of head.device) 0) (filled_slot head.device bytes) track
  pub label_there : IsLabel (record { device = head.device; tracks = head.tracks }) track.recs label
  pub pointer : label.vtoc.at.cylinder * heads_of head.device + label.vtoc.at.head ≡ head.vtoc

-- the slot of that track holds the record that a label names, and it is a format 4
pub record IsFormat4Slot (head : DumpHead) (label : Label) (bytes : List ℕ) : Type 0 where
  pub track : Text
  pub rec : Rec
  pub text : IsTrackText (address_of (heads_of head.device) head.vtoc) (filled_slot head.device bytes) track
  pub numbered : IsFirstNumbered label.vtoc.r track.recs rec
  pub key : length rec.key ≡ 44
  pub body : length rec.body ≡ 96
  pub format : IsDscb (rec.key ++ rec.body) (F4 (rec.key ++ rec.body))

-- a record is a format 4
pub record IsFormat4 (rec : Rec) : Type 0 where
  pub key : length rec.key ≡ 44
  pub body : length rec.body ≡ 96
  pub format : IsDscb (rec.key ++ rec.body) (F4 (rec.key ++ rec.body))
