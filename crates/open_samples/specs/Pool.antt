-- A small pool byte by byte, worked by hand: a 3390 of four cylinders, and its journal.
-- Its VTOC puts one data set, A.B, on the tracks 30 to 59. The texts stand as a slide of A.B to 15 leaves them that is half done: those of its first 15 tracks
-- on 15 to 29, and the others on 45 to 59. The slots of 2 to 14 and of 30 to 44 are empty.
use Rattle.std.specs.Prelude.{ℕ, ◌-◌, ◌==◌, ◌&&◌, nat_le, nat_lt, Bool, true, false, if◌then◌else◌, List, [], ◌∷◌, ◌++◌, length, take, drop, replicate, codes}
use Rattle.ckd_image.specs.declared.device.Device.TheVariants.{D3390}
use Rattle.ckd_image.specs.declared.track.Cchhr.{Cchhr}
use Rattle.ckd_image.specs.declared.track.Rec.{Rec}
use Rattle.ckd_image.specs.declared.track.Track.{Track}
use Rattle.ckd_image.specs.Address.{address_of}
use Rattle.ckd_image.specs.Track.{track_text}
use Rattle.dasd_pool.specs.Disk.{Image, Shape}
use Rattle.vol_label.specs.declared.serial.Serial.{Serial}
use Rattle.vol_label.specs.Label.{label_key, new_label}
use Rattle.redo_core.specs.Format.{head_text, registration_text}
use Rattle.volume_model.specs.Reads.{fields_of_1, fields_of_4}
use Rattle.volume_model.specs.Sound.{Slots}
use Rattle.volume_model.specs.Unit.{Text, DataSet, OnlineVolume}
use Rattle.move_core.specs.Facts.{Facts, no_inputs}
use Rattle.move_core.specs.Stands.{extent_from}

-- ---- DSCBs

-- four cylinders of 15 heads, the indicator of an interrupted change (0x04), and the VTOC on track 1
abbrev pub format_4 : List ℕ
format_4 =
    replicate 44 4 ++ (0xF4 ∷ (replicate 13 0 ++ (4 ∷ 0 ∷ 0 ∷ 0 ∷ 0 ∷ 4 ∷ 0 ∷ 15 ∷ (replicate 39 0 ++ (1 ∷ 0 ∷ 0 ∷ 0 ∷ 0 ∷ 1 ∷ 0 ∷ 0 ∷ 0 ∷ 1 ∷ replicate 25 0)))))

-- from track 2 on one cylinder and 13 tracks are free
abbrev pub format_5 : List ℕ
format_5 = 5 ∷ 5 ∷ 5 ∷ 5 ∷ 0 ∷ 2 ∷ 0 ∷ 1 ∷ 13 ∷ (replicate 35 0 ++ (0xF5 ∷ replicate 95 0))

-- A.B, with one extent of cylinders (0x81): from head 0 of cylinder 2 to head 14 of cylinder 3
abbrev pub format_1 : List ℕ
format_1 = 0xC1 ∷ 0x4B ∷ 0xC2 ∷ (replicate 41 0x40 ++ (0xF1 ∷ (replicate 60 0 ++ (0x81 ∷ 0 ∷ 0 ∷ 2 ∷ 0 ∷ 0 ∷ 0 ∷ 3 ∷ 0 ∷ 14 ∷ replicate 25 0))))

abbrev pub free_record : List ℕ
free_record = replicate 140 0

abbrev pub dscb : ℕ → List ℕ → Rec
dscb number bytes = record { r = number; key = take 44 bytes; body = drop 44 bytes }

-- ---- tracks

-- VOL001
abbrev pub serial : Serial
serial = record { text = 0xE5 ∷ 0xD6 ∷ 0xD3 ∷ 0xF0 ∷ 0xF0 ∷ 0xF1 ∷ [] }

-- the label names record 1 of track 1
abbrev pub pointer : Cchhr
pointer = record { at = record { cylinder = 0; head = 1 }; r = 1 }

abbrev pub label_track : Track
label_track = record { flag = 0; r0 = replicate 8 0; recs = record { r = 3; key = label_key; body = new_label serial pointer } ∷ [] }

abbrev pub vtoc_track : Track
vtoc_track = record { flag = 0; r0 = replicate 8 0; recs = dscb 1 format_4 ∷ dscb 2 format_5 ∷ dscb 3 format_1 ∷ dscb 4 free_record ∷ [] }

-- the text of a track of A.B, counted from 0: each has another record 0
abbrev pub own_track : ℕ → Track
own_track number = record { flag = 0; r0 = number ∷ replicate 7 0; recs = [] }

-- a text at a track's address, and zeros up to the end of the slot
abbrev pub padding : ℕ → Track → List ℕ
padding track text = replicate (56832 - length (track_text (address_of 15 track) text)) 0

abbrev pub slot : ℕ → Track → List ℕ
slot track text = track_text (address_of 15 track) text ++ padding track text

abbrev pub slots : Slots
slots track =
    if track == 0 then slot 0 label_track
    else if track == 1 then slot 1 vtoc_track
    else if nat_le 15 track && nat_lt track 30 then slot track (own_track (track - 15))
    else if nat_le 45 track then slot track (own_track (track - 30))
    else []

-- ---- the pool

abbrev pub volume_head : List ℕ
volume_head = codes "CKD_P370" ++ (15 ∷ 0 ∷ 0 ∷ 0 ∷ 0 ∷ 0xDE ∷ 0 ∷ 0 ∷ 0x90 ∷ replicate 495 0)

-- unit 0 is the volume, and unit 1 the journal, with room for three entries
abbrev pub shape : Shape
shape = record {
  units = 2;
  head = λ u. if u == 0 then volume_head else head_text;
  block_size = λ u. if u == 0 then 56832 else 65536;
  blocks = λ u. if u == 0 then 60 else 7;
  may_write = λ u. true;
}

-- the blocks, with this control block; no body is open
abbrev pub blocks : List ℕ → Image
blocks control u b =
    if u == 0 then slots b
    else if b == 0 then registration_text (serial ∷ []) 3 ++ replicate 65514 0
    else if b == 2 then control
    else replicate 65536 0

abbrev pub facts : Facts
facts = record { shape = shape; names = serial ∷ []; room = 3; inputs = no_inputs }

-- ---- the volume

-- A.B on 30 tracks from this one on, with these texts
abbrev pub set_at : ℕ → List Text → DataSet
set_at first texts = record { name = take 44 format_1; fields = fields_of_1 format_1; extents = extent_from first 30 0x81 ∷ []; texts = texts; threes = 0 }

-- the volume with it, whose free space is stated or not
abbrev pub volume_with : DataSet → Bool → OnlineVolume
volume_with set repair = record {
  serial = serial;
  device = D3390;
  usable = 60;
  vtoc = record { first = 1; len = 1 };
  first = label_track;
  four = fields_of_4 format_4;
  sets = set ∷ [];
  repair = repair;
  indexed = false;
  dscbs = 4;
  fives = 1;
  tail = [];
}
