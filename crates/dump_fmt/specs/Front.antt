-- What stands in a dump behind its header: the parts of a logical dump, or the slots of a full one.
use Rattle.std.specs.Prelude.{◌≡◌, ◌≢◌, ℕ, ◌+◌, ◌-◌, ◌*◌, ◌^◌, ◌<◌, ◌≤◌, Bool, true, false, IsTrue, List, [], ◌∷◌, ◌++◌, length, replicate, map, filter, sum_by, All, Option, Some, None, option_to_list, slice_get}
use Rattle.std.specs.List.{flat_map, enumerate_from, AllPairs}
use Rattle.ckd_image.specs.declared.device.Device.{Device}
use Rattle.ckd_image.specs.declared.track.Rec.{Rec}
use Rattle.ckd_image.specs.declared.track.Track.{Track as Text}
use Rattle.ckd_image.specs.Address.{address_of}
use Rattle.ckd_image.specs.Device.{heads_of, slot_of}
use Rattle.ckd_image.specs.Track.{IsTrackText}
use Rattle.vol_label.specs.declared.label.Label.{Label}
use Rattle.vol_label.specs.Label.{IsFirstNumbered, IsLabel}
use Rattle.dscb_rec.specs.Dscb.{IsDscb}
use Rattle.dscb_rec.specs.declared.dscb.Dscb.TheVariants.{F4}
use Rattle.dump_fmt.specs.declared.piece.DumpHead.{DumpHead}
use Rattle.dump_fmt.specs.declared.piece.Piece.{Piece}
use Rattle.dump_fmt.specs.declared.piece.Piece.TheVariants.{Part, Track, PartEnd, Dropped, Slot}
use Rattle.dump_fmt.specs.Head.{IsDumpHead}
use Rattle.dump_fmt.specs.Parts.{DumpPart, IsPart, is_whole, name_before, begun_pieces, part_pieces}

-- what stands so far: the parts that ended, the one under way, and the slots, each without the zeros at its end
pub record Front : Type 0 where
  pub parts : List DumpPart
  pub current : Option DumpPart
  pub slots : List (List ℕ)

abbrev pub empty_front : Front
empty_front = record { parts = []; current = None; slots = [] }

-- ---- the pieces

-- each slot with its number
abbrev pub slot_pieces : List (List ℕ) → List Piece
slot_pieces slots = map (λ slot. Slot slot.0 slot.1) (enumerate_from 0 slots)

abbrev pub current_pieces : Option DumpPart → List Piece
current_pieces None = []
current_pieces (Some part) = begun_pieces part

abbrev pub front_pieces : Front → List Piece
front_pieces front = flat_map part_pieces front.parts ++ (current_pieces front.current ++ slot_pieces front.slots)

-- ---- the counts of the trailer: only what is whole counts, and each slot is a part of one track

abbrev pub whole_parts : Front → ℕ
whole_parts front = length (filter is_whole front.parts) + length front.slots

abbrev pub whole_tracks : Front → ℕ
whole_tracks front = sum_by (λ part. part.tracks) (filter is_whole front.parts) + length front.slots

-- the largest number of parts and of tracks that a trailer can say
abbrev pub largest_count : ℕ
largest_count = 2 ^ 32 - 1

-- ---- logical dumps

abbrev pub all_parts : Front → List DumpPart
all_parts front = front.parts ++ option_to_list front.current

-- parts in the order of their names, which differ
pub record IsLogical (head : DumpHead) (front : Front) : Type 0 where
  pub no_slots : front.slots ≡ []
  pub parts : All (IsPart head.device) (all_parts front)
  pub order : AllPairs (λ a b. IsTrue (name_before a b)) (all_parts front)
  pub few : length (all_parts front) ≤ largest_count

-- ---- full dumps

-- a slot without the zeros at its end, and with them
abbrev pub IsCutSlot : Device → List ℕ → Type 0
IsCutSlot device bytes = (length bytes ≤ slot_of device) × ((more : List ℕ) → bytes ≢ more ++ (0 ∷ []))

abbrev pub filled_slot : Device → List ℕ → List ℕ
filled_slot device bytes = bytes ++ replicate (slot_of device - length bytes) 0

-- the track that stands in the slot with this number
pub record HoldsTrack (device : Device) (slots : List (List ℕ)) (number : ℕ) (track : Text) : Type 0 where
  pub bytes : List ℕ
  pub there : slice_get slots number ≡ Some bytes
  pub text : IsTrackText (address_of (heads_of device) number) (filled_slot device bytes) track

-- track 0 holds a label, whose pointer names a record on the track that the header says
pub record HasLabel (head : DumpHead) (slots : List (List ℕ)) (label : Label) : Type 0 where
  pub track : Text
  pub holds : HoldsTrack head.device slots 0 track
  pub label_there : IsLabel (record { device = head.device; tracks = head.tracks }) track.recs label
  pub pointer : label.vtoc.at.cylinder * heads_of head.device + label.vtoc.at.head ≡ head.vtoc

-- and that record is a format 4
pub record HasFormat4 (head : DumpHead) (slots : List (List ℕ)) : Type 0 where
  pub label : Label
  pub track : Text
  pub rec : Rec
  pub named : HasLabel head slots label
  pub holds : HoldsTrack head.device slots head.vtoc track
  pub numbered : IsFirstNumbered label.vtoc.r track.recs rec
  pub key : length rec.key ≡ 44
  pub body : length rec.body ≡ 96
  pub format : IsDscb (rec.key ++ rec.body) (F4 (rec.key ++ rec.body))

-- slots from track 0 on; label and format 4 are where they are to be, as soon as their slots stand there
pub record IsFull (head : DumpHead) (front : Front) : Type 0 where
  pub no_parts : front.parts ≡ []
  pub no_current : front.current ≡ None
  pub slots : All (IsCutSlot head.device) front.slots
  pub few : length front.slots ≤ head.tracks
  pub labelled : 0 < length front.slots → (label : Label) × HasLabel head front.slots label
  pub format_4 : head.vtoc < length front.slots → HasFormat4 head front.slots

-- ---- what may stand, and what is whole

abbrev pub IsOfKind : Bool → DumpHead → Front → Type 0
IsOfKind true head front = IsFull head front
IsOfKind false head front = IsLogical head front

-- the front of a dump with this header
pub record IsFront (head : DumpHead) (front : Front) : Type 0 where
  pub header : IsDumpHead head
  pub behind : IsOfKind head.full head front
  pub few_tracks : whole_tracks front ≤ largest_count

-- all of a dump: no part is under way, and a full dump has each track
pub record IsDump (head : DumpHead) (front : Front) : Type 0 where
  pub is_front : IsFront head front
  pub ended : front.current ≡ None
  pub all_slots : IsTrue head.full → length front.slots ≡ head.tracks

-- ---- one piece more

abbrev pub begun : List ℕ → ℕ → ℕ → DumpPart
begun f1 tracks kind = record { f1 = f1; tracks = tracks; kind = kind; texts = [] }

abbrev pub with_text : DumpPart → Text → DumpPart
with_text part text = record { f1 = part.f1; tracks = part.tracks; kind = part.kind; texts = part.texts ++ (text ∷ []) }

abbrev pub with_current : Front → Option DumpPart → Front
with_current front part = record { parts = front.parts; current = part; slots = front.slots }

abbrev pub with_part : Front → DumpPart → Front
with_part front part = record { parts = front.parts ++ (part ∷ []); current = None; slots = front.slots }

abbrev pub with_slot : Front → List ℕ → Front
with_slot front slot = record { parts = front.parts; current = front.current; slots = front.slots ++ (slot ∷ []) }

-- what stands once a piece stands behind what stood: a part begins, goes on or ends, or a slot more stands there
abbrev pub Adds : Front → Piece → Front → Type 0
Adds old (Part f1 tracks kind) new = (old.current ≡ None) × (new ≡ with_current old (Some (begun f1 tracks kind)))
Adds old (Track text) new = (part : DumpPart) × (old.current ≡ Some part) × (new ≡ with_current old (Some (with_text part text)))
Adds old PartEnd new = (part : DumpPart) × (old.current ≡ Some part) × IsTrue (is_whole part) × (new ≡ with_part old part)
Adds old Dropped new = (part : DumpPart) × (old.current ≡ Some part) × (length part.texts < part.tracks) × (new ≡ with_part old part)
Adds old (Slot number bytes) new = (number ≡ length old.slots) × (new ≡ with_slot old bytes)
