-- The shape of a dump: what can be ended goes on, and what goes on does so with a piece or ends.
use Rattle.std.proofs.Common.{◌≡◌, ◌⊎◌, inl, inr, ℕ, ◌+◌, ◌-◌, ◌≤◌, Bool, true, false, List, [], ◌∷◌, ◌++◌, length, replicate, map, All, Option, Some, None, IsTrue, refl, sym, ap, subst, ◌∙◌, arith, length-append, append_assoc}
use Rattle.std.specs.List.{flat_map}
use Rattle.std.proofs.lemmas.Bool.{eqb-false}
use Rattle.std.proofs.lemmas.List.{append-nil, length-replicate}
use Rattle.std.proofs.lemmas.Grind.{flat_map-append}
use Rattle.std.proofs.lemmas.List.Elements.{recursion_from_All, All-append, All-replicate}
use Rattle.std.proofs.lemmas.Option.{none-some}
use Rattle.byteorder.specs.Endian.{big_bytes}
use Rattle.ckd_image.specs.declared.device.Device.{Device}
use Rattle.ckd_image.specs.declared.device.Device.TheVariants.{D3390, D3380, D3350}
use Rattle.ckd_image.specs.declared.track.Track.{Track as Text}
use Rattle.ckd_image.specs.Bytes.{Begins}
use Rattle.ckd_image.specs.Head.{device_byte}
use Rattle.dump_fmt.specs.declared.piece.DumpHead.{DumpHead}
use Rattle.dump_fmt.specs.declared.piece.Piece.{Piece}
use Rattle.dump_fmt.specs.declared.piece.Piece.TheVariants.{Part, Track, PartEnd, Dropped, Slot}
use Rattle.dump_fmt.specs.Head.{IsDumpHead, header_text, kind_byte, day_text}
use Rattle.dump_fmt.specs.Parts.{DumpPart, IsPart, is_whole, part_pieces}
use Rattle.dump_fmt.specs.Pieces.{piece_text, pieces_text, counted_text}
use Rattle.dump_fmt.specs.Front.{Front, Adds, front_pieces, current_pieces, slot_pieces, all_parts, IsLogical, IsCutSlot, begun, with_text, with_current, with_part, with_slot}
use Rattle.dump_fmt.specs.Text.{front_text, counts_text, digested_text}
use Rattle.dump_fmt.proofs.Fronts.{HasNoSlots, push_not_empty, pieces_more}
use Rattle.dump_read.specs.Shape.{IsOfShape, AreSlots, IsShapeFront, IsGoing, MayClose, GoesWithPiece, GoesWithEnd, FrontsGoOn, PiecesStandBehind, ShapesGoOn, NoShapeBeginsAnother}
use Rattle.dump_read.proofs.Chains.{none_is, front_of_more}
use Rattle.dump_read.proofs.Numbers.{one_number}
use Rattle.dump_read.proofs.Fed.{long_header}
use Rattle.dump_read.proofs.Delimited.{IsBounded, pieces_split}
use Rattle.dump_read.proofs.Bounds.{bounded_kind, bounded_slots}
use Rattle.dump_read.proofs.Counts.{tracks_in, parts_in, all_some}
use Rattle.dump_read.proofs.Going.{logical, logical_by, slots_by, of_slots, last_is, ended}
use Rattle.dump_read.proofs.Stages.{pieces_front, on_way, StandsBehind, slots_from, slots_on_way, slots_with, end_piece, with_texts}
use Rattle.dump_read.proofs.OnWay.{between, within, slots_before}
use Rattle.ckd_image.proofs.OneText.{split_same}

-- ---- the pieces of a shape

pub pieces_of_slots : (front : Front) → front.parts ≡ [] → front.current ≡ None → front_pieces front ≡ slots_from 0 front.slots
pieces_of_slots front no_parts no_current =
    ap (λ (p : List DumpPart). flat_map part_pieces p ++ (current_pieces front.current ++ slot_pieces front.slots)) no_parts
    ∙ ap (λ (c : Option DumpPart). current_pieces c ++ slot_pieces front.slots) no_current

pub pieces_of_parts : (front : Front) → front.slots ≡ [] → front_pieces front ≡ flat_map part_pieces front.parts ++ current_pieces front.current
pieces_of_parts front none =
    ap (λ (s : List (List ℕ)). flat_map part_pieces front.parts ++ (current_pieces front.current ++ slot_pieces s)) none
    ∙ ap (λ (t : List Piece). flat_map part_pieces front.parts ++ t) (append-nil (current_pieces front.current))

bounded_shape : (full : Bool) (head : DumpHead) (front : Front) → head.tracks ≤ 65535 → IsOfShape full head front → All IsBounded (front_pieces front)
bounded_shape true head front few is =
    let within : 0 + length front.slots ≤ 65535 = omega (arith, few, is.few) in
    subst (All IsBounded) (sym (pieces_of_slots front is.no_parts is.no_current)) (bounded_slots head.device 0 front.slots within (recursion_from_All (IsCutSlot head.device) front.slots is.slots))
bounded_shape false head front few is = bounded_kind false head front few is

pub bounded : (head : DumpHead) (front : Front) → IsShapeFront head front → All IsBounded (front_pieces front)
bounded head front is = bounded_shape head.full head front is.header.tracks.1 is.behind

text_with : (head : DumpHead) (front next : Front) (more : List Piece) → front_pieces next ≡ front_pieces front ++ more → front_text head next ≡ front_text head front ++ pieces_text more
text_with head front next more is =
    ap (λ (p : List Piece). header_text head ++ pieces_text p) is
    ∙ ap (λ (t : List ℕ). header_text head ++ t) (flat_map-append piece_text (front_pieces front) more)
    ∙ sym (append_assoc (header_text head) (pieces_text (front_pieces front)) (pieces_text more))

-- ---- a piece more stands behind what stood

no_slots_logical : (head : DumpHead) (front : Front) (piece : Piece) (next : Front) → Adds front piece next → IsLogical head next → HasNoSlots front piece
no_slots_logical head front (Part f1 tracks kind) next adds is = sym (ap (λ (f : Front). f.slots) adds.1) ∙ is.no_slots
no_slots_logical head front (Track text) next adds is = sym (ap (λ (f : Front). f.slots) adds.2) ∙ is.no_slots
no_slots_logical head front PartEnd next adds is = sym (ap (λ (f : Front). f.slots) adds.3) ∙ is.no_slots
no_slots_logical head front Dropped next adds is = sym (ap (λ (f : Front). f.slots) adds.3) ∙ is.no_slots
no_slots_logical head front (Slot number bytes) next adds is = tt

no_slots_full : (head : DumpHead) (front : Front) (piece : Piece) (next : Front) → Adds front piece next → AreSlots head next → HasNoSlots front piece
no_slots_full head front (Part f1 tracks kind) next adds is = absurd (none-some (begun f1 tracks kind) (sym is.no_current ∙ ap (λ (f : Front). f.current) adds.1))
no_slots_full head front (Track text) next adds is = absurd (none-some (with_text adds.0 text) (sym is.no_current ∙ ap (λ (f : Front). f.current) adds.2))
no_slots_full head front PartEnd next adds is = absurd (push_not_empty front.parts adds.0 (sym (ap (λ (f : Front). f.parts) adds.3) ∙ is.no_parts))
no_slots_full head front Dropped next adds is = absurd (push_not_empty front.parts adds.0 (sym (ap (λ (f : Front). f.parts) adds.3) ∙ is.no_parts))
no_slots_full head front (Slot number bytes) next adds is = tt

pub no_slots_by : (full : Bool) (head : DumpHead) (front : Front) (piece : Piece) (next : Front) → Adds front piece next → IsOfShape full head next → HasNoSlots front piece
no_slots_by true head front piece next adds is = no_slots_full head front piece next adds is
no_slots_by false head front piece next adds is = no_slots_logical head front piece next adds is

-- in a shape
pub piece_stands_behind : (head : DumpHead) (front next : Front) (piece : Piece) → IsShapeFront head next → Adds front piece next → front_text head next ≡ front_text head front ++ piece_text piece
piece_stands_behind head front next piece is adds =
    text_with head front next (piece ∷ []) (pieces_more front piece next adds (no_slots_by head.full head front piece next adds is.behind))
    ∙ ap (λ (t : List ℕ). front_text head front ++ t) (append-nil (piece_text piece))

pub pieces_stand_behind : PiecesStandBehind
pieces_stand_behind = piece_stands_behind

-- ---- what is going can be ended

pub record EndOf (head : DumpHead) (front : Front) : Type 0 where
  pub next : Front
  pub is_front : IsShapeFront head next
  pub closes : MayClose head next
  pub begins : Begins (front_text head front) (front_text head next)

no_trues : (full : Bool) (P : Type 0) → full ≡ false → IsTrue full → P
no_trues full P not is = absurd (cc (not, is))

pub empty_slot : (device : Device) → IsCutSlot device []
empty_slot device = (omega arith, λ more same. push_not_empty more 0 (sym same))

-- a full dump gets the slots that it lacks
end_full : (head : DumpHead) (front : Front) → head.full ≡ true → IsShapeFront head front → EndOf head front
end_full head front full is =
    let here : AreSlots head front = slots_by head.full head front full is.behind in
    let lacks : ℕ = head.tracks - length front.slots in
    let more : List (List ℕ) = replicate lacks [] in
    let next : Front = record { parts = front.parts; current = front.current; slots = front.slots ++ more } in
    let long : length (front.slots ++ more) ≡ head.tracks = omega (arith, length-append front.slots more, length-replicate {A = List ℕ} lacks [], here.few) in
    let all = All-append (IsCutSlot head.device) front.slots more here.slots (All-replicate (IsCutSlot head.device) lacks [] (empty_slot head.device)) in
    let pieces : front_pieces next ≡ front_pieces front ++ slots_from (0 + length front.slots) more =
    pieces_of_slots next here.no_parts here.no_current ∙ slots_with 0 front.slots more
    ∙ ap (λ (t : List Piece). t ++ slots_from (0 + length front.slots) more) (sym (pieces_of_slots front here.no_parts here.no_current)) in
    record {
      next = next;
      is_front = record {
        header = is.header;
        behind = of_slots head.full head next full (record { no_parts = here.no_parts; no_current = here.no_current; slots = all; few = omega (arith, long) });
        few_tracks = omega (arith, long, ap tracks_in here.no_parts, is.header.tracks.1);
        names = is.names;
      };
      closes = record { ended = here.no_current; all_slots = λ t. long };
      begins = (pieces_text (slots_from (0 + length front.slots) more), text_with head front next (slots_from (0 + length front.slots) more) pieces);
    }

-- a part ends as whole, or is dropped
adds_end : (front : Front) (part : DumpPart) → front.current ≡ Some part → length part.texts ≤ part.tracks → (b : Bool) → is_whole part ≡ b → Adds front (end_piece b) (with_part front part)
adds_end front part at within true is = (part, at, is, refl)
adds_end front part at within false is = (part, at, omega (arith, within, eqb-false (length part.texts) part.tracks is), refl)

pub within_of : (head : DumpHead) (front : Front) (part : DumpPart) → IsShapeFront head front → front.current ≡ Some part → IsPart head.device part
within_of head front part is at = last_is (IsPart head.device) front.parts part (subst (All (IsPart head.device)) (all_some front part at) (logical head front part is at).parts)

end_logical : (head : DumpHead) (front : Front) → head.full ≡ false → IsGoing head front → (current : Option DumpPart) → front.current ≡ current → EndOf head front
end_logical head front not going None at = record {
  next = front;
  is_front = going.is_front;
  closes = record { ended = at; all_slots = λ t. no_trues head.full (length front.slots ≡ head.tracks) not t };
  begins = ([], sym (append-nil (front_text head front)));
}
end_logical head front not going (Some part) at =
    let next : Front = with_part front part in
    let on = ended head front part at going in
    let piece : Piece = end_piece (is_whole part) in
    let adds = adds_end front part at (within_of head front part going.is_front at).within (is_whole part) refl in
    record {
      next = next;
      is_front = on.is_front;
      closes = record { ended = refl; all_slots = λ t. no_trues head.full (length next.slots ≡ head.tracks) not t };
      begins = (piece_text piece, piece_stands_behind head front next piece on.is_front adds);
    }

end_of : (head : DumpHead) (front : Front) → IsGoing head front → (full : Bool) → head.full ≡ full → EndOf head front
end_of head front going true is = end_full head front is going.is_front
end_of head front going false is = end_logical head front is going front.current refl

pub fronts_go_on : FrontsGoOn
fronts_go_on head front going =
    let end = end_of head front going head.full refl in
    let digest : List ℕ = replicate 32 0 in (
      digested_text head end.next ++ digest,
      (head, end.next, digest, record { is_front = end.is_front; closes = end.closes; long = refl; spelled = refl }),
      front_of_more (front_text head front) (digested_text head end.next) digest (front_of_more (front_text head front) (front_text head end.next) (counts_text end.next) end.begins),
    )

-- ---- a shape in its parts

pub in_parts : (head : DumpHead) (front : Front) (digest : List ℕ) → digested_text head front ++ digest ≡ header_text head ++ (pieces_text (front_pieces front) ++ (counts_text front ++ digest))
in_parts head front digest =
    append_assoc (front_text head front) (counts_text front) digest ∙ append_assoc (header_text head) (pieces_text (front_pieces front)) (counts_text front ++ digest)

pub no_shape_begins : NoShapeBeginsAnother
no_shape_begins a b (head, front, digest, is) (other, behind, second, also) (more, e) =
    let whole : a ++ more ≡ digested_text head front ++ (digest ++ more) = ap (λ (t : List ℕ). t ++ more) is.spelled ∙ append_assoc (digested_text head front) digest more in
    let spelled = sym (in_parts head front (digest ++ more)) ∙ sym whole ∙ sym e ∙ also.spelled ∙ in_parts other behind second in
    let headers = split_same (header_text head) (header_text other) (pieces_text (front_pieces front) ++ (counts_text front ++ (digest ++ more))) (pieces_text (front_pieces behind) ++ (counts_text behind ++ second))
    (long_header head is.is_front.header ∙ sym (long_header other also.is_front.header)) spelled in
    let pieces = pieces_split (front_pieces front) (front_pieces behind) (counts_text front ++ (digest ++ more)) (counts_text behind ++ second) (bounded head front is.is_front)
    (bounded other behind also.is_front) (_, refl) (_, refl) headers.1 in
    let counts = split_same (counts_text front) (counts_text behind) (digest ++ more) second refl pieces.1 in
    let none : more ≡ [] = none_is more (omega (arith, is.long, also.long, ap length counts.1, length-append digest more)) in
    sym (append-nil a) ∙ ap (λ (t : List ℕ). a ++ t) (sym none) ∙ sym e

-- ---- what a header says of the shape

pub record AreAlike (head other : DumpHead) : Type 0 where
  pub full : head.full ≡ other.full
  pub device : head.device ≡ other.device
  pub tracks : head.tracks ≡ other.tracks

same_kind : (a b : Bool) → kind_byte a ≡ kind_byte b → a ≡ b
same_kind true true e = refl
same_kind true false e = absurd (omega (arith, e))
same_kind false true e = absurd (omega (arith, e))
same_kind false false e = refl

same_device : (a b : Device) → device_byte a ≡ device_byte b → a ≡ b
same_device D3390 D3390 e = refl
same_device D3390 D3380 e = absurd (omega (arith, e))
same_device D3390 D3350 e = absurd (omega (arith, e))
same_device D3380 D3390 e = absurd (omega (arith, e))
same_device D3380 D3380 e = refl
same_device D3380 D3350 e = absurd (omega (arith, e))
same_device D3350 D3390 e = absurd (omega (arith, e))
same_device D3350 D3380 e = absurd (omega (arith, e))
same_device D3350 D3350 e = refl

pub alike : (head other : DumpHead) → IsDumpHead head → IsDumpHead other → header_text head ≡ header_text other → AreAlike head other
alike head other sound right e =
    let kind : kind_byte head.full ≡ kind_byte other.full = cc in
    let device : device_byte head.device ≡ device_byte other.device = cc in
    let behind : (head.serial.text ++ big_bytes 4 head.tracks) ++ day_text head ≡ (other.serial.text ++ big_bytes 4 other.tracks) ++ day_text other = cc in
    let serials = split_same head.serial.text other.serial.text (big_bytes 4 head.tracks ++ day_text head) (big_bytes 4 other.tracks ++ day_text other) (sound.serial.1.six ∙ sym right.serial.1.six)
    (sym (append_assoc head.serial.text (big_bytes 4 head.tracks) (day_text head)) ∙ behind ∙ append_assoc other.serial.text (big_bytes 4 other.tracks) (day_text other)) in
    let numbers = split_same (big_bytes 4 head.tracks) (big_bytes 4 other.tracks) (day_text head) (day_text other) refl serials.1 in
    record {
      full = same_kind head.full other.full kind;
      device = same_device head.device other.device device;
      tracks = one_number head.tracks other.tracks (omega (arith, sound.tracks.1)) (omega (arith, right.tracks.1)) numbers.0;
    }

same_shape : (full : Bool) (head other : DumpHead) (front : Front) → head.device ≡ other.device → head.tracks ≡ other.tracks → IsOfShape full other front → IsOfShape full head front
same_shape true head other front device tracks is = record {
  no_parts = is.no_parts;
  no_current = is.no_current;
  slots = subst (λ (d : Device). All (IsCutSlot d) front.slots) (sym device) is.slots;
  few = omega (arith, is.few, tracks);
}
same_shape false head other front device tracks is = record {
  no_slots = is.no_slots;
  parts = subst (λ (d : Device). All (IsPart d) (all_parts front)) (sym device) is.parts;
  order = is.order;
  few = is.few;
}

pub front_alike : (head other : DumpHead) (front : Front) → IsDumpHead head → AreAlike head other → IsShapeFront other front → IsShapeFront head front
front_alike head other front sound same is = record {
  header = sound;
  behind = same_shape head.full head other front same.device same.tracks (subst (λ (b : Bool). IsOfShape b other front) (sym same.full) is.behind);
  few_tracks = is.few_tracks;
  names = is.names;
}

pub closes_alike : (head other : DumpHead) (front : Front) → AreAlike head other → MayClose other front → MayClose head front
closes_alike head other front same is = record {
  ended = is.ended;
  all_slots = λ t. is.all_slots (sym same.full ∙ t) ∙ sym same.tracks;
}

-- ---- how a shape goes on behind what stands

first_of : (piece : Piece) (more : List Piece) (rest end : List ℕ) → rest ≡ pieces_text (piece ∷ more) ++ end → Begins (piece_text piece) rest
first_of piece more rest end is = (pieces_text more ++ end, is ∙ append_assoc (piece_text piece) (pieces_text more) end)

counts_same : (front last : Front) → last.parts ≡ front.parts → last.slots ≡ front.slots → counts_text last ≡ counts_text front
counts_same front last parts slots =
    ap (λ (p : List DumpPart). counted_text (parts_in p + length last.slots) (tracks_in p + length last.slots)) parts
    ∙ ap (λ (s : List (List ℕ)). counted_text (parts_in front.parts + length s) (tracks_in front.parts + length s)) slots

-- a shape of these pieces, behind which others stand
module _ (head : DumpHead) (front last : Front) (digest rest : List ℕ) (more : List Piece) (going : IsGoing head front) (is : IsShapeFront head last) (closes : MayClose head last) (long : length digest ≡ 32)
    (rest_is : rest ≡ pieces_text more ++ (counts_text last ++ digest)) where
  behind_is : (pieces : List Piece) → more ≡ pieces → rest ≡ pieces_text pieces ++ (counts_text last ++ digest)
  behind_is pieces same = rest_is ∙ ap (λ (p : List Piece). pieces_text p ++ (counts_text last ++ digest)) same

  ends : MayClose head front → more ≡ [] → last.parts ≡ front.parts → last.slots ≡ front.slots → GoesWithEnd head front rest
  ends may none parts slots = record {
    closes = may;
    digest = digest;
    long = long;
    rest_is = behind_is [] none ∙ ap (λ (t : List ℕ). t ++ digest) (counts_same front last parts slots);
  }

  -- a full dump has a slot more
  slot_goes : head.full ≡ true → AreSlots head front → AreSlots head last → (later : List (List ℕ)) → last.slots ≡ front.slots ++ later → more ≡ slots_from (0 + length front.slots) later
      → GoesWithPiece head front rest ⊎ GoesWithEnd head front rest
  slot_goes full here whole [] all behind =
      let same : last.slots ≡ front.slots = all ∙ append-nil front.slots in
      inr (ends (record { ended = here.no_current; all_slots = λ t. ap length (sym same) ∙ closes.all_slots t }) behind (whole.no_parts ∙ sym here.no_parts) same)
  slot_goes full here whole (slot ∷ later) all behind =
      let number : ℕ = 0 + length front.slots in
      let next : Front = with_slot front slot in
      inl (record {
        piece = Slot number slot;
        next = next;
        adds = (omega arith, refl);
        going = slots_before head next last later full is whole here.no_parts here.no_current (all ∙ sym (append_assoc front.slots (slot ∷ []) later));
        begins = first_of (Slot number slot) (slots_from (number + 1) later) rest (counts_text last ++ digest) (behind_is (slots_from number (slot ∷ later)) behind);
      })

  -- a part under way has a track more, or ends
  text_goes : head.full ≡ false → IsLogical head last → front.slots ≡ [] → (part : DumpPart) → front.current ≡ Some part → (texts : List Text) (later : List DumpPart)
      → last.parts ≡ front.parts ++ with_texts part texts ∷ later → more ≡ map Track texts ++ end_piece (is_whole (with_texts part texts)) ∷ flat_map part_pieces later → GoesWithPiece head front rest
  text_goes not whole none part at [] later all behind =
      let next : Front = with_part front part in
      let same : with_texts part [] ≡ part = ap (λ (t : List Text). record { f1 = part.f1; tracks = part.tracks; kind = part.kind; texts = t }) (append-nil part.texts) in
      let all_is : last.parts ≡ (front.parts ++ part ∷ []) ++ later = all ∙ ap (λ (p : DumpPart). front.parts ++ p ∷ later) same ∙ sym (append_assoc front.parts (part ∷ []) later) in
      let piece : Piece = end_piece (is_whole part) in
      record {
        piece = piece;
        next = next;
        adds = adds_end front part at (within_of head front part going.is_front at).within (is_whole part) refl;
        going = between head next last not is whole closes.ended none later all_is refl;
        begins = first_of piece (flat_map part_pieces later) rest (counts_text last ++ digest)
            (behind_is (piece ∷ flat_map part_pieces later) (behind ∙ ap (λ (p : DumpPart). end_piece (is_whole p) ∷ flat_map part_pieces later) same));
      }
  text_goes not whole none part at (text ∷ texts) later all behind =
      let next : Front = with_current front (Some (with_text part text)) in
      let same : with_texts part (text ∷ texts) ≡ with_texts (with_text part text) texts =
      ap (λ (t : List Text). record { f1 = part.f1; tracks = part.tracks; kind = part.kind; texts = t }) (sym (append_assoc part.texts (text ∷ []) texts)) in
      let tail : List Piece = map Track texts ++ end_piece (is_whole (with_texts part (text ∷ texts))) ∷ flat_map part_pieces later in
      record {
        piece = Track text;
        next = next;
        adds = (part, at, refl);
        going = within head next last not is whole closes.ended none (with_text part text) texts later (all ∙ ap (λ (p : DumpPart). front.parts ++ p ∷ later) same) refl;
        begins = first_of (Track text) tail rest (counts_text last ++ digest) (behind_is (Track text ∷ tail) behind);
      }

  part_goes : head.full ≡ false → IsLogical head last → front.slots ≡ [] → (current : Option DumpPart) → front.current ≡ current → (later : List DumpPart) → last.parts ≡ front.parts ++ later
      → StandsBehind current later more → GoesWithPiece head front rest ⊎ GoesWithEnd head front rest
  part_goes not whole none None at [] all behind =
      inr (ends (record { ended = at; all_slots = λ t. no_trues head.full (length front.slots ≡ head.tracks) not t }) behind (all ∙ append-nil front.parts) (whole.no_slots ∙ sym none))
  part_goes not whole none None at (part ∷ later) all behind =
      let new : DumpPart = begun part.f1 part.tracks part.kind in
      let next : Front = with_current front (Some new) in
      let tail : List Piece = (map Track part.texts ++ end_piece (is_whole part) ∷ []) ++ flat_map part_pieces later in
      inl (record {
        piece = Part part.f1 part.tracks part.kind;
        next = next;
        adds = (at, refl);
        going = within head next last not is whole closes.ended none new part.texts later all refl;
        begins = first_of (Part part.f1 part.tracks part.kind) tail rest (counts_text last ++ digest) (behind_is (Part part.f1 part.tracks part.kind ∷ tail) behind);
      })
  part_goes not whole none (Some part) at [] all behind = absurd behind
  part_goes not whole none (Some part) at (next ∷ later) all (texts, next_is, behind) =
      inl (text_goes not whole none part at texts later (all ∙ ap (λ (p : DumpPart). front.parts ++ p ∷ later) next_is)
      (behind ∙ ap (λ (p : DumpPart). map Track texts ++ end_piece (is_whole p) ∷ flat_map part_pieces later) next_is))

  goes_by : front_pieces last ≡ front_pieces front ++ more → (full : Bool) → head.full ≡ full → GoesWithPiece head front rest ⊎ GoesWithEnd head front rest
  goes_by pieces true full =
      let here = slots_by head.full head front full going.is_front.behind in
      let whole = slots_by head.full head last full is.behind in
      let slots : slots_from 0 front.slots ++ more ≡ slots_from 0 last.slots =
      ap (λ (t : List Piece). t ++ more) (sym (pieces_of_slots front here.no_parts here.no_current)) ∙ sym pieces ∙ pieces_of_slots last whole.no_parts whole.no_current in
      let way = slots_on_way 0 front.slots last.slots more slots in
      slot_goes full here whole way.0 way.1 way.2
  goes_by pieces false not =
      let here = logical_by head.full head front not going.is_front.behind in
      let whole = logical_by head.full head last not is.behind in
      let P : List Piece = flat_map part_pieces front.parts in
      let parts : P ++ (current_pieces front.current ++ more) ≡ flat_map part_pieces last.parts =
      sym (append_assoc P (current_pieces front.current) more) ∙ ap (λ (t : List Piece). t ++ more) (sym (pieces_of_parts front here.no_slots)) ∙ sym pieces ∙ pieces_of_parts last whole.no_slots
      ∙ ap (λ (c : Option DumpPart). flat_map part_pieces last.parts ++ current_pieces c) closes.ended ∙ append-nil (flat_map part_pieces last.parts) in
      let way = on_way front.parts front.current last.parts more parts in
      part_goes not whole here.no_slots front.current refl way.later way.all_are way.behind

pub shapes_go_on : ShapesGoOn
shapes_go_on head front text rest going (other, last, digest, shape) e =
    let end : List ℕ = counts_text last ++ digest in
    let spelled = sym (append_assoc (header_text head) (pieces_text (front_pieces front)) rest) ∙ sym e ∙ shape.spelled ∙ in_parts other last digest in
    let sound = going.is_front.header in
    let headers = split_same (header_text head) (header_text other) (pieces_text (front_pieces front) ++ rest) (pieces_text (front_pieces last) ++ end)
    (long_header head sound ∙ sym (long_header other shape.is_front.header)) spelled in
    let same = alike head other sound shape.is_front.header headers.0 in
    let before = pieces_front (front_pieces front) (front_pieces last) rest end (bounded head front going.is_front) (bounded other last shape.is_front) (_, refl) headers.1 in
    goes_by head front last digest rest before.more going (front_alike head other last sound same shape.is_front) (closes_alike head other last same shape.closes) shape.long before.rest_is
    before.all_are head.full refl
