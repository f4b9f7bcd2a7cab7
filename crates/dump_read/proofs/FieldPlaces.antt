-- Where the fields of a dump are: each within the piece that stands there, and none over another one.
use Rattle.std.proofs.Common.{◌≡◌, ◌⊎◌, inl, inr, ℕ, ◌+◌, ◌≤◌, ◌<◌, List, [], ◌∷◌, ◌++◌, length, take, drop, refl, sym, ap, subst, ◌∙◌, arith, length-append}
use Rattle.byteorder.specs.Endian.{big_bytes}
use Rattle.ckd_image.specs.Bytes.{Begins}
use Rattle.dump_fmt.specs.declared.piece.Piece.{Piece}
use Rattle.dump_fmt.specs.declared.piece.Piece.TheVariants.{Part, Track, PartEnd, Dropped, Slot}
use Rattle.dump_fmt.specs.Pieces.{piece_text}
use Rattle.dump_fmt.specs.Front.{Front, Adds}
use Rattle.dump_read.specs.declared.field.DumpField.{DumpField}
use Rattle.dump_read.specs.declared.field.DumpField.TheVariants as fields
use Rattle.dump_read.specs.declared.part.PartField.{PartField}
use Rattle.dump_read.specs.declared.part.PartField.TheVariants as part_fields
use Rattle.dump_read.specs.declared.slot.SlotField.{SlotField}
use Rattle.dump_read.specs.declared.slot.SlotField.TheVariants as slot_fields
use Rattle.dump_read.specs.declared.track.TrackField.{TrackField}
use Rattle.dump_read.specs.Faults.{why_of, IsFieldAt}
use Rattle.dump_read.specs.PartText as parts
use Rattle.dump_read.specs.SlotText as slots
use Rattle.dump_read.specs.TrackText as tracks
use Rattle.dump_read.proofs.Delimited.{IsBounded}
use Rattle.dump_read.proofs.Languages.{part_is, track_is, slot_is}
use Rattle.dump_read.proofs.Lifted.{first_byte}
use Rattle.dump_read.proofs.Numbers.{one_number}
use Rattle.dump_read.proofs.TrackPlaces.{field_place, one_field_place, place_in_track}
use Rattle.ckd_image.proofs.OneText.{split_same}

-- ---- a field is one of the piece that stands there

-- the mark tells the piece
text_behind : (mark : ℕ) (piece : Piece) (rest behind : List ℕ) → Begins (mark ∷ []) rest → rest ≡ piece_text piece ++ behind
    → (tail : List ℕ) × (piece_text piece ≡ mark ∷ tail) × (drop 1 rest ≡ tail ++ behind)
text_behind mark piece rest behind (more, e) is =
    let (byte, tail, first) = first_byte piece in
    let all : mark ∷ more ≡ byte ∷ (tail ++ behind) = sym e ∙ is ∙ ap (λ (t : List ℕ). t ++ behind) first in
    let same : byte ≡ mark = cc in
    (tail, first ∙ ap (λ (b : ℕ). b ∷ tail) same, ap (drop 1) (is ∙ ap (λ (t : List ℕ). t ++ behind) first))

part_ends : (field : PartField) → parts.IsField field → parts.place_of field + parts.length_of field ≤ 145
part_ends part_fields.Name is = omega arith
part_ends part_fields.Format is = omega arith
part_ends part_fields.Count is = omega arith
part_ends (part_fields.Extents k) is = omega (arith, is)
part_ends part_fields.Tracks is = omega arith
part_ends part_fields.Kind is = omega arith

module _ (piece : Piece) (rest behind : List ℕ) (bound : IsBounded piece) (e : rest ≡ piece_text piece ++ behind) where
  in_part : (field : PartField) → Begins (0x50 ∷ []) rest → parts.IsField field → 1 + (parts.place_of field + parts.length_of field) ≤ length (piece_text piece)
  in_part field begins is =
      let (tail, text, left) = text_behind 0x50 piece rest behind begins e in
      let (f1, count, kind, same, spelled) = part_is piece tail text in
      let fits : IsBounded (Part f1 count kind) = subst IsBounded same bound in
      omega (arith, part_ends field is, ap length text, ap length spelled, length-append f1 (big_bytes 4 count ++ (kind ∷ [])), fits.0)

  in_track : (field : TrackField) (place : ℕ) → Begins (0x01 ∷ []) rest → place ≤ 65535 → place ≤ length (drop 1 rest) → tracks.IsFieldBehind field (take place (drop 1 rest))
      → 1 + (place + tracks.length_of field) ≤ length (piece_text piece)
  in_track field place begins few within is =
      let (tail, text, left) = text_behind 0x01 piece rest behind begins e in
      let (track, same, spelled) = track_is piece tail text in
      let fits : IsBounded (Track track) = subst IsBounded same bound in
      let inner = place_in_track (drop 1 rest) behind place (tracks.length_of field) track (field_place field (drop 1 rest) place few within is) fits.0 fits.1
      (left ∙ ap (λ (t : List ℕ). t ++ behind) spelled) in
      omega (arith, inner, ap length text, ap length spelled)

  in_slot : (field : SlotField) (number count : ℕ) → ((n : ℕ) (bytes : List ℕ) → piece ≡ Slot n bytes → n ≡ number) → Begins (0x54 ∷ []) rest → slots.HasLength field number (drop 1 rest) count
      → 1 + (slots.place_of field + count) ≤ length (piece_text piece)
  in_slot field number count numbered begins has =
      let (tail, text, left) = text_behind 0x54 piece rest behind begins e in
      let (n, bytes, same, spelled) = slot_is piece tail text in
      let fits : IsBounded (Slot n bytes) = subst IsBounded same bound in
      let here : length (piece_text piece) ≡ 9 + length bytes = omega (arith, ap length text, ap length spelled) in
      by n bytes fits (numbered n bytes same) (left ∙ ap (λ (t : List ℕ). t ++ behind) spelled) here field has
    where
      by : (n : ℕ) (bytes : List ℕ) → IsBounded (Slot n bytes) → n ≡ number → drop 1 rest ≡ slots.slot_text n bytes ++ behind → length (piece_text piece) ≡ 9 + length bytes
          → (field : SlotField) → slots.HasLength field number (drop 1 rest) count → 1 + (slots.place_of field + count) ≤ length (piece_text piece)
      by n bytes fits same left long slot_fields.Track has = omega (arith, long, has)
      by n bytes fits same left long slot_fields.Length has = omega (arith, long, has)
      by n bytes fits same left long slot_fields.Bytes (few, (more, there)) =
          let numbers : big_bytes 4 n ++ (big_bytes 4 (length bytes) ++ (bytes ++ behind)) ≡ big_bytes 4 number ++ (big_bytes 4 count ++ more) = sym left ∙ there in
          let first = split_same (big_bytes 4 n) (big_bytes 4 number) (big_bytes 4 (length bytes) ++ (bytes ++ behind)) (big_bytes 4 count ++ more) refl numbers in
          let second = split_same (big_bytes 4 (length bytes)) (big_bytes 4 count) (bytes ++ behind) more refl first.1 in
          omega (arith, long, one_number (length bytes) count fits.1 (omega (arith, few)) second.0)

  no_end : ¬ Begins (0x5A ∷ []) rest
  no_end begins = let (tail, text, left) = text_behind 0x5A piece rest behind begins e in none piece tail text
    where
      none : (p : Piece) (tail : List ℕ) → ¬ (piece_text p ≡ 0x5A ∷ tail)
      none (Part f1 count kind) tail is = let wrong : ◌≡◌ {A = ℕ} 0x50 0x5A = cc in absurd (omega (arith, wrong))
      none (Track track) tail is = let wrong : ◌≡◌ {A = ℕ} 0x01 0x5A = cc in absurd (omega (arith, wrong))
      none PartEnd tail is = let wrong : ◌≡◌ {A = ℕ} 0x00 0x5A = cc in absurd (omega (arith, wrong))
      none Dropped tail is = let wrong : ◌≡◌ {A = ℕ} 0xFF 0x5A = cc in absurd (omega (arith, wrong))
      none (Slot n bytes) tail is = let wrong : ◌≡◌ {A = ℕ} 0x54 0x5A = cc in absurd (omega (arith, wrong))

-- a slot has the number of those before it
numbered : (front next : Front) (piece : Piece) → Adds front piece next → (n : ℕ) (bytes : List ℕ) → piece ≡ Slot n bytes → n ≡ length front.slots
numbered front next piece adds n bytes same = (subst (λ (p : Piece). Adds front p next) same adds).0

behind_mark : (place : ℕ) (rest : List ℕ) → 1 + place ≤ length rest → place ≤ length (drop 1 rest)
behind_mark place [] within = absurd (omega (arith, within))
behind_mark place (x ∷ rest) within = omega (arith, within)

-- where a piece stands whole no field ends behind it
pub field_in_piece : (front next : Front) (piece : Piece) (rest behind : List ℕ) (field : DumpField) (place count : ℕ) → Adds front piece next → IsBounded piece → rest ≡ piece_text piece ++ behind
    → IsFieldAt field (length front.slots) rest place count → place ≤ length rest → place + count ≤ length (piece_text piece)
field_in_piece front next piece rest behind (fields.Header field) place count adds bound e is within = absurd is
field_in_piece front next piece rest behind fields.Mark place count adds bound e is within =
    let (byte, tail, first) = first_byte piece in
    omega (arith, is.0, is.1, ap length first)
field_in_piece front next piece rest behind (fields.Part field) place count adds bound e (begins, is_field, at, long) within =
    omega (arith, at, long, in_part piece rest behind bound e field begins is_field)
field_in_piece front next piece rest behind (fields.Track field) place count adds bound e (begins, (before, few, at, is), long) within =
    omega (arith, at, long, in_track piece rest behind bound e field before begins few (behind_mark before rest (omega (arith, at, within))) is)
field_in_piece front next piece rest behind (fields.Slot field) place count adds bound e (begins, at, has) within =
    omega (arith, at, in_slot piece rest behind bound e field (length front.slots) count (numbered front next piece adds) begins has)
field_in_piece front next piece rest behind fields.Count place count adds bound e is within = absurd (no_end piece rest behind bound e is.0)

other_mark : {P : Type 0} (mark other : ℕ) (rest : List ℕ) → Begins (mark ∷ []) rest → Begins (other ∷ []) rest → ¬ (mark ≡ other) → P
other_mark mark other rest (more, e) (left, f) differ = absurd (differ cc)

-- nor behind the counts
pub field_in_end : (number : ℕ) (rest : List ℕ) (field : DumpField) (place count : ℕ) → Begins (0x5A ∷ []) rest → IsFieldAt field number rest place count → place + count ≤ 9
field_in_end number rest (fields.Header field) place count begins is = absurd is
field_in_end number rest fields.Mark place count begins is = omega (arith, is.0, is.1)
field_in_end number rest (fields.Part field) place count begins is = other_mark 0x5A 0x50 rest begins is.0 (λ same. omega (arith, same))
field_in_end number rest (fields.Track field) place count begins is = other_mark 0x5A 0x01 rest begins is.0 (λ same. omega (arith, same))
field_in_end number rest (fields.Slot field) place count begins is = other_mark 0x5A 0x54 rest begins is.0 (λ same. omega (arith, same))
field_in_end number rest fields.Count place count begins (mark, at, long) = elim at [
  | inl first ↦ omega (arith, first, long)
  | inr second ↦ omega (arith, second, long)
]

-- ---- two fields behind the same pieces that have a byte in common

-- each field of a part is the name, a byte behind it, or the number of tracks
abbrev IsPartPlace : ℕ → ℕ → ℕ → Type 0
IsPartPlace place len why =
    ((place ≡ 0) × (len ≡ 44) × (why ≡ 8)) ⊎ (((44 ≤ place) × (place < 140) × (len ≡ 1) × (why ≡ 6)) ⊎ (((place ≡ 140) × (len ≡ 4) × (why ≡ 6)) ⊎ ((place ≡ 144) × (len ≡ 1) × (why ≡ 6))))

part_place : (field : PartField) → parts.IsField field → IsPartPlace (parts.place_of field) (parts.length_of field) (parts.why_of field)
part_place part_fields.Name is = inl (refl, refl, refl)
part_place part_fields.Format is = inr (inl (omega arith, omega arith, refl, refl))
part_place part_fields.Count is = inr (inl (omega arith, omega arith, refl, refl))
part_place (part_fields.Extents k) is = inr (inl (omega arith, omega (arith, is), refl, refl))
part_place part_fields.Tracks is = inr (inr (inl (refl, refl, refl)))
part_place part_fields.Kind is = inr (inr (inr (refl, refl, refl)))

one_part : (p l v q m w : ℕ) → IsPartPlace p l v → IsPartPlace q m w → q < p + l → p < q + m → (p ≡ q) × (v ≡ w)
one_part p l v q m w (inl (a, b, c)) (inl (d, e, f)) x y = (omega (arith, a, d), omega (arith, c, f))
one_part p l v q m w (inl (a, b, c)) (inr (inl (d, e, f, g))) x y = absurd (omega (arith, a, b, d, x))
one_part p l v q m w (inl (a, b, c)) (inr (inr (inl (d, e, f)))) x y = absurd (omega (arith, a, b, d, x))
one_part p l v q m w (inl (a, b, c)) (inr (inr (inr (d, e, f)))) x y = absurd (omega (arith, a, b, d, x))
one_part p l v q m w (inr (inl (a, b, c, h))) (inl (d, e, f)) x y = absurd (omega (arith, a, d, e, y))
one_part p l v q m w (inr (inl (a, b, c, h))) (inr (inl (d, e, f, g))) x y = (omega (arith, c, f, x, y), omega (arith, h, g))
one_part p l v q m w (inr (inl (a, b, c, h))) (inr (inr (inl (d, e, f)))) x y = absurd (omega (arith, b, c, d, x))
one_part p l v q m w (inr (inl (a, b, c, h))) (inr (inr (inr (d, e, f)))) x y = absurd (omega (arith, b, c, d, x))
one_part p l v q m w (inr (inr (inl (a, b, c)))) (inl (d, e, f)) x y = absurd (omega (arith, a, d, e, y))
one_part p l v q m w (inr (inr (inl (a, b, c)))) (inr (inl (d, e, f, g))) x y = absurd (omega (arith, a, e, f, y))
one_part p l v q m w (inr (inr (inl (a, b, c)))) (inr (inr (inl (d, e, f)))) x y = (omega (arith, a, d), omega (arith, c, f))
one_part p l v q m w (inr (inr (inl (a, b, c)))) (inr (inr (inr (d, e, f)))) x y = absurd (omega (arith, a, b, d, x))
one_part p l v q m w (inr (inr (inr (a, b, c)))) (inl (d, e, f)) x y = absurd (omega (arith, a, d, e, y))
one_part p l v q m w (inr (inr (inr (a, b, c)))) (inr (inl (d, e, f, g))) x y = absurd (omega (arith, a, e, f, y))
one_part p l v q m w (inr (inr (inr (a, b, c)))) (inr (inr (inl (d, e, f)))) x y = absurd (omega (arith, a, d, e, y))
one_part p l v q m w (inr (inr (inr (a, b, c)))) (inr (inr (inr (d, e, f)))) x y = (omega (arith, a, d), omega (arith, c, f))

one_slot_field : (field other : SlotField) (number : ℕ) (text : List ℕ) (count len : ℕ) → slots.HasLength field number text count → slots.HasLength other number text len
    → slots.place_of other < slots.place_of field + count → slots.place_of field < slots.place_of other + len → (slots.place_of field ≡ slots.place_of other) × (slots.why_of field ≡ slots.why_of other)
one_slot_field slot_fields.Track slot_fields.Track number text count len is also x y = (refl, refl)
one_slot_field slot_fields.Track slot_fields.Length number text count len is also x y = absurd (omega (arith, is, x))
one_slot_field slot_fields.Track slot_fields.Bytes number text count len is also x y = absurd (omega (arith, is, x))
one_slot_field slot_fields.Length slot_fields.Track number text count len is also x y = absurd (omega (arith, also, y))
one_slot_field slot_fields.Length slot_fields.Length number text count len is also x y = (refl, refl)
one_slot_field slot_fields.Length slot_fields.Bytes number text count len is also x y = absurd (omega (arith, is, x))
one_slot_field slot_fields.Bytes slot_fields.Track number text count len is also x y = absurd (omega (arith, also, y))
one_slot_field slot_fields.Bytes slot_fields.Length number text count len is also x y = absurd (omega (arith, also, y))
one_slot_field slot_fields.Bytes slot_fields.Bytes number text count len is also x y = (refl, refl)

one_count : (place count other len : ℕ) → (place ≡ 1) ⊎ (place ≡ 5) → count ≡ 4 → (other ≡ 1) ⊎ (other ≡ 5) → len ≡ 4 → other < place + count → place < other + len → place ≡ other
one_count place count other len (inl a) b (inl c) d x y = omega (arith, a, c)
one_count place count other len (inl a) b (inr c) d x y = absurd (omega (arith, a, b, c, x))
one_count place count other len (inr a) b (inl c) d x y = absurd (omega (arith, a, c, d, y))
one_count place count other len (inr a) b (inr c) d x y = omega (arith, a, c)

-- no field but the mark is at the mark
abbrev IsBehindMark : DumpField → Type 0
IsBehindMark fields.Mark = ⊥
IsBehindMark _ = Unit {0}

mark_first : (field : DumpField) (number : ℕ) (rest : List ℕ) (place count : ℕ) → IsBehindMark field → IsFieldAt field number rest place count → 1 ≤ place
mark_first (fields.Header field) number rest place count is at = absurd at
mark_first fields.Mark number rest place count is at = absurd is
mark_first (fields.Part field) number rest place count is at = omega (arith, at.2)
mark_first (fields.Track field) number rest place count is (begins, (before, few, at, there), long) = omega (arith, at)
mark_first (fields.Slot field) number rest place count is at = omega (arith, at.1)
mark_first fields.Count number rest place count is (begins, at, long) = elim at [
  | inl first ↦ omega (arith, first)
  | inr second ↦ omega (arith, second)
]

pub one_field : (field other : DumpField) (number : ℕ) (rest : List ℕ) (place count spot len : ℕ) → IsFieldAt field number rest place count → IsFieldAt other number rest spot len
    → place ≤ length rest → spot ≤ length rest → spot < place + count → place < spot + len → (place ≡ spot) × (why_of field ≡ why_of other)
one_field (fields.Header field) other number rest place count spot len is also a b x y = absurd is
one_field fields.Mark (fields.Header other) number rest place count spot len is also a b x y = absurd also
one_field fields.Mark fields.Mark number rest place count spot len is also a b x y = (omega (arith, is.0, also.0), refl)
one_field fields.Mark (fields.Part other) number rest place count spot len is also a b x y = absurd (omega (arith, is.0, is.1, x, mark_first (fields.Part other) number rest spot len tt also))
one_field fields.Mark (fields.Track other) number rest place count spot len is also a b x y = absurd (omega (arith, is.0, is.1, x, mark_first (fields.Track other) number rest spot len tt also))
one_field fields.Mark (fields.Slot other) number rest place count spot len is also a b x y = absurd (omega (arith, is.0, is.1, x, mark_first (fields.Slot other) number rest spot len tt also))
one_field fields.Mark fields.Count number rest place count spot len is also a b x y = absurd (omega (arith, is.0, is.1, x, mark_first fields.Count number rest spot len tt also))
one_field (fields.Part field) (fields.Header other) number rest place count spot len is also a b x y = absurd also
one_field (fields.Part field) fields.Mark number rest place count spot len is also a b x y = absurd (omega (arith, also.0, also.1, y, mark_first (fields.Part field) number rest place count tt is))
one_field (fields.Part field) (fields.Part other) number rest place count spot len (begins, is, at, long) (begin, also, there, all) a b x y =
    let both = one_part (parts.place_of field) (parts.length_of field) (parts.why_of field) (parts.place_of other) (parts.length_of other) (parts.why_of other) (part_place field is) (part_place other also)
    (omega (arith, at, long, there, x)) (omega (arith, at, there, all, y)) in
    (omega (arith, at, there, both.0), both.1)
one_field (fields.Part field) (fields.Track other) number rest place count spot len is also a b x y = other_mark 0x50 0x01 rest is.0 also.0 (λ same. omega (arith, same))
one_field (fields.Part field) (fields.Slot other) number rest place count spot len is also a b x y = other_mark 0x50 0x54 rest is.0 also.0 (λ same. omega (arith, same))
one_field (fields.Part field) fields.Count number rest place count spot len is also a b x y = other_mark 0x50 0x5A rest is.0 also.0 (λ same. omega (arith, same))
one_field (fields.Track field) (fields.Header other) number rest place count spot len is also a b x y = absurd also
one_field (fields.Track field) fields.Mark number rest place count spot len is also a b x y = absurd (omega (arith, also.0, also.1, y, mark_first (fields.Track field) number rest place count tt is))
one_field (fields.Track field) (fields.Part other) number rest place count spot len is also a b x y = other_mark 0x01 0x50 rest is.0 also.0 (λ same. omega (arith, same))
one_field (fields.Track field) (fields.Track other) number rest place count spot len (begins, (before, few, at, is), long) (begin, (front, less, there, also), all) a b x y =
    let one = field_place field (drop 1 rest) before few (behind_mark before rest (omega (arith, at, a))) is in
    let two = field_place other (drop 1 rest) front less (behind_mark front rest (omega (arith, there, b))) also in
    let same = one_field_place (drop 1 rest) before (tracks.length_of field) front (tracks.length_of other) one two (omega (arith, at, long, there, x)) (omega (arith, at, there, all, y)) in
    (omega (arith, at, there, same), refl)
one_field (fields.Track field) (fields.Slot other) number rest place count spot len is also a b x y = other_mark 0x01 0x54 rest is.0 also.0 (λ same. omega (arith, same))
one_field (fields.Track field) fields.Count number rest place count spot len is also a b x y = other_mark 0x01 0x5A rest is.0 also.0 (λ same. omega (arith, same))
one_field (fields.Slot field) (fields.Header other) number rest place count spot len is also a b x y = absurd also
one_field (fields.Slot field) fields.Mark number rest place count spot len is also a b x y = absurd (omega (arith, also.0, also.1, y, mark_first (fields.Slot field) number rest place count tt is))
one_field (fields.Slot field) (fields.Part other) number rest place count spot len is also a b x y = other_mark 0x54 0x50 rest is.0 also.0 (λ same. omega (arith, same))
one_field (fields.Slot field) (fields.Track other) number rest place count spot len is also a b x y = other_mark 0x54 0x01 rest is.0 also.0 (λ same. omega (arith, same))
one_field (fields.Slot field) (fields.Slot other) number rest place count spot len (begins, at, is) (begin, there, also) a b x y =
    let both = one_slot_field field other number (drop 1 rest) count len is also (omega (arith, at, there, x)) (omega (arith, at, there, y)) in
    (omega (arith, at, there, both.0), both.1)
one_field (fields.Slot field) fields.Count number rest place count spot len is also a b x y = other_mark 0x54 0x5A rest is.0 also.0 (λ same. omega (arith, same))
one_field fields.Count (fields.Header other) number rest place count spot len is also a b x y = absurd also
one_field fields.Count fields.Mark number rest place count spot len is also a b x y = absurd (omega (arith, also.0, also.1, y, mark_first fields.Count number rest place count tt is))
one_field fields.Count (fields.Part other) number rest place count spot len is also a b x y = other_mark 0x5A 0x50 rest is.0 also.0 (λ same. omega (arith, same))
one_field fields.Count (fields.Track other) number rest place count spot len is also a b x y = other_mark 0x5A 0x01 rest is.0 also.0 (λ same. omega (arith, same))
one_field fields.Count (fields.Slot other) number rest place count spot len is also a b x y = other_mark 0x5A 0x54 rest is.0 also.0 (λ same. omega (arith, same))
one_field fields.Count fields.Count number rest place count spot len (begins, at, long) (begin, there, all) a b x y = (one_count place count spot len at long there all x y, refl)
