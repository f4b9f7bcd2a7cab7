-- What a reader says of the whole, by what it says of the bytes that stand ahead.
use Rattle.std.proofs.Common.{◌≡◌, ◌⊎◌, inl, inr, Bool, false, ℕ, ◌+◌, ◌≤◌, ◌<◌, min, List, ◌∷◌, ◌++◌, length, take, drop, Option, Some, None, refl, sym, ap, subst, ◌∙◌, arith, length-append, append_assoc}
use Rattle.sha2.specs.Hashers.{Holds256}
use Rattle.ckd_image.specs.Bytes.{Begins}
use Rattle.dump_fmt.specs.declared.fault.DumpFault.{DumpFault}
use Rattle.dump_fmt.specs.declared.fault.DumpFault.TheVariants.{BadDump, Truncated}
use Rattle.dump_fmt.specs.declared.piece.DumpHead.{DumpHead}
use Rattle.dump_fmt.specs.declared.piece.Piece.{Piece}
use Rattle.dump_fmt.specs.Front.{Front, Adds, IsOfKind, IsFront}
use Rattle.dump_fmt.specs.Pieces.{piece_text}
use Rattle.dump_fmt.specs.Text.{front_text}
use Rattle.dump_read.specs.declared.field.DumpField.{DumpField}
use Rattle.dump_read.specs.declared.mark.Mark.{Mark}
use Rattle.dump_read.specs.Faults.{why_of, IsFieldAt, IsBadField, IsBadSlot, HasMore, IsShortDump, IsCutBehind, IsFaultBehind}
use Rattle.dump_read.specs.Feed.{largest_offset}
use Rattle.dump_read.specs.Fields.{IsFirstWrong}
use Rattle.dump_read.specs.Marks.{byte_of}
use Rattle.dump_read.specs.Reader.{ReaderView, IsAhead, IsReading, IsMarked, Gives}
use Rattle.dump_read.specs.Reading.{HasRead, HeldSuch}
use Rattle.dump_read.specs.Shape.{IsOfShape, IsShapeFront, IsGoing, IsSomeShape}
use Rattle.dump_read.specs.Standing.{StandsAt}
use Rattle.dump_read.specs.Tape.{TapeSeen}
use Rattle.dump_read.proofs.Chains.{wrong_with}
use Rattle.dump_read.proofs.Fed.{read_some, read_all, read_pass}
use Rattle.dump_read.proofs.Lifted.{IsLanguage, Reaches, IsShort, wrong_field, cut_field, no_whole_piece}
use Rattle.dump_read.proofs.PartChain.{take_length}
use Rattle.dump_read.proofs.Shapes.{pieces_stand_behind}

-- ---- what the reel holds

pub held_as_well : (held : Option (List ℕ)) (Such Other : List ℕ → Type 0) → ((whole : List ℕ) → Such whole → Other whole) → HeldSuch held Such → HeldSuch held Other
held_as_well None Such Other so is = tt
held_as_well (Some whole) Such Other so is = so whole is

-- the mark stands ahead, and the rest behind it
pub mark_ahead : (reader : ReaderView) (mark : Mark) → IsAhead reader mark → reader.feed.window ≡ byte_of mark ∷ drop 1 reader.feed.window
mark_ahead reader mark is = let (rest, e) = is.begins in e ∙ ap (λ (t : List ℕ). byte_of mark ∷ t) (sym (ap (drop 1) e))

-- what was read, what stands ahead and more
pub told_ahead : (tape : TapeSeen) (reader : ReaderView) (front : Front) (mark : Mark) (Such : List ℕ → Type 0) → IsMarked tape reader front mark
    → ((whole more : List ℕ) → whole ≡ front_text reader.head front ++ (byte_of mark ∷ (drop 1 reader.feed.window ++ more)) → Such whole) → HeldSuch tape.held Such
told_ahead tape reader front mark Such is so =
    let before : List ℕ = front_text reader.head front in
    held_as_well tape.held (λ whole. Begins (before ++ reader.feed.window) whole) Such
    (λ whole (more, e). so whole more (e ∙ append_assoc before reader.feed.window more ∙ ap (λ (t : List ℕ). before ++ (t ++ more)) (mark_ahead reader mark is.ahead)))
    (read_some tape reader.feed before is.reading.read)

-- and no more where few bytes stand ahead
pub told_all : (tape : TapeSeen) (reader : ReaderView) (front : Front) (mark : Mark) (Such : List ℕ → Type 0) → IsMarked tape reader front mark → length reader.feed.window < 57344
    → ((whole : List ℕ) → whole ≡ front_text reader.head front ++ (byte_of mark ∷ drop 1 reader.feed.window) → Such whole) → HeldSuch tape.held Such
told_all tape reader front mark Such is few so = elim is.looked [
  | inl many ↦ absurd (omega (arith, few, many))
  | inr ends ↦
      let before : List ℕ = front_text reader.head front in
      held_as_well tape.held (λ whole. whole ≡ before ++ reader.feed.window) Such (λ whole e. so whole (e ∙ ap (λ (t : List ℕ). before ++ t) (mark_ahead reader mark is.ahead)))
      (read_all tape reader.feed before is.reading.read ends)
]

-- ---- refusals

-- what is less than a shape, by how many bytes stand ahead
pub short_dump : (tape : TapeSeen) (reader : ReaderView) (front : Front) (whole : List ℕ) → IsReading tape reader front → whole ≡ front_text reader.head front ++ reader.feed.window → IsShort whole
    → IsShortDump (min (reader.feed.offset + length reader.feed.window) largest_offset) whole
short_dump tape reader front whole is spelled short = record {
  text = short.text;
  is_shape = short.is_shape;
  begins = short.begins;
  short = short.short;
  all = omega (arith, is.read.offset, ap length spelled, length-append (front_text reader.head front) reader.feed.window);
}

-- a field that is wrong behind a mark
pub field_refused : (tape : TapeSeen) (reader : ReaderView) (front : Front) (mark : Mark) (Is : List ℕ → Type 0) (field : DumpField) (place count : ℕ) (fault : DumpFault)
    → IsMarked tape reader front mark → IsLanguage reader.head front (byte_of mark) Is → Reaches Is (drop 1 reader.feed.window) place count
    → IsFirstWrong Is (drop 1 reader.feed.window) place count
    → ((more : List ℕ) → IsFieldAt field (length front.slots) (byte_of mark ∷ (drop 1 reader.feed.window ++ more)) (1 + place) count)
    → fault ≡ BadDump (min (reader.feed.offset + (1 + place)) largest_offset) (why_of field) → IsFaultBehind reader.head front tape.held fault
field_refused tape reader front mark Is field place count fault is language reaches wrong at same =
    let before : List ℕ = front_text reader.head front in
    let ahead : List ℕ = drop 1 reader.feed.window in
    let offset : ℕ = min (reader.feed.offset + (1 + place)) largest_offset in
    let behind : IsFirstWrong IsSomeShape (before ++ (byte_of mark ∷ ahead)) (length before + (1 + place)) count = wrong_field reader.head front (byte_of mark) Is ahead place count language reaches wrong in
    subst (IsFaultBehind reader.head front tape.held) (sym same)
    (told_ahead tape reader front mark
    (λ whole. IsBadField reader.head front offset (why_of field) whole ⊎ (IsBadSlot reader.head front offset (why_of field) whole ⊎ HasMore reader.head front offset (why_of field) whole)) is
    (λ whole more spelled. inl (record {
      field = field;
      rest = byte_of mark ∷ (ahead ++ more);
      place = 1 + place;
      count = count;
      spelled = spelled;
      is_at = at more;
      at = omega (arith, is.reading.read.offset);
      number = refl;
      wrong = subst (λ (t : List ℕ). IsFirstWrong IsSomeShape t (length before + (1 + place)) count) (append_assoc before (byte_of mark ∷ ahead) more ∙ sym spelled)
          (wrong_with IsSomeShape (before ++ (byte_of mark ∷ ahead)) more (length before + (1 + place)) count behind);
    })))

-- a text that is cut behind a mark
pub cut_refused : (tape : TapeSeen) (reader : ReaderView) (front : Front) (mark : Mark) (Is : List ℕ → Type 0) (text : List ℕ) (fault : DumpFault)
    → IsMarked tape reader front mark → IsLanguage reader.head front (byte_of mark) Is → Is text → Begins (drop 1 reader.feed.window) text → length (drop 1 reader.feed.window) < length text
    → length text < 57343 → fault ≡ Truncated (min (reader.feed.offset + length reader.feed.window) largest_offset) → IsFaultBehind reader.head front tape.held fault
cut_refused tape reader front mark Is text fault is language it begins short few same =
    let ahead : List ℕ = drop 1 reader.feed.window in
    let first = mark_ahead reader mark is.ahead in
    subst (IsFaultBehind reader.head front tape.held) (sym same)
    (told_all tape reader front mark (IsCutBehind reader.head front (min (reader.feed.offset + length reader.feed.window) largest_offset)) is (omega (arith, short, few, ap length first))
    (λ whole spelled. record {
      short = short_dump tape reader front whole is.reading (spelled ∙ ap (λ (t : List ℕ). front_text reader.head front ++ t) (sym first))
          (subst IsShort (sym spelled) (cut_field reader.head front (byte_of mark) Is ahead text language it begins short));
      rest = byte_of mark ∷ ahead;
      spelled = spelled;
      none = λ piece next adds going. no_whole_piece reader.head front next (byte_of mark) Is ahead text piece language it begins short adds going;
    }))

-- ---- pieces

-- the front of the shape of a logical dump is the front of a dump
pub front_of_shape : (head : DumpHead) (front : Front) → head.full ≡ false → IsShapeFront head front → IsFront head front
front_of_shape head front logical is = record {
  header = is.header;
  behind = subst (λ (full : Bool). IsOfKind full head front) (sym logical) (subst (λ (full : Bool). IsOfShape full head front) logical is.behind);
  few_tracks = is.few_tracks;
}

-- a piece stood ahead and was passed
pub piece_read : (tape : TapeSeen) (old new : ReaderView) (front next : Front) (mark : Mark) (piece : Piece) (count : ℕ)
    → IsMarked tape old front mark → Adds front piece next → IsGoing old.head next → IsFront old.head next → StandsAt old.head next new.standing
    → Begins (piece_text piece) old.feed.window → count ≡ length (piece_text piece)
    → new.head ≡ old.head → new.feed.window ≡ drop count old.feed.window → new.feed.offset ≡ min (old.feed.offset + count) largest_offset
    → ((message : List ℕ) → Holds256 old.feed.digest message → Holds256 new.feed.digest (message ++ take count old.feed.window)) → Gives tape new front piece
piece_read tape old new front next mark piece count is adds going is_front stands begins all same window offset digest =
    let (rest, spelled) = begins in
    let text : List ℕ = piece_text piece in
    let within : count ≤ length old.feed.window = omega (arith, all, ap length spelled, length-append text rest) in
    let taken : take count old.feed.window ≡ text = ap (take count) spelled ∙ take_length text rest count (sym all) in
    let before : List ℕ = front_text old.head front in
    let stood : front_text old.head next ≡ before ++ take count old.feed.window = pieces_stand_behind old.head front next piece going.is_front adds ∙ ap (λ (t : List ℕ). before ++ t) (sym taken) in
    let read : HasRead tape new.feed (before ++ take count old.feed.window) = read_pass tape old.feed new.feed before count is.reading.read window offset within digest in (
      next,
      adds,
      record {
        is_front = subst (λ (h : DumpHead). IsFront h next) (sym same) is_front;
        going = subst (λ (h : DumpHead). IsGoing h next) (sym same) going;
        stands = subst (λ (h : DumpHead). StandsAt h next new.standing) (sym same) stands;
        read = subst (λ (h : DumpHead). HasRead tape new.feed (front_text h next)) (sym same) (subst (HasRead tape new.feed) (sym stood) read);
      },
    )
