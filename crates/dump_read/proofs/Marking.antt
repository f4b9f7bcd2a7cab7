-- The mark that stands next, and why none does.
use Rattle.std.proofs.Common.{◌≡◌, ◌⊎◌, inl, inr, ℕ, ◌+◌, ◌≤◌, ◌<◌, min, List, [], ◌∷◌, ◌++◌, length, drop, Some, None, refl, sym, ap, subst, ◌∙◌, arith, length-append, append_assoc}
use Rattle.std.specs.List.{slice_get}
use Rattle.std.proofs.lemmas.List.{append-nil}
use Rattle.sha2.specs.Hashers.{Holds256}
use Rattle.ckd_image.specs.Bytes.{Begins}
use Rattle.dasd_pool.specs.Stream.{EndsOnly}
use Rattle.dump_fmt.specs.declared.fault.DumpFault.{DumpFault}
use Rattle.dump_fmt.specs.declared.fault.DumpFault.TheVariants.{BadDump, Truncated}
use Rattle.dump_fmt.specs.declared.piece.DumpHead.{DumpHead}
use Rattle.dump_fmt.specs.declared.piece.Piece.{Piece}
use Rattle.dump_fmt.specs.declared.piece.Piece.TheVariants.{Part, Track, PartEnd, Dropped, Slot}
use Rattle.dump_fmt.specs.Front.{Front}
use Rattle.dump_fmt.specs.Pieces.{piece_text}
use Rattle.dump_fmt.specs.Text.{front_text}
use Rattle.dump_read.specs.declared.field.DumpField.TheVariants as fields
use Rattle.dump_read.specs.declared.mark.Mark.{Mark}
use Rattle.dump_read.specs.declared.mark.Mark.TheVariants as marks
use Rattle.dump_read.specs.Faults.{why_of, IsBadField, IsBadSlot, HasMore, IsCutBehind, IsFaultBehind}
use Rattle.dump_read.specs.Feed.{coming, largest_offset}
use Rattle.dump_read.specs.Fields.{IsFirstWrong}
use Rattle.dump_read.specs.Marks.{byte_of, MayStand}
use Rattle.dump_read.specs.PartText.{IsNextName}
use Rattle.dump_read.specs.Reader.{ReaderView, IsReading, IsMarked}
use Rattle.dump_read.specs.Shape.{IsSomeShape}
use Rattle.dump_read.specs.Tape.{TapeSeen}
use Rattle.dump_read.proofs.Ahead.{held_as_well, short_dump}
use Rattle.dump_read.proofs.Allowed.{mark_of, mark_is}
use Rattle.dump_read.proofs.Chains.{none_is, wrong_with}
use Rattle.dump_read.proofs.Fed.{read_look, read_some, read_all}
use Rattle.dump_read.proofs.Lifted.{IsShort, wrong_mark, nothing_yet, first_byte}

-- more was looked at, and the rest of the reader stayed
pub record HasLooked (before tape : TapeSeen) (old new : ReaderView) : Type 0 where
  pub head : new.head ≡ old.head
  pub standing : new.standing ≡ old.standing
  pub held : tape.held ≡ before.held
  pub next : coming new.feed.window tape.left ≡ coming old.feed.window before.left
  pub offset : new.feed.offset ≡ old.feed.offset
  pub digest : (message : List ℕ) → Holds256 old.feed.digest message → Holds256 new.feed.digest message

pub looked_on : (before tape : TapeSeen) (old new : ReaderView) (front : Front) → HasLooked before tape old new → IsReading before old front → IsReading tape new front
looked_on before tape old new front looked is = record {
  is_front = rw looked.head is.is_front;
  going = rw looked.head is.going;
  stands = rw (looked.head, looked.standing) is.stands;
  read = rw looked.head (read_look before tape old.feed new.feed (front_text old.head front) is.read looked.held looked.next looked.offset looked.digest);
}

-- nothing is left: a shape that begins with what was read has more
pub nothing_stands : (tape : TapeSeen) (reader : ReaderView) (front : Front) (fault : DumpFault) → IsReading tape reader front → reader.feed.window ≡ [] → EndsOnly tape.left
    → fault ≡ Truncated (min (reader.feed.offset + length reader.feed.window) largest_offset) → IsFaultBehind reader.head front tape.held fault
nothing_stands tape reader front fault is none ends same =
    let before : List ℕ = front_text reader.head front in
    subst (IsFaultBehind reader.head front tape.held) (sym same)
    (held_as_well tape.held (λ whole. whole ≡ before ++ reader.feed.window) (IsCutBehind reader.head front (min (reader.feed.offset + length reader.feed.window) largest_offset))
    (λ whole spelled. record {
      short = short_dump tape reader front whole is spelled
          (subst IsShort (sym (spelled ∙ ap (λ (t : List ℕ). before ++ t) none ∙ append-nil before)) (nothing_yet reader.head front is.going));
      rest = reader.feed.window;
      spelled = spelled;
      none = λ piece next adds going (more, e).
          let (byte, behind, text) = first_byte piece in
          absurd (omega (arith, ap length none, ap length e, length-append (piece_text piece) more, ap length text));
    })
    (read_all tape reader.feed before is.read ends))

-- this byte begins nothing that may stand here
pub no_mark : (tape : TapeSeen) (reader : ReaderView) (front : Front) (byte : ℕ) (rest : List ℕ) (fault : DumpFault) → IsReading tape reader front → reader.feed.window ≡ byte ∷ rest
    → ¬ MayStand reader.head front byte → fault ≡ BadDump (min (reader.feed.offset + 0) largest_offset) (why_of fields.Mark) → IsFaultBehind reader.head front tape.held fault
no_mark tape reader front byte rest fault is ahead none same =
    let before : List ℕ = front_text reader.head front in
    let offset : ℕ = min (reader.feed.offset + 0) largest_offset in
    let wrong : IsFirstWrong IsSomeShape (before ++ (byte ∷ rest)) (length before) 1 = wrong_mark reader.head front byte rest is.going none in
    subst (IsFaultBehind reader.head front tape.held) (sym same)
    (held_as_well tape.held (λ whole. Begins (before ++ reader.feed.window) whole)
    (λ whole. IsBadField reader.head front offset 5 whole ⊎ (IsBadSlot reader.head front offset 5 whole ⊎ HasMore reader.head front offset 5 whole))
    (λ whole (more, spelled).
    let all : whole ≡ (before ++ (byte ∷ rest)) ++ more = spelled ∙ ap (λ (t : List ℕ). (before ++ t) ++ more) ahead in
    inl (record {
      field = fields.Mark;
      rest = byte ∷ (rest ++ more);
      place = 0;
      count = 1;
      spelled = all ∙ append_assoc before (byte ∷ rest) more;
      is_at = (refl, refl);
      at = omega (arith, is.read.offset);
      number = refl;
      wrong = rw (all, (let e : length before + 0 ≡ length before = omega arith in e)) (wrong_with IsSomeShape (before ++ (byte ∷ rest)) more (length before) 1 wrong);
    })) (read_some tape reader.feed before is.read))

-- ---- the next byte

-- the first of some bytes, and those behind it
pub first_of : (bytes : List ℕ) (b : ℕ) → Some b ≡ slice_get bytes 0 → bytes ≡ b ∷ drop 1 bytes
first_of [] b e = absurd (let none : Some b ≡ None = e in cc)
first_of (x ∷ rest) b e = let same : b ≡ x = cc in ap (λ (v : ℕ). v ∷ rest) (sym same)

pub none_first : (bytes : List ℕ) → ¬ (0 < length bytes) → bytes ≡ []
none_first bytes none = none_is bytes (omega (arith, none))

piece_mark : (piece : Piece) (byte : ℕ) → mark_of piece ≡ byte → (mark : Mark) × (byte_of mark ≡ byte)
piece_mark (Part f1 tracks kind) byte e = (marks.Part, e)
piece_mark (Track text) byte e = (marks.Track, e)
piece_mark PartEnd byte e = (marks.PartEnd, e)
piece_mark Dropped byte e = (marks.Dropped, e)
piece_mark (Slot number bytes) byte e = (marks.Slot, e)

-- what may stand begins with a mark
pub stands_mark : (head : DumpHead) (front : Front) (byte : ℕ) → MayStand head front byte → (mark : Mark) × (byte_of mark ≡ byte)
stands_mark head front byte (inl begins) = piece_mark begins.piece byte (mark_is begins.piece byte begins.mark)
stands_mark head front byte (inr (is, closes)) = (marks.Trailer, sym is)

pub mark_stands : (tape : TapeSeen) (reader : ReaderView) (front : Front) (mark : Mark) (byte : ℕ) → IsReading tape reader front → reader.feed.window ≡ byte ∷ drop 1 reader.feed.window
    → byte_of mark ≡ byte → MayStand reader.head front (byte_of mark) → (mark ≡ marks.Part → (name : List ℕ) × IsNextName reader.standing.name name)
    → (57344 ≤ length reader.feed.window) ⊎ EndsOnly tape.left → IsMarked tape reader front mark
mark_stands tape reader front mark byte is ahead same may name looked = record {
  reading = is;
  may = may;
  ahead = record { begins = (drop 1 reader.feed.window, ahead ∙ ap (λ (b : ℕ). b ∷ drop 1 reader.feed.window) (sym same)); name = name };
  looked = looked;
}
