-- The end of a part as it is read.
use Rattle.std.proofs.Common.{◌≡◌, ℕ, ◌+◌, min, false, List, [], ◌∷◌, ◌++◌, length, take, drop, refl, sym, ap, subst, ◌∙◌, arith}
use Rattle.sha2.specs.Hashers.{Holds256}
use Rattle.ckd_image.specs.Bytes.{Begins}
use Rattle.dump_fmt.specs.declared.piece.Piece.{Piece}
use Rattle.dump_fmt.specs.declared.piece.Piece.TheVariants.{PartEnd, Dropped}
use Rattle.dump_fmt.specs.Front.{Front, Adds}
use Rattle.dump_fmt.specs.Pieces.{piece_text}
use Rattle.dump_read.specs.declared.mark.Mark.{Mark}
use Rattle.dump_read.specs.declared.mark.Mark.TheVariants as marks
use Rattle.dump_read.specs.Feed.{largest_offset}
use Rattle.dump_read.specs.Marks.{byte_of}
use Rattle.dump_read.specs.Reader.{ReaderView, IsMarked, Gives}
use Rattle.dump_read.specs.Shape.{IsGoing, IsShapeFront}
use Rattle.dump_read.specs.Standing.{Steps}
use Rattle.dump_read.specs.Tape.{TapeSeen}
use Rattle.dump_read.proofs.Ahead.{front_of_shape, piece_read}
use Rattle.dump_read.proofs.Allowed.{mark_is, begin_of, end_of, dropped_of}
use Rattle.dump_read.proofs.Going.{not_full_ended}

-- so many bytes ahead were passed, and the rest of a reader may have changed
pub record HasPassed (old new : ReaderView) (count : ℕ) : Type 0 where
  pub head : new.head ≡ old.head
  pub window : new.feed.window ≡ drop count old.feed.window
  pub offset : new.feed.offset ≡ min (old.feed.offset + count) largest_offset
  pub digest : (message : List ℕ) → Holds256 old.feed.digest message → Holds256 new.feed.digest (message ++ take count old.feed.window)

-- an end, which has its mark alone
ending_read : (tape : TapeSeen) (old new : ReaderView) (front next : Front) (mark : Mark) (piece : Piece) → IsMarked tape old front mark → Adds front piece next → IsGoing old.head next
    → old.head.full ≡ false → piece_text piece ≡ byte_of mark ∷ [] → Steps old.head old.standing piece new.standing → HasPassed old new 1 → Gives tape new front piece
ending_read tape old new front next mark piece is adds going logical text steps passed =
    let begins : Begins (piece_text piece) old.feed.window = let (rest, e) = is.ahead.begins in (rest, e ∙ ap (λ (t : List ℕ). t ++ rest) (sym text)) in
    piece_read tape old new front next mark piece 1 is adds going (front_of_shape old.head next logical going.is_front)
    (steps front next is.reading.going is.reading.stands adds going) begins (sym (ap length text)) passed.head passed.window passed.offset passed.digest

pub part_ended : (tape : TapeSeen) (old new : ReaderView) (front : Front) → Steps old.head old.standing PartEnd new.standing → HasPassed old new 1 → IsMarked tape old front marks.PartEnd
    → Gives tape new front PartEnd
part_ended tape old new front steps passed is =
    let b = begin_of old.head front 0x00 (λ e. absurd (omega (arith, e))) is.may in
    let adds = end_of front b.next b.piece (mark_is b.piece 0x00 b.mark) b.adds in
    let (part, here, all, same) = adds in
    let logical = not_full_ended old.head front part (subst (λ (f : Front). IsShapeFront old.head f) same b.going.is_front) in
    ending_read tape old new front b.next marks.PartEnd PartEnd is adds b.going logical refl steps passed

pub part_dropped : (tape : TapeSeen) (old new : ReaderView) (front : Front) → Steps old.head old.standing Dropped new.standing → HasPassed old new 1 → IsMarked tape old front marks.Dropped
    → Gives tape new front Dropped
part_dropped tape old new front steps passed is =
    let b = begin_of old.head front 0xFF (λ e. absurd (omega (arith, e))) is.may in
    let adds = dropped_of front b.next b.piece (mark_is b.piece 0xFF b.mark) b.adds in
    let (part, here, short, same) = adds in
    let logical = not_full_ended old.head front part (subst (λ (f : Front). IsShapeFront old.head f) same b.going.is_front) in
    ending_read tape old new front b.next marks.Dropped Dropped is adds b.going logical refl steps passed
