-- Nothing is wrong with a dump.
use Rattle.std.proofs.Common.{◌≡◌, ◌⊎◌, inl, inr, ℕ, ◌≤◌, Bool, true, false, List, [], ◌∷◌, ◌++◌, length, map, take, drop, All, Some, refl, sym, ap, subst, ◌∙◌, arith, length-append, append_assoc}
use Rattle.std.specs.List.{flat_map}
use Rattle.std.proofs.lemmas.Grind.{flat_map-append}
use Rattle.std.proofs.lemmas.List.{append-nil, take-append-drop}
use Rattle.std.proofs.lemmas.List.Elements.{All-nil, All-cons, All-tail}
use Rattle.sha2.specs.Sha256.{sha256}
use Rattle.sha2.proofs.Facts256.{length-sha256}
use Rattle.byteorder.specs.Endian.{big_bytes}
use Rattle.dump_fmt.specs.declared.fault.DumpFault.{DumpFault}
use Rattle.dump_fmt.specs.declared.fault.DumpFault.TheVariants.{BadDump, Truncated, DigestDiffers, Reel, NoMemory}
use Rattle.dump_fmt.specs.declared.piece.DumpHead.{DumpHead}
use Rattle.dump_fmt.specs.declared.piece.Piece.{Piece}
use Rattle.dump_fmt.specs.declared.piece.Piece.TheVariants.{Track}
use Rattle.dump_fmt.specs.Head.{header_text}
use Rattle.dump_fmt.specs.Parts.{DumpPart, is_whole, part_pieces}
use Rattle.dump_fmt.specs.Pieces.{piece_text, pieces_text}
use Rattle.dump_fmt.specs.Front.{Front, IsOfKind, current_pieces, slot_pieces, front_pieces}
use Rattle.dump_fmt.specs.Text.{front_text, counts_text, digested_text, IsDumpText}
use Rattle.dump_read.specs.FaultLaws.{NothingIsWrong}
use Rattle.dump_read.specs.Faults.{HasOtherDigest, IsDumpFault}
use Rattle.dump_read.specs.Fields.{GoesOn}
use Rattle.dump_read.specs.Shape.{IsOfShape, HasByteName, IsShape, IsSomeShape}
use Rattle.dump_read.proofs.Counts.{all_none, front_all}
use Rattle.dump_read.proofs.Faulted.{HasEnded, ended_by, wrong_none, more_none, not_short, piece_behind, no_piece_ended}
use Rattle.dump_read.proofs.OneFront.{are_slots}
use Rattle.dump_read.proofs.Stages.{end_piece}
use Rattle.ckd_image.proofs.OneText.{split_same}

-- ---- a dump is a shape

abbrev Byte : ℕ → Type 0
Byte b = b ≤ 255

behind_all : {X : Type 0} (P : X → Type 0) (all xs ys : List X) → all ≡ xs ++ ys → All P all → All P ys
behind_all {X} P all xs ys is holds = by xs (subst (All P) is holds)
  where
    by : (before : List X) → All P (before ++ ys) → All P ys
    by [] there = there
    by (x ∷ before) there = by before (All-tail P x (before ++ ys) there)

byte_name : (part : DumpPart) (more : List ℕ) → All Byte (pieces_text (part_pieces part) ++ more) → HasByteName part
byte_name part more is =
    let behind : List ℕ = big_bytes 4 part.tracks ++ (part.kind ∷ []) in
    let later : List ℕ = pieces_text (map Track part.texts ++ end_piece (is_whole part) ∷ []) in
    let all : pieces_text (part_pieces part) ++ more ≡ (0x50 ∷ []) ++ (part.f1 ++ ((behind ++ later) ++ more)) =
    ap (λ (t : List ℕ). 0x50 ∷ (t ++ more)) (append_assoc part.f1 behind later) ∙ ap (λ (t : List ℕ). 0x50 ∷ t) (append_assoc part.f1 (behind ++ later) more) in
    let first = behind_all Byte (pieces_text (part_pieces part) ++ more) (0x50 ∷ []) (part.f1 ++ ((behind ++ later) ++ more)) all is in
    let format = front_all Byte (part.f1 ++ ((behind ++ later) ++ more)) part.f1 ((behind ++ later) ++ more) refl first in
    front_all Byte part.f1 (take 44 part.f1) (drop 44 part.f1) (sym (take-append-drop 44 part.f1)) format

byte_names : (parts : List DumpPart) → All Byte (pieces_text (flat_map part_pieces parts)) → All HasByteName parts
byte_names [] is = All-nil HasByteName
byte_names (part ∷ parts) is =
    let split : pieces_text (flat_map part_pieces (part ∷ parts)) ≡ pieces_text (part_pieces part) ++ pieces_text (flat_map part_pieces parts) =
    flat_map-append piece_text (part_pieces part) (flat_map part_pieces parts) in
    All-cons HasByteName part parts (byte_name part (pieces_text (flat_map part_pieces parts)) (subst (All Byte) split is))
    (byte_names parts (behind_all Byte (pieces_text (flat_map part_pieces (part ∷ parts))) (pieces_text (part_pieces part)) (pieces_text (flat_map part_pieces parts)) split is))

shape_behind : (full : Bool) (head : DumpHead) (front : Front) → IsOfKind full head front → IsOfShape full head front
shape_behind true head front is = are_slots head front is
shape_behind false head front is = is

dump_shape : (whole : List ℕ) (head : DumpHead) (front : Front) → IsDumpText whole head front → All Byte whole → IsShape head front (sha256 (digested_text head front)) whole
dump_shape whole head front is bytes =
    let digest : List ℕ = sha256 (digested_text head front) in
    let P : List Piece = flat_map part_pieces front.parts in
    let S : List Piece = current_pieces front.current ++ slot_pieces front.slots in
    let behind : List ℕ = pieces_text S ++ (counts_text front ++ digest) in
    let text : whole ≡ header_text head ++ (pieces_text P ++ behind) =
    is.spelled ∙ append_assoc (front_text head front) (counts_text front) digest ∙ append_assoc (header_text head) (pieces_text (front_pieces front)) (counts_text front ++ digest)
    ∙ ap (λ (t : List ℕ). header_text head ++ (t ++ (counts_text front ++ digest))) (flat_map-append piece_text P S)
    ∙ ap (λ (t : List ℕ). header_text head ++ t) (append_assoc (pieces_text P) (pieces_text S) (counts_text front ++ digest)) in
    let parts = front_all Byte (pieces_text P ++ behind) (pieces_text P) behind refl (behind_all Byte whole (header_text head) (pieces_text P ++ behind) text bytes) in
    record {
      is_front = record {
        header = is.sound.is_front.header;
        behind = shape_behind head.full head front is.sound.is_front.behind;
        few_tracks = is.sound.is_front.few_tracks;
        names = subst (All HasByteName) (sym (all_none front is.sound.ended)) (byte_names front.parts parts);
      };
      closes = record { ended = is.sound.ended; all_slots = is.sound.all_slots };
      long = length-sha256 (digested_text head front);
      spelled = is.spelled;
    }

-- ---- and so nothing is wrong with it

-- of one shape the digest is that which it is
pub same_digest : (one other kept found : List ℕ) → length kept ≡ 32 → length found ≡ 32 → one ++ kept ≡ other ++ found → (one ≡ other) × (kept ≡ found)
same_digest one other kept found long right e = split_same one other kept found (omega (arith, ap length e, length-append one kept, length-append other found, long, right)) e

right_digest : (whole : List ℕ) (head other : DumpHead) (front last : Front) (kept found : List ℕ) → IsShape head front (sha256 (digested_text head front)) whole → HasOtherDigest other last kept found whole → kept ≡ found
right_digest whole head other front last kept found is has =
    let same = same_digest (digested_text head front) (digested_text other last) (sha256 (digested_text head front)) kept is.long has.is_shape.long (sym is.spelled ∙ has.is_shape.spelled) in
    sym same.1 ∙ ap sha256 same.0 ∙ sym has.right

pub nothing_is_wrong : NothingIsWrong
nothing_is_wrong whole head front fault dump bytes is = by fault is
  where
    shape : IsShape head front (sha256 (digested_text head front)) whole
    shape = dump_shape whole head front dump bytes

    some : IsSomeShape whole
    some = (head, front, sha256 (digested_text head front), shape)

    goes : GoesOn IsSomeShape whole
    goes = (whole, some, ([], sym (append-nil whole)))

    ended : HasEnded head front whole
    ended = ended_by head front (sha256 (digested_text head front)) whole [] whole dump.sound.is_front shape.is_front shape.closes dump.spelled (sym (append-nil whole))

    by : (fault : DumpFault) → IsDumpFault (Some whole) fault → (fault ≡ Reel) ⊎ (fault ≡ NoMemory)
    by (BadDump offset why) (inl bad) = absurd (wrong_none whole offset _ bad.wrong goes)
    by (BadDump offset why) (inr (other, last, is_front, inl bad)) = absurd (wrong_none whole _ bad.count bad.wrong goes)
    by (BadDump offset why) (inr (other, last, is_front, inr (inl bad))) =
        absurd (no_piece_ended head front whole ended (piece_behind other head last front offset why whole bad is_front ended.stood))
    by (BadDump offset why) (inr (other, last, is_front, inr (inr has))) = absurd (more_none other last offset why whole has goes)
    by (Truncated count) (inl short) = absurd (not_short count whole short.0 some)
    by (Truncated count) (inr (other, last, is_front, cut)) = absurd (not_short count whole cut.short some)
    by (DigestDiffers kept found) (inl none) = absurd none
    by (DigestDiffers kept found) (inr (other, last, is_front, (differs, has))) = absurd (differs (right_digest whole head other front last kept found shape has))
    by Reel is = inl refl
    by NoMemory is = inr refl
