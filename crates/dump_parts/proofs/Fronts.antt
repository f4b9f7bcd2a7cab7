-- What was read of a reel that holds a dump is a front of it.
use Rattle.std.proofs.Common.{◌≡◌, ℕ, Bool, true, false, List, [], ◌∷◌, ◌++◌, Option, Some, None, refl, sym, ap, subst, ◌∙◌, append_assoc}
use Rattle.std.specs.List.{flat_map}
use Rattle.std.proofs.lemmas.List.{append-nil}
use Rattle.sha2.specs.Sha256.{sha256}
use Rattle.ckd_image.proofs.OneText.{split_same}
use Rattle.dasd_pool.specs.Stream.{Takes}
use Rattle.dump_fmt.specs.declared.piece.DumpHead.{DumpHead}
use Rattle.dump_fmt.specs.declared.piece.Piece.{Piece}
use Rattle.dump_fmt.specs.Front.{Front, IsFront, IsOfKind, current_pieces, front_pieces}
use Rattle.dump_fmt.specs.Head.{header_text}
use Rattle.dump_fmt.specs.Parts.{DumpPart, part_pieces}
use Rattle.dump_fmt.specs.Pieces.{pieces_text}
use Rattle.dump_fmt.specs.Text.{counts_text, digested_text, dump_text, front_text}
use Rattle.dump_read.specs.DumpLaws.{OneHeader}
use Rattle.dump_read.specs.Feed.{coming}
use Rattle.dump_read.proofs.Bounds.{bounded}
use Rattle.dump_read.proofs.Fed.{long_header}
use Rattle.dump_read.proofs.Shapes.{pieces_of_parts}
use Rattle.dump_read.proofs.Stages.{StandsBehind, on_way, pieces_front}
use Rattle.dump_parts.specs.Laws.{BeginsNext, FrontsAreOfTheirDump, IsFrontOf}

begins : (current : Option DumpPart) (later : List DumpPart) (more : List Piece) → StandsBehind current later more → BeginsNext current later
begins None later more is = tt
begins (Some part) [] more is = is
begins (Some part) (next ∷ later) more (texts, next_is, behind) = (texts, next_is)

front_by : (full : Bool) (head : DumpHead) (before front : Front) (more : List Piece) → IsOfKind full head before → IsOfKind full head front → front.current ≡ None
    → front_pieces front ≡ front_pieces before ++ more → IsFrontOf before front
front_by true head before front more is also ended pieces = record {
  later = front.parts;
  parts_are = ap (λ (p : List DumpPart). p ++ front.parts) (sym is.no_parts);
  current = subst (λ (c : Option DumpPart). BeginsNext c front.parts) (sym is.no_current) tt;
}
front_by false head before front more is also ended pieces =
    let first : List Piece = flat_map part_pieces before.parts in
    let all : List Piece = flat_map part_pieces front.parts in
    let parts : first ++ (current_pieces before.current ++ more) ≡ all =
    sym (append_assoc first (current_pieces before.current) more) ∙ ap (λ (t : List Piece). t ++ more) (sym (pieces_of_parts before is.no_slots)) ∙ sym pieces ∙ pieces_of_parts front also.no_slots
    ∙ ap (λ (c : Option DumpPart). all ++ current_pieces c) ended ∙ append-nil all in
    let way = on_way before.parts before.current front.parts more parts in
    record { later = way.later; parts_are = way.all_are; current = begins before.current way.later more way.behind }

-- of one header both are of one kind
front_of : (head : DumpHead) (before front : Front) (more : List Piece) → IsFront head before → IsFront head front → front.current ≡ None → front_pieces front ≡ front_pieces before ++ more → IsFrontOf before front
front_of head before front more is also ended pieces = front_by head.full head before front more is.behind also.behind ended pieces

pub fronts_are : OneHeader → FrontsAreOfTheirDump
fronts_are one tape reader before front whole head held dump reading =
    let (left, rest, e) : Takes (Some whole) (coming reader.feed.window tape.left) (front_text reader.head before) =
    subst (λ (h : Option (List ℕ)). Takes h (coming reader.feed.window tape.left) (front_text reader.head before)) held reading.read.taken in
    let digest : List ℕ = sha256 (digested_text head front) in
    let end : List ℕ = counts_text front ++ digest in
    let there : dump_text head front ≡ header_text head ++ (pieces_text (front_pieces front) ++ end) =
    append_assoc (front_text head front) (counts_text front) digest ∙ append_assoc (header_text head) (pieces_text (front_pieces front)) end in
    let spelled = sym (append_assoc (header_text reader.head) (pieces_text (front_pieces before)) left) ∙ sym e ∙ dump.spelled ∙ there in
    let headers = split_same (header_text reader.head) (header_text head) (pieces_text (front_pieces before) ++ left) (pieces_text (front_pieces front) ++ end)
    (long_header reader.head reading.is_front.header ∙ sym (long_header head dump.sound.is_front.header)) spelled in
    let same : reader.head ≡ head = one reader.head head reading.is_front.header dump.sound.is_front.header headers.0 in
    let pieces = pieces_front (front_pieces before) (front_pieces front) left end (bounded reader.head before reading.is_front) (bounded head front dump.sound.is_front) (_, refl) headers.1 in
    let here : IsFront head before = subst (λ (h : DumpHead). IsFront h before) same reading.is_front in
    (same, front_of head before front pieces.more here dump.sound.is_front dump.sound.ended pieces.all_are)
