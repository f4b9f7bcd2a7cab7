-- What is wrong or cut in the header of a dump is so in the whole.
use Rattle.std.proofs.Common.{◌≡◌, ℕ, ◌+◌, ◌≤◌, ◌<◌, Bool, true, false, List, [], ◌++◌, length, take, refl, sym, ap, subst, ◌∙◌, arith, length-append, append_assoc}
use Rattle.std.proofs.lemmas.List.{append-nil, length-take}
use Rattle.std.proofs.lemmas.List.Elements.{All-nil}
use Rattle.std.specs.List.{AllPairs}
use Rattle.ckd_image.specs.Bytes.{Begins}
use Rattle.dump_fmt.specs.declared.piece.DumpHead.{DumpHead}
use Rattle.dump_fmt.specs.Head.{IsDumpHead, header_text}
use Rattle.dump_fmt.specs.Parts.{IsPart}
use Rattle.dump_fmt.specs.Pieces.{pieces_text}
use Rattle.dump_fmt.specs.Front.{empty_front, front_pieces, IsCutSlot}
use Rattle.dump_fmt.specs.Text.{front_text, counts_text, digested_text}
use Rattle.dump_read.specs.Fields.{GoesOn, IsFirstWrong}
use Rattle.dump_read.specs.Header.{IsHeader}
use Rattle.dump_read.specs.Shape.{IsOfShape, IsGoing, IsSomeShape, HasByteName}
use Rattle.dump_read.proofs.Chains.{within_first, front_of_more, wrong_with}
use Rattle.dump_read.proofs.Fed.{long_header}
use Rattle.dump_read.proofs.Lifted.{IsShort}
use Rattle.dump_read.proofs.OnWay.{Precedes}
use Rattle.dump_read.proofs.Shapes.{fronts_go_on}

-- ---- behind each header a shape goes on

no_pairs : AllPairs Precedes []
no_pairs = λ i j d before within. absurd (omega (arith, within))

nothing_stands : (full : Bool) (head : DumpHead) → IsOfShape full head empty_front
nothing_stands true head = record { no_parts = refl; no_current = refl; slots = All-nil (IsCutSlot head.device); few = omega arith }
nothing_stands false head = record { no_slots = refl; parts = All-nil (IsPart head.device); order = no_pairs; few = omega arith }

pub header_going : (head : DumpHead) → IsDumpHead head → IsGoing head empty_front
header_going head is = record { is_front = record { header = is; behind = nothing_stands head.full head; few_tracks = omega arith; names = All-nil HasByteName }; current = tt }

header_goes : (bytes : List ℕ) → GoesOn IsHeader bytes → GoesOn IsSomeShape bytes
header_goes bytes (text, (head, is, spelled), begins) =
    let (shape, some, (more, e)) = fronts_go_on head empty_front (header_going head is) in
    let all : shape ≡ header_text head ++ more = e ∙ ap (λ (t : List ℕ). t ++ more) (append-nil (header_text head)) in
    (shape, some, subst (Begins bytes) (sym all) (front_of_more bytes (header_text head) more (subst (Begins bytes) spelled begins)))

-- and each shape begins with one
shape_header : (bytes : List ℕ) → length bytes ≤ 32 → GoesOn IsSomeShape bytes → GoesOn IsHeader bytes
shape_header bytes short (shape, (head, front, digest, is), begins) =
    let header = is.is_front.header in
    let behind : List ℕ = pieces_text (front_pieces front) ++ (counts_text front ++ digest) in
    let all : shape ≡ header_text head ++ behind =
    is.spelled ∙ append_assoc (front_text head front) (counts_text front) digest ∙ append_assoc (header_text head) (pieces_text (front_pieces front)) (counts_text front ++ digest) in
    (header_text head, (head, header, refl), within_first bytes (header_text head) behind (omega (arith, short, long_header head header)) (subst (Begins bytes) all begins))

wrong_front : (bytes : List ℕ) (place len : ℕ) → IsFirstWrong IsHeader bytes place len → place + len ≤ 32 → IsFirstWrong IsSomeShape bytes place len
wrong_front bytes place len is within = record {
  front = is.front;
  rest = is.rest;
  spelled = is.spelled;
  place_is = is.place_is;
  begun = header_goes is.front is.begun;
  wrong = λ goes. is.wrong (shape_header (is.front ++ take len is.rest) (omega (arith, within, is.place_is, length-append is.front (take len is.rest), length-take len is.rest)) goes);
}

pub wrong_head : (whole bytes more : List ℕ) (place len : ℕ) → whole ≡ bytes ++ more → length bytes ≤ 32 → (length bytes < 32 → more ≡ []) → IsFirstWrong IsHeader bytes place len → place + len ≤ 32
    → IsFirstWrong IsSomeShape whole place len
wrong_head whole bytes more place len spelled few none is within =
    subst (λ (t : List ℕ). IsFirstWrong IsSomeShape t place len) (sym spelled) (wrong_with IsSomeShape bytes more place len (wrong_front bytes place len is within))

pub cut_head : (whole bytes more : List ℕ) → whole ≡ bytes ++ more → length bytes ≤ 32 → (length bytes < 32 → more ≡ []) → length bytes < 32 → GoesOn IsHeader bytes → IsShort whole
cut_head whole bytes more spelled few none short goes =
    let same : whole ≡ bytes = spelled ∙ ap (λ (t : List ℕ). bytes ++ t) (none short) ∙ append-nil bytes in
    let (text, some, begins) = header_goes bytes goes in
    record {
      text = text;
      is_shape = some;
      begins = subst (λ (t : List ℕ). Begins t text) (sym same) begins;
      short = omega (arith, ap length same, short, shape_long text some);
    }
  where
    shape_long : (shape : List ℕ) → IsSomeShape shape → 32 ≤ length shape
    shape_long shape (head, front, digest, is) =
        omega (
          arith,
          ap length is.spelled,
          length-append (digested_text head front) digest,
          length-append (front_text head front) (counts_text front),
          length-append (header_text head) (pieces_text (front_pieces front)),
          long_header head is.is_front.header,
        )
