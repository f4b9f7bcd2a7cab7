-- A dump text ends where it does, and is of one header and one front.
use Rattle.std.proofs.Common.{◌≡◌, ℕ, List, [], ◌∷◌, ◌++◌, refl, sym, ap, subst, ◌∙◌, append_assoc}
use Rattle.std.proofs.lemmas.List.{append-nil, append_cancel_left}
use Rattle.sha2.specs.Sha256.{sha256}
use Rattle.dump_fmt.specs.declared.piece.DumpHead.{DumpHead}
use Rattle.dump_fmt.specs.declared.piece.Piece.{Piece}
use Rattle.dump_fmt.specs.Head.{header_text}
use Rattle.dump_fmt.specs.Pieces.{pieces_text}
use Rattle.dump_fmt.specs.Front.{Front, IsFront, front_pieces}
use Rattle.dump_fmt.specs.Text.{front_text, counts_text, digested_text, dump_text, IsDumpText}
use Rattle.dump_read.specs.DumpLaws.{NoneBeginsAnother, OneFront, OneDump}
use Rattle.dump_read.proofs.Fed.{long_header}
use Rattle.dump_read.proofs.Delimited.{pieces_split}
use Rattle.dump_read.proofs.Bounds.{bounded}
use Rattle.dump_read.proofs.OneHeader.{one_header}
use Rattle.dump_read.proofs.Parsed.{one_of_kind}
use Rattle.ckd_image.proofs.OneText.{split_same}

-- the parts of a dump text, one behind the other
in_parts : (head : DumpHead) (front : Front) (more : List ℕ)
    → dump_text head front ++ more ≡ header_text head ++ (pieces_text (front_pieces front) ++ (counts_text front ++ (sha256 (digested_text head front) ++ more)))
in_parts head front more =
    append_assoc (digested_text head front) (sha256 (digested_text head front)) more
    ∙ append_assoc (front_text head front) (counts_text front) (sha256 (digested_text head front) ++ more)
    ∙ append_assoc (header_text head) (pieces_text (front_pieces front)) (counts_text front ++ (sha256 (digested_text head front) ++ more))

-- what two dump texts share
record IsSame (head other : DumpHead) (front behind : Front) (more : List ℕ) : Type 0 where
  pub headers : header_text head ≡ header_text other
  pub pieces : front_pieces front ≡ front_pieces behind
  pub none : more ≡ []

same_dumps : (head other : DumpHead) (front behind : Front) (more : List ℕ) (text another : List ℕ) → IsDumpText text head front → IsDumpText another other behind → another ≡ text ++ more
    → IsSame head other front behind more
same_dumps head other front behind more text another is also e =
    let whole : dump_text head front ++ more ≡ dump_text other behind ++ [] =
    ap (λ (t : List ℕ). t ++ more) (sym is.spelled) ∙ sym e ∙ also.spelled ∙ sym (append-nil (dump_text other behind)) in
    let digest : List ℕ = sha256 (digested_text head front) in
    let second : List ℕ = sha256 (digested_text other behind) in
    let spelled = sym (in_parts head front more) ∙ whole ∙ in_parts other behind [] in
    let headers = split_same (header_text head) (header_text other) (pieces_text (front_pieces front) ++ (counts_text front ++ (digest ++ more)))
    (pieces_text (front_pieces behind) ++ (counts_text behind ++ (second ++ [])))
    (long_header head is.sound.is_front.header ∙ sym (long_header other also.sound.is_front.header)) spelled in
    let pieces = pieces_split (front_pieces front) (front_pieces behind) (counts_text front ++ (digest ++ more)) (counts_text behind ++ (second ++ [])) (bounded head front is.sound.is_front)
    (bounded other behind also.sound.is_front) (_, refl) (_, refl) headers.1 in
    let counts = split_same (counts_text front) (counts_text behind) (digest ++ more) (second ++ []) refl pieces.1 in
    let digested : digested_text head front ≡ digested_text other behind =
    ap (λ (t : List ℕ). (t ++ pieces_text (front_pieces front)) ++ counts_text front) headers.0
    ∙ ap (λ (p : List Piece). (header_text other ++ pieces_text p) ++ counts_text front) pieces.0
    ∙ ap (λ (t : List ℕ). (header_text other ++ pieces_text (front_pieces behind)) ++ t) counts.0 in
    record { headers = headers.0; pieces = pieces.0; none = append_cancel_left second more [] (ap (λ (t : List ℕ). sha256 t ++ more) (sym digested) ∙ counts.1) }

pub none_begins : NoneBeginsAnother
none_begins a b head other front behind is also (more, e) =
    let same = same_dumps head other front behind more a b is also e in
    sym (append-nil a) ∙ ap (λ (t : List ℕ). a ++ t) (sym same.none) ∙ sym e

-- ---- one header and one front

one_of : (head other : DumpHead) (front behind : Front) → IsFront head front → IsFront other behind → header_text head ≡ header_text other → front_pieces front ≡ front_pieces behind
    → (head ≡ other) × (front ≡ behind)
one_of head other front behind is also headers pieces =
    let same : head ≡ other = one_header head other is.header also.header headers in
    let there : IsFront head behind = subst (λ (h : DumpHead). IsFront h behind) (sym same) also in
    (same, one_of_kind head.full head front behind is.behind there.behind pieces)

pub one_front : OneFront
one_front head other front behind is also e =
    let headers = split_same (header_text head) (header_text other) (pieces_text (front_pieces front)) (pieces_text (front_pieces behind)) (long_header head is.header ∙ sym (long_header other also.header)) e in
    let pieces = pieces_split (front_pieces front) (front_pieces behind) (0x5A ∷ []) (0x5A ∷ []) (bounded head front is) (bounded other behind also) ([], refl) ([], refl)
    (ap (λ (t : List ℕ). t ++ 0x5A ∷ []) headers.1) in
    one_of head other front behind is also headers.0 pieces.0

pub one_dump : OneDump
one_dump text head other front behind is also =
    let same = same_dumps head other front behind [] text text is also (sym (append-nil text)) in
    one_of head other front behind is.sound.is_front also.sound.is_front same.headers same.pieces
