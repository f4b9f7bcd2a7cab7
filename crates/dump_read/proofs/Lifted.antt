-- What is wrong or cut in a part of a dump is so in the whole.
use Rattle.std.proofs.Common.{◌≡◌, ◌⊎◌, inl, inr, ℕ, ◌+◌, ◌≤◌, ◌<◌, min, List, [], ◌∷◌, ◌++◌, length, take, refl, sym, ap, subst, ◌∙◌, arith, length-append, append_assoc}
use Rattle.std.proofs.lemmas.Bool.{cases_lt}
use Rattle.std.proofs.lemmas.List.{length-take}
use Rattle.byteorder.specs.Endian.{big_bytes}
use Rattle.ckd_image.specs.Bytes.{Begins}
use Rattle.dump_fmt.specs.declared.piece.DumpHead.{DumpHead}
use Rattle.dump_fmt.specs.declared.piece.Piece.{Piece}
use Rattle.dump_fmt.specs.declared.piece.Piece.TheVariants.{Part, Track, PartEnd, Dropped, Slot}
use Rattle.dump_fmt.specs.Pieces.{piece_text}
use Rattle.dump_fmt.specs.Front.{Front, Adds}
use Rattle.dump_fmt.specs.Text.{front_text}
use Rattle.dump_read.specs.Fields.{GoesOn, IsFirstWrong}
use Rattle.dump_read.specs.Marks.{IsMarkOf, MayStand}
use Rattle.dump_read.specs.Shape.{IsGoing, IsSomeShape, GoesWithPiece, GoesWithEnd}
use Rattle.dump_read.proofs.Chains.{within_first, front_of_more, behind_front}
use Rattle.dump_read.proofs.PartChain.{take_length}
use Rattle.dump_read.proofs.Shapes.{fronts_go_on, shapes_go_on}

-- What may stand behind a mark: each such text goes on as a shape, and each shape goes on with such a text. Pieces with the mark have such texts. None of the texts
-- begins another one.
pub record IsLanguage (head : DumpHead) (front : Front) (mark : ℕ) (Is : List ℕ → Type 0) : Type 0 where
  pub goes : (text : List ℕ) → Is text → GoesOn IsSomeShape (front_text head front ++ (mark ∷ text))
  pub comes : (shape rest : List ℕ) → IsSomeShape shape → shape ≡ front_text head front ++ (mark ∷ rest) → (text : List ℕ) × Is text × Begins text rest
  pub pieces : (piece : Piece) (next : Front) (rest : List ℕ) → Adds front piece next → IsGoing head next → piece_text piece ≡ mark ∷ rest → Is rest
  pub apart : (a b : List ℕ) → Is a → Is b → Begins a b → a ≡ b

-- No text of this kind that begins with all that stands before a field ends before what is there of the field does.
abbrev pub Reaches : (List ℕ → Type 0) → List ℕ → ℕ → ℕ → Type 0
Reaches Is bytes place len = (text : List ℕ) → Is text → Begins (take place bytes) text → min (place + len) (length bytes) ≤ length text

-- bytes that are less than a shape which begins with them
pub record IsShort (bytes : List ℕ) : Type 0 where
  pub text : List ℕ
  pub is_shape : IsSomeShape text
  pub begins : Begins bytes text
  pub short : length bytes < length text

-- ---- fields

-- a text that stands where the bytes up to and with a field do goes on with these
text_goes : (Is : List ℕ → Type 0) (bytes : List ℕ) (place len : ℕ) → ((a b : List ℕ) → Is a → Is b → Begins a b → a ≡ b) → Reaches Is bytes place len → (is : IsFirstWrong Is bytes place len)
    → (text more rest : List ℕ) → Is text → (is.front ++ take len is.rest) ++ more ≡ text ++ rest → Begins (is.front ++ take len is.rest) text
text_goes Is bytes place len apart reaches is text more rest it e = elim (cases_lt (length text) (length (is.front ++ take len is.rest))) [
  | inr long ↦ within_first (is.front ++ take len is.rest) text rest long (more, sym e)
  | inl less ↦ elim (cases_lt (length text) (length is.front)) [
    | inl before ↦
        let inner : is.front ++ (take len is.rest ++ more) ≡ text ++ rest = sym (append_assoc is.front (take len is.rest) more) ∙ e in
        let first : Begins text is.front = within_first text is.front (take len is.rest ++ more) (omega (arith, before)) (rest, inner) in
        let begun = is.begun in
        let other : Begins text begun.0 = subst (Begins text) (sym begun.2.1) (front_of_more text is.front begun.2.0 first) in
        let same : text ≡ begun.0 = apart text begun.0 it begun.1 other in
        absurd (omega (arith, before, ap length same, ap length begun.2.1, length-append is.front begun.2.0))
    | inr behind ↦
        let inner : text ++ rest ≡ is.front ++ (take len is.rest ++ more) = sym e ∙ append_assoc is.front (take len is.rest) more in
        let begins : Begins is.front text = within_first is.front text rest behind (take len is.rest ++ more, inner) in
        let front_is : is.front ≡ take place bytes = sym (ap (take place) is.spelled ∙ take_length is.front is.rest place is.place_is) in
        let reached = reaches text it (subst (λ (f : List ℕ). Begins f text) front_is begins) in
        absurd (omega (arith, less, reached, is.place_is, ap length is.spelled, length-append is.front is.rest, length-append is.front (take len is.rest), length-take len is.rest))
  ]
]

marked : (mark : ℕ) (bytes text : List ℕ) → Begins bytes text → Begins (mark ∷ bytes) (mark ∷ text)
marked mark bytes text (more, e) = (more, ap (λ (t : List ℕ). mark ∷ t) e)

-- a front of such a text goes on as a shape
front_goes : (head : DumpHead) (front : Front) (mark : ℕ) (Is : List ℕ → Type 0) (bytes : List ℕ) → IsLanguage head front mark Is → GoesOn Is bytes → GoesOn IsSomeShape (front_text head front ++ (mark ∷ bytes))
front_goes head front mark Is bytes language (text, is, begins) =
    let goes = language.goes text is in
    let inner = behind_front (front_text head front) (mark ∷ bytes) (mark ∷ text) (marked mark bytes text begins) in
    (goes.0, goes.1, subst (Begins (front_text head front ++ (mark ∷ bytes))) (sym goes.2.1) (front_of_more (front_text head front ++ (mark ∷ bytes)) (front_text head front ++ (mark ∷ text)) goes.2.0 inner))

-- a field that is wrong in what stands behind a mark is wrong in the whole, where no text that begins as the bytes before it ends in it
pub wrong_field : (head : DumpHead) (front : Front) (mark : ℕ) (Is : List ℕ → Type 0) (bytes : List ℕ) (place len : ℕ) → IsLanguage head front mark Is → Reaches Is bytes place len → IsFirstWrong Is bytes place len
    → IsFirstWrong IsSomeShape (front_text head front ++ (mark ∷ bytes)) (length (front_text head front) + (1 + place)) len
wrong_field head front mark Is bytes place len language reaches is =
    let before : List ℕ = front_text head front in
    let field : List ℕ = take len is.rest in
    let w : List ℕ = is.front ++ field in
    record {
      front = before ++ (mark ∷ is.front);
      rest = is.rest;
      spelled = ap (λ (t : List ℕ). before ++ (mark ∷ t)) is.spelled ∙ sym (append_assoc before (mark ∷ is.front) is.rest);
      place_is = omega (arith, length-append before (mark ∷ is.front), is.place_is);
      begun = front_goes head front mark Is is.front language is.begun;
      wrong = λ (shape, some, (more, e)).
          let whole : shape ≡ before ++ (mark ∷ (w ++ more)) = e ∙ ap (λ (t : List ℕ). t ++ more) (append_assoc before (mark ∷ is.front) field) ∙ append_assoc before (mark ∷ w) more in
          let (text, it, (rest, there)) = language.comes shape (w ++ more) some whole in
          is.wrong (text, it, text_goes Is bytes place len language.apart reaches is text more rest it there);
    }

-- what is cut behind a mark is cut in the whole
pub cut_field : (head : DumpHead) (front : Front) (mark : ℕ) (Is : List ℕ → Type 0) (bytes text : List ℕ) → IsLanguage head front mark Is → Is text → Begins bytes text → length bytes < length text
    → IsShort (front_text head front ++ (mark ∷ bytes))
cut_field head front mark Is bytes text language is begins short =
    let before : List ℕ = front_text head front in
    let (shape, some, (more, e)) = language.goes text is in
    let inner = behind_front before (mark ∷ bytes) (mark ∷ text) (marked mark bytes text begins) in
    record {
      text = shape;
      is_shape = some;
      begins = subst (Begins (before ++ (mark ∷ bytes))) (sym e) (front_of_more (before ++ (mark ∷ bytes)) (before ++ (mark ∷ text)) more inner);
      short = omega (arith, short, ap length e, length-append (before ++ (mark ∷ text)) more, length-append before (mark ∷ text), length-append before (mark ∷ bytes));
    }

-- ---- marks

-- a piece begins with its mark
pub first_byte : (piece : Piece) → (byte : ℕ) × (rest : List ℕ) × (piece_text piece ≡ byte ∷ rest)
first_byte (Part f1 tracks kind) = (0x50, f1 ++ (big_bytes 4 tracks ++ (kind ∷ [])), refl)
first_byte (Track text) = (0x01, _, refl)
first_byte PartEnd = (0x00, [], refl)
first_byte Dropped = (0xFF, [], refl)
first_byte (Slot number bytes) = (0x54, _, refl)

mark_of : (piece : Piece) (byte : ℕ) (rest : List ℕ) → Begins (piece_text piece) (byte ∷ rest) → IsMarkOf piece byte
mark_of piece byte rest (more, e) =
    let (first, behind, is) = first_byte piece in
    let same : first ≡ byte = cc in
    (behind, is ∙ ap (λ (b : ℕ). b ∷ behind) same)

-- where a shape goes on, its next byte is a mark that may stand there
pub next_stands : (head : DumpHead) (front : Front) (byte : ℕ) (shape rest : List ℕ) → IsGoing head front → IsSomeShape shape → shape ≡ front_text head front ++ (byte ∷ rest) → MayStand head front byte
next_stands head front byte shape rest going some e = elim (shapes_go_on head front shape (byte ∷ rest) going some e) [
  | inl goes ↦ inl (record { piece = goes.piece; next = goes.next; adds = goes.adds; going = goes.going; mark = mark_of goes.piece byte rest goes.begins })
  | inr ends ↦ let e = ends.rest_is in let same : byte ≡ 0x5A = cc in inr (same, ends.closes)
]

pub wrong_mark : (head : DumpHead) (front : Front) (byte : ℕ) (rest : List ℕ) → IsGoing head front → ¬ MayStand head front byte
    → IsFirstWrong IsSomeShape (front_text head front ++ (byte ∷ rest)) (length (front_text head front)) 1
wrong_mark head front byte rest going none = record {
  front = front_text head front;
  rest = byte ∷ rest;
  spelled = refl;
  place_is = refl;
  begun = fronts_go_on head front going;
  wrong = λ (shape, some, (more, e)). none (next_stands head front byte shape more going some (e ∙ append_assoc (front_text head front) (byte ∷ []) more));
}

-- what can be ended is less than a shape
goes_further : (head : DumpHead) (front : Front) (rest : List ℕ) → GoesWithPiece head front rest ⊎ GoesWithEnd head front rest → 0 < length rest
goes_further head front rest (inl goes) =
    let (byte, behind, is) = first_byte goes.piece in
    omega (arith, ap length goes.begins.1, length-append (piece_text goes.piece) goes.begins.0, ap length is)
goes_further head front rest (inr ends) = omega (arith, ap length ends.rest_is)

pub nothing_yet : (head : DumpHead) (front : Front) → IsGoing head front → IsShort (front_text head front)
nothing_yet head front going =
    let (shape, some, (rest, e)) = fronts_go_on head front going in
    record {
      text = shape;
      is_shape = some;
      begins = (rest, e);
      short = omega (arith, goes_further head front rest (shapes_go_on head front shape rest going some e), ap length e, length-append (front_text head front) rest);
    }

-- no piece is whole in what is cut behind a mark
pub no_whole_piece : (head : DumpHead) (front next : Front) (mark : ℕ) (Is : List ℕ → Type 0) (bytes text : List ℕ) (piece : Piece) → IsLanguage head front mark Is → Is text → Begins bytes text
    → length bytes < length text → Adds front piece next → IsGoing head next → ¬ Begins (piece_text piece) (mark ∷ bytes)
no_whole_piece head front next mark Is bytes text piece language it (rest, there) short adds going (more, e) =
    let (byte, behind, is) = first_byte piece in
    let whole : mark ∷ bytes ≡ byte ∷ (behind ++ more) = e ∙ ap (λ (t : List ℕ). t ++ more) is in
    let same : byte ≡ mark = cc in
    let tail : bytes ≡ behind ++ more = cc in
    let other : Is behind = language.pieces piece next behind adds going (is ∙ ap (λ (b : ℕ). b ∷ behind) same) in
    let all : text ≡ behind ++ (more ++ rest) = there ∙ ap (λ (t : List ℕ). t ++ rest) tail ∙ append_assoc behind more rest in
    let equal : behind ≡ text = language.apart behind text other it (more ++ rest, all) in
    absurd (omega (arith, short, ap length tail, length-append behind more, ap length equal))
