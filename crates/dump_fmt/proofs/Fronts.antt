-- One piece more behind what stands in a dump.
use Rattle.std.proofs.Common.{◌≡◌, ◌⊎◌, inl, inr, ℕ, ◌+◌, Bool, true, false, if◌then◌else◌, List, [], ◌∷◌, ◌++◌, length, map, Option, Some, None, sym, ap, subst, ◌∙◌, arith, append_assoc}
use Rattle.std.specs.List.{flat_map, enumerate_from}
use Rattle.std.proofs.lemmas.List.{flat_map_more, append-nil, map-append}
use Rattle.std.proofs.lemmas.Option.{none-some}
use Rattle.std.proofs.lemmas.Bool.{ne_eqb}
use Rattle.ckd_image.specs.declared.track.Track.{Track as Text}
use Rattle.dump_fmt.specs.declared.piece.DumpHead.{DumpHead}
use Rattle.dump_fmt.specs.declared.piece.Piece.{Piece}
use Rattle.dump_fmt.specs.declared.piece.Piece.TheVariants.{Part, Track, PartEnd, Dropped, Slot}
use Rattle.dump_fmt.specs.Head.{header_text}
use Rattle.dump_fmt.specs.Pieces.{piece_text, pieces_text}
use Rattle.dump_fmt.specs.Parts.{DumpPart, is_whole, begun_pieces, part_pieces}
use Rattle.dump_fmt.specs.Front.{Front, front_pieces, current_pieces, slot_pieces, Adds, IsFront, IsOfKind, begun, with_text, with_part, with_current}
use Rattle.dump_fmt.specs.Text.{front_text}

-- ---- where no slots are, and where no parts

pub of_one_kind : (full : Bool) (head : DumpHead) (front : Front) → IsOfKind full head front → (front.slots ≡ []) ⊎ ((front.parts ≡ []) × (front.current ≡ None))
of_one_kind true head front full = inr (full.no_parts, full.no_current)
of_one_kind false head front logical = inl logical.no_slots

-- where the piece is no slot, no slot stands there
abbrev pub HasNoSlots : Front → Piece → Type 0
HasNoSlots front (Slot number bytes) = Unit {0}
HasNoSlots front _ = front.slots ≡ []

in_current : (front next : Front) (part : DumpPart) → next ≡ with_current front (Some part) → (next.slots ≡ []) ⊎ ((next.parts ≡ []) × (next.current ≡ None)) → front.slots ≡ []
in_current front next part is kind = elim kind [
  | inl none ↦ sym (ap (λ (f : Front). f.slots) is) ∙ none
  | inr empty ↦ absurd (none-some part (sym empty.1 ∙ ap (λ (f : Front). f.current) is))
]

pub push_not_empty : {X : Type 0} (xs : List X) (x : X) → ¬ (xs ++ x ∷ [] ≡ [])
push_not_empty [] x same = cc
push_not_empty (y ∷ ys) x same = cc

in_parts : (front next : Front) (part : DumpPart) → next ≡ with_part front part → (next.slots ≡ []) ⊎ ((next.parts ≡ []) × (next.current ≡ None)) → front.slots ≡ []
in_parts front next part is kind = elim kind [
  | inl none ↦ sym (ap (λ (f : Front). f.slots) is) ∙ none
  | inr empty ↦ absurd (push_not_empty front.parts part (sym (ap (λ (f : Front). f.parts) is) ∙ empty.0))
]

no_slots_by : (front : Front) (piece : Piece) (next : Front) → Adds front piece next → (next.slots ≡ []) ⊎ ((next.parts ≡ []) × (next.current ≡ None)) → HasNoSlots front piece
no_slots_by front (Part f1 tracks kind) next adds of = in_current front next (begun f1 tracks kind) adds.1 of
no_slots_by front (Track text) next adds of = in_current front next (with_text adds.0 text) adds.2 of
no_slots_by front PartEnd next adds of = in_parts front next adds.0 adds.3 of
no_slots_by front Dropped next adds of = in_parts front next adds.0 adds.3 of
no_slots_by front (Slot number bytes) next adds of = tt

pub no_slots : (head : DumpHead) (front : Front) (piece : Piece) (next : Front) → Adds front piece next → IsFront head next → HasNoSlots front piece
no_slots head front piece next adds stands = no_slots_by front piece next adds (of_one_kind head.full head next stands.behind)

-- ---- the pieces

enumerate_push : (n : ℕ) (slots : List (List ℕ)) (slot : List ℕ) → enumerate_from n (slots ++ slot ∷ []) ≡ enumerate_from n slots ++ (n + length slots, slot) ∷ []
enumerate_push n [] slot =
    let same : n ≡ n + length {A = List ℕ} [] = omega arith in
    ap (λ (m : ℕ). (m, slot) ∷ []) same
enumerate_push n (x ∷ xs) slot =
    let same : (n + 1) + length xs ≡ n + length (x ∷ xs) = omega arith in
    ap (λ (t : List (ℕ × List ℕ)). (n, x) ∷ t) (enumerate_push (n + 1) xs slot ∙ ap (λ (m : ℕ). enumerate_from (n + 1) xs ++ (m, slot) ∷ []) same)

slots_push : (slots : List (List ℕ)) (number : ℕ) (slot : List ℕ) → number ≡ length slots → slot_pieces (slots ++ slot ∷ []) ≡ slot_pieces slots ++ Slot number slot ∷ []
slots_push slots number slot is =
    let same : 0 + length slots ≡ number = omega (arith, is) in
    ap (λ (t : List (ℕ × List ℕ)). map (λ x. Slot x.0 x.1) t) (enumerate_push 0 slots slot ∙ ap (λ (m : ℕ). enumerate_from 0 slots ++ (m, slot) ∷ []) same)
    ∙ map-append (λ (x : ℕ × List ℕ). Slot x.0 x.1) (enumerate_from 0 slots) ((number, slot) ∷ [])

-- a piece behind all, where no slots stand
last_piece : (P C S : List Piece) (p : Piece) → S ≡ [] → P ++ ((C ++ p ∷ []) ++ S) ≡ (P ++ (C ++ S)) ++ p ∷ []
last_piece P C S p none = subst (λ (T : List Piece). P ++ ((C ++ p ∷ []) ++ T) ≡ (P ++ (C ++ T)) ++ p ∷ []) (sym none)
    (ap (λ (t : List Piece). P ++ t) (append-nil (C ++ p ∷ [])) ∙ sym (append_assoc P C (p ∷ [])) ∙ ap (λ (t : List Piece). (P ++ t) ++ p ∷ []) (sym (append-nil C)))

last_part : (P C S : List Piece) (p : Piece) → S ≡ [] → (P ++ (C ++ p ∷ [])) ++ S ≡ (P ++ (C ++ S)) ++ p ∷ []
last_part P C S p none = append_assoc P (C ++ p ∷ []) S ∙ last_piece P C S p none

last_slot : (P C S : List Piece) (p : Piece) → P ++ (C ++ (S ++ p ∷ [])) ≡ (P ++ (C ++ S)) ++ p ∷ []
last_slot P C S p = ap (λ (t : List Piece). P ++ t) (sym (append_assoc C S (p ∷ []))) ∙ sym (append_assoc P (C ++ S) (p ∷ []))

text_more : (part : DumpPart) (text : Text) → begun_pieces (with_text part text) ≡ begun_pieces part ++ Track text ∷ []
text_more part text = ap (λ (t : List Piece). Part part.f1 part.tracks part.kind ∷ t) (map-append (λ (x : Text). Track x) part.texts (text ∷ []))

ended_with : (part : DumpPart) (whole : Bool) → is_whole part ≡ whole → part_pieces part ≡ begun_pieces part ++ (if whole then PartEnd else Dropped) ∷ []
ended_with part whole is = ap (λ (b : Bool). begun_pieces part ++ (if b then PartEnd else Dropped) ∷ []) is

part_more : (front : Front) (part : DumpPart) (piece : Piece) → front.current ≡ Some part → front.slots ≡ [] → part_pieces part ≡ begun_pieces part ++ piece ∷ []
    → front_pieces (with_part front part) ≡ front_pieces front ++ piece ∷ []
part_more front part piece at none ends =
    let P = flat_map part_pieces front.parts in
    let S = slot_pieces front.slots in
    ap (λ (t : List Piece). t ++ S) (sym (flat_map_more part_pieces [] front.parts part))
    ∙ ap (λ (t : List Piece). (P ++ t) ++ S) ends
    ∙ last_part P (begun_pieces part) S piece (ap slot_pieces none)
    ∙ ap (λ (o : Option DumpPart). (P ++ (current_pieces o ++ S)) ++ piece ∷ []) (sym at)

pub pieces_more : (front : Front) (piece : Piece) (next : Front) → Adds front piece next → HasNoSlots front piece → front_pieces next ≡ front_pieces front ++ piece ∷ []
pieces_more front (Part f1 tracks kind) next adds none =
    let P = flat_map part_pieces front.parts in
    let S = slot_pieces front.slots in
    ap front_pieces adds.1 ∙ last_piece P [] S (Part f1 tracks kind) (ap slot_pieces none)
    ∙ ap (λ (o : Option DumpPart). (P ++ (current_pieces o ++ S)) ++ Part f1 tracks kind ∷ []) (sym adds.0)
pieces_more front (Track text) next adds none =
    let P = flat_map part_pieces front.parts in
    let S = slot_pieces front.slots in
    ap front_pieces adds.2 ∙ ap (λ (t : List Piece). P ++ (t ++ S)) (text_more adds.0 text) ∙ last_piece P (begun_pieces adds.0) S (Track text) (ap slot_pieces none)
    ∙ ap (λ (o : Option DumpPart). (P ++ (current_pieces o ++ S)) ++ Track text ∷ []) (sym adds.1)
pieces_more front PartEnd next adds none = ap front_pieces adds.3 ∙ part_more front adds.0 PartEnd adds.1 none (ended_with adds.0 true adds.2)
pieces_more front Dropped next adds none =
    let short = adds.2 in
    ap front_pieces adds.3 ∙ part_more front adds.0 Dropped adds.1 none (ended_with adds.0 false (ne_eqb (length adds.0.texts) adds.0.tracks (λ same. omega (arith, short, same))))
pieces_more front (Slot number bytes) next adds none =
    let P = flat_map part_pieces front.parts in
    let C = current_pieces front.current in
    ap front_pieces adds.1 ∙ ap (λ (t : List Piece). P ++ (C ++ t)) (slots_push front.slots number bytes adds.0) ∙ last_slot P C (slot_pieces front.slots) (Slot number bytes)

-- the text grows by that of the piece
pub text_grows : (head : DumpHead) (front : Front) (piece : Piece) (next : Front) → Adds front piece next → IsFront head next → front_text head next ≡ front_text head front ++ piece_text piece
text_grows head front piece next adds stands =
    ap (λ (t : List Piece). header_text head ++ pieces_text t) (pieces_more front piece next adds (no_slots head front piece next adds stands))
    ∙ ap (λ (t : List ℕ). header_text head ++ t) (sym (flat_map_more piece_text [] (front_pieces front) piece))
    ∙ sym (append_assoc (header_text head) (pieces_text (front_pieces front)) (piece_text piece))
