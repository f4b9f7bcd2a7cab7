-- Fronts of dumps that stand at the front of the same bytes: one goes on to the other, piece by piece.
use Rattle.std.proofs.Common.{◌≡◌, ◌⊎◌, inl, inr, ℕ, Bool, true, false, List, [], ◌∷◌, ◌++◌, All, Option, Some, None, IfSome, refl, sym, ap, subst, ◌∙◌, append_assoc}
use Rattle.std.specs.List.{flat_map, AllByRecursion}
use Rattle.std.proofs.lemmas.Grind.{flat_map-append}
use Rattle.std.proofs.lemmas.List.{append-nil}
use Rattle.std.proofs.lemmas.List.Elements.{recursion_from_All, All-nil}
use Rattle.ckd_image.specs.Bytes.{Begins}
use Rattle.dump_fmt.specs.declared.piece.DumpHead.{DumpHead}
use Rattle.dump_fmt.specs.declared.piece.Piece.{Piece}
use Rattle.dump_fmt.specs.Head.{IsDumpHead, header_text}
use Rattle.dump_fmt.specs.Parts.{DumpPart, part_pieces}
use Rattle.dump_fmt.specs.Pieces.{piece_text, pieces_text}
use Rattle.dump_fmt.specs.Front.{Front, Adds, IsOfKind, IsFull, IsFront, front_pieces, current_pieces}
use Rattle.dump_fmt.specs.Text.{front_text, counts_text}
use Rattle.dump_fmt.proofs.Fronts.{pieces_more}
use Rattle.dump_read.specs.Shape.{AreSlots, IsShapeFront, IsGoing, MayEndPart, HasByteName, MayClose, IsSomeShape}
use Rattle.dump_read.proofs.Bounds as bounds
use Rattle.dump_read.proofs.Counts.{all_none}
use Rattle.dump_read.proofs.Delimited.{IsBounded, pieces_delimited, no_trailer}
use Rattle.dump_read.proofs.Fed.{long_header}
use Rattle.dump_read.proofs.Going.{logical_by, of_slots, last_is}
use Rattle.dump_read.proofs.OneHeader.{shared}
use Rattle.dump_read.proofs.OnWay.{between, within}
use Rattle.dump_read.proofs.Shapes.{in_parts, alike, front_alike, closes_alike, pieces_of_parts, bounded, no_slots_by, fronts_go_on, shapes_go_on}
use Rattle.dump_read.proofs.Stages.{StandsBehind, pieces_front, on_way}
use Rattle.ckd_image.proofs.OneText.{split_same}

-- ---- headers of one text

-- they name the same track of the format 4
pub same_vtoc : (head other : DumpHead) → IsDumpHead head → IsDumpHead other → header_text head ≡ header_text other → head.vtoc ≡ other.vtoc
same_vtoc head other sound right e = (shared head other sound right e).vtoc

-- ---- the front of a dump with which a shape begins is going

pub full_by : (full : Bool) (head : DumpHead) (front : Front) → full ≡ true → IsOfKind full head front → IsFull head front
full_by full head front is behind = subst (λ (b : Bool). IsOfKind b head front) is behind

pub are_slots : (head : DumpHead) (front : Front) → IsFull head front → AreSlots head front
are_slots head front is = record { no_parts = is.no_parts; no_current = is.no_current; slots = is.slots; few = is.few }

-- slots alone always are
pub full_going : (head : DumpHead) (front : Front) → head.full ≡ true → IsFront head front → IsGoing head front
full_going head front full is =
    let here = full_by head.full head front full is.behind in
    record {
      is_front = record {
        header = is.header;
        behind = of_slots head.full head front full (are_slots head front here);
        few_tracks = is.few_tracks;
        names = subst (All HasByteName) (sym (all_none front here.no_current ∙ here.no_parts)) (All-nil HasByteName);
      };
      current = subst (λ (o : Option DumpPart). IfSome o (MayEndPart front)) (sym here.no_current) tt;
    }

-- pieces of this shape
module _ (head : DumpHead) (front last : Front) (more : List Piece) (is : IsFront head front) (whole : IsShapeFront head last) (closes : MayClose head last) where
  part_going : head.full ≡ false → front.slots ≡ [] → (current : Option DumpPart) → front.current ≡ current → (later : List DumpPart) → last.parts ≡ front.parts ++ later
      → StandsBehind current later more → IsGoing head front
  part_going not none None at later all behind = between head front last not whole (logical_by head.full head last not whole.behind) closes.ended none later all at
  part_going not none (Some part) at [] all behind = absurd behind
  part_going not none (Some part) at (next ∷ later) all (texts, next_is, behind) =
      within head front last not whole (logical_by head.full head last not whole.behind) closes.ended none part texts later (all ∙ ap (λ (p : DumpPart). front.parts ++ p ∷ later) next_is) at

  going_by : front_pieces last ≡ front_pieces front ++ more → (full : Bool) → head.full ≡ full → IsGoing head front
  going_by pieces true full = full_going head front full is
  going_by pieces false not =
      let here = subst (λ (b : Bool). IsOfKind b head front) not is.behind in
      let there = logical_by head.full head last not whole.behind in
      let P : List Piece = flat_map part_pieces front.parts in
      let parts : P ++ (current_pieces front.current ++ more) ≡ flat_map part_pieces last.parts =
      sym (append_assoc P (current_pieces front.current) more) ∙ ap (λ (t : List Piece). t ++ more) (sym (pieces_of_parts front here.no_slots)) ∙ sym pieces ∙ pieces_of_parts last there.no_slots
      ∙ ap (λ (c : Option DumpPart). flat_map part_pieces last.parts ++ current_pieces c) closes.ended ∙ append-nil (flat_map part_pieces last.parts) in
      let way = on_way front.parts front.current last.parts more parts in
      part_going not here.no_slots front.current refl way.later way.all_are way.behind

pub front_going : (head : DumpHead) (front : Front) (shape rest : List ℕ) → IsFront head front → IsSomeShape shape → shape ≡ front_text head front ++ rest → IsGoing head front
front_going head front shape rest is (other, last, digest, whole) e =
    let end : List ℕ = counts_text last ++ digest in
    let spelled = sym (append_assoc (header_text head) (pieces_text (front_pieces front)) rest) ∙ sym e ∙ whole.spelled ∙ in_parts other last digest in
    let headers = split_same (header_text head) (header_text other) (pieces_text (front_pieces front) ++ rest) (pieces_text (front_pieces last) ++ end)
    (long_header head is.header ∙ sym (long_header other whole.is_front.header)) spelled in
    let same = alike head other is.header whole.is_front.header headers.0 in
    let before = pieces_front (front_pieces front) (front_pieces last) rest end (bounds.bounded head front is) (bounded other last whole.is_front) (_, refl) headers.1 in
    going_by head front last before.more is (front_alike head other last is.header same whole.is_front) (closes_alike head other last same whole.closes) before.all_are head.full refl

-- ---- pieces

-- the other pieces are these and more
pub record AreMore (before all : List Piece) (rest end : List ℕ) : Type 0 where
  pub piece : Piece
  pub more : List Piece
  pub all_are : all ≡ before ++ piece ∷ more
  pub bound : IsBounded piece
  pub rest_is : rest ≡ piece_text piece ++ (pieces_text more ++ end)

more_by : (a : Piece) (before all : List Piece) (rest end : List ℕ) → AreMore before all rest end → AreMore (a ∷ before) (a ∷ all) rest end
more_by a before all rest end is =
    record { piece = is.piece; more = is.more; all_are = ap (λ (t : List Piece). a ∷ t) is.all_are; bound = is.bound; rest_is = is.rest_is }

pieces_differ : (as' bs : List Piece) (x y : List ℕ) → AllByRecursion IsBounded as' → AllByRecursion IsBounded bs → pieces_text as' ++ x ≡ pieces_text bs ++ y
    → (as' ≡ bs) ⊎ (AreMore as' bs x y ⊎ AreMore bs as' y x)
pieces_differ [] [] x y p q e = inl refl
pieces_differ [] (b ∷ bs) x y p q e = inr (inl (record { piece = b; more = bs; all_are = refl; bound = q.0; rest_is = e ∙ append_assoc (piece_text b) (pieces_text bs) y }))
pieces_differ (a ∷ as') [] x y p q e = inr (inr (record { piece = a; more = as'; all_are = refl; bound = p.0; rest_is = sym e ∙ append_assoc (piece_text a) (pieces_text as') x }))
pieces_differ (a ∷ as') (b ∷ bs) x y p q e =
    let first = pieces_delimited.apart a b (pieces_text as' ++ x) (pieces_text bs ++ y) p.0 q.0
    (sym (append_assoc (piece_text a) (pieces_text as') x) ∙ e ∙ append_assoc (piece_text b) (pieces_text bs) y) in
    let head : a ≡ b = first.0 in
    elim (pieces_differ as' bs x y p.1 q.1 first.1) [
      | inl same ↦ inl cc
      | inr (inl is) ↦ inr (inl (subst (λ (t : Piece). AreMore (a ∷ as') (t ∷ bs) x y) head (more_by a as' bs x y is)))
      | inr (inr is) ↦ inr (inr (subst (λ (t : Piece). AreMore (t ∷ bs) (a ∷ as') y x) head (more_by a bs as' y x is)))
    ]

-- ---- a piece stands whole behind a front

pub record HasPiece (head : DumpHead) (front : Front) (rest : List ℕ) : Type 0 where
  pub piece : Piece
  pub next : Front
  pub behind : List ℕ
  pub adds : Adds front piece next
  pub going : IsGoing head next
  pub rest_is : rest ≡ piece_text piece ++ behind

-- it fits its fields
pub piece_bounded : (head : DumpHead) (front next : Front) (piece : Piece) → Adds front piece next → IsGoing head next → IsBounded piece
piece_bounded head front next piece adds going =
    last_is IsBounded (front_pieces front) piece
    (subst (All IsBounded) (pieces_more front piece next adds (no_slots_by head.full head front piece next adds going.is_front.behind)) (bounded head next going.is_front))

-- the first of more pieces does
pub more_stand : (head other : DumpHead) (front last : Front) (rest end : List ℕ) → IsGoing head front → IsGoing other last → header_text head ≡ header_text other
    → (is : AreMore (front_pieces front) (front_pieces last) rest end) → (next : Front) × Adds front is.piece next × IsGoing head next
more_stand head other front last rest end going on headers is =
    let (shape, some, (left, e)) = fronts_go_on other last on in
    let behind : List ℕ = pieces_text is.more ++ left in
    let text : pieces_text (front_pieces last) ++ left ≡ pieces_text (front_pieces front) ++ (piece_text is.piece ++ behind) =
    ap (λ (t : List Piece). pieces_text t ++ left) is.all_are
    ∙ ap (λ (t : List ℕ). t ++ left) (flat_map-append piece_text (front_pieces front) (is.piece ∷ is.more))
    ∙ append_assoc (pieces_text (front_pieces front)) (piece_text is.piece ++ pieces_text is.more) left
    ∙ ap (λ (t : List ℕ). pieces_text (front_pieces front) ++ t) (append_assoc (piece_text is.piece) (pieces_text is.more) left) in
    let whole : shape ≡ front_text head front ++ (piece_text is.piece ++ behind) =
    e ∙ append_assoc (header_text other) (pieces_text (front_pieces last)) left ∙ ap (λ (t : List ℕ). t ++ (pieces_text (front_pieces last) ++ left)) (sym headers)
    ∙ ap (λ (t : List ℕ). header_text head ++ t) text ∙ sym (append_assoc (header_text head) (pieces_text (front_pieces front)) (piece_text is.piece ++ behind)) in
    elim (shapes_go_on head front shape (piece_text is.piece ++ behind) going some whole) [
      | inl goes ↦
          let (tail, there) = goes.begins in
          let both = pieces_delimited.apart goes.piece is.piece tail behind (piece_bounded head front goes.next goes.piece goes.adds goes.going) is.bound (sym there) in
          (goes.next, subst (λ (p : Piece). Adds front p goes.next) both.0 goes.adds, goes.going)
      | inr ends ↦ absurd (no_trailer is.piece behind is.bound (subst (Begins (0x5A ∷ [])) (sym ends.rest_is) (_, refl)))
    ]

pub more_there : (head other : DumpHead) (front last : Front) (rest end : List ℕ) → IsGoing head front → IsGoing other last → header_text head ≡ header_text other
    → AreMore (front_pieces front) (front_pieces last) rest end → HasPiece head front rest
more_there head other front last rest end going on headers is =
    let (next, adds, goes) = more_stand head other front last rest end going on headers is in
    record { piece = is.piece; next = next; behind = pieces_text is.more ++ end; adds = adds; going = goes; rest_is = is.rest_is }

-- ---- two fronts

-- which of them goes on to the other
pub record AreFronts (head other : DumpHead) (front last : Front) (rest end : List ℕ) : Type 0 where
  pub headers : header_text head ≡ header_text other
  pub pieces : (front_pieces front ≡ front_pieces last) ⊎ (AreMore (front_pieces front) (front_pieces last) rest end ⊎ AreMore (front_pieces last) (front_pieces front) end rest)

pub two_fronts : (whole : List ℕ) (head other : DumpHead) (front last : Front) (rest end : List ℕ) → IsGoing head front → IsGoing other last
    → whole ≡ front_text head front ++ rest → whole ≡ front_text other last ++ end → AreFronts head other front last rest end
two_fronts whole head other front last rest end going on e f =
    let spelled = sym (append_assoc (header_text head) (pieces_text (front_pieces front)) rest) ∙ sym e ∙ f ∙ append_assoc (header_text other) (pieces_text (front_pieces last)) end in
    let headers = split_same (header_text head) (header_text other) (pieces_text (front_pieces front) ++ rest) (pieces_text (front_pieces last) ++ end)
    (long_header head going.is_front.header ∙ sym (long_header other on.is_front.header)) spelled in
    record {
      headers = headers.0;
      pieces = pieces_differ (front_pieces front) (front_pieces last) rest end (recursion_from_All IsBounded (front_pieces front) (bounded head front going.is_front))
          (recursion_from_All IsBounded (front_pieces last) (bounded other last on.is_front)) headers.1;
    }

-- fronts of the same pieces have one text
pub one_text : (head other : DumpHead) (front last : Front) → header_text head ≡ header_text other → front_pieces front ≡ front_pieces last → front_text head front ≡ front_text other last
one_text head other front last headers pieces =
    ap (λ (t : List ℕ). t ++ pieces_text (front_pieces front)) headers ∙ ap (λ (p : List Piece). header_text other ++ pieces_text p) pieces
