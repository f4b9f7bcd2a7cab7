-- How far the pieces of one front are those of another one.
use Rattle.std.proofs.Common.{◌≡◌, ℕ, ◌+◌, Bool, true, false, if◌then◌else◌, List, [], ◌∷◌, ◌++◌, length, map, All, Option, Some, None, refl, sym, ap, subst, ◌∙◌, arith, append_assoc}
use Rattle.std.specs.List.{flat_map, enumerate_from, AllByRecursion}
use Rattle.std.proofs.lemmas.List.Elements.{recursion_from_All}
use Rattle.ckd_image.specs.declared.track.Track.{Track as Text}
use Rattle.ckd_image.specs.Bytes.{Begins}
use Rattle.dump_fmt.specs.declared.piece.Piece.{Piece}
use Rattle.dump_fmt.specs.declared.piece.Piece.TheVariants.{Part, Track, PartEnd, Dropped, Slot}
use Rattle.dump_fmt.specs.Pieces.{piece_text, pieces_text}
use Rattle.dump_fmt.specs.Parts.{DumpPart, is_whole, begun_pieces, part_pieces}
use Rattle.dump_fmt.specs.Front.{current_pieces}
use Rattle.dump_read.proofs.Delimited.{IsBounded, pieces_delimited, no_trailer}

-- ---- texts of pieces

-- pieces stand at the front of others, and more behind them
pub record AreFront (before all : List Piece) (rest end : List ℕ) : Type 0 where
  pub more : List Piece
  pub all_are : all ≡ before ++ more
  pub rest_is : rest ≡ pieces_text more ++ end

front_by : (before all : List Piece) (rest end : List ℕ) → AllByRecursion IsBounded before → AllByRecursion IsBounded all → Begins (0x5A ∷ []) end
    → pieces_text before ++ rest ≡ pieces_text all ++ end → AreFront before all rest end
front_by [] all rest end p q trailer e = record { more = all; all_are = refl; rest_is = e }
front_by (a ∷ before) [] rest end p q trailer e =
    absurd (no_trailer a (pieces_text before ++ rest) p.0 (subst (Begins (0x5A ∷ [])) (sym e ∙ append_assoc (piece_text a) (pieces_text before) rest) trailer))
front_by (a ∷ before) (b ∷ all) rest end p q trailer e =
    let first = pieces_delimited.apart a b (pieces_text before ++ rest) (pieces_text all ++ end) p.0 q.0
    (sym (append_assoc (piece_text a) (pieces_text before) rest) ∙ e ∙ append_assoc (piece_text b) (pieces_text all) end) in
    let inner = front_by before all rest end p.1 q.1 trailer first.1 in
    let head : a ≡ b = first.0 in
    let tail : all ≡ before ++ inner.more = inner.all_are in
    record { more = inner.more; all_are = cc; rest_is = inner.rest_is }

pub pieces_front : (before all : List Piece) (rest end : List ℕ) → All IsBounded before → All IsBounded all → Begins (0x5A ∷ []) end
    → pieces_text before ++ rest ≡ pieces_text all ++ end → AreFront before all rest end
pieces_front before all rest end p q trailer e = front_by before all rest end (recursion_from_All IsBounded before p) (recursion_from_All IsBounded all q) trailer e

-- ---- pieces of parts

abbrev pub end_piece : Bool → Piece
end_piece whole = if whole then PartEnd else Dropped

pub no_end : (b : Bool) (text : Text) → ¬ (Track text ≡ end_piece b)
no_end true text e = cc
no_end false text e = cc

abbrev pub with_texts : DumpPart → List Text → DumpPart
with_texts part texts = record { f1 = part.f1; tracks = part.tracks; kind = part.kind; texts = part.texts ++ texts }

-- tracks up to the end of a part are those of another one
texts_apart : (texts others : List Text) (b c : Bool) (x y : List Piece) → map Track texts ++ end_piece b ∷ x ≡ map Track others ++ end_piece c ∷ y → (texts ≡ others) × (x ≡ y)
texts_apart [] [] b c x y e = let rest : x ≡ y = cc in (refl, rest)
texts_apart [] (o ∷ others) b c x y e = let first : end_piece b ≡ Track o = cc in absurd (no_end b o (sym first))
texts_apart (t ∷ texts) [] b c x y e = let first : Track t ≡ end_piece c = cc in absurd (no_end c t first)
texts_apart (t ∷ texts) (o ∷ others) b c x y e =
    let first : t ≡ o = cc in
    let behind : map Track texts ++ end_piece b ∷ x ≡ map Track others ++ end_piece c ∷ y = cc in
    let rest = texts_apart texts others b c x y behind in
    let tail : texts ≡ others = rest.0 in
    (cc, rest.1)

-- tracks that stand at the front of those of a part
texts_front : (texts others : List Text) (c : Bool) (more y : List Piece) → map Track texts ++ more ≡ map Track others ++ end_piece c ∷ y
    → (later : List Text) × (others ≡ texts ++ later) × (more ≡ map Track later ++ end_piece c ∷ y)
texts_front [] others c more y e = (others, refl, e)
texts_front (t ∷ texts) [] c more y e = let first : Track t ≡ end_piece c = cc in absurd (no_end c t first)
texts_front (t ∷ texts) (o ∷ others) c more y e =
    let first : t ≡ o = cc in
    let behind : map Track texts ++ more ≡ map Track others ++ end_piece c ∷ y = cc in
    let rest = texts_front texts others c more y behind in
    let tail : others ≡ texts ++ rest.0 = rest.1 in
    (rest.0, cc, rest.2)

pub same_part : (f1 g1 : List ℕ) (tracks others kind other : ℕ) (a b : List Text) → f1 ≡ g1 → tracks ≡ others → kind ≡ other → a ≡ b
    → Path DumpPart (record { f1 = f1; tracks = tracks; kind = kind; texts = a }) (record { f1 = g1; tracks = others; kind = other; texts = b })
same_part f1 g1 tracks others kind other a b p q r s = λ i. record { f1 = p i; tracks = q i; kind = r i; texts = s i }

pub ended_so : (part : DumpPart) (x : List Piece) → part_pieces part ++ x ≡ Part part.f1 part.tracks part.kind ∷ (map Track part.texts ++ end_piece (is_whole part) ∷ x)
ended_so part x = append_assoc (begun_pieces part) (end_piece (is_whole part) ∷ []) x

pub part_apart : (p q : DumpPart) (x y : List Piece) → part_pieces p ++ x ≡ part_pieces q ++ y → (p ≡ q) × (x ≡ y)
part_apart p q x y e =
    let all : Part p.f1 p.tracks p.kind ∷ (map Track p.texts ++ end_piece (is_whole p) ∷ x) ≡ Part q.f1 q.tracks q.kind ∷ (map Track q.texts ++ end_piece (is_whole q) ∷ y) =
    sym (ended_so p x) ∙ e ∙ ended_so q y in
    let f : p.f1 ≡ q.f1 = cc in
    let t : p.tracks ≡ q.tracks = cc in
    let k : p.kind ≡ q.kind = cc in
    let behind : map Track p.texts ++ end_piece (is_whole p) ∷ x ≡ map Track q.texts ++ end_piece (is_whole q) ∷ y = cc in
    let rest = texts_apart p.texts q.texts (is_whole p) (is_whole q) x y behind in
    (same_part p.f1 q.f1 p.tracks q.tracks p.kind q.kind p.texts q.texts f t k rest.0, rest.1)

-- what stands behind the part under way, where some parts more are to stand
abbrev pub StandsBehind : Option DumpPart → List DumpPart → List Piece → Type 0
StandsBehind None later more = more ≡ flat_map part_pieces later
StandsBehind (Some part) [] more = ⊥
StandsBehind (Some part) (next ∷ later) more =
    (texts : List Text) × (next ≡ with_texts part texts) × (more ≡ map Track texts ++ end_piece (is_whole next) ∷ flat_map part_pieces later)

pub record AreOnWay (parts : List DumpPart) (current : Option DumpPart) (all : List DumpPart) (more : List Piece) : Type 0 where
  pub later : List DumpPart
  pub all_are : all ≡ parts ++ later
  pub behind : StandsBehind current later more

first_part : (part next : DumpPart) (later : List DumpPart) (more : List Piece) → begun_pieces part ++ more ≡ part_pieces next ++ flat_map part_pieces later → StandsBehind (Some part) (next ∷ later) more
first_part part next later more e =
    let all : Part part.f1 part.tracks part.kind ∷ (map Track part.texts ++ more)
    ≡ Part next.f1 next.tracks next.kind ∷ (map Track next.texts ++ end_piece (is_whole next) ∷ flat_map part_pieces later) = e ∙ ended_so next (flat_map part_pieces later) in
    let f : next.f1 ≡ part.f1 = cc in
    let t : next.tracks ≡ part.tracks = cc in
    let k : next.kind ≡ part.kind = cc in
    let behind : map Track part.texts ++ more ≡ map Track next.texts ++ end_piece (is_whole next) ∷ flat_map part_pieces later = cc in
    let rest = texts_front part.texts next.texts (is_whole next) more (flat_map part_pieces later) behind in
    (rest.0, same_part next.f1 part.f1 next.tracks part.tracks next.kind part.kind next.texts (part.texts ++ rest.0) f t k rest.1, rest.2)

none_left : (part : DumpPart) (x : List Piece) → ¬ (begun_pieces part ++ x ≡ [])
none_left part x e = cc

pub on_way : (parts : List DumpPart) (current : Option DumpPart) (all : List DumpPart) (more : List Piece)
    → flat_map part_pieces parts ++ (current_pieces current ++ more) ≡ flat_map part_pieces all → AreOnWay parts current all more
on_way [] None all more e = record { later = all; all_are = refl; behind = e }
on_way [] (Some part) [] more e = absurd (none_left part more e)
on_way [] (Some part) (next ∷ later) more e = record { later = next ∷ later; all_are = refl; behind = first_part part next later more e }
on_way (p ∷ parts) current [] more e = absurd (none_left p (((end_piece (is_whole p) ∷ []) ++ flat_map part_pieces parts) ++ (current_pieces current ++ more))
    (let all : ((begun_pieces p ++ end_piece (is_whole p) ∷ []) ++ flat_map part_pieces parts) ++ (current_pieces current ++ more) ≡ [] = e in cc))
on_way (p ∷ parts) current (q ∷ all) more e =
    let rest : List Piece = current_pieces current ++ more in
    let first = part_apart p q (flat_map part_pieces parts ++ rest) (flat_map part_pieces all) (sym (append_assoc (part_pieces p) (flat_map part_pieces parts) rest) ∙ e) in
    let inner = on_way parts current all more first.1 in
    let head : p ≡ q = first.0 in
    let tail : all ≡ parts ++ inner.later = inner.all_are in
    record { later = inner.later; all_are = cc; behind = inner.behind }

-- ---- slots

abbrev pub slots_from : ℕ → List (List ℕ) → List Piece
slots_from n slots = map (λ slot. Slot slot.0 slot.1) (enumerate_from n slots)

pub slots_on_way : (n : ℕ) (slots all : List (List ℕ)) (more : List Piece) → slots_from n slots ++ more ≡ slots_from n all
    → (later : List (List ℕ)) × (all ≡ slots ++ later) × (more ≡ slots_from (n + length slots) later)
slots_on_way n [] all more e =
    let same : n ≡ n + length {A = List ℕ} [] = omega arith in
    (all, refl, e ∙ ap (λ (m : ℕ). slots_from m all) same)
slots_on_way n (x ∷ slots) [] more e = absurd cc
slots_on_way n (x ∷ slots) (y ∷ all) more e =
    let first : x ≡ y = cc in
    let behind : slots_from (n + 1) slots ++ more ≡ slots_from (n + 1) all = cc in
    let rest = slots_on_way (n + 1) slots all more behind in
    let tail : all ≡ slots ++ rest.0 = rest.1 in
    let same : (n + 1) + length slots ≡ n + length (x ∷ slots) = omega arith in
    (rest.0, cc, rest.2 ∙ ap (λ (m : ℕ). slots_from m rest.0) same)

-- slots and more
pub slots_with : (n : ℕ) (slots later : List (List ℕ)) → slots_from n (slots ++ later) ≡ slots_from n slots ++ slots_from (n + length slots) later
slots_with n [] later =
    let same : n ≡ n + length {A = List ℕ} [] = omega arith in
    ap (λ (m : ℕ). slots_from m later) same
slots_with n (x ∷ slots) later =
    let same : (n + 1) + length slots ≡ n + length (x ∷ slots) = omega arith in
    ap (λ (t : List Piece). Slot n x ∷ t) (slots_with (n + 1) slots later ∙ ap (λ (m : ℕ). slots_from (n + 1) slots ++ slots_from m later) same)
