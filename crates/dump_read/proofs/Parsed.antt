-- Pieces are of one front.
use Rattle.std.proofs.Common.{◌≡◌, ℕ, Bool, true, false, List, [], ◌∷◌, ◌++◌, map, Option, Some, None, refl, sym, ap, ◌∙◌, append_assoc}
use Rattle.std.specs.List.{flat_map}
use Rattle.std.proofs.lemmas.List.{append-nil}
use Rattle.ckd_image.specs.declared.track.Track.{Track as Text}
use Rattle.dump_fmt.specs.declared.piece.DumpHead.{DumpHead}
use Rattle.dump_fmt.specs.declared.piece.Piece.{Piece}
use Rattle.dump_fmt.specs.declared.piece.Piece.TheVariants.{Part, Track}
use Rattle.dump_fmt.specs.Parts.{DumpPart, is_whole, part_pieces}
use Rattle.dump_fmt.specs.Front.{Front, IsOfKind, current_pieces, front_pieces}
use Rattle.dump_read.proofs.Shapes.{pieces_of_slots, pieces_of_parts}
use Rattle.dump_read.proofs.Stages.{end_piece, no_end, same_part, ended_so, part_apart, slots_from, slots_on_way}

-- ---- parts

same_texts : (texts others : List Text) → map Track texts ≡ map Track others → texts ≡ others
same_texts [] [] e = refl
same_texts [] (o ∷ others) e = absurd cc
same_texts (t ∷ texts) [] e = absurd cc
same_texts (t ∷ texts) (o ∷ others) e =
    let first : t ≡ o = cc in
    let behind : map Track texts ≡ map Track others = cc in
    let tail : texts ≡ others = same_texts texts others behind in
    cc

-- tracks alone aren't those of a part that ended
no_end_there : (texts others : List Text) (b : Bool) (x : List Piece) → ¬ (map Track texts ≡ map Track others ++ end_piece b ∷ x)
no_end_there [] [] b x e = cc
no_end_there [] (o ∷ others) b x e = cc
no_end_there (t ∷ texts) [] b x e = let first : Track t ≡ end_piece b = cc in no_end b t first
no_end_there (t ∷ texts) (o ∷ others) b x e = let behind : map Track texts ≡ map Track others ++ end_piece b ∷ x = cc in no_end_there texts others b x behind

-- and the part under way isn't one that ended
none_ended : (current : Option DumpPart) (part : DumpPart) (x : List Piece) → ¬ (current_pieces current ≡ part_pieces part ++ x)
none_ended None part x e =
    let all : [] ≡ Part part.f1 part.tracks part.kind ∷ (map Track part.texts ++ end_piece (is_whole part) ∷ x) = e ∙ ended_so part x in
    cc
none_ended (Some current) part x e =
    let all : Part current.f1 current.tracks current.kind ∷ map Track current.texts ≡ Part part.f1 part.tracks part.kind ∷ (map Track part.texts ++ end_piece (is_whole part) ∷ x) = e ∙ ended_so part x in
    let behind : map Track current.texts ≡ map Track part.texts ++ end_piece (is_whole part) ∷ x = cc in
    no_end_there current.texts part.texts (is_whole part) x behind

one_current : (current other : Option DumpPart) → current_pieces current ≡ current_pieces other → current ≡ other
one_current None None e = refl
one_current None (Some other) e = absurd cc
one_current (Some part) None e = absurd cc
one_current (Some part) (Some other) e =
    let all : Part part.f1 part.tracks part.kind ∷ map Track part.texts ≡ Part other.f1 other.tracks other.kind ∷ map Track other.texts = e in
    let f : part.f1 ≡ other.f1 = cc in
    let t : part.tracks ≡ other.tracks = cc in
    let k : part.kind ≡ other.kind = cc in
    let behind : map Track part.texts ≡ map Track other.texts = cc in
    ap Some (same_part part.f1 other.f1 part.tracks other.tracks part.kind other.kind part.texts other.texts f t k (same_texts part.texts other.texts behind))

parts_apart : (parts others : List DumpPart) (current other : Option DumpPart)
    → flat_map part_pieces parts ++ current_pieces current ≡ flat_map part_pieces others ++ current_pieces other → (parts ≡ others) × (current ≡ other)
parts_apart [] [] current other e = (refl, one_current current other e)
parts_apart [] (q ∷ others) current other e =
    let rest : List Piece = flat_map part_pieces others ++ current_pieces other in
    absurd (none_ended current q rest (e ∙ append_assoc (part_pieces q) (flat_map part_pieces others) (current_pieces other)))
parts_apart (p ∷ parts) [] current other e =
    let rest : List Piece = flat_map part_pieces parts ++ current_pieces current in
    absurd (none_ended other p rest (sym e ∙ append_assoc (part_pieces p) (flat_map part_pieces parts) (current_pieces current)))
parts_apart (p ∷ parts) (q ∷ others) current other e =
    let rest : List Piece = flat_map part_pieces parts ++ current_pieces current in
    let end : List Piece = flat_map part_pieces others ++ current_pieces other in
    let first = part_apart p q rest end
    (sym (append_assoc (part_pieces p) (flat_map part_pieces parts) (current_pieces current)) ∙ e ∙ append_assoc (part_pieces q) (flat_map part_pieces others) (current_pieces other)) in
    let inner = parts_apart parts others current other first.1 in
    let head : p ≡ q = first.0 in
    let tail : parts ≡ others = inner.0 in
    (cc, inner.1)

-- ---- slots

none_later : (n : ℕ) (later : List (List ℕ)) → [] ≡ slots_from n later → later ≡ []
none_later n [] e = refl
none_later n (slot ∷ later) e = absurd cc

one_slots : (slots others : List (List ℕ)) → slots_from 0 slots ≡ slots_from 0 others → slots ≡ others
one_slots slots others e =
    let way = slots_on_way 0 slots others [] (append-nil (slots_from 0 slots) ∙ e) in
    sym (way.1 ∙ ap (λ (t : List (List ℕ)). slots ++ t) (none_later _ way.0 way.2) ∙ append-nil slots)

-- ---- fronts

same_front : (parts others : List DumpPart) (current other : Option DumpPart) (slots more : List (List ℕ)) → parts ≡ others → current ≡ other → slots ≡ more
    → Path Front (record { parts = parts; current = current; slots = slots }) (record { parts = others; current = other; slots = more })
same_front parts others current other slots more p q r = λ i. record { parts = p i; current = q i; slots = r i }

pub one_of_kind : (full : Bool) (head : DumpHead) (front behind : Front) → IsOfKind full head front → IsOfKind full head behind → front_pieces front ≡ front_pieces behind → front ≡ behind
one_of_kind true head front behind is also e =
    let slots : slots_from 0 front.slots ≡ slots_from 0 behind.slots =
    sym (pieces_of_slots front is.no_parts is.no_current) ∙ e ∙ pieces_of_slots behind also.no_parts also.no_current in
    same_front front.parts behind.parts front.current behind.current front.slots behind.slots (is.no_parts ∙ sym also.no_parts) (is.no_current ∙ sym also.no_current)
    (one_slots front.slots behind.slots slots)
one_of_kind false head front behind is also e =
    let parts = parts_apart front.parts behind.parts front.current behind.current (sym (pieces_of_parts front is.no_slots) ∙ e ∙ pieces_of_parts behind also.no_slots) in
    same_front front.parts behind.parts front.current behind.current front.slots behind.slots parts.0 parts.1 (is.no_slots ∙ sym also.no_slots)
