-- What is going goes on: a part begins, has a track more or ends, or a slot more stands there.
use Rattle.std.proofs.Common.{◌≡◌, inl, inr, ◌≤◌, Bool, true, false, List, [], ◌∷◌, ◌++◌, length, All, Option, Some, option_to_list, IfSome, IsTrue, refl, sym, subst, ◌∙◌, arith}
use Rattle.std.specs.List.{AllPairs}
use Rattle.std.proofs.lemmas.Bool.{eqb-true}
use Rattle.std.proofs.lemmas.Option.{none-some}
use Rattle.std.proofs.lemmas.List.Elements.{All-head, All-tail}
use Rattle.dump_fmt.specs.declared.piece.DumpHead.{DumpHead}
use Rattle.dump_fmt.specs.Parts.{DumpPart, IsPart, is_whole, name_before}
use Rattle.dump_fmt.specs.Front.{Front, all_parts, whole_tracks, largest_count, IsLogical, with_part}
use Rattle.dump_fmt.proofs.Fronts.{push_not_empty}
use Rattle.dump_read.specs.Shape.{IsOfShape, AreSlots, IsShapeFront, IsGoing, MayEndPart, HasByteName}
use Rattle.dump_read.proofs.Counts.{tracks_push, tracks_short, all_ended}

-- ---- a part under way is one of a logical dump

pub not_full : (full : Bool) (head : DumpHead) (front : Front) (part : DumpPart) → front.current ≡ Some part → IsOfShape full head front → full ≡ false
not_full true head front part at is = absurd (none-some part (sym is.no_current ∙ at))
not_full false head front part at is = refl

not_full_by : (full : Bool) (head : DumpHead) (front : Front) (part : DumpPart) → IsOfShape full head (with_part front part) → full ≡ false
not_full_by true head front part is = absurd (push_not_empty front.parts part is.no_parts)
not_full_by false head front part is = refl

-- so is one that ended
pub not_full_ended : (head : DumpHead) (front : Front) (part : DumpPart) → IsShapeFront head (with_part front part) → head.full ≡ false
not_full_ended head front part is = not_full_by head.full head front part is.behind

pub logical_by : (full : Bool) (head : DumpHead) (front : Front) → full ≡ false → IsOfShape full head front → IsLogical head front
logical_by full head front not is = subst (λ (b : Bool). IsOfShape b head front) not is

pub of_logical : (full : Bool) (head : DumpHead) (front : Front) → full ≡ false → IsLogical head front → IsOfShape full head front
of_logical full head front not is = subst (λ (b : Bool). IsOfShape b head front) (sym not) is

pub slots_by : (full : Bool) (head : DumpHead) (front : Front) → full ≡ true → IsOfShape full head front → AreSlots head front
slots_by full head front full-is is = subst (λ (b : Bool). IsOfShape b head front) full-is is

pub of_slots : (full : Bool) (head : DumpHead) (front : Front) → full ≡ true → AreSlots head front → IsOfShape full head front
of_slots full head front full-is is = subst (λ (b : Bool). IsOfShape b head front) (sym full-is) is

pub logical : (head : DumpHead) (front : Front) (part : DumpPart) → IsShapeFront head front → front.current ≡ Some part → IsLogical head front
logical head front part is at = logical_by head.full head front (not_full head.full head front part at is.behind) is.behind

pub can_end : (front : Front) (part : DumpPart) (current : Option DumpPart) → current ≡ Some part → IfSome current (MayEndPart front) → MayEndPart front part
can_end front part current at may = subst (λ (o : Option DumpPart). IfSome o (MayEndPart front)) at may

-- the last part is one
pub last_is : {X : Type 0} (P : X → Type 0) (xs : List X) (x : X) → All P (xs ++ x ∷ []) → P x
last_is P [] x is = All-head P x [] is
last_is P (y ∷ xs) x is = last_is P xs x (All-tail P y (xs ++ x ∷ []) is)

-- ---- a part ends

ended_tracks : (front : Front) (part : DumpPart) → length part.texts ≤ part.tracks → whole_tracks front ≤ largest_count → MayEndPart front part → whole_tracks (with_part front part) ≤ largest_count
ended_tracks front part within few may = by (is_whole part) refl may
  where
    by : (b : Bool) → is_whole part ≡ b → MayEndPart front part → whole_tracks (with_part front part) ≤ largest_count
    by false is may = omega (arith, few, tracks_short front.parts part is)
    by true is (inl short) = absurd (omega (arith, short, eqb-true (length part.texts) part.tracks is))
    by true is (inr fits) = omega (arith, fits, tracks_push front.parts part is)

pub ended : (head : DumpHead) (front : Front) (part : DumpPart) → front.current ≡ Some part → IsGoing head front → IsGoing head (with_part front part)
ended head front part at going =
    let is = going.is_front in
    let here = logical head front part is at in
    let same : all_parts (with_part front part) ≡ all_parts front = all_ended front part at in
    let one : IsPart head.device part = last_is (IsPart head.device) front.parts part (subst (λ (o : Option DumpPart). All (IsPart head.device) (front.parts ++ option_to_list o)) at here.parts) in
    let not : head.full ≡ false = not_full head.full head front part at is.behind in
    record {
      is_front = record {
        header = is.header;
        behind = of_logical head.full head (with_part front part) not (record {
          no_slots = here.no_slots;
          parts = subst (All (IsPart head.device)) (sym same) here.parts;
          order = subst (AllPairs (λ a b. IsTrue (name_before a b))) (sym same) here.order;
          few = subst (λ (l : List DumpPart). length l ≤ largest_count) (sym same) here.few;
        });
        few_tracks = ended_tracks front part one.within is.few_tracks (can_end front part front.current at going.current);
        names = subst (All HasByteName) (sym same) is.names;
      };
      current = tt;
    }
