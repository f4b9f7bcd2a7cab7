-- What stands before more of a shape can go on.
use Rattle.std.proofs.Common.{◌≡◌, inl, inr, ℕ, ◌+◌, ◌≤◌, ◌<◌, Bool, true, false, List, [], ◌∷◌, ◌++◌, length, All, Option, Some, None, IfSome, IsTrue, refl, sym, ap, subst, ◌∙◌, arith, length-append, append_assoc}
use Rattle.std.specs.Prelude.{slice_index_or}
use Rattle.std.specs.List.{AllPairs}
use Rattle.std.proofs.lemmas.Bool.{eqb-false}
use Rattle.std.proofs.lemmas.List.{get_or_append_left, get_or-append-add}
use Rattle.std.proofs.lemmas.List.Elements.{All-push, All-nil}
use Rattle.std.proofs.lemmas.List.Quantifiers.{all_pairs_push}
use Rattle.ckd_image.specs.declared.track.Track.{Track as Text}
use Rattle.dump_fmt.specs.declared.piece.DumpHead.{DumpHead}
use Rattle.dump_fmt.specs.Parts.{DumpPart, StandsOn, IsPart, is_whole, name_before}
use Rattle.dump_fmt.specs.Front.{Front, all_parts, largest_count, IsLogical, IsCutSlot}
use Rattle.dump_read.specs.Shape.{AreSlots, IsShapeFront, IsGoing, MayEndPart, HasByteName}
use Rattle.dump_read.proofs.Counts.{tracks_in, tracks_push, tracks_before, all_none, all_some, front_all, front_pairs}
use Rattle.dump_read.proofs.Going.{of_logical, of_slots, last_is}
use Rattle.dump_read.proofs.Stages.{with_texts}

abbrev pub Precedes : DumpPart → DumpPart → Type 0
Precedes a b = IsTrue (name_before a b)

-- the last pair
pub last_pair : {X : Type 0} (R : X → X → Type 0) (xs : List X) (x : X) → AllPairs R (xs ++ x ∷ []) → (k : ℕ) (d : X) → k < length xs → R (slice_index_or xs k d) x
last_pair {X} R xs x is k d within =
    let long = length-append xs (x ∷ []) in
    let here = is k (length xs + 0) d (omega (arith, within)) (omega (arith, long)) in
    subst (λ (y : X). R y x) (get_or_append_left xs (x ∷ []) d k within)
    (subst (λ (y : X). R (slice_index_or (xs ++ x ∷ []) k d) y) (get_or-append-add xs (x ∷ []) 0 d) here)

-- a part before its end is one where all of it is
part_before : (head : DumpHead) (part : DumpPart) (texts : List Text) → IsPart head.device (with_texts part texts) → IsPart head.device part
part_before head part texts is = record {
  placeless = is.placeless;
  few = is.few;
  kind = is.kind;
  texts = front_all (StandsOn head.device) (part.texts ++ texts) part.texts texts refl is.texts;
  within = omega (arith, is.within, length-append part.texts texts);
}

may_end_before : (front : Front) (part : DumpPart) (texts : List Text) (all later : List DumpPart) → all ≡ (front.parts ++ with_texts part texts ∷ []) ++ later → length (part.texts ++ texts) ≤ part.tracks
    → tracks_in all + length front.slots ≤ largest_count → MayEndPart front part
may_end_before front part texts all later is within few = by (is_whole (with_texts part texts)) refl
  where
    by : (b : Bool) → is_whole (with_texts part texts) ≡ b → MayEndPart front part
    by true whole = inr (omega (arith, few, ap tracks_in is, tracks_before (front.parts ++ with_texts part texts ∷ []) later, tracks_push front.parts (with_texts part texts) whole))
    by false short = inl (omega (arith, within, length-append part.texts texts, eqb-false (length (part.texts ++ texts)) part.tracks short))

-- ---- logical dumps

module _ (head : DumpHead) (front last : Front) (not : head.full ≡ false) (is : IsShapeFront head last) (whole : IsLogical head last) (ended : last.current ≡ None) (none : front.slots ≡ []) where
  few_before : (later : List DumpPart) → last.parts ≡ front.parts ++ later → tracks_in front.parts + length front.slots ≤ largest_count
  few_before later all = omega (arith, is.few_tracks, ap tracks_in all, tracks_before front.parts later, ap length none)

  -- between two parts
  pub between : (later : List DumpPart) → last.parts ≡ front.parts ++ later → front.current ≡ None → IsGoing head front
  between later all at =
      let here : all_parts front ≡ front.parts = all_none front at in
      let whole_is : all_parts last ≡ front.parts ++ later = all_none last ended ∙ all in
      let long : length (all_parts last) ≡ length front.parts + length later = ap length whole_is ∙ length-append front.parts later in
      let few = whole.few in
      record {
        is_front = record {
          header = is.header;
          behind = of_logical head.full head front not (record {
            no_slots = none;
            parts = subst (All (IsPart head.device)) (sym here) (front_all (IsPart head.device) (all_parts last) front.parts later whole_is whole.parts);
            order = subst (AllPairs Precedes) (sym here) (front_pairs Precedes (all_parts last) front.parts later whole_is whole.order);
            few = subst (λ (l : List DumpPart). length l ≤ largest_count) (sym here) (omega (arith, few, long));
          });
          few_tracks = few_before later all;
          names = subst (All HasByteName) (sym here) (front_all HasByteName (all_parts last) front.parts later whole_is is.names);
        };
        current = subst (λ (o : Option DumpPart). IfSome o (MayEndPart front)) (sym at) tt;
      }

  -- within a part
  pub within : (part : DumpPart) (texts : List Text) (later : List DumpPart) → last.parts ≡ front.parts ++ with_texts part texts ∷ later → front.current ≡ Some part → IsGoing head front
  within part texts later all at =
      let next : DumpPart = with_texts part texts in
      let here : all_parts front ≡ front.parts ++ part ∷ [] = all_some front part at in
      let split : front.parts ++ next ∷ later ≡ (front.parts ++ next ∷ []) ++ later = sym (append_assoc front.parts (next ∷ []) later) in
      let whole_is : all_parts last ≡ (front.parts ++ next ∷ []) ++ later = all_none last ended ∙ all ∙ split in
      let parts = front_all (IsPart head.device) (all_parts last) (front.parts ++ next ∷ []) later whole_is whole.parts in
      let names = front_all HasByteName (all_parts last) (front.parts ++ next ∷ []) later whole_is is.names in
      let order = front_pairs Precedes (all_parts last) (front.parts ++ next ∷ []) later whole_is whole.order in
      let one : IsPart head.device next = last_is (IsPart head.device) front.parts next parts in
      let before : All (IsPart head.device) front.parts = front_all (IsPart head.device) (front.parts ++ next ∷ []) front.parts (next ∷ []) refl parts in
      let named : All HasByteName front.parts = front_all HasByteName (front.parts ++ next ∷ []) front.parts (next ∷ []) refl names in
      let ordered : AllPairs Precedes front.parts = front_pairs Precedes (front.parts ++ next ∷ []) front.parts (next ∷ []) refl order in
      let long : length (all_parts last) ≡ length front.parts + 1 + length later =
      ap length whole_is ∙ length-append (front.parts ++ next ∷ []) later ∙ ap (λ (n : ℕ). n + length later) (length-append front.parts (next ∷ [])) in
      let few = whole.few in
      record {
        is_front = record {
          header = is.header;
          behind = of_logical head.full head front not (record {
            no_slots = none;
            parts = subst (All (IsPart head.device)) (sym here) (All-push (IsPart head.device) front.parts part before (part_before head part texts one));
            order = subst (AllPairs Precedes) (sym here) (all_pairs_push Precedes front.parts part ordered (last_pair Precedes front.parts next order));
            few = subst (λ (l : List DumpPart). length l ≤ largest_count) (sym here) (omega (arith, few, long, length-append front.parts (part ∷ [])));
          });
          few_tracks = few_before (next ∷ later) all;
          names = subst (All HasByteName) (sym here) (All-push HasByteName front.parts part named (last_is HasByteName front.parts next names));
        };
        current = subst (λ (o : Option DumpPart). IfSome o (MayEndPart front)) (sym at)
            (may_end_before front part texts last.parts later (all ∙ split) one.within (omega (arith, is.few_tracks, ap length none)));
      }

-- ---- full dumps

pub slots_before : (head : DumpHead) (front last : Front) (later : List (List ℕ)) → head.full ≡ true → IsShapeFront head last → AreSlots head last → front.parts ≡ [] → front.current ≡ None
    → last.slots ≡ front.slots ++ later → IsGoing head front
slots_before head front last later full is whole no_parts no_current all =
    let here : all_parts front ≡ [] = all_none front no_current ∙ no_parts in
    let long : length last.slots ≡ length front.slots + length later = ap length all ∙ length-append front.slots later in
    let few = whole.few in
    record {
      is_front = record {
        header = is.header;
        behind = of_slots head.full head front full (record {
          no_parts = no_parts;
          no_current = no_current;
          slots = front_all (IsCutSlot head.device) last.slots front.slots later all whole.slots;
          few = omega (arith, few, long);
        });
        few_tracks = omega (arith, is.few_tracks, long, ap tracks_in no_parts);
        names = subst (All HasByteName) (sym here) (All-nil HasByteName);
      };
      current = subst (λ (o : Option DumpPart). IfSome o (MayEndPart front)) (sym no_current) tt;
    }
