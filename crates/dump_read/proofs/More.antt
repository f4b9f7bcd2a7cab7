-- A piece more stands behind what is going, and that is going too.
use Rattle.std.proofs.Common.{◌≡◌, ◌⊎◌, inl, inr, ℕ, ◌+◌, ◌≤◌, ◌<◌, true, false, List, [], ◌∷◌, ◌++◌, length, take, drop, replicate, All, Option, Some, None, IfSome, refl, sym, ap, subst, ◌∙◌, arith, length-append, append_assoc}
use Rattle.std.specs.Prelude.{slice_index}
use Rattle.std.specs.List.{AllPairs}
use Rattle.std.proofs.lemmas.List.{drop-append-le, drop_all, get_or-append-add}
use Rattle.std.proofs.lemmas.List.Elements.{All-push, All-nil}
use Rattle.std.proofs.lemmas.List.Quantifiers.{all_pairs_push}
use Rattle.ckd_image.specs.declared.device.Device.{Device}
use Rattle.ckd_image.specs.declared.device.Device.TheVariants.{D3390, D3380, D3350}
use Rattle.ckd_image.specs.declared.track.Track.{Track as Text}
use Rattle.ckd_image.specs.Track.{IsTrack, IsRecord}
use Rattle.dump_fmt.specs.declared.piece.DumpHead.{DumpHead}
use Rattle.dump_fmt.specs.Parts.{DumpPart, StandsOn, IsPlaceless, IsPart}
use Rattle.dump_fmt.specs.Front.{Front, all_parts, whole_tracks, largest_count, IsCutSlot, begun, with_text, with_current, with_slot}
use Rattle.dump_read.specs.PartText.{IsNextName, IsBehind}
use Rattle.dump_read.specs.Shape.{IsGoing, MayEndPart, HasByteName}
use Rattle.dump_read.specs.Standing.{last_name}
use Rattle.dump_read.proofs.Counts.{tracks_in, all_none, all_some, front_all, front_pairs}
use Rattle.dump_read.proofs.Going.{not_full, logical, logical_by, of_logical, slots_by, of_slots, last_is}
use Rattle.dump_read.proofs.PartChain.{take_length}
use Rattle.dump_read.proofs.OnWay.{Precedes, last_pair}
use Rattle.dump_read.proofs.Ordered.{behind_each}
use Rattle.dump_read.proofs.Shapes.{empty_slot}

-- ---- a track more

abbrev pub empty_text : Text
empty_text = record { flag = 0; r0 = replicate 8 0; recs = [] }

empty_sound : IsTrack empty_text
empty_sound = record { zero = refl; records = All-nil IsRecord }

pub empty_stands : (device : Device) → StandsOn device empty_text
empty_stands D3390 = record { sound = empty_sound; short = λ at. omega arith }
empty_stands D3380 = record { sound = empty_sound; short = λ at. omega arith }
empty_stands D3350 = record { sound = empty_sound; short = λ at. omega arith }

part_with_text : (device : Device) (part : DumpPart) (text : Text) → IsPart device part → StandsOn device text → length part.texts < part.tracks → IsPart device (with_text part text)
part_with_text device part text is stands less = record {
  placeless = is.placeless;
  few = is.few;
  kind = is.kind;
  texts = All-push (StandsOn device) part.texts text is.texts stands;
  within = omega (arith, less, length-append part.texts (text ∷ []));
}

pub text_more : (head : DumpHead) (front : Front) (part : DumpPart) (text : Text) → front.current ≡ Some part → IsGoing head front → StandsOn head.device text → length part.texts < part.tracks
    → (length part.texts + 1 < part.tracks) ⊎ (whole_tracks front + part.tracks ≤ largest_count) → IsGoing head (with_current front (Some (with_text part text)))
text_more head front part text at going stands less may =
    let is = going.is_front in
    let here = logical head front part is at in
    let next : DumpPart = with_text part text in
    let all : all_parts front ≡ front.parts ++ part ∷ [] = all_some front part at in
    let parts : All (IsPart head.device) (front.parts ++ part ∷ []) = subst (All (IsPart head.device)) all here.parts in
    let names : All HasByteName (front.parts ++ part ∷ []) = subst (All HasByteName) all is.names in
    let order : AllPairs Precedes (front.parts ++ part ∷ []) = subst (AllPairs Precedes) all here.order in
    let long : length (part.texts ++ text ∷ []) ≡ length part.texts + 1 = length-append part.texts (text ∷ []) in
    record {
      is_front = record {
        header = is.header;
        behind = of_logical head.full head (with_current front (Some next)) (not_full head.full head front part at is.behind) (record {
          no_slots = here.no_slots;
          parts = All-push (IsPart head.device) front.parts next (front_all (IsPart head.device) (front.parts ++ part ∷ []) front.parts (part ∷ []) refl parts)
              (part_with_text head.device part text (last_is (IsPart head.device) front.parts part parts) stands less);
          order = all_pairs_push Precedes front.parts next (front_pairs Precedes (front.parts ++ part ∷ []) front.parts (part ∷ []) refl order) (last_pair Precedes front.parts part order);
          few = omega (arith, here.few, ap length all, length-append front.parts (part ∷ []), length-append front.parts (next ∷ []));
        });
        few_tracks = is.few_tracks;
        names = All-push HasByteName front.parts next (front_all HasByteName (front.parts ++ part ∷ []) front.parts (part ∷ []) refl names) (last_is HasByteName front.parts part names);
      };
      current = elim may [
        | inl lacks ↦ inl (omega (arith, lacks, long))
        | inr fits ↦ inr fits
      ];
    }

-- ---- a part more

abbrev pub named_f1 : List ℕ → List ℕ
named_f1 name = (name ++ (0xF1 ∷ replicate 60 0)) ++ replicate 35 0

module _ (name : List ℕ) (long : length name ≡ 44) where
  unfolded : named_f1 name ≡ name ++ ((0xF1 ∷ replicate 60 0) ++ replicate 35 0)
  unfolded = append_assoc name (0xF1 ∷ replicate 60 0) (replicate 35 0)

  byte_of_f1 : (k : ℕ) → slice_index (named_f1 name) (44 + k) ≡ slice_index ((0xF1 ∷ replicate 60 0) ++ replicate 35 0) k
  byte_of_f1 k =
      ap (λ (l : List ℕ). slice_index l (44 + k)) unfolded
      ∙ ap (λ (n : ℕ). slice_index (name ++ ((0xF1 ∷ replicate 60 0) ++ replicate 35 0)) (n + k)) (sym long)
      ∙ get_or-append-add name ((0xF1 ∷ replicate 60 0) ++ replicate 35 0) k 0

  extents : drop 105 (named_f1 name) ≡ replicate 35 0
  extents =
      let first : List ℕ = name ++ (0xF1 ∷ replicate 60 0) in
      let front : length first ≡ 105 = length-append name (0xF1 ∷ replicate 60 0) ∙ ap (λ (n : ℕ). n + 61) long in
      drop-append-le 105 first (replicate 35 0) (omega (arith, front)) ∙ ap (λ (l : List ℕ). l ++ replicate 35 0) (drop_all 105 first (omega (arith, front)))

  pub f1_placeless : IsPlaceless (named_f1 name)
  f1_placeless = record {
    long = ap length unfolded ∙ length-append name ((0xF1 ∷ replicate 60 0) ++ replicate 35 0) ∙ ap (λ (n : ℕ). n + 96) long;
    format = byte_of_f1 0;
    no_count = byte_of_f1 15;
    no_extents = extents;
  }

  pub f1_name : take 44 (named_f1 name) ≡ name
  f1_name = ap (take 44) unfolded ∙ take_length name ((0xF1 ∷ replicate 60 0) ++ replicate 35 0) 44 long

pub part_more : (head : DumpHead) (front : Front) (name : List ℕ) → front.current ≡ None → head.full ≡ false → IsGoing head front → length front.parts < largest_count → IsNextName (last_name front.parts) name
    → IsGoing head (with_current front (Some (begun (named_f1 name) 0 0x01)))
part_more head front name at not going few next =
    let is = going.is_front in
    let here = logical_by head.full head front not is.behind in
    let part : DumpPart = begun (named_f1 name) 0 0x01 in
    let all : all_parts front ≡ front.parts = all_none front at in
    let named : take 44 (named_f1 name) ≡ name = f1_name name next.long in
    let order : AllPairs Precedes front.parts = subst (AllPairs Precedes) all here.order in
    let one : IsPart head.device part = record { placeless = f1_placeless name next.long; few = omega arith; kind = inl refl; texts = All-nil (StandsOn head.device); within = omega arith } in
    record {
      is_front = record {
        header = is.header;
        behind = of_logical head.full head (with_current front (Some part)) not (record {
          no_slots = here.no_slots;
          parts = All-push (IsPart head.device) front.parts part (subst (All (IsPart head.device)) all here.parts) one;
          order = all_pairs_push Precedes front.parts part order (behind_each front.parts (take 44 (named_f1 name)) order (subst (IsBehind (last_name front.parts)) (sym named) next.order));
          few = omega (arith, few, length-append front.parts (part ∷ []));
        });
        few_tracks = is.few_tracks;
        names = All-push HasByteName front.parts part (subst (All HasByteName) all is.names) (subst (All (λ b. b ≤ 255)) (sym named) next.bytes);
      };
      current = inr (omega (arith, is.few_tracks));
    }

-- ---- a slot more

pub slot_more : (head : DumpHead) (front : Front) → head.full ≡ true → IsGoing head front → length front.slots < head.tracks → IsGoing head (with_slot front [])
slot_more head front full going less =
    let is = going.is_front in
    let here = slots_by head.full head front full is.behind in
    let long : length (front.slots ++ [] ∷ []) ≡ length front.slots + 1 = length-append front.slots ([] ∷ []) in
    record {
      is_front = record {
        header = is.header;
        behind = of_slots head.full head (with_slot front []) full (record {
          no_parts = here.no_parts;
          no_current = here.no_current;
          slots = All-push (IsCutSlot head.device) front.slots [] here.slots (empty_slot head.device);
          few = omega (arith, less, long);
        });
        few_tracks = omega (arith, less, long, ap tracks_in here.no_parts, is.header.tracks.1);
        names = is.names;
      };
      current = subst (λ (o : Option DumpPart). IfSome o (MayEndPart (with_slot front []))) (sym here.no_current) tt;
    }
