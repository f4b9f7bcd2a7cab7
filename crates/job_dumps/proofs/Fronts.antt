-- What may stand in a logical dump once a piece more does.
use Rattle.std.proofs.Common.{◌≡◌, ℕ, ◌+◌, ◌<◌, ◌≤◌, Bool, true, false, if◌then◌else◌, IsTrue, List, [], ◌∷◌, ◌++◌, length, filter, sum_by, All, Some, None, get_or, refl, sym, ap, subst, ◌∙◌, arith, length-append}
use Rattle.std.specs.List.{AllByRecursion, AllPairs}
use Rattle.std.proofs.lemmas.List.{append-nil, get_or_append_left, get_or-append-add}
use Rattle.std.proofs.lemmas.List.Elements.{All-contains, All-push, All-from_recursion, recursion_from_All, filter-append}
use Rattle.std.proofs.lemmas.List.Quantifiers.{all_pairs_push}
use Rattle.std.proofs.lemmas.List.Sums.{sum_by-append}
use Rattle.ckd_image.specs.declared.track.Track.{Track}
use Rattle.dump_fmt.specs.declared.piece.DumpHead.{DumpHead}
use Rattle.dump_fmt.specs.Parts.{DumpPart, IsPart, StandsOn, is_whole, name_before}
use Rattle.dump_fmt.specs.Front.{Front, IsFront, IsLogical, IsOfKind, largest_count, whole_tracks, with_text}
use Rattle.job_dumps.specs.Putting.{holding}

abbrev Precedes : DumpPart → DumpPart → Type 0
Precedes a b = IsTrue (name_before a b)

logical_of : (head : DumpHead) (front : Front) → head.full ≡ false → IsFront head front → IsLogical head front
logical_of head front not is = subst (λ (full : Bool). IsOfKind full head front) not is.behind

front_of : (head : DumpHead) (front : Front) → head.full ≡ false → (before : Front) → IsFront head before → IsLogical head front → whole_tracks front ≤ largest_count → IsFront head front
front_of head front not before is logical few =
    record { header = is.header; behind = subst (λ (full : Bool). IsOfKind full head front) (sym not) logical; few_tracks = few }

-- ---- lists and their last element

front_by : {X : Type 0} (P : X → Type 0) (xs ys : List X) → AllByRecursion P (xs ++ ys) → AllByRecursion P xs
front_by P [] ys is = tt
front_by P (x ∷ xs) ys is = (is.0, front_by P xs ys is.1)

front_all : {X : Type 0} (P : X → Type 0) (xs ys : List X) → All P (xs ++ ys) → All P xs
front_all P xs ys holds = All-from_recursion P xs (front_by P xs ys (recursion_from_All P (xs ++ ys) holds))

-- what holds of each two holds of each two of a front
pub front_pairs : {X : Type 0} (R : X → X → Type 0) (xs ys : List X) → AllPairs R (xs ++ ys) → AllPairs R xs
front_pairs {X} R xs ys both = λ i j d before within.
    let long = length-append xs ys in
    let here = both i j d before (omega (arith, within, long)) in
    let first = get_or_append_left xs ys d i (omega (arith, before, within)) in
    let second = get_or_append_left xs ys d j within in
    subst (λ (x : X). R x (get_or xs j d)) first (subst (λ (y : X). R (get_or (xs ++ ys) i d) y) second here)

-- the last one is behind each of the others
pub last_pair : {X : Type 0} (R : X → X → Type 0) (xs : List X) (x : X) → AllPairs R (xs ++ x ∷ []) → (k : ℕ) (d : X) → k < length xs → R (get_or xs k d) x
last_pair {X} R xs x is k d within =
    let long = length-append xs (x ∷ []) in
    let here = is k (length xs + 0) d (omega (arith, within)) (omega (arith, long)) in
    subst (λ (y : X). R y x) (get_or_append_left xs (x ∷ []) d k within)
    (subst (λ (y : X). R (get_or (xs ++ x ∷ []) k d) y) (get_or-append-add xs (x ∷ []) 0 d) here)

last_all : {X : Type 0} (P : X → Type 0) (xs : List X) (x : X) → All P (xs ++ x ∷ []) → P x
last_all {X = X} P xs x holds = All-contains P (xs ++ x ∷ []) x holds (length xs, omega (arith, length-append xs (x ∷ [])), last_at xs x)
  where
    last_at : (ys : List X) (y : X) → get_or (ys ++ y ∷ []) (length ys) y ≡ y
    last_at [] y = refl
    last_at (z ∷ ys) y = last_at ys y

-- ---- a part begins

pub front_begun : (head : DumpHead) (parts : List DumpPart) (part : DumpPart) → head.full ≡ false → IsFront head (holding parts None) → IsPart head.device part → All (λ other. Precedes other part) parts
    → length parts < largest_count → IsFront head (holding parts (Some part))
front_begun head parts part not is sound earlier few =
    let was = logical_of head (holding parts None) not is in
    let here : parts ++ [] ≡ parts = append-nil parts in
    front_of head (holding parts (Some part)) not (holding parts None) is (record {
      no_slots = refl;
      parts = All-push (IsPart head.device) parts part (subst (All (IsPart head.device)) here was.parts) sound;
      order = all_pairs_push Precedes parts part (subst (AllPairs Precedes) here was.order) (λ k d within. earlier k d within);
      few = omega (arith, few, length-append parts (part ∷ []));
    }) is.few_tracks

-- ---- it goes on

-- another part of the same name may stand in the place of the last one
last_as : (head : DumpHead) (parts : List DumpPart) (old new : DumpPart) → head.full ≡ false → IsFront head (holding parts (Some old)) → new.f1 ≡ old.f1 → IsPart head.device new
    → IsFront head (holding parts (Some new))
last_as head parts old new not is name sound =
    let was = logical_of head (holding parts (Some old)) not is in
    front_of head (holding parts (Some new)) not (holding parts (Some old)) is (record {
      no_slots = refl;
      parts = All-push (IsPart head.device) parts new (front_all (IsPart head.device) parts (old ∷ []) was.parts) sound;
      order = all_pairs_push Precedes parts new (front_pairs Precedes parts (old ∷ []) was.order) (λ k d within. by (get_or parts k d) (last_pair Precedes parts old was.order k d within));
      few = omega (arith, was.few, length-append parts (old ∷ []), length-append parts (new ∷ []));
    }) is.few_tracks
  where
    by : (other : DumpPart) → Precedes other old → Precedes other new
    by other before = subst (λ (f1 : List ℕ). IsTrue (name_before other (record { f1 = f1; tracks = old.tracks; kind = old.kind; texts = old.texts }))) (sym name) before

current_part : (head : DumpHead) (parts : List DumpPart) (part : DumpPart) → head.full ≡ false → IsFront head (holding parts (Some part)) → IsPart head.device part
current_part head parts part not is = last_all (IsPart head.device) parts part (logical_of head (holding parts (Some part)) not is).parts

pub front_more : (head : DumpHead) (parts : List DumpPart) (part : DumpPart) (text : Track) → head.full ≡ false → IsFront head (holding parts (Some part)) → StandsOn head.device text
    → length part.texts < part.tracks → IsFront head (holding parts (Some (with_text part text)))
front_more head parts part text not is stands room =
    let was = current_part head parts part not is in
    last_as head parts part (with_text part text) not is refl (record {
      placeless = was.placeless;
      few = was.few;
      kind = was.kind;
      texts = All-push (StandsOn head.device) part.texts text was.texts stands;
      within = omega (arith, room, length-append part.texts (text ∷ []));
    })

-- ---- it ends

-- a part more counts no more tracks than it has
pub tracks_more : (parts : List DumpPart) (part : DumpPart) → whole_tracks (holding (parts ++ part ∷ []) None) ≤ whole_tracks (holding parts None) + part.tracks
tracks_more parts part =
    let same = filter-append is_whole parts (part ∷ []) in
    let sum = ap (sum_by (λ (p : DumpPart). p.tracks)) same ∙ sum_by-append (λ (p : DumpPart). p.tracks) (filter is_whole parts) (filter is_whole (part ∷ [])) in
    omega (arith, sum, one (is_whole part))
  where
    one : (whole : Bool) → sum_by (λ (p : DumpPart). p.tracks) (if whole then part ∷ [] else []) ≤ part.tracks
    one true = omega arith
    one false = omega arith

pub front_ended : (head : DumpHead) (parts : List DumpPart) (part : DumpPart) → head.full ≡ false → IsFront head (holding parts (Some part))
    → whole_tracks (holding parts None) + part.tracks ≤ largest_count → IsFront head (holding (parts ++ part ∷ []) None)
front_ended head parts part not is few =
    let was = logical_of head (holding parts (Some part)) not is in
    let here : parts ++ part ∷ [] ≡ (parts ++ part ∷ []) ++ [] = sym (append-nil (parts ++ part ∷ [])) in
    front_of head (holding (parts ++ part ∷ []) None) not (holding parts (Some part)) is (record {
      no_slots = refl;
      parts = subst (All (IsPart head.device)) here was.parts;
      order = subst (AllPairs Precedes) here was.order;
      few = omega (arith, was.few, ap length here);
    }) (omega (arith, few, tracks_more parts part))
