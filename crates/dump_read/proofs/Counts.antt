-- What of a front counts: its whole parts and their tracks, and all parts with the one under way.
use Rattle.std.proofs.Common.{◌≡◌, ℕ, ◌+◌, ◌≤◌, Bool, true, false, cond, List, [], ◌∷◌, ◌++◌, length, filter, All, Option, Some, None, option_to_list, sym, ap, subst, ◌∙◌, arith, length-append}
use Rattle.std.specs.Prelude.{sum_by, slice_index_or}
use Rattle.std.specs.List.{AllByRecursion, AllPairs}
use Rattle.std.proofs.lemmas.List.{append-nil, get_or_append_left}
use Rattle.std.proofs.lemmas.List.Elements.{recursion_from_All, All-from_recursion, filter-append}
use Rattle.std.proofs.lemmas.List.Sums.{sum_by-append, sum_by_push}
use Rattle.dump_fmt.specs.Parts.{DumpPart, is_whole}
use Rattle.dump_fmt.specs.Front.{Front, all_parts, with_part}

abbrev pub tracks_in : List DumpPart → ℕ
tracks_in parts = sum_by (λ (part : DumpPart). part.tracks) (filter is_whole parts)

abbrev pub parts_in : List DumpPart → ℕ
parts_in parts = length (filter is_whole parts)

-- ---- one part more

pub whole_push : (parts : List DumpPart) (part : DumpPart) → is_whole part ≡ true → filter is_whole (parts ++ part ∷ []) ≡ filter is_whole parts ++ part ∷ []
whole_push parts part is = filter-append is_whole parts (part ∷ []) ∙ ap (λ (b : Bool). filter is_whole parts ++ cond b (part ∷ []) []) is

pub short_push : (parts : List DumpPart) (part : DumpPart) → is_whole part ≡ false → filter is_whole (parts ++ part ∷ []) ≡ filter is_whole parts
short_push parts part is =
    filter-append is_whole parts (part ∷ []) ∙ ap (λ (b : Bool). filter is_whole parts ++ cond b (part ∷ []) []) is ∙ append-nil (filter is_whole parts)

pub parts_push : (parts : List DumpPart) (part : DumpPart) → is_whole part ≡ true → parts_in (parts ++ part ∷ []) ≡ parts_in parts + 1
parts_push parts part is = ap length (whole_push parts part is) ∙ length-append (filter is_whole parts) (part ∷ [])

pub tracks_push : (parts : List DumpPart) (part : DumpPart) → is_whole part ≡ true → tracks_in (parts ++ part ∷ []) ≡ tracks_in parts + part.tracks
tracks_push parts part is =
    ap (sum_by (λ (p : DumpPart). p.tracks)) (whole_push parts part is) ∙ sum_by_push (λ (p : DumpPart). p.tracks) (filter is_whole parts) part

pub tracks_short : (parts : List DumpPart) (part : DumpPart) → is_whole part ≡ false → tracks_in (parts ++ part ∷ []) ≡ tracks_in parts
tracks_short parts part is = ap (sum_by (λ (p : DumpPart). p.tracks)) (short_push parts part is)

-- what counts of some parts counts of these and more
pub tracks_before : (parts later : List DumpPart) → tracks_in parts ≤ tracks_in (parts ++ later)
tracks_before parts later =
    omega (arith, ap (sum_by (λ (p : DumpPart). p.tracks)) (filter-append is_whole parts later) ∙ sum_by-append (λ (p : DumpPart). p.tracks) (filter is_whole parts) (filter is_whole later))

-- no more parts are whole than there are
pub whole_few : (parts : List DumpPart) → parts_in parts ≤ length parts
whole_few [] = omega arith
whole_few (part ∷ parts) = by (whole_few parts) (is_whole part)
  where
    by : parts_in parts ≤ length parts → (b : Bool) → length (cond b (part ∷ filter is_whole parts) (filter is_whole parts)) ≤ length (part ∷ parts)
    by few true = omega (arith, few)
    by few false = omega (arith, few)

-- ---- all parts

pub all_none : (front : Front) → front.current ≡ None → all_parts front ≡ front.parts
all_none front none = ap (λ (o : Option DumpPart). front.parts ++ option_to_list o) none ∙ append-nil front.parts

pub all_some : (front : Front) (part : DumpPart) → front.current ≡ Some part → all_parts front ≡ front.parts ++ part ∷ []
all_some front part at = ap (λ (o : Option DumpPart). front.parts ++ option_to_list o) at

-- the part under way stays the last one where it ends
pub all_ended : (front : Front) (part : DumpPart) → front.current ≡ Some part → all_parts (with_part front part) ≡ all_parts front
all_ended front part at = append-nil (front.parts ++ part ∷ []) ∙ sym (all_some front part at)

-- ---- the front of a list

front_by : {X : Type 0} (P : X → Type 0) (xs ys : List X) → AllByRecursion P (xs ++ ys) → AllByRecursion P xs
front_by P [] ys is = tt
front_by P (x ∷ xs) ys is = (is.0, front_by P xs ys is.1)

pub front_all : {X : Type 0} (P : X → Type 0) (all xs ys : List X) → all ≡ xs ++ ys → All P all → All P xs
front_all P all xs ys is holds = All-from_recursion P xs (front_by P xs ys (subst (AllByRecursion P) is (recursion_from_All P all holds)))

pub front_pairs : {X : Type 0} (R : X → X → Type 0) (all xs ys : List X) → all ≡ xs ++ ys → AllPairs R all → AllPairs R xs
front_pairs {X} R all xs ys is holds = λ i j d before within.
    let long = length-append xs ys in
    let both : AllPairs R (xs ++ ys) = subst (AllPairs R) is holds in
    let here = both i j d before (omega (arith, within, long)) in
    let first = get_or_append_left xs ys d i (omega (arith, before, within)) in
    let second = get_or_append_left xs ys d j within in
    subst (λ (x : X). R x (slice_index_or xs j d)) first (subst (λ (y : X). R (slice_index_or (xs ++ ys) i d) y) second here)
