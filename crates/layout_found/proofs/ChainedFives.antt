-- The format 5s of a VTOC that breaks no rule.
use Rattle.std.proofs.Common.{◌≡◌, ◌⊎◌, List, [], ◌∷◌, ◌++◌, map, filter, Bool, true, false, Contains, Option, Some, None, refl, sym, ap, subst, ◌∙◌, inl, inr, append_assoc}
use Rattle.std.specs.Prelude.{not, if◌then◌else◌}
use Rattle.std.specs.Option.{is_some}
use Rattle.std.specs.List.{list_any}
use Rattle.std.proofs.lemmas.Bool.{both_ways, cases_Bool, or_parts}
use Rattle.std.proofs.lemmas.List.Elements.{Contains-push}
use Rattle.std.proofs.lemmas.List.Folds.{list_any-append}
use Rattle.ckd_image.specs.declared.track.Cchhr.{Cchhr}
use Rattle.volume_model.specs.declared.place.Placed.{Placed}
use Rattle.volume_model.specs.declared.place.Vtoc.{Vtoc}
use Rattle.volume_model.specs.declared.rule.VtocRule.TheVariants as rules
use Rattle.volume_model.specs.Dscbs.{format_of, is_f5, pointer_in}
use Rattle.volume_model.specs.Directory.{same_place}
use Rattle.volume_model.specs.Check.{breach, records_of, fives_of, named_by, same_target, is_among, first_of, first_five, off_chain, points, bad_tracks, bad_dscbs, bad_names, bad_pointers, bad_fives, bad_ranges, bad_overlaps, bad_free, breaches_of}
use Rattle.vtoc_check.specs.Places.{AreShort}
use Rattle.vtoc_check.proofs.Order.{ascending}
use Rattle.vtoc_check.proofs.Marks.{any_passes, passes_any}
use Rattle.volume_model.specs.FiveChain.{EndsAt, IsFiveChain, walk_of}
use Rattle.vtoc_layout.specs.Layout.{IsLinked, AreLinkedFives, fives_in_order}
use Rattle.vtoc_layout.proofs.FiveChains.{walk_is_chain}
use Rattle.vtoc_layout.specs.Layout.{AreDistinct}
use Rattle.volume_model.proofs.Numbers.{place_itself}
use Rattle.vtoc_layout.proofs.Uses.{distinct_records, one_record}
use Rattle.vtoc_layout.proofs.Distinct.{first_or_later, in_none, in_filter, from_filter, distinct_filter}
use Rattle.vtoc_load.proofs.Chains.{named_in}
use Rattle.layout_found.proofs.Members.{none_of, either_first}
use Rattle.ckd_image.proofs.Lists.{left_nil, right_nil, map_nil}
use Rattle.vtoc_layout.proofs.Links.{first_in}

abbrev is_five : Placed → Bool
is_five placed = is_f5 (format_of placed.bytes)

-- a format 5 of the VTOC
abbrev pub IsFive : Vtoc → Placed → Type 0
IsFive vtoc five = Contains (records_of vtoc) five × (is_f5 (format_of five.bytes) ≡ true)

-- all format 5s, each once
pub record AreAllFives (vtoc : Vtoc) (fives : List Placed) : Type 0 where
  pub each : (five : Placed) → Contains fives five → IsFive vtoc five
  pub once : AreDistinct fives
  pub all : (five : Placed) → IsFive vtoc five → Contains fives five

-- ---- a chain, by what is before and behind each

no_pointer : (o : Option Cchhr) → is_some o ≡ false → o ≡ None
no_pointer None e = refl
no_pointer (Some pointer) e = (let q : true ≡ false = e in cc)

-- the last of a chain with which nothing is wrong has no pointer
last_ends : (vtoc : Vtoc) (chain : List Placed) (last : Placed) → EndsAt points (named_by vtoc) chain last [] → pointer_in last.bytes ≡ None
last_ends vtoc chain last (inl h) = no_pointer (pointer_in last.bytes) h.0
last_ends vtoc chain last (inr h) = (let fives : List Placed = last ∷ [] in let q : [] ≡ fives = h.1 in cc)

abbrev IsRight : Vtoc → List Placed → Type 0
IsRight vtoc chain = IsFiveChain points (named_by vtoc) (fives_of vtoc) chain []

on : (front : List Placed) (five : Placed) (rest chain : List Placed) → chain ≡ front ++ (five ∷ rest) → chain ≡ (front ++ five ∷ []) ++ rest
on front five rest chain e = e ∙ sym (append_assoc front (five ∷ []) rest)

linked_from : (vtoc : Vtoc) (chain : List Placed) → IsRight vtoc chain → (rest front : List Placed) (five : Placed) → chain ≡ front ++ (five ∷ rest) → IsLinked vtoc.heads (records_of vtoc) five.bytes rest
linked_from vtoc chain is [] front five e = last_ends vtoc chain five (is.ends front five e)
linked_from vtoc chain is (next ∷ more) front five e = ((is.links front more five next e).0, linked_from vtoc chain is more (front ++ five ∷ []) next (on front five (next ∷ more) chain e))

linked : (vtoc : Vtoc) (chain : List Placed) → IsRight vtoc chain → AreLinkedFives vtoc.heads (records_of vtoc) chain
linked vtoc [] is = tt
linked vtoc (five ∷ rest) is = linked_from vtoc (five ∷ rest) is rest [] five refl

five_from : (vtoc : Vtoc) (chain : List Placed) → IsRight vtoc chain → (rest front : List Placed) (five : Placed) → chain ≡ front ++ (five ∷ rest) → IsFive vtoc five → (x : Placed) → Contains (five ∷ rest) x → IsFive vtoc x
five_from vtoc chain is [] front five e good x c = by (first_or_later five x [] c)
  where
    by : ((five ≡ x) ⊎ Contains [] x) → IsFive vtoc x
    by (inl same) = subst (IsFive vtoc) same good
    by (inr later) = absurd (in_none x later)
five_from vtoc chain is (next ∷ more) front five e good x c =
    let names = is.links front more five next e in
    by (λ d. five_from vtoc chain is more (front ++ five ∷ []) next (on front five (next ∷ more) chain e) (named_in vtoc.heads (records_of vtoc) (pointer_in five.bytes) next names.0, names.1) x d) (first_or_later five x (next ∷ more) c)
  where
    by : (Contains (next ∷ more) x → IsFive vtoc x) → ((five ≡ x) ⊎ Contains (next ∷ more) x) → IsFive vtoc x
    by behind (inl same) = subst (IsFive vtoc) same good
    by behind (inr later) = behind later

first_five_in : (vtoc : Vtoc) (five : Placed) → first_five (named_by vtoc) (fives_of vtoc) ≡ Some five → IsFive vtoc five
first_five_in vtoc five e = from_filter is_five (records_of vtoc) five (by (either_first (first_of (filter front (fives_of vtoc))) (first_of (fives_of vtoc)) five e))
  where
    front : Placed → Bool
    front = λ one. not (list_any (λ other. same_target (named_by vtoc other) (Some one)) (fives_of vtoc))

    by : ((first_of (filter front (fives_of vtoc)) ≡ Some five) ⊎ (first_of (fives_of vtoc) ≡ Some five)) → Contains (fives_of vtoc) five
    by (inl q) = (from_filter front (fives_of vtoc) five (first_in (filter front (fives_of vtoc)) five q)).0
    by (inr q) = first_in (fives_of vtoc) five q

each_five : (vtoc : Vtoc) (chain : List Placed) → IsRight vtoc chain → (x : Placed) → Contains chain x → IsFive vtoc x
each_five vtoc [] is x c = absurd (in_none x c)
each_five vtoc (five ∷ rest) is x c = five_from vtoc (five ∷ rest) is rest [] five refl (first_five_in vtoc five (sym is.begins)) x c

not_before : (vtoc : Vtoc) (chain : List Placed) → IsRight vtoc chain → (rest front : List Placed) → chain ≡ front ++ rest → (x : Placed) → Contains rest x → is_among front x ≡ false
not_before vtoc chain is [] front e x c = absurd (in_none x c)
not_before vtoc chain is (y ∷ rest) front e x c = by (λ d. not_before vtoc chain is rest (front ++ y ∷ []) (on front y rest chain e) x d) (first_or_later y x rest c)
  where
    same_at : Placed → Bool
    same_at = λ other. same_place other.place x.place

    by : (Contains rest x → is_among (front ++ y ∷ []) x ≡ false) → ((y ≡ x) ⊎ Contains rest x) → is_among front x ≡ false
    by behind (inl same) = ap (is_among front) (sym same) ∙ is.apart front rest y e
    by behind (inr later) = (or_parts (is_among front x) (is_among (y ∷ []) x) (sym (list_any-append same_at front (y ∷ [])) ∙ behind later)).0

distinct_from : (vtoc : Vtoc) (chain : List Placed) → IsRight vtoc chain → (rest front : List Placed) → chain ≡ front ++ rest → AreDistinct rest
distinct_from vtoc chain is [] front e = tt
distinct_from vtoc chain is (x ∷ rest) front e = (
  λ c. both_ways (is_among (front ++ x ∷ []) x) (not_before vtoc chain is rest (front ++ x ∷ []) (on front x rest chain e) x c)
      (passes_any (λ (other : Placed). same_place other.place x.place) (front ++ x ∷ []) x (Contains-push front x) (place_itself x.place)),
  distinct_from vtoc chain is rest (front ++ x ∷ []) (on front x rest chain e),
)

-- ---- where no rule is broken

pub no_bad_fives : (vtoc : Vtoc) → breaches_of vtoc ≡ [] → bad_fives vtoc ≡ []
no_bad_fives vtoc e =
    let four = bad_tracks vtoc.run.first vtoc.tracks ++ bad_dscbs vtoc ++ bad_names vtoc ++ bad_pointers vtoc in
    right_nil four (bad_fives vtoc)
    (left_nil (four ++ bad_fives vtoc) (bad_ranges vtoc)
    (left_nil (four ++ bad_fives vtoc ++ bad_ranges vtoc) (bad_overlaps vtoc) (left_nil (four ++ bad_fives vtoc ++ bad_ranges vtoc ++ bad_overlaps vtoc) (bad_free vtoc) e)))

none_off : (vtoc : Vtoc) → breaches_of vtoc ≡ [] → vtoc.valid ≡ true → off_chain points (named_by vtoc) (fives_of vtoc) ≡ []
none_off vtoc e valid =
    let off = off_chain points (named_by vtoc) (fives_of vtoc) in
    map_nil (breach rules.Pointer) off (sym (ap (λ (t : Bool). if t then map (breach rules.Pointer) off else []) valid) ∙ no_bad_fives vtoc e)

abbrev off_walk : Vtoc → List Placed
off_walk vtoc = filter (λ five. not (is_among (walk_of vtoc).0 five)) (fives_of vtoc)

right_walk : (vtoc : Vtoc) → breaches_of vtoc ≡ [] → vtoc.valid ≡ true → IsRight vtoc (walk_of vtoc).0
right_walk vtoc sound valid =
    let P : List Placed → Type 0 = λ wrong. IsFiveChain points (named_by vtoc) (fives_of vtoc) (walk_of vtoc).0 wrong in
    subst P (left_nil (walk_of vtoc).1 (off_walk vtoc) (none_off vtoc sound valid)) (walk_is_chain vtoc)

walk_has : (vtoc : Vtoc) → AreShort vtoc.tracks → breaches_of vtoc ≡ [] → vtoc.valid ≡ true → IsRight vtoc (walk_of vtoc).0 → (five : Placed) → IsFive vtoc five → Contains (walk_of vtoc).0 five
walk_has vtoc short sound valid is five good = by (cases_Bool (is_among (walk_of vtoc).0 five))
  where
    by : ((is_among (walk_of vtoc).0 five ≡ true) ⊎ (is_among (walk_of vtoc).0 five ≡ false)) → Contains (walk_of vtoc).0 five
    by (inl e) =
        let found = any_passes (λ (other : Placed). same_place other.place five.place) (walk_of vtoc).0 e in
        let P : Placed → Type 0 = λ p. Contains (walk_of vtoc).0 p in
        subst P (one_record _ (records_of vtoc) (ascending vtoc.run.first vtoc.tracks short) found.0 five (each_five vtoc (walk_of vtoc).0 is found.0 found.1).0 good.0 found.2) found.1
    by (inr e) =
        let none = right_nil (walk_of vtoc).1 (off_walk vtoc) (none_off vtoc sound valid) in
        absurd (both_ways true (sym (ap not e) ∙ none_of (λ (p : Placed). not (is_among (walk_of vtoc).0 p)) (fives_of vtoc) none five (in_filter is_five (records_of vtoc) five good.0 good.1)) refl)

pub all_fives : (vtoc : Vtoc) → AreShort vtoc.tracks → breaches_of vtoc ≡ [] → AreAllFives vtoc (fives_in_order vtoc)
all_fives vtoc short sound = by vtoc.valid refl
  where
    by : (t : Bool) → vtoc.valid ≡ t → AreAllFives vtoc (if t then (walk_of vtoc).0 else fives_of vtoc)
    by true valid =
        let is = right_walk vtoc sound valid in
        record { each = each_five vtoc (walk_of vtoc).0 is; once = distinct_from vtoc (walk_of vtoc).0 is (walk_of vtoc).0 [] refl; all = walk_has vtoc short sound valid is }
    by false valid = record {
      each = from_filter is_five (records_of vtoc);
      once = distinct_filter is_five (records_of vtoc) (distinct_records _ (records_of vtoc) (ascending vtoc.run.first vtoc.tracks short));
      all = λ five good. in_filter is_five (records_of vtoc) five good.0 good.1;
    }

pub linked_fives : (vtoc : Vtoc) → breaches_of vtoc ≡ [] → vtoc.valid ≡ true → AreLinkedFives vtoc.heads (records_of vtoc) (fives_in_order vtoc)
linked_fives vtoc sound valid =
    let P : List Placed → Type 0 = λ fives. AreLinkedFives vtoc.heads (records_of vtoc) fives in
    subst P (sym (ap (λ (t : Bool). if t then (walk_of vtoc).0 else fives_of vtoc) valid)) (linked vtoc (walk_of vtoc).0 (right_walk vtoc sound valid))
