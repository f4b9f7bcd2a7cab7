-- The records of a VTOC that breaks no rule are used as its layout says.
use Rattle.std.proofs.Common.{◌≡◌, ◌⊎◌, ℕ, ◌*◌, List, [], ◌∷◌, ◌++◌, length, map, filter, take, Bool, true, false, Contains, refl, sym, ap, subst, ◌∙◌, inl, inr, arith}
use Rattle.std.specs.Prelude.{◌||◌, ◌&&◌, not}
use Rattle.std.specs.List.{flat_map}
use Rattle.std.proofs.lemmas.Bool.{both_ways}
use Rattle.std.proofs.lemmas.List.Elements.{Contains-append_left, Contains-append_right, Contains-append_cases}
use Rattle.std.proofs.lemmas.List.Folds.{flat_map-map}
use Rattle.volume_model.specs.declared.format.Format.{Format}
use Rattle.volume_model.specs.declared.format.Format.TheVariants.{Broken, Free, F1, F3, F4, F5}
use Rattle.volume_model.specs.declared.place.Placed.{Placed}
use Rattle.volume_model.specs.declared.place.Vtoc.{Vtoc}
use Rattle.volume_model.specs.declared.rule.VtocRule.TheVariants as rules
use Rattle.volume_model.specs.Dscbs.{format_of, is_broken, is_f1, is_f3, is_f4, is_f5}
use Rattle.volume_model.specs.Directory.{same_place}
use Rattle.volume_model.specs.Check.{breach, records_of, same_bytes, later_ones, bad_tracks, bad_dscbs, bad_names, bad_pointers, breaches_of}
use Rattle.vtoc_check.specs.Places.{AreShort}
use Rattle.vtoc_check.proofs.Order.{ascending}
use Rattle.vtoc_layout.specs.Layout.{SetRecords, IsLayoutOf, AreSetRecords, records_in_set, records_used, name_of, fives_in_order, set_of, sets_of, layout_of}
use Rattle.vtoc_layout.specs.Layout.{AreDistinct}
use Rattle.vtoc_layout.proofs.Apart.{all_from}
use Rattle.vtoc_layout.proofs.Uses.{distinct_records, one_record}
use Rattle.vtoc_layout.proofs.Distinct.{first_or_later, at_first, in_later, in_filter, from_filter, distinct_filter, distinct_append, distinct_front, distinct_back, not_both, from_flat, in_flat, from_map}
use Rattle.vtoc_load.proofs.Chains.{chain_at, no_first_four, no_bad_dscbs, chains_apart}
use Rattle.vtoc_load.proofs.Counting.{none_broken}
use Rattle.layout_found.proofs.Members.{none_of}
use Rattle.layout_found.proofs.Unrelated.{AreUnrelated, unrelated}
use Rattle.layout_found.proofs.Formats.{f1_is, f3_is, f5_is}
use Rattle.layout_found.proofs.Threes.{chain_in, no_three_is_one, set_linked}
use Rattle.layout_found.proofs.ChainedFives.{AreAllFives, all_fives}
use Rattle.ckd_image.proofs.Lists.{left_nil, right_nil, map_nil}
use Rattle.volume_model.proofs.Numbers.{bytes_itself}

abbrev is_one : Placed → Bool
is_one placed = is_f1 (format_of placed.bytes)

-- the format 1s
abbrev pub ones_of : Vtoc → List Placed
ones_of vtoc = filter is_one (records_of vtoc)

-- ---- the records of data sets

-- a format 1 and the format 3s behind it
abbrev pub with_chain : ℕ → List Placed → Placed → List Placed
with_chain heads records one = one ∷ chain_at heads records one

abbrev pub in_sets : ℕ → List Placed → List Placed → List Placed
in_sets heads records ones = flat_map (with_chain heads records) ones

pub set_records : (vtoc : Vtoc) → flat_map records_in_set (sets_of vtoc) ≡ in_sets vtoc.heads (records_of vtoc) (ones_of vtoc)
set_records vtoc = flat_map-map records_in_set (set_of vtoc) (ones_of vtoc)

-- a record of a data set is one of these format 1s, or behind one
pub which : (heads : ℕ) (records ones : List Placed) (x : Placed) → Contains (in_sets heads records ones) x → Contains ones x ⊎ Contains (flat_map (chain_at heads records) ones) x
which heads records ones x c =
    let r = from_flat (with_chain heads records) ones x c in
    by r.0 r.1 (first_or_later r.0 x (chain_at heads records r.0) r.2)
  where
    by : (one : Placed) → Contains ones one → ((one ≡ x) ⊎ Contains (chain_at heads records one) x) → Contains ones x ⊎ Contains (flat_map (chain_at heads records) ones) x
    by one there (inl same) = let P : Placed → Type 0 = λ y. Contains ones y in inl (subst P same there)
    by one there (inr behind) = inr (in_flat (chain_at heads records) ones one x there behind)

chain_three : (heads : ℕ) (records ones : List Placed) (x : Placed) → Contains (flat_map (chain_at heads records) ones) x → Contains records x × (is_f3 (format_of x.bytes) ≡ true)
chain_three heads records ones x c =
    let r = from_flat (chain_at heads records) ones x c in
    chain_in heads records (length records) r.0.bytes x r.2

-- all of these are format 1s
abbrev AreOnes : List Placed → Type 0
AreOnes ones = (one : Placed) → Contains ones one → is_f1 (format_of one.bytes) ≡ true

distinct_sets : (heads : ℕ) (records ones : List Placed) → AreOnes ones → AreDistinct ones → AreDistinct (flat_map (chain_at heads records) ones) → AreDistinct (in_sets heads records ones)
distinct_sets heads records [] are once apart = tt
distinct_sets heads records (one ∷ ones) are once apart =
    let mine_once = distinct_front (chain_at heads records one) (flat_map (chain_at heads records) ones) apart in
    let others_once = distinct_back (chain_at heads records one) (flat_map (chain_at heads records) ones) apart in
    let not_again : (x : Placed) → Contains (chain_at heads records one) x → Contains (flat_map (chain_at heads records) ones) x → ⊥ =
    λ x. not_both (chain_at heads records one) (flat_map (chain_at heads records) ones) x apart in
    let behind : (x : Placed) → Contains (chain_at heads records one) x → is_f3 (format_of x.bytes) ≡ true = λ x c. (chain_in heads records (length records) one.bytes x c).1 in
    let mine : is_f1 (format_of one.bytes) ≡ true = are one (at_first one ones) in
    let others : AreOnes ones = λ x c. are x (in_later one x ones c) in (
      λ c. first mine behind (Contains-append_cases (chain_at heads records one) (in_sets heads records ones) one c),
      distinct_append (chain_at heads records one) (in_sets heads records ones) mine_once (distinct_sets heads records ones others once.1 others_once)
          (λ z here there. second z others not_again here (behind z here) (which heads records ones z there)),
    )
  where
    first : is_f1 (format_of one.bytes) ≡ true → ((x : Placed) → Contains (chain_at heads records one) x → is_f3 (format_of x.bytes) ≡ true)
        → (Contains (chain_at heads records one) one ⊎ Contains (in_sets heads records ones) one) → ⊥
    first mine behind (inl c) = no_three_is_one one one refl mine (behind one c)
    first mine behind (inr c) = third (which heads records ones one c)
      where
        third : (Contains ones one ⊎ Contains (flat_map (chain_at heads records) ones) one) → ⊥
        third (inl d) = once.0 d
        third (inr d) = no_three_is_one one one refl mine (chain_three heads records ones one d).1

    second : (z : Placed) → AreOnes ones → ((x : Placed) → Contains (chain_at heads records one) x → Contains (flat_map (chain_at heads records) ones) x → ⊥)
        → Contains (chain_at heads records one) z → is_f3 (format_of z.bytes) ≡ true → (Contains ones z ⊎ Contains (flat_map (chain_at heads records) ones) z) → ⊥
    second z others apart here three (inl d) = no_three_is_one z z refl (others z d) three
    second z others apart here three (inr d) = apart z here d

-- ---- names

abbrev same_name : Placed → Placed → Bool
same_name later earlier = same_bytes (take 44 later.bytes) (take 44 earlier.bytes)

names_apart : (vtoc : Vtoc) (ones : List Placed) → AreUnrelated same_name ones → AreDistinct (map name_of (map (set_of vtoc) ones))
names_apart vtoc [] h = tt
names_apart vtoc (one ∷ ones) h = (λ c. again (from_map name_of (map (set_of vtoc) ones) (take 44 one.bytes) c), names_apart vtoc ones h.1)
  where
    again : ((set : SetRecords) × Contains (map (set_of vtoc) ones) set × (name_of set ≡ take 44 one.bytes)) → ⊥
    again found =
        let other = from_map (set_of vtoc) ones found.0 found.1 in
        let same : take 44 other.0.bytes ≡ take 44 one.bytes = ap name_of other.2 ∙ found.2 in
        both_ways (same_name other.0 one) (h.0 other.0 other.1) (ap (λ (name : List ℕ). same_bytes name (take 44 one.bytes)) same ∙ bytes_itself (take 44 one.bytes))

no_bad_names : (vtoc : Vtoc) → breaches_of vtoc ≡ [] → bad_names vtoc ≡ []
no_bad_names vtoc e =
    let two = bad_tracks vtoc.run.first vtoc.tracks ++ bad_dscbs vtoc in
    right_nil two (bad_names vtoc) (left_nil (two ++ bad_names vtoc) (bad_pointers vtoc) (no_first_four vtoc e))

-- ---- the format 4

no_bad_four : (vtoc : Vtoc) → breaches_of vtoc ≡ [] → (placed : Placed) → Contains (records_of vtoc) placed → is_f4 (format_of placed.bytes) ≡ true → same_place placed.place vtoc.format_4 ≡ true
no_bad_four vtoc sound placed there four =
    by (is_broken (format_of placed.bytes)) (same_place placed.place vtoc.format_4)
    (sym (ap (λ (t : Bool). is_broken (format_of placed.bytes) || (t && not (same_place placed.place vtoc.format_4))) four) ∙ none_of test (records_of vtoc) none placed there)
  where
    test : Placed → Bool
    test = λ p. is_broken (format_of p.bytes) || (is_f4 (format_of p.bytes) && not (same_place p.place vtoc.format_4))

    none : filter test (records_of vtoc) ≡ []
    none = map_nil (breach rules.Dscb) (filter test (records_of vtoc)) (no_bad_dscbs vtoc sound)

    by : (a b : Bool) → (a || (true && not b)) ≡ false → b ≡ true
    by true b e = (let q : true ≡ false = e in cc)
    by false true e = refl
    by false false e = (let q : true ≡ false = e in cc)

-- ---- the whole

pub layout_right : (vtoc : Vtoc) (four : Placed) → AreShort vtoc.tracks → Contains (records_of vtoc) four → format_of four.bytes ≡ F4 → four.place ≡ vtoc.format_4 → breaches_of vtoc ≡ []
    → IsLayoutOf vtoc (layout_of vtoc four)
layout_right vtoc four short there four_is four_at sound = record {
  there = all_from (Contains records) (four ∷ (fives ++ flat_map records_in_set (sets_of vtoc))) (λ x c. member x (subst_used x c));
  once = once;
  four_is = four_is;
  four_at = four_at;
  fives_are = all_from (λ (five : Placed). format_of five.bytes ≡ F5) fives (λ five c. f5_is (format_of five.bytes) (all.each five c).1);
  sets_are = all_from (AreSetRecords vtoc.heads records) (sets_of vtoc) set_right;
  names = names_apart vtoc (ones_of vtoc) (unrelated same_name (ones_of vtoc) (map_nil (breach rules.Name) (later_ones same_name (ones_of vtoc)) (no_bad_names vtoc sound)));
  rest = rest;
}
  where
    records : List Placed
    records = records_of vtoc

    fives : List Placed
    fives = fives_in_order vtoc

    sets : List Placed
    sets = in_sets vtoc.heads records (ones_of vtoc)

    all : AreAllFives vtoc fives
    all = all_fives vtoc short sound

    subst_used : (x : Placed) → Contains (records_used (layout_of vtoc four)) x → Contains (four ∷ (fives ++ sets)) x
    subst_used x c = let P : List Placed → Type 0 = λ found. Contains (four ∷ (fives ++ found)) x in subst P (set_records vtoc) c

    used : (x : Placed) → Contains (four ∷ (fives ++ sets)) x → Contains (records_used (layout_of vtoc four)) x
    used x c = let P : List Placed → Type 0 = λ found. Contains (four ∷ (fives ++ found)) x in subst P (sym (set_records vtoc)) c

    of_set : (x : Placed) → Contains sets x → Contains records x × ((is_f1 (format_of x.bytes) ≡ true) ⊎ (is_f3 (format_of x.bytes) ≡ true))
    of_set x c = by (which vtoc.heads records (ones_of vtoc) x c)
      where
        by : (Contains (ones_of vtoc) x ⊎ Contains (flat_map (chain_at vtoc.heads records) (ones_of vtoc)) x) → Contains records x × ((is_f1 (format_of x.bytes) ≡ true) ⊎ (is_f3 (format_of x.bytes) ≡ true))
        by (inl d) = let r = from_filter is_one records x d in (r.0, inl r.1)
        by (inr d) = let r = chain_three vtoc.heads records (ones_of vtoc) x d in (r.0, inr r.1)

    member : (x : Placed) → Contains (four ∷ (fives ++ sets)) x → Contains records x
    member x c = by (first_or_later four x (fives ++ sets) c)
      where
        behind : (Contains fives x ⊎ Contains sets x) → Contains records x
        behind (inl d) = (all.each x d).0
        behind (inr d) = (of_set x d).0

        by : ((four ≡ x) ⊎ Contains (fives ++ sets) x) → Contains records x
        by (inl same) = let P : Placed → Type 0 = λ y. Contains records y in subst P same there
        by (inr later) = behind (Contains-append_cases fives sets x later)

    no_four : Contains (fives ++ sets) four → ⊥
    no_four c = by (Contains-append_cases fives sets four c)
      where
        set : ((is_f1 (format_of four.bytes) ≡ true) ⊎ (is_f3 (format_of four.bytes) ≡ true)) → ⊥
        set (inl e) = (let p : F4 ≡ F1 = sym four_is ∙ f1_is (format_of four.bytes) e in let r : ⊥ = cc in r)
        set (inr e) = (let p : F4 ≡ F3 = sym four_is ∙ f3_is (format_of four.bytes) e in let r : ⊥ = cc in r)

        by : (Contains fives four ⊎ Contains sets four) → ⊥
        by (inl d) = (let p : F4 ≡ F5 = sym four_is ∙ f5_is (format_of four.bytes) (all.each four d).1 in let r : ⊥ = cc in r)
        by (inr d) = set (of_set four d).1

    no_set_five : (x : Placed) → Contains fives x → Contains sets x → ⊥
    no_set_five x c d = by (of_set x d).1
      where
        five : format_of x.bytes ≡ F5
        five = f5_is (format_of x.bytes) (all.each x c).1

        by : ((is_f1 (format_of x.bytes) ≡ true) ⊎ (is_f3 (format_of x.bytes) ≡ true)) → ⊥
        by (inl e) = (let p : F5 ≡ F1 = sym five ∙ f1_is (format_of x.bytes) e in let r : ⊥ = cc in r)
        by (inr e) = (let p : F5 ≡ F3 = sym five ∙ f3_is (format_of x.bytes) e in let r : ⊥ = cc in r)

    ones_once : AreDistinct (ones_of vtoc)
    ones_once = distinct_filter is_one records (distinct_records (256 * vtoc.run.first) records (ascending vtoc.run.first vtoc.tracks short))

    once : AreDistinct (records_used (layout_of vtoc four))
    once =
        let P : List Placed → Type 0 = λ found. AreDistinct (four ∷ (fives ++ found)) in
        subst P (sym (set_records vtoc)) (
          no_four,
          distinct_append fives sets all.once (distinct_sets vtoc.heads records (ones_of vtoc) (λ one c. (from_filter is_one records one c).1) ones_once (chains_apart vtoc short sound).once) no_set_five,
        )

    set_right : (set : SetRecords) → Contains (sets_of vtoc) set → AreSetRecords vtoc.heads records set
    set_right set c =
        let found = from_map (set_of vtoc) (ones_of vtoc) set c in
        let one = from_filter is_one records found.0 found.1 in
        subst (AreSetRecords vtoc.heads records) found.2 (record {
          one_is = f1_is (format_of found.0.bytes) one.1;
          threes_are =
              all_from (λ (three : Placed). format_of three.bytes ≡ F3) (chain_at vtoc.heads records found.0)
              (λ three d. f3_is (format_of three.bytes) (chain_in vtoc.heads records (length records) found.0.bytes three d).1);
          linked = set_linked vtoc short sound found.0 one.0 one.1;
        })

    rest : (placed : Placed) → Contains records placed → ¬ Contains (records_used (layout_of vtoc four)) placed → format_of placed.bytes ≡ Free
    rest placed c unused = by (format_of placed.bytes) refl
      where
        off : Contains (four ∷ (fives ++ sets)) placed → format_of placed.bytes ≡ Free
        off d = absurd (unused (used placed d))

        of_sets : Contains sets placed → format_of placed.bytes ≡ Free
        of_sets d = off (in_later four placed (fives ++ sets) (Contains-append_right fives sets placed d))

        by : (f : Format) → format_of placed.bytes ≡ f → format_of placed.bytes ≡ Free
        by Broken e = (let q : true ≡ false = sym (ap is_broken e) ∙ none_broken vtoc sound placed c in cc)
        by Free e = e
        by F1 e = of_sets (in_flat (with_chain vtoc.heads records) (ones_of vtoc) placed placed (in_filter is_one records placed c (ap is_f1 e)) (at_first placed (chain_at vtoc.heads records placed)))
        by F3 e =
            let reached = ((chains_apart vtoc short sound).same placed).0 (in_filter (λ (p : Placed). is_f3 (format_of p.bytes)) records placed c (ap is_f3 e)) in
            let one = from_flat (chain_at vtoc.heads records) (ones_of vtoc) placed reached in
            of_sets (in_flat (with_chain vtoc.heads records) (ones_of vtoc) one.0 placed one.1 (in_later one.0 placed (chain_at vtoc.heads records one.0) one.2))
        by F4 e =
            let at = no_bad_four vtoc sound placed c (ap is_f4 e) in
            let same : placed ≡ four =
            one_record (256 * vtoc.run.first) records (ascending vtoc.run.first vtoc.tracks short) placed four c there (ap (same_place placed.place) four_at ∙ at) in
            off (0, omega arith, sym same)
        by F5 e = off (in_later four placed (fives ++ sets) (Contains-append_left fives sets placed (all.all placed (c, ap is_f5 e))))
