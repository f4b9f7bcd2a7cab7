-- What each record of a VTOC is used for.
use Rattle.std.proofs.Common.{◌≡◌, ◌⊎◌, ℕ, ◌+◌, ◌*◌, List, [], ◌∷◌, ◌++◌, map, filter, get_or, Bool, true, false, Contains, refl, sym, ap, subst, ◌∙◌, arith, inl, inr}
use Rattle.std.specs.List.{flat_map}
use Rattle.std.proofs.lemmas.List.{get_or_default}
use Rattle.std.proofs.lemmas.Bool.{both_ways}
use Rattle.std.proofs.lemmas.List.Elements.{All-contains, Contains-append_cases}
use Rattle.volume_model.specs.declared.format.Format.{Format}
use Rattle.volume_model.specs.declared.format.Format.TheVariants.{Free, F1, F3, F4, F5}
use Rattle.volume_model.specs.declared.place.Placed.{Placed}
use Rattle.volume_model.specs.declared.place.Vtoc.{Vtoc}
use Rattle.volume_model.specs.Dscbs.{format_of, is_broken, is_f1, is_f3, is_f4, is_f5, extent_offsets}
use Rattle.volume_model.specs.Directory.{same_place}
use Rattle.volume_model.specs.Check.{records_of, fives_of, is_among}
use Rattle.vtoc_check.specs.Places.{rank_of, blank}
use Rattle.vtoc_check.proofs.Ascending.{IsAscending}
use Rattle.vtoc_check.specs.Reach.{record_in}
use Rattle.vtoc_check.specs.Sized.{IsSized}
use Rattle.vtoc_check.proofs.Order.{ascending, above, in_order_from}
use Rattle.volume_model.proofs.Numbers.{place_itself}
use Rattle.vtoc_check.proofs.Marks.{any_passes, passes_any, same_number, one_index}
use Rattle.vtoc_layout.specs.Layout.{AreDistinct, SetRecords, Layout, AreSetRecords, IsLayoutOf, records_in_set, records_used}
use Rattle.vtoc_layout.proofs.Distinct.{first_or_later, at_first, in_later, in_front, in_back, distinct_front, distinct_back, distinct_filter, in_filter, from_filter, from_flat, in_flat, from_map, HaveSame}
use Rattle.ckd_image.proofs.Lists.{contains_map}

-- ---- records of different places

pub distinct_records : (from : ℕ) (records : List Placed) → IsAscending from records → AreDistinct records
distinct_records from [] h = tt
distinct_records from (placed ∷ more) h =
    (λ c. omega (arith, above (rank_of placed.place + 1) more c.0 placed h.2 c.1, ap (λ (p : Placed). rank_of p.place) c.2), distinct_records (rank_of placed.place + 1) more h.2)

pub one_record : (from : ℕ) (records : List Placed) → IsAscending from records → (a b : Placed) → Contains records a → Contains records b → same_place a.place b.place ≡ true → a ≡ b
one_record from records up a b p q e =
    let at_a : get_or records p.0 blank ≡ a = at p in
    let at_b : get_or records q.0 blank ≡ b = at q in
    let numbers : rank_of (record_in records p.0).place ≡ rank_of (record_in records q.0).place =
    ap (λ (x : Placed). rank_of x.place) at_a ∙ same_number a b e ∙ sym (ap (λ (x : Placed). rank_of x.place) at_b) in
    let k : p.0 ≡ q.0 = one_index records (in_order_from from records up) p.0 q.0 p.1 q.1 numbers in
    sym at_a ∙ ap (λ (n : ℕ). get_or records n blank) k ∙ at_b
  where
    at : {x : Placed} → (c : Contains records x) → get_or records c.0 blank ≡ x
    at {x} c = get_or_default records c.0 blank x c.1 ∙ c.2

pub among : (placeds : List Placed) (placed : Placed) → Contains placeds placed → is_among placeds placed ≡ true
among placeds placed c = passes_any (λ other. same_place other.place placed.place) placeds placed c (place_itself placed.place)

-- ---- the parts of the records of data sets

abbrev pub one_of : SetRecords → Placed
one_of set = set.one

abbrev pub threes_in : SetRecords → List Placed
threes_in set = set.threes

one_there : (sets : List SetRecords) (placed : Placed) → Contains (map one_of sets) placed → Contains (flat_map records_in_set sets) placed
one_there sets placed c =
    let at = from_map one_of sets placed c in
    in_flat records_in_set sets at.0 placed at.1 (0, omega arith, at.2)

three_there : (sets : List SetRecords) (placed : Placed) → Contains (flat_map threes_in sets) placed → Contains (flat_map records_in_set sets) placed
three_there sets placed c =
    let at = from_flat threes_in sets placed c in
    in_flat records_in_set sets at.0 placed at.1 (in_later at.0.one placed at.0.threes at.2)

distinct_ones : (sets : List SetRecords) → AreDistinct (flat_map records_in_set sets) → AreDistinct (map one_of sets)
distinct_ones [] d = tt
distinct_ones (set ∷ sets) d =
    (λ c. d.0 (in_back set.threes (flat_map records_in_set sets) set.one (one_there sets set.one c)), distinct_ones sets (distinct_back set.threes (flat_map records_in_set sets) d.1))

-- ---- the uses

-- a record is the format 4, one of the format 5s, one of a data set's records, or free
pub data Use (vtoc : Vtoc) (layout : Layout) (placed : Placed) : Type 0 where
  four : placed ≡ layout.four → Use vtoc layout placed
  five : Contains layout.fives placed → Use vtoc layout placed
  one : (set : SetRecords) → Contains layout.sets set → set.one ≡ placed → Use vtoc layout placed
  three : (set : SetRecords) → Contains layout.sets set → Contains set.threes placed → Use vtoc layout placed
  free : format_of placed.bytes ≡ Free → Use vtoc layout placed

module _ (vtoc : Vtoc) (layout : Layout) (sized : IsSized vtoc) (is : IsLayoutOf vtoc layout) where
  abbrev records : List Placed
  records = records_of vtoc

  abbrev pub of_sets : List Placed
  of_sets = flat_map records_in_set layout.sets

  up : IsAscending (256 * vtoc.run.first) records
  up = ascending vtoc.run.first vtoc.tracks sized.short

  pub all_distinct : AreDistinct records
  all_distinct = distinct_records (256 * vtoc.run.first) records up

  pub same_record : (a b : Placed) → Contains records a → Contains records b → same_place a.place b.place ≡ true → a ≡ b
  same_record a b p q e = one_record (256 * vtoc.run.first) records up a b p q e

  -- ---- each used record stands there

  pub used_there : (placed : Placed) → Contains (records_used layout) placed → Contains records placed
  used_there placed c = All-contains (Contains records) (records_used layout) placed is.there c

  pub four_there : Contains records layout.four
  four_there = used_there layout.four (at_first layout.four (layout.fives ++ of_sets))

  pub five_there : (placed : Placed) → Contains layout.fives placed → Contains records placed
  five_there placed c = used_there placed (in_later layout.four placed (layout.fives ++ of_sets) (in_front layout.fives of_sets placed c))

  pub set_there : (placed : Placed) → Contains of_sets placed → Contains records placed
  set_there placed c = used_there placed (in_later layout.four placed (layout.fives ++ of_sets) (in_back layout.fives of_sets placed c))

  pub in_set_there : (set : SetRecords) (placed : Placed) → Contains layout.sets set → Contains (records_in_set set) placed → Contains records placed
  in_set_there set placed p c = set_there placed (in_flat records_in_set layout.sets set placed p c)

  pub distinct_fives : AreDistinct layout.fives
  distinct_fives = distinct_front layout.fives of_sets is.once.1

  pub distinct_of_sets : AreDistinct of_sets
  distinct_of_sets = distinct_back layout.fives of_sets is.once.1

  pub distinct_starts : AreDistinct (map one_of layout.sets)
  distinct_starts = distinct_ones layout.sets distinct_of_sets

  pub set_is : (set : SetRecords) → Contains layout.sets set → AreSetRecords vtoc.heads records set
  set_is set c = All-contains (AreSetRecords vtoc.heads records) layout.sets set is.sets_are c

  pub five_format : (placed : Placed) → Contains layout.fives placed → format_of placed.bytes ≡ F5
  five_format placed c = All-contains (λ (five : Placed). format_of five.bytes ≡ F5) layout.fives placed is.fives_are c

  pub three_format : (set : SetRecords) (placed : Placed) → Contains layout.sets set → Contains set.threes placed → format_of placed.bytes ≡ F3
  three_format set placed p c = All-contains (λ (three : Placed). format_of three.bytes ≡ F3) set.threes placed (set_is set p).threes_are c

  -- ---- the use of each record

  used_as : (placed : Placed) → Contains (records_used layout) placed → Use vtoc layout placed
  used_as placed c = by (first_or_later layout.four placed (layout.fives ++ of_sets) c)
    where
      set : (s : SetRecords) → Contains layout.sets s → ((s.one ≡ placed) ⊎ Contains s.threes placed) → Use vtoc layout placed
      set s p (inl first) = one s p first
      set s p (inr later) = three s p later

      behind : (Contains layout.fives placed ⊎ Contains of_sets placed) → Use vtoc layout placed
      behind (inl a) = five a
      behind (inr b) = let at = from_flat records_in_set layout.sets placed b in set at.0 at.1 (first_or_later at.0.one placed at.0.threes at.2)

      by : ((layout.four ≡ placed) ⊎ Contains (layout.fives ++ of_sets) placed) → Use vtoc layout placed
      by (inl first) = four (sym first)
      by (inr later) = behind (Contains-append_cases layout.fives of_sets placed later)

  pub use_of : (placed : Placed) → Contains records placed → Use vtoc layout placed
  use_of placed c = by (is_among (records_used layout) placed) refl
    where
      by : (t : Bool) → is_among (records_used layout) placed ≡ t → Use vtoc layout placed
      by true e =
          let found = any_passes (λ (other : Placed). same_place other.place placed.place) (records_used layout) e in
          let same : found.0 ≡ placed = same_record found.0 placed (used_there found.0 found.1) c found.2 in
          let P : Placed → Type 0 = λ p. Contains (records_used layout) p in
          used_as placed (subst P same found.1)
      by false e = free (is.rest placed c (λ used. both_ways (is_among (records_used layout) placed) e (among (records_used layout) placed used)))

  -- ---- by formats

  four_format : (placed : Placed) → placed ≡ layout.four → format_of placed.bytes ≡ F4
  four_format placed same = ap (λ (p : Placed). format_of p.bytes) same ∙ is.four_is

  one_format : (set : SetRecords) (placed : Placed) → Contains layout.sets set → set.one ≡ placed → format_of placed.bytes ≡ F1
  one_format set placed p same = ap (λ (q : Placed). format_of q.bytes) (sym same) ∙ (set_is set p).one_is

  -- a test of formats that doesn't hold of this one
  not_this : (test : Format → Bool) (placed : Placed) (format : Format) → format_of placed.bytes ≡ format → test format ≡ false → test (format_of placed.bytes) ≡ true → ⊥
  not_this test placed format here no_format yes_format = both_ways (test format) no_format (sym (ap test here) ∙ yes_format)

  pub is_one : (placed : Placed) → Contains records placed → is_f1 (format_of placed.bytes) ≡ true → Contains (map one_of layout.sets) placed
  is_one placed c e = by (use_of placed c)
    where
      by : Use vtoc layout placed → Contains (map one_of layout.sets) placed
      by (four same) = absurd (not_this is_f1 placed F4 (four_format placed same) refl e)
      by (five there) = absurd (not_this is_f1 placed F5 (five_format placed there) refl e)
      by (one set p same) = let P : Placed → Type 0 = λ q. Contains (map one_of layout.sets) q in subst P same (contains_map one_of layout.sets set p)
      by (three set p there) = absurd (not_this is_f1 placed F3 (three_format set placed p there) refl e)
      by (free here) = absurd (not_this is_f1 placed Free here refl e)

  pub is_three : (placed : Placed) → Contains records placed → is_f3 (format_of placed.bytes) ≡ true → (set : SetRecords) × Contains layout.sets set × Contains set.threes placed
  is_three placed c e = by (use_of placed c)
    where
      by : Use vtoc layout placed → (set : SetRecords) × Contains layout.sets set × Contains set.threes placed
      by (four same) = absurd (not_this is_f3 placed F4 (four_format placed same) refl e)
      by (five there) = absurd (not_this is_f3 placed F5 (five_format placed there) refl e)
      by (one set p same) = absurd (not_this is_f3 placed F1 (one_format set placed p same) refl e)
      by (three set p there) = (set, p, there)
      by (free here) = absurd (not_this is_f3 placed Free here refl e)

  pub is_five : (placed : Placed) → Contains records placed → is_f5 (format_of placed.bytes) ≡ true → Contains layout.fives placed
  is_five placed c e = by (use_of placed c)
    where
      by : Use vtoc layout placed → Contains layout.fives placed
      by (four same) = absurd (not_this is_f5 placed F4 (four_format placed same) refl e)
      by (five there) = there
      by (one set p same) = absurd (not_this is_f5 placed F1 (one_format set placed p same) refl e)
      by (three set p there) = absurd (not_this is_f5 placed F3 (three_format set placed p there) refl e)
      by (free here) = absurd (not_this is_f5 placed Free here refl e)

  pub is_four : (placed : Placed) → Contains records placed → is_f4 (format_of placed.bytes) ≡ true → placed ≡ layout.four
  is_four placed c e = by (use_of placed c)
    where
      by : Use vtoc layout placed → placed ≡ layout.four
      by (four same) = same
      by (five there) = absurd (not_this is_f4 placed F5 (five_format placed there) refl e)
      by (one set p same) = absurd (not_this is_f4 placed F1 (one_format set placed p same) refl e)
      by (three set p there) = absurd (not_this is_f4 placed F3 (three_format set placed p there) refl e)
      by (free here) = absurd (not_this is_f4 placed Free here refl e)

  pub none_broken : (placed : Placed) → Contains records placed → is_broken (format_of placed.bytes) ≡ false
  none_broken placed c = by (use_of placed c)
    where
      by : Use vtoc layout placed → is_broken (format_of placed.bytes) ≡ false
      by (four same) = ap is_broken (four_format placed same)
      by (five there) = ap is_broken (five_format placed there)
      by (one set p same) = ap is_broken (one_format set placed p same)
      by (three set p there) = ap is_broken (three_format set placed p there)
      by (free here) = ap is_broken here

  -- ---- the records of a format

  abbrev pub ones : List Placed
  ones = filter (λ placed. is_f1 (format_of placed.bytes)) records

  pub distinct_f1s : AreDistinct ones
  distinct_f1s = distinct_filter (λ (placed : Placed). is_f1 (format_of placed.bytes)) records all_distinct

  pub distinct_f5s : AreDistinct (fives_of vtoc)
  distinct_f5s = distinct_filter (λ (placed : Placed). is_f5 (format_of placed.bytes)) records all_distinct

  pub same_ones : HaveSame ones (map one_of layout.sets)
  same_ones = record { there = there; back = back }
    where
      there : (placed : Placed) → Contains ones placed → Contains (map one_of layout.sets) placed
      there placed c = let m = from_filter (λ (p : Placed). is_f1 (format_of p.bytes)) records placed c in is_one placed m.0 m.1

      back : (placed : Placed) → Contains (map one_of layout.sets) placed → Contains ones placed
      back placed c =
          let at = from_map one_of layout.sets placed c in
          in_filter (λ (p : Placed). is_f1 (format_of p.bytes)) records placed (in_set_there at.0 placed at.1 (0, omega arith, at.2)) (ap is_f1 (one_format at.0 placed at.1 at.2))

  pub same_fives : HaveSame (fives_of vtoc) layout.fives
  same_fives = record { there = there; back = back }
    where
      there : (placed : Placed) → Contains (fives_of vtoc) placed → Contains layout.fives placed
      there placed c = let m = from_filter (λ (p : Placed). is_f5 (format_of p.bytes)) records placed c in is_five placed m.0 m.1

      back : (placed : Placed) → Contains layout.fives placed → Contains (fives_of vtoc) placed
      back placed c = in_filter (λ (p : Placed). is_f5 (format_of p.bytes)) records placed (five_there placed c) (ap is_f5 (five_format placed c))

  -- a record that is none of a data set's has no extents
  pub in_set_or_bare : (placed : Placed) → Contains records placed → Contains of_sets placed ⊎ (extent_offsets (format_of placed.bytes) ≡ [])
  in_set_or_bare placed c = by (use_of placed c)
    where
      by : Use vtoc layout placed → Contains of_sets placed ⊎ (extent_offsets (format_of placed.bytes) ≡ [])
      by (four same) = inr (ap extent_offsets (four_format placed same))
      by (five there) = inr (ap extent_offsets (five_format placed there))
      by (one set p same) = inl (in_flat records_in_set layout.sets set placed p (0, omega arith, same))
      by (three set p there) = inl (in_flat records_in_set layout.sets set placed p (in_later set.one placed set.threes there))
      by (free here) = inr (ap extent_offsets here)
