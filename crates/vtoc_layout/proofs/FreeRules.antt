-- The entries of the format 5s of a VTOC are those of its layout, and state the free tracks.
use Rattle.std.proofs.Common.{◌≡◌, ◌⊎◌, ℕ, ◌+◌, ◌<◌, ◌≤◌, max, ◌||◌, ◌&&◌, ◌==◌, List, [], ◌∷◌, ◌++◌, not, Bool, true, false, Contains, refl, sym, ap, subst, ◌∙◌, arith, inl, inr}
use Rattle.std.specs.Prelude.{nat_lt, nat_le, fold, if◌then◌else◌}
use Rattle.std.specs.List.{list_all, list_any}
use Rattle.std.specs.List.Sorted.{IsPermutation}
use Rattle.std.proofs.lemmas.Bool.{both_ways, and_parts, and_right, cases_lt, eq-eqb, lt-ltb, le-ltb, le-leb, ltb-true}
use Rattle.std.proofs.lemmas.List.Elements.{All-contains}
use Rattle.std.proofs.lemmas.List.Sorted.{Contains-permutation, IsPermutation-sym, IsPermutation-cons, IsPermutation-append, list_any-IsPermutation}
use Rattle.free_map.specs.declared.run.Run.{Run}
use Rattle.free_map.specs.Runs.{HasTrack, InRuns, AreApart as AreSpaced}
use Rattle.volume_model.specs.declared.place.Breach.{Breach}
use Rattle.volume_model.specs.declared.place.Placed.{Placed}
use Rattle.volume_model.specs.declared.place.Vtoc.{Vtoc}
use Rattle.volume_model.specs.declared.rule.VtocRule.TheVariants as rules
use Rattle.volume_model.specs.Dscbs.{numbers_below}
use Rattle.volume_model.specs.Space.{end_of, has_track, overlap, runs_of, entries_of, greatest_end, usable_of, is_used}
use Rattle.volume_model.specs.Check.{records_of, fives_of, track_0, extents_in, entries_in, usable_in, states_free, bad_free}
use Rattle.volume_model.proofs.Filters.{all_below}
use Rattle.vtoc_check.specs.Sized.{IsSized}
use Rattle.vtoc_check.specs.Tracks.{HasTracks}
use Rattle.vtoc_check.proofs.Marks.{passes_any}
use Rattle.vtoc_check.proofs.Overlapping.{flat_all, runs_have}
use Rattle.vtoc_layout.specs.Layout.{AreApart, AreExtentsApart, AreEntriesRight, Layout, IsLayoutOf, runs_by, entries_by, usable_by}
use Rattle.vtoc_layout.proofs.Distinct.{at_first, in_later, first_or_later, in_none, flat_permuted}
use Rattle.vtoc_layout.proofs.Apart.{NoneShared, none_overlap, none_within, all_from, apart_each, apart_two, apart_flat}
use Rattle.vtoc_layout.proofs.Uses.{distinct_f5s, distinct_fives, same_fives}
use Rattle.vtoc_layout.proofs.ExtentRules.{extents_permuted}
use Rattle.volume_model.proofs.Numbers.{grows}

-- ---- runs in ascending order

starts_after : (from : ℕ) (runs : List Run) (run : Run) → AreSpaced from runs → Contains runs run → from ≤ run.first
starts_after from [] run h c = absurd (in_none run c)
starts_after from (first ∷ runs) run h c = by (starts_after (first.first + first.len + 1) runs run h.2) (first_or_later first run runs c)
  where
    by : (Contains runs run → first.first + first.len + 1 ≤ run.first) → ((first ≡ run) ⊎ Contains runs run) → from ≤ run.first
    by later (inl same) = omega (arith, h.0, ap (λ (r : Run). r.first) same)
    by later (inr there) = omega (arith, h.0, later there)

spaced_apart : (from : ℕ) (runs : List Run) → AreSpaced from runs → AreApart runs
spaced_apart from [] h = tt
spaced_apart from (run ∷ runs) h = (all_from (λ other. overlap run other ≡ false) runs behind, spaced_apart (run.first + run.len + 1) runs h.2)
  where
    behind : (other : Run) → Contains runs other → overlap run other ≡ false
    behind other c =
        and_right (nat_lt run.first (end_of other)) (nat_lt other.first (end_of run))
        (le-ltb other.first (end_of run) (omega (arith, starts_after (run.first + run.len + 1) runs other h.2 c)))

pub has_some : (from : ℕ) (runs : List Run) (run : Run) → AreSpaced from runs → Contains runs run → 1 ≤ run.len
has_some from [] run h c = absurd (in_none run c)
has_some from (first ∷ runs) run h c = by (has_some (first.first + first.len + 1) runs run h.2) (first_or_later first run runs c)
  where
    by : (Contains runs run → 1 ≤ run.len) → ((first ≡ run) ⊎ Contains runs run) → 1 ≤ run.len
    by later (inl same) = omega (arith, h.1, ap (λ (r : Run). r.len) same)
    by later (inr there) = later there

pub held_in : (runs : List Run) (run : Run) (track : ℕ) → Contains runs run → HasTrack run track → InRuns runs track
held_in [] run track c h = absurd (in_none run c)
held_in (first ∷ runs) run track c h = by (λ there. held_in runs run track there h) (first_or_later first run runs c)
  where
    by : (Contains runs run → InRuns runs track) → ((first ≡ run) ⊎ Contains runs run) → HasTrack first track ⊎ InRuns runs track
    by later (inl same) = let P : Run → Type 0 = λ r. HasTrack r track in inl (subst P (sym same) h)
    by later (inr there) = inr (later there)

pub held_by : (runs : List Run) (track : ℕ) → InRuns runs track → (run : Run) × Contains runs run × HasTrack run track
held_by [] track h = absurd h
held_by (run ∷ runs) track (inl h) = (run, at_first run runs, h)
held_by (run ∷ runs) track (inr h) = let r = held_by runs track h in (r.0, in_later run r.0 runs r.1, r.2)

pub held_has : (run : Run) (track : ℕ) → HasTrack run track → has_track track run ≡ true
held_has run track h = (λ i. le-leb run.first track h.0 i && lt-ltb track (end_of run) h.1 i)

pub in_runs_any : (runs : List Run) (track : ℕ) → InRuns runs track → list_any (has_track track) runs ≡ true
in_runs_any [] track h = absurd h
in_runs_any (run ∷ runs) track (inl h) = ap (λ (b : Bool). b || list_any (has_track track) runs) (held_has run track h)
in_runs_any (run ∷ runs) track (inr h) = ap (λ (b : Bool). has_track track run || b) (in_runs_any runs track h) ∙ or_true (has_track track run)
  where
    or_true : (b : Bool) → (b || true) ≡ true
    or_true true = refl
    or_true false = refl

-- two runs with tracks that overlap have one in common
pub shared_track : (a b : Run) → 1 ≤ a.len → 1 ≤ b.len → overlap a b ≡ true → (track : ℕ) × HasTrack a track × HasTrack b track
shared_track a b p q e = by (cases_lt a.first b.first)
  where
    parts : (nat_lt a.first (end_of b) ≡ true) × (nat_lt b.first (end_of a) ≡ true)
    parts = and_parts (nat_lt a.first (end_of b)) (nat_lt b.first (end_of a)) e

    before : a.first < end_of b
    before = ltb-true a.first (end_of b) parts.0

    after : b.first < end_of a
    after = ltb-true b.first (end_of a) parts.1

    by : ((a.first < b.first) ⊎ (b.first ≤ a.first)) → (track : ℕ) × HasTrack a track × HasTrack b track
    by (inl less) = (b.first, (omega (arith, less), omega (arith, after)), (omega arith, omega (arith, q)))
    by (inr more) = (a.first, (omega arith, omega (arith, p)), (omega (arith, more), omega (arith, before)))

-- ---- the greatest end

pub at_most : (limit a : ℕ) (runs : List Run) → a ≤ limit → ((run : Run) → Contains runs run → end_of run ≤ limit) → fold (λ end run. max end (end_of run)) a runs ≤ limit
at_most limit a [] le h = le
at_most limit a (run ∷ runs) le h = at_most limit (max a (end_of run)) runs (omega (arith, le, h run (at_first run runs))) (λ other c. h other (in_later run other runs c))

pub each_end : (a : ℕ) (runs : List Run) (run : Run) → Contains runs run → end_of run ≤ fold (λ end run. max end (end_of run)) a runs
each_end a [] run c = absurd (in_none run c)
each_end a (first ∷ runs) run c = by (each_end (max a (end_of first)) runs run) (first_or_later first run runs c)
  where
    by : (Contains runs run → end_of run ≤ fold (λ end run. max end (end_of run)) (max a (end_of first)) runs) → ((first ≡ run) ⊎ Contains runs run)
        → end_of run ≤ fold (λ end run. max end (end_of run)) (max a (end_of first)) runs
    by later (inl same) = omega (arith, grows (max a (end_of first)) runs, ap end_of same)
    by later (inr there) = later there

pub greatest_le : (xs ys : List Run) → IsPermutation xs ys → greatest_end xs ≤ greatest_end ys
greatest_le xs ys p = at_most (greatest_end ys) 1 xs (grows 1 ys) (λ run c. each_end 1 ys run (Contains-permutation xs ys run p c))

greatest_same : (xs ys : List Run) → IsPermutation xs ys → greatest_end xs ≡ greatest_end ys
greatest_same xs ys p = omega (arith, greatest_le xs ys p, greatest_le ys xs (IsPermutation-sym xs ys p))

pub all_pass : {X : Type 0} (test : X → Bool) (xs : List X) → ((x : X) → Contains xs x → test x ≡ true) → list_all test xs ≡ true
all_pass test [] h = refl
all_pass test (x ∷ xs) h = (λ i. h x (at_first x xs) i && all_pass test xs (λ y c. h y (in_later x y xs c)) i)

-- ---- used tracks

used_0 : (vtoc : Run) (extents : List Run) (track : ℕ) → HasTrack track_0 track → is_used vtoc extents track ≡ true
used_0 vtoc extents track h = ap (λ (b : Bool). b || has_track track vtoc || list_any (has_track track) extents) (eq-eqb track 0 (omega (arith, h.1)))

used_by_vtoc : (vtoc : Run) (extents : List Run) (track : ℕ) → HasTrack vtoc track → is_used vtoc extents track ≡ true
used_by_vtoc vtoc extents track h =
    ap (λ (b : Bool). (track == 0) || b || list_any (has_track track) extents) (held_has vtoc track h) ∙ either (track == 0) (list_any (has_track track) extents)
  where
    either : (a b : Bool) → (a || true || b) ≡ true
    either true b = refl
    either false b = refl

used_by_extent : (vtoc : Run) (extents : List Run) (track : ℕ) (run : Run) → Contains extents run → HasTrack run track → is_used vtoc extents track ≡ true
used_by_extent vtoc extents track run c h =
    ap (λ (b : Bool). (track == 0) || has_track track vtoc || b) (passes_any (has_track track) extents run c (held_has run track h)) ∙ either (track == 0) (has_track track vtoc)
  where
    either : (a b : Bool) → (a || b || true) ≡ true
    either true b = refl
    either false true = refl
    either false false = refl

module _ (vtoc : Vtoc) (layout : Layout) (sized : IsSized vtoc) (is : IsLayoutOf vtoc layout) where
  abbrev entries_at : Placed → List Run
  entries_at five = entries_of vtoc.heads five.bytes

  pub entries_permuted : IsPermutation (entries_in vtoc) (entries_by vtoc.heads layout)
  entries_permuted =
      flat_permuted entries_at (fives_of vtoc) layout.fives (distinct_f5s vtoc layout sized is) (distinct_fives vtoc layout sized is) (same_fives vtoc layout sized is)

  module _ (apart : AreExtentsApart vtoc layout) (valid : vtoc.valid ≡ true) (right : AreEntriesRight vtoc layout) where
    abbrev extents : List Run
    extents = runs_by vtoc.heads layout

    abbrev entries : List Run
    entries = entries_by vtoc.heads layout

    extents_same : IsPermutation (extents_in vtoc) extents
    extents_same = extents_permuted vtoc layout sized is apart

    entry_there : (run : Run) → Contains (entries_in vtoc) run → Contains entries run
    entry_there run c = Contains-permutation (entries_in vtoc) entries run entries_permuted c

    extent_there : (run : Run) → Contains (extents_in vtoc) run → Contains extents run
    extent_there run c = Contains-permutation (extents_in vtoc) extents run extents_same c

    usable_same : usable_in vtoc ≡ usable_by vtoc layout
    usable_same = at (extents_in vtoc) (entries_in vtoc) ∙ greatest_same (vtoc.run ∷ (extents_in vtoc ++ entries_in vtoc)) (vtoc.run ∷ (extents ++ entries)) moved ∙ sym (at extents entries)
      where
        at : (some others : List Run) → usable_of vtoc.valid vtoc.heads vtoc.limit vtoc.alternates vtoc.run some others ≡ greatest_end (vtoc.run ∷ (some ++ others))
        at some others = ap (λ (b : Bool). usable_of b vtoc.heads vtoc.limit vtoc.alternates vtoc.run some others) valid

        moved : IsPermutation (vtoc.run ∷ (extents_in vtoc ++ entries_in vtoc)) (vtoc.run ∷ (extents ++ entries))
        moved =
            IsPermutation-cons vtoc.run (extents_in vtoc ++ entries_in vtoc) (extents ++ entries)
            (IsPermutation-append (extents_in vtoc) extents (entries_in vtoc) entries extents_same entries_permuted)

    -- ---- the entries lie on the volume, and apart

    none_behind : list_all (λ entry. nat_le (end_of entry) vtoc.limit) (entries_in vtoc) ≡ true
    none_behind =
        all_pass (λ entry. nat_le (end_of entry) vtoc.limit) (entries_in vtoc)
        (λ run c. le-leb (end_of run) vtoc.limit (All-contains (λ (entry : Run). end_of entry ≤ vtoc.limit) entries run right.within (entry_there run c)))

    parts_apart : AreApart entries
    parts_apart = spaced_apart 0 entries right.runs.apart

    entries_apart : AreApart (entries_in vtoc)
    entries_apart =
        apart_flat entries_at (fives_of vtoc) (distinct_f5s vtoc layout sized is) (λ five c. apart_each entries_at layout.fives five parts_apart (listed five c))
        (λ a b p q differ. apart_two entries_at layout.fives a b parts_apart (listed a p) (listed b q) differ)
      where
        listed : (five : Placed) → Contains (fives_of vtoc) five → Contains layout.fives five
        listed five c = (same_fives vtoc layout sized is).there five c

    -- ---- no entry has a used track

    stated_unused : (track : ℕ) → InRuns entries track → is_used vtoc.run extents track ≡ false
    stated_unused track h =
        not_true (is_used vtoc.run extents track) (and_parts (nat_lt track (usable_by vtoc layout)) (not (is_used vtoc.run extents track)) ((right.runs.exact track).1 h)).1
      where
        not_true : (b : Bool) → not b ≡ true → b ≡ false
        not_true false e = refl
        not_true true e = absurd (both_ways false refl e)

    some_extent : (run : Run) → Contains (extents_in vtoc) run → 1 ≤ run.len
    some_extent run c = All-contains HasTracks (extents_in vtoc) run (flat_all HasTracks (λ placed. runs_of vtoc.heads vtoc.limit placed.bytes) (λ placed. runs_have vtoc.heads vtoc.limit placed.bytes) (records_of vtoc)) c

    off_used : (a b : Run) → Contains (entries_in vtoc) a → 1 ≤ b.len → ((track : ℕ) → HasTrack b track → is_used vtoc.run extents track ≡ true) → overlap a b ≡ false
    off_used a b c some used = by (overlap a b) refl
      where
        there : Contains entries a
        there = entry_there a c

        by : (t : Bool) → overlap a b ≡ t → t ≡ false
        by false e = refl
        by true e =
            let at = shared_track a b (has_some 0 entries a right.runs.apart there) some e in
            absurd (both_ways (is_used vtoc.run extents at.0) (stated_unused at.0 (held_in entries a at.0 there at.1)) (used at.0 at.2))

    none_used : NoneShared (entries_in vtoc) (track_0 ∷ vtoc.run ∷ extents_in vtoc)
    none_used a b p q = first (first_or_later track_0 b (vtoc.run ∷ extents_in vtoc) q)
      where
        at : (run : Run) → run ≡ b → 1 ≤ run.len → ((track : ℕ) → HasTrack run track → is_used vtoc.run extents track ≡ true) → overlap a b ≡ false
        at run same some used = ap (overlap a) (sym same) ∙ off_used a run p some used

        second : ((vtoc.run ≡ b) ⊎ Contains (extents_in vtoc) b) → overlap a b ≡ false
        second (inl same) = at vtoc.run same sized.run_has (used_by_vtoc vtoc.run extents)
        second (inr there) = off_used a b p (some_extent b there) (λ track h. used_by_extent vtoc.run extents track b (extent_there b there) h)

        first : ((track_0 ≡ b) ⊎ Contains (vtoc.run ∷ extents_in vtoc) b) → overlap a b ≡ false
        first (inl same) = at track_0 same (omega arith) (used_0 vtoc.run extents)
        first (inr later) = second (first_or_later vtoc.run b (extents_in vtoc) later)

    -- ---- each usable track is used or stated free

    each_stated : (track : ℕ) → track < usable_in vtoc → (is_used vtoc.run (extents_in vtoc) track || list_any (has_track track) (entries_in vtoc)) ≡ true
    each_stated track lt = (λ i. used_same i || stated_same i) ∙ by (is_used vtoc.run extents track) refl
      where
        used_same : is_used vtoc.run (extents_in vtoc) track ≡ is_used vtoc.run extents track
        used_same = ap (λ (b : Bool). (track == 0) || has_track track vtoc.run || b) (list_any-IsPermutation (has_track track) (extents_in vtoc) extents extents_same)

        stated_same : list_any (has_track track) (entries_in vtoc) ≡ list_any (has_track track) entries
        stated_same = list_any-IsPermutation (has_track track) (entries_in vtoc) entries entries_permuted

        by : (t : Bool) → is_used vtoc.run extents track ≡ t → (t || list_any (has_track track) entries) ≡ true
        by true e = refl
        by false e =
            let below : nat_lt track (usable_by vtoc layout) ≡ true = lt-ltb track (usable_by vtoc layout) (omega (arith, lt, usable_same)) in
            in_runs_any entries track ((right.runs.exact track).0 (λ i. below i && not (e i)))

    free_stated : states_free vtoc.limit vtoc.run (extents_in vtoc) (entries_in vtoc) (usable_in vtoc) ≡ true
    free_stated =
        let all : list_all (λ track. is_used vtoc.run (extents_in vtoc) track || list_any (has_track track) (entries_in vtoc)) (numbers_below (usable_in vtoc)) ≡ true =
        all_below (λ track. is_used vtoc.run (extents_in vtoc) track || list_any (has_track track) (entries_in vtoc)) (usable_in vtoc) each_stated in
        (λ i. none_behind i && not (none_within (entries_in vtoc) entries_apart i) && not (none_overlap (entries_in vtoc) (track_0 ∷ vtoc.run ∷ extents_in vtoc) none_used i) && all i)

  pub no_bad_free : AreExtentsApart vtoc layout → (vtoc.valid ≡ true → AreEntriesRight vtoc layout) → bad_free vtoc ≡ []
  no_bad_free apart right = by vtoc.valid refl
    where
      free : Breach
      free = record { place = vtoc.format_4; rule = rules.Free }

      by : (t : Bool) → vtoc.valid ≡ t
          → (if t && not (states_free vtoc.limit vtoc.run (extents_in vtoc) (entries_in vtoc) (usable_in vtoc)) then free ∷ [] else []) ≡ []
      by false e = refl
      by true e = ap (λ (b : Bool). if not b then free ∷ [] else []) (free_stated apart e (right e))
