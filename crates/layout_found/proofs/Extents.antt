-- The extents of a VTOC that breaks no rule are apart.
use Rattle.std.proofs.Common.{◌≡◌, ◌⊎◌, List, [], ◌∷◌, ◌++◌, length, map, filter, Bool, true, false, Contains, refl, sym, ap, subst, ◌∙◌, inl, inr, arith}
use Rattle.std.specs.Prelude.{◌||◌, not, nat_le}
use Rattle.std.specs.List.{flat_map, list_any}
use Rattle.std.proofs.lemmas.Bool.{both_ways, cases_Bool, or_parts}
use borrow.Author.Tests.{leb-true}
use Rattle.free_map.specs.declared.run.Run.{Run}
use Rattle.volume_model.specs.declared.extent.ExtentField.{ExtentField}
use Rattle.volume_model.specs.declared.place.Placed.{Placed}
use Rattle.volume_model.specs.declared.place.Vtoc.{Vtoc}
use Rattle.volume_model.specs.declared.rule.VtocRule.TheVariants as rules
use Rattle.volume_model.specs.Dscbs.{extents_of}
use Rattle.volume_model.specs.Space.{overlap, is_run, run_of}
use Rattle.volume_model.specs.Check.{breach, records_of, own_runs, track_0, any_overlap, overlap_within, later_ones, bad_tracks, bad_dscbs, bad_names, bad_pointers, bad_fives, bad_ranges, bad_overlaps, bad_free, breaches_of}
use Rattle.vtoc_check.proofs.Marks.{passes_any}
use Rattle.vtoc_layout.specs.Layout.{Layout, AreApart, AreExtentsApart, records_in_set, extents_in_set, extents_by, runs_by}
use Rattle.vtoc_layout.specs.Layout.{AreDistinct}
use Rattle.vtoc_layout.proofs.Apart.{all_from, overlap_turned, apart_joined}
use Rattle.vtoc_layout.proofs.ExtentRules.{runs_at, runs_by_records}
use Rattle.vtoc_layout.proofs.Distinct.{at_first, in_later, from_flat, in_flat, filter_all}
use Rattle.layout_found.proofs.Members.{none_of}
use Rattle.layout_found.proofs.Unrelated.{AreUnrelated, unrelated, unrelated_two}
use Rattle.ckd_image.proofs.Lists.{left_nil, right_nil, map_nil}

-- ---- overlaps

none_any : {X : Type 0} (test : X → Bool) (xs : List X) (x : X) → list_any test xs ≡ false → Contains xs x → test x ≡ false
none_any test xs x e c = by (cases_Bool (test x))
  where
    by : ((test x ≡ true) ⊎ (test x ≡ false)) → test x ≡ false
    by (inl is) = absurd (both_ways (list_any test xs) e (passes_any test xs x c is))
    by (inr other) = other

no_overlap : (runs others : List Run) (run other : Run) → any_overlap runs others ≡ false → Contains runs run → Contains others other → overlap run other ≡ false
no_overlap runs others run other e c d = none_any (overlap run) others other (none_any (λ (r : Run). list_any (overlap r) others) runs run e c) d

apart_unrelated : (runs : List Run) → AreUnrelated overlap runs → AreApart runs
apart_unrelated [] h = tt
apart_unrelated (run ∷ runs) h = (all_from (λ (other : Run). overlap run other ≡ false) runs (λ other c. overlap_turned other run (h.0 other c)), apart_unrelated runs h.1)

is_by_not : (b : Bool) → not b ≡ false → b ≡ true
is_by_not true e = refl
is_by_not false e = (let q : true ≡ false = e in cc)

none_within : (runs : List Run) → overlap_within runs ≡ false → later_ones overlap runs ≡ []
none_within runs e = by (later_ones overlap runs) e
  where
    by : (found : List Run) → not (nat_le (length found) 0) ≡ false → found ≡ []
    by [] q = refl
    by (run ∷ found) q = absurd (omega (arith, leb-true (length (run ∷ found)) 0 (is_by_not (nat_le (length (run ∷ found)) 0) q)))

-- ---- where no rule is broken

no_bad_ranges : (vtoc : Vtoc) → breaches_of vtoc ≡ [] → bad_ranges vtoc ≡ []
no_bad_ranges vtoc e =
    let five = bad_tracks vtoc.run.first vtoc.tracks ++ bad_dscbs vtoc ++ bad_names vtoc ++ bad_pointers vtoc ++ bad_fives vtoc in
    right_nil five (bad_ranges vtoc) (left_nil (five ++ bad_ranges vtoc) (bad_overlaps vtoc) (left_nil (five ++ bad_ranges vtoc ++ bad_overlaps vtoc) (bad_free vtoc) e))

no_bad_overlaps : (vtoc : Vtoc) → breaches_of vtoc ≡ [] → bad_overlaps vtoc ≡ []
no_bad_overlaps vtoc e =
    let six = bad_tracks vtoc.run.first vtoc.tracks ++ bad_dscbs vtoc ++ bad_names vtoc ++ bad_pointers vtoc ++ bad_fives vtoc ++ bad_ranges vtoc in
    right_nil six (bad_overlaps vtoc) (left_nil (six ++ bad_overlaps vtoc) (bad_free vtoc) e)

in_range : (vtoc : Vtoc) → breaches_of vtoc ≡ [] → (placed : Placed) → Contains (records_of vtoc) placed → (extent : ExtentField) → Contains (extents_of placed.bytes) extent → is_run vtoc.heads vtoc.limit extent ≡ true
in_range vtoc sound placed there extent c =
    is_by_not (is_run vtoc.heads vtoc.limit extent)
    (none_any (λ (extent : ExtentField). not (is_run vtoc.heads vtoc.limit extent)) (extents_of placed.bytes) extent (none_of test (records_of vtoc) none placed there) c)
  where
    test : Placed → Bool
    test = λ placed. list_any (λ extent. not (is_run vtoc.heads vtoc.limit extent)) (extents_of placed.bytes)

    none : filter test (records_of vtoc) ≡ []
    none = map_nil (breach rules.Range) (filter test (records_of vtoc)) (no_bad_ranges vtoc sound)

own_whole : (vtoc : Vtoc) → breaches_of vtoc ≡ [] → (placed : Placed) → Contains (records_of vtoc) placed → own_runs vtoc placed ≡ runs_at vtoc.heads placed
own_whole vtoc sound placed there = ap (map (run_of vtoc.heads)) (filter_all (is_run vtoc.heads vtoc.limit) (extents_of placed.bytes) (in_range vtoc sound placed there))

abbrev with_own : Vtoc → Placed → Bool
with_own vtoc placed = any_overlap (own_runs vtoc placed) (track_0 ∷ vtoc.run ∷ []) || overlap_within (own_runs vtoc placed)

abbrev with_earlier_one : Vtoc → Placed → Placed → Bool
with_earlier_one vtoc later earlier = any_overlap (own_runs vtoc later) (own_runs vtoc earlier)

no_overlaps : (vtoc : Vtoc) → breaches_of vtoc ≡ [] → filter (with_own vtoc) (records_of vtoc) ++ later_ones (with_earlier_one vtoc) (records_of vtoc) ≡ []
no_overlaps vtoc sound = map_nil (breach rules.Overlap) (filter (with_own vtoc) (records_of vtoc) ++ later_ones (with_earlier_one vtoc) (records_of vtoc)) (no_bad_overlaps vtoc sound)

record IsApartAlone (vtoc : Vtoc) (placed : Placed) : Type 0 where
  off : any_overlap (runs_at vtoc.heads placed) (track_0 ∷ vtoc.run ∷ []) ≡ false
  apart : AreApart (runs_at vtoc.heads placed)

apart_alone : (vtoc : Vtoc) → breaches_of vtoc ≡ [] → (placed : Placed) → Contains (records_of vtoc) placed → IsApartAlone vtoc placed
apart_alone vtoc sound placed there =
    let none = left_nil (filter (with_own vtoc) (records_of vtoc)) (later_ones (with_earlier_one vtoc) (records_of vtoc)) (no_overlaps vtoc sound) in
    let parts = or_parts (any_overlap (own_runs vtoc placed) (track_0 ∷ vtoc.run ∷ [])) (overlap_within (own_runs vtoc placed)) (none_of (with_own vtoc) (records_of vtoc) none placed there) in
    record {
      off = ap (λ (runs : List Run). any_overlap runs (track_0 ∷ vtoc.run ∷ [])) (sym (own_whole vtoc sound placed there)) ∙ parts.0;
      apart = subst AreApart (own_whole vtoc sound placed there) (apart_unrelated (own_runs vtoc placed) (unrelated overlap (own_runs vtoc placed) (none_within (own_runs vtoc placed) parts.1)));
    }

-- runs of two records
apart_two : (vtoc : Vtoc) → breaches_of vtoc ≡ [] → (a b : Placed) → Contains (records_of vtoc) a → Contains (records_of vtoc) b → ¬ (a ≡ b)
    → (run other : Run) → Contains (runs_at vtoc.heads a) run → Contains (runs_at vtoc.heads b) other → overlap run other ≡ false
apart_two vtoc sound a b there_a there_b two run other c d = by (unrelated_two (with_earlier_one vtoc) (records_of vtoc) apart a b there_a there_b two)
  where
    apart : AreUnrelated (with_earlier_one vtoc) (records_of vtoc)
    apart = unrelated (with_earlier_one vtoc) (records_of vtoc) (right_nil (filter (with_own vtoc) (records_of vtoc)) (later_ones (with_earlier_one vtoc) (records_of vtoc)) (no_overlaps vtoc sound))

    own_a : Contains (own_runs vtoc a) run
    own_a = let P : List Run → Type 0 = λ runs. Contains runs run in subst P (sym (own_whole vtoc sound a there_a)) c

    own_b : Contains (own_runs vtoc b) other
    own_b = let P : List Run → Type 0 = λ runs. Contains runs other in subst P (sym (own_whole vtoc sound b there_b)) d

    by : ((with_earlier_one vtoc a b ≡ false) ⊎ (with_earlier_one vtoc b a ≡ false)) → overlap run other ≡ false
    by (inl e) = no_overlap (own_runs vtoc a) (own_runs vtoc b) run other e own_a own_b
    by (inr e) = overlap_turned other run (no_overlap (own_runs vtoc b) (own_runs vtoc a) other run e own_b own_a)

all_apart : (vtoc : Vtoc) → breaches_of vtoc ≡ [] → (placeds : List Placed) → AreDistinct placeds → ((placed : Placed) → Contains placeds placed → Contains (records_of vtoc) placed)
    → AreApart (flat_map (runs_at vtoc.heads) placeds)
all_apart vtoc sound [] d there = tt
all_apart vtoc sound (placed ∷ more) d there =
    apart_joined (runs_at vtoc.heads placed) (flat_map (runs_at vtoc.heads) more) (apart_alone vtoc sound placed (there placed (at_first placed more))).apart
    (all_apart vtoc sound more d.1 (λ p c. there p (in_later placed p more c)))
    (λ run other c e.
    let r = from_flat (runs_at vtoc.heads) more other e in
    let P : Placed → Type 0 = λ p. Contains more p in
    apart_two vtoc sound placed r.0 (there placed (at_first placed more)) (there r.0 (in_later placed r.0 more r.1)) (λ same. d.0 (subst P (sym same) r.1)) run other c r.2)

-- ---- the extents of a layout

pub extents_apart : (vtoc : Vtoc) (layout : Layout) → breaches_of vtoc ≡ [] → AreDistinct (flat_map records_in_set layout.sets)
    → ((placed : Placed) → Contains (flat_map records_in_set layout.sets) placed → Contains (records_of vtoc) placed) → AreExtentsApart vtoc layout
extents_apart vtoc layout sound once there = record {
  ranges = all_from (λ (extent : ExtentField). is_run vtoc.heads vtoc.limit extent ≡ true) (extents_by layout) range;
  off_track_0 = all_from (λ (run : Run). overlap run track_0 ≡ false) (runs_by vtoc.heads layout) (λ run c. off run track_0 c (0, omega arith, refl));
  off_vtoc = all_from (λ (run : Run). overlap run vtoc.run ≡ false) (runs_by vtoc.heads layout) (λ run c. off run vtoc.run c (1, omega arith, refl));
  apart = subst AreApart (sym (runs_by_records vtoc.heads layout)) (all_apart vtoc sound placeds once there);
}
  where
    placeds : List Placed
    placeds = flat_map records_in_set layout.sets

    range : (extent : ExtentField) → Contains (extents_by layout) extent → is_run vtoc.heads vtoc.limit extent ≡ true
    range extent c =
        let of_set = from_flat extents_in_set layout.sets extent c in
        let of_record = from_flat (λ (placed : Placed). extents_of placed.bytes) (records_in_set of_set.0) extent of_set.2 in
        in_range vtoc sound of_record.0 (there of_record.0 (in_flat records_in_set layout.sets of_set.0 of_record.0 of_set.1 of_record.1)) extent of_record.2

    off : (run other : Run) → Contains (runs_by vtoc.heads layout) run → Contains (track_0 ∷ vtoc.run ∷ []) other → overlap run other ≡ false
    off run other c d =
        let P : List Run → Type 0 = λ runs. Contains runs run in
        let r = from_flat (runs_at vtoc.heads) placeds run (subst P (runs_by_records vtoc.heads layout) c) in
        no_overlap (runs_at vtoc.heads r.0) (track_0 ∷ vtoc.run ∷ []) run other (apart_alone vtoc sound r.0 (there r.0 r.1)).off r.2 d
