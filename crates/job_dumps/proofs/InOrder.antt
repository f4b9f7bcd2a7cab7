-- Names that are picked of a loaded volume's rows are in the order of names, and their data sets can be counted.
use Rattle.std.proofs.Common.{◌≡◌, ◌≢◌, ◌⊎◌, inl, inr, ℕ, suc, ◌<◌, ◌≤◌, false, List, [], ◌∷◌, length, map, take, get_or, All, Contains, refl, sym, ap, subst, ◌∙◌, arith}
use Rattle.std.specs.Prelude.{IsTrue}
use Rattle.std.specs.List.{AllPairs}
use Rattle.std.specs.FinMap.{nat_cmp-IsAntisymmetric, slice_cmp-IsAntisymmetric}
use Rattle.std.proofs.Common.{Ordering}
use Rattle.std.specs.declared.cmp.Ordering.TheVariants.{Less, Equal, Greater}
use Rattle.std.specs.Ordering.{is_lt, nat_cmp, ordering_reverse}
use Rattle.std.specs.Cmp.{IsStrictWeakOrder}
use Rattle.std.specs.Cmp.Lexicographic.{slice_cmp}
use Rattle.std.proofs.Math.ListN.{get_or-map}
use Rattle.std.proofs.lemmas.Bool.{false≢true}
use Rattle.std.proofs.lemmas.Cmp.{nat_list_cmp_total}
use Rattle.std.proofs.lemmas.List.{get_or_default, length-map}
use Rattle.std.proofs.lemmas.List.MinMax.{ranks_by}
use Rattle.std.proofs.lemmas.List.Elements.{All-contains}
use Rattle.std.proofs.lemmas.List.Kept.{AllPairs-cons}
use Rattle.std.proofs.lemmas.List.Sorted.{sorted_far}
use Rattle.dsn_filter.specs.declared.dsn.Dsn.{Dsn}
use Rattle.volume_model.specs.Directory.{DirectoryRow, name_before}
use Rattle.vtoc_core.specs.declared.volume.Row.{Row}
use Rattle.vtoc_core.specs.declared.volume.Volume.{Volume}
use Rattle.vtoc_core.specs.Loaded.{HasItsName, row_in}
use Rattle.vtoc_layout.specs.Layout.{AreDistinct}
use Rattle.vtoc_layout.proofs.Apart.{all_from}
use Rattle.vtoc_layout.proofs.Distinct.{at_first, first_or_later, in_later, in_none}
use Rattle.ckd_image.proofs.Lists.{contains_map}
use Rattle.job_turns.specs.job_copies.step_plans.Plans.{IsSound}
use Rattle.job_turns.specs.job_copies.job_select.Selection.{ArePicked}
use Rattle.job_turns.proofs.job_copies.job_select.Counts.{rows_tracks_few}
use Rattle.job_turns.proofs.job_copies.job_select.RowNames.{differ_at}
use Rattle.job_turns.proofs.job_copies.step_plans.RowNames.{named, names_differ}
use Rattle.job_turns.proofs.job_copies.step_room.SoundRows.{one_row}
use Rattle.dump_fmt.specs.Front.{largest_count}
use Rattle.job_dumps.specs.Putting.{AreInOrder, HaveRows, IsBefore}

-- ---- some rows of others, in their order

abbrev IsSome : List Row → List Row → Type 0
IsSome rows [] = rows ≡ []
IsSome rows (first ∷ all) = ((more : List Row) × (rows ≡ first ∷ more) × IsSome more all) ⊎ IsSome rows all

some_in : (rows all : List Row) → IsSome rows all → (row : Row) → Contains rows row → Contains all row
some_in rows [] none row there = absurd (in_none row (subst (λ (l : List Row). Contains l row) none there))
some_in rows (first ∷ all) (inl (more, is, rest)) row there = elim (first_or_later first row more (subst (λ (l : List Row). Contains l row) is there)) [
  | inl here ↦ subst (Contains (first ∷ all)) here (at_first first all)
  | inr behind ↦ in_later first row all (some_in more all rest row behind)
]
some_in rows (first ∷ all) (inr rest) row there = in_later first row all (some_in rows all rest row there)

pairs_head : {X : Type 0} (R : X → X → Type 0) (x : X) (xs : List X) → AllPairs R (x ∷ xs) → All (R x) xs
pairs_head R x xs is = λ k d less. is 0 (suc k) d (omega arith) (omega (arith, less))

pairs_tail : {X : Type 0} (R : X → X → Type 0) (x : X) (xs : List X) → AllPairs R (x ∷ xs) → AllPairs R xs
pairs_tail R x xs is = λ i j d before within. is (suc i) (suc j) d (omega (arith, before)) (omega (arith, within))

some_pairs : (R : Row → Row → Type 0) (rows all : List Row) → IsSome rows all → AllPairs R all → AllPairs R rows
some_pairs R rows [] none is = subst (AllPairs R) (sym none) is
some_pairs R rows (first ∷ all) (inl (more, same, rest)) is =
    subst (AllPairs R) (sym same)
    (AllPairs-cons R first more (all_from (R first) more (λ row c. All-contains (R first) all row (pairs_head R first all is) (some_in more all rest row c)))
    (some_pairs R more all rest (pairs_tail R first all is)))
some_pairs R rows (first ∷ all) (inr rest) is = some_pairs R rows all rest (pairs_tail R first all is)

some_distinct : (rows all : List Row) → IsSome rows all → AreDistinct all → AreDistinct rows
some_distinct rows [] none is = subst (λ (l : List Row). AreDistinct l) (sym none) tt
some_distinct rows (first ∷ all) (inl (more, same, rest)) is =
    subst (λ (l : List Row). AreDistinct l) (sym same) ((λ c. is.0 (some_in more all rest first c)), some_distinct more all rest is.1)
some_distinct rows (first ∷ all) (inr rest) is = some_distinct rows all rest is.1

some_few : (rows all : List Row) → IsSome rows all → length rows ≤ length all
some_few rows [] none = omega (arith, ap length none)
some_few rows (first ∷ all) (inl (more, same, rest)) = omega (arith, ap length same, some_few more all rest)
some_few rows (first ∷ all) (inr rest) = omega (arith, some_few rows all rest)

-- the rows of names
record AreRows (volume : Volume) (all : List Row) (names : List Dsn) : Type 0 where
  rows : List Row
  have : HaveRows volume names rows
  some : IsSome rows all

rows_of : (volume : Volume) (all : List Row) (names : List Dsn) → ArePicked volume all names → AreRows volume all names
rows_of volume [] names none = record { rows = []; have = subst (λ (l : List Dsn). HaveRows volume l []) (sym none) tt; some = refl }
rows_of volume (row ∷ all) names (inl (name, more, same, has, rest)) =
    let found = rows_of volume all more rest in
    record { rows = row ∷ found.rows; have = subst (λ (l : List Dsn). HaveRows volume l (row ∷ found.rows)) (sym same) (has, found.have); some = inl (found.rows, refl, found.some) }
rows_of volume (row ∷ all) names (inr rest) = let found = rows_of volume all names rest in record { rows = found.rows; have = found.have; some = inr found.some }

-- ---- the order of names

-- one that doesn't come behind another and isn't it comes before it
before_from : (a b : List ℕ) (found : Ordering) → slice_cmp nat_cmp a b ≡ found → is_lt (slice_cmp nat_cmp b a) ≡ false → a ≢ b → IsTrue (is_lt found)
before_from a b Less is not differ = refl
before_from a b Equal is not differ = absurd (differ (slice_cmp-IsAntisymmetric nat_cmp-IsAntisymmetric a b is))
before_from a b Greater is not differ =
    let back : slice_cmp nat_cmp b a ≡ Less = nat_list_cmp_total.antisymm b a ∙ ap ordering_reverse is in
    absurd (false≢true (sym not ∙ ap is_lt back))

module _ (volume : Volume) (sound : IsSound volume) where
  names_are : All HasItsName volume.rows
  names_are = sound.3.loaded.volume.names_are

  weak : IsStrictWeakOrder name_before
  weak = ranks_by nat_list_cmp_total (λ (row : DirectoryRow). take 44 row.format_1)

  -- a row's name is the front of its format 1
  front_is : (row : Row) → Contains volume.rows row → take 44 row.f1 ≡ row.name
  front_is row there = sym (All-contains HasItsName volume.rows row names_are there)

  row_at : (k : ℕ) (d : Row) → k < length volume.rows → get_or (map row_in volume.rows) k (row_in d) ≡ row_in (get_or volume.rows k d)
  row_at k d less = get_or-map row_in volume.rows k d

  in_order : AllPairs (λ row other. IsBefore row.name other.name) volume.rows
  in_order = λ i j d before within.
      let one = get_or volume.rows i d in
      let two = get_or volume.rows j d in
      let here : Contains volume.rows one = (i, omega (arith, before, within), get_or_default volume.rows i one d (omega (arith, before, within))) in
      let there : Contains volume.rows two = (j, within, get_or_default volume.rows j two d within) in
      let later : name_before (row_in two) (row_in one) ≡ false =
      subst (λ (r : DirectoryRow). name_before r (row_in one) ≡ false) (row_at j d within)
      (subst (λ (r : DirectoryRow). name_before (get_or (map row_in volume.rows) j (row_in d)) r ≡ false) (row_at i d (omega (arith, before, within)))
      (sorted_far name_before weak (map row_in volume.rows) sound.3.loaded.volume.rows_are.order i j (row_in d) (omega (arith, before)) (omega (arith, within, length-map volume.rows row_in)))) in
      let not : is_lt (slice_cmp nat_cmp two.name one.name) ≡ false =
      subst (λ (name : List ℕ). is_lt (slice_cmp nat_cmp name one.name) ≡ false) (front_is two there)
      (subst (λ (name : List ℕ). is_lt (slice_cmp nat_cmp (take 44 two.f1) name) ≡ false) (front_is one here) later) in
      before_from one.name two.name (slice_cmp nat_cmp one.name two.name) refl not
      (differ_at volume.rows i j one two (names_differ volume sound) before within here.2 there.2)

  rows_distinct : AreDistinct volume.rows
  rows_distinct = by volume.rows (names_differ volume sound)
    where
      by : (rows : List Row) → AreDistinct (map named rows) → AreDistinct rows
      by [] apart = tt
      by (row ∷ rows) apart = ((λ c. apart.0 (contains_map named rows row c)), by rows apart.1)

  -- names that are picked of its rows are in order
  pub picked_in_order : (names : List Dsn) → length volume.rows ≤ largest_count → ArePicked volume volume.rows names → AreInOrder volume names
  picked_in_order names few picked =
      let found = rows_of volume volume.rows names picked in
      let there : (row : Row) → Contains found.rows row → Contains volume.rows row = some_in found.rows volume.rows found.some in
      record {
        rows = found.rows;
        have = found.have;
        order = some_pairs (λ row other. IsBefore row.name other.name) found.rows volume.rows found.some in_order;
        few = omega (arith, few, some_few found.rows volume.rows found.some);
        few_tracks =
            omega (
              arith,
              rows_tracks_few volume sound found.rows (some_distinct found.rows volume.rows found.some rows_distinct) there
                  (λ row other c d differ same. differ (one_row volume sound row other (there row c) (there other d) same)),
            );
      }
