-- What holds of each extent of a sound VTOC's records holds of its data sets: their tracks lie below the end of the volume.
use Rattle.std.proofs.Common.{◌≡◌, ⊎_elim, inl, inr, ℕ, zero, suc, ◌<◌, ◌≤◌, List, [], ◌∷◌, ◌++◌, length, map, filter, Bool, true, false, not, ◌&&◌, Option, Some, None, refl, sym, ap, subst, ◌∙◌, arith}
use Rattle.std.specs.Prelude.{nat_le, nat_lt, find, All}
use Rattle.std.specs.List.{AllByRecursion, flat_map, list_any}
use Rattle.std.proofs.lemmas.Bool.{and_parts, or_parts, cases_Bool, cond_both, ltb-true, leb-true, true_from_ne_false, both_ways}
use Rattle.std.proofs.lemmas.List.Elements.{All-nil, All-append, All-map, All-filter, All-from_recursion, recursion_from_All}
use Rattle.std.proofs.lemmas.List.Sorted.{All-permutation}
use Rattle.ckd_image.specs.declared.track.Cchhr.{Cchhr}
use Rattle.free_map.specs.Runs.{HasTrack, InRuns}
use Rattle.free_map.proofs.Gaps.{in_append}
use Rattle.volume_model.specs.declared.format.Format.{Format}
use Rattle.volume_model.specs.declared.extent.ExtentField.{ExtentField}
use Rattle.volume_model.specs.Dscbs.{format_of, is_f1, is_f3, extents_of, pointer_in}
use Rattle.volume_model.specs.declared.place.Placed.{Placed}
use Rattle.volume_model.specs.Directory.{DirectoryRow, named_record, named_place, record_at, same_place, if_format, next_format_3, extended, chain_of, row_of, rows_of, AreInOrder}
use Rattle.volume_model.specs.Space.{track_at, is_run, run_of}
use Rattle.volume_model.specs.declared.place.Vtoc.{Vtoc}
use Rattle.volume_model.specs.Check.{breach, records_of, bad_ranges, breaches_of}
use Rattle.volume_model.specs.Sound.{Slots}
use Rattle.volume_model.specs.Unit.{Extent, DataSet, run_in, runs_of_sets}
use Rattle.volume_model.specs.Reads.{extent_in, IsDataSet, AreDataSets}
use Rattle.volume_model.specs.declared.rule.VtocRule.TheVariants as rules
use Rattle.volume_model.proofs.Filters.{filter_skip, filter_keep}
use Rattle.ckd_image.proofs.Lists.{map_nil}

-- ---- lists

pub filter_nil : {X : Type 0} (test : X → Bool) (xs : List X) → filter test xs ≡ [] → AllByRecursion (λ x. test x ≡ false) xs
filter_nil test [] e = tt
filter_nil test (x ∷ xs) e = elim (cases_Bool (test x)) [
  | inl passes ↦ (let shown : x ∷ filter test xs ≡ [] = sym (filter_keep test x xs passes) ∙ e in absurd (omega (arith, ap length shown)))
  | inr fails ↦ (fails, filter_nil test xs (sym (filter_skip test x xs fails) ∙ e))
]

none_not : {X : Type 0} (test : X → Bool) (xs : List X) → list_any (λ x. not (test x)) xs ≡ false → AllByRecursion (λ x. test x ≡ true) xs
none_not test [] e = tt
none_not test (x ∷ xs) e =
    let parts = or_parts (not (test x)) (list_any (λ x. not (test x)) xs) e in
    (true_from_ne_false (test x) (λ no. both_ways (not (test x)) parts.0 (ap not no)), none_not test xs parts.1)

pub weaker : {X : Type 0} (P Q : X → Type 0) → ((x : X) → P x → Q x) → (xs : List X) → AllByRecursion P xs → AllByRecursion Q xs
weaker P Q f [] all = tt
weaker P Q f (x ∷ xs) all = (f x all.0, weaker P Q f xs all.1)

pub flat_all : {X Y : Type 0} (P : Y → Type 0) (f : X → List Y) (xs : List X) → AllByRecursion (λ x. All P (f x)) xs → All P (flat_map f xs)
flat_all P f [] all = All-nil P
flat_all P f (x ∷ xs) all = All-append P (f x) (flat_map f xs) all.0 (flat_all P f xs all.1)

pub nil_parts : {X : Type 0} (xs ys : List X) → xs ++ ys ≡ [] → (xs ≡ []) × (ys ≡ [])
nil_parts [] ys e = (refl, e)
nil_parts (x ∷ xs) ys e = absurd (omega (arith, ap length e))

-- ---- what a search finds

abbrev Found : (Placed → Type 0) → Option Placed → Type 0
Found P None = Unit {0}
Found P (Some placed) = P placed

module _ (P : Placed → Type 0) where
  found_in : (test : Placed → Bool) (records : List Placed) → AllByRecursion P records → Found P (find test records)
  found_in test [] all = tt
  found_in test (placed ∷ records) all = cond_both (test placed) (Some placed) (find test records) (Found P) (λ yes. all.0) (λ no. found_in test records all.1)

  found_named : (heads : ℕ) (records : List Placed) (pointer : Option Cchhr) → AllByRecursion P records → Found P (named_record heads records pointer)
  found_named heads records None all = tt
  found_named heads records (Some pointer) all =
      cond_both (nat_lt pointer.at.head heads) (record_at records (named_place heads pointer)) None (Found P)
      (λ yes. found_in (λ placed. same_place placed.place (named_place heads pointer)) records all) (λ no. tt)

  found_format : (test : Format → Bool) (found : Option Placed) → Found P found → Found P (if_format test found)
  found_format test None is = tt
  found_format test (Some placed) is = cond_both (test (format_of placed.bytes)) (Some placed) None (Found P) (λ yes. is) (λ no. tt)

  behind : (heads : ℕ) (records : List Placed) (most : ℕ) → ((bytes : List ℕ) → AllByRecursion P (chain_of heads records most bytes)) → (found : Option Placed) → Found P found
      → AllByRecursion P (extended found (λ placed. chain_of heads records most placed.bytes))
  behind heads records most rest None is = tt
  behind heads records most rest (Some placed) is = (is, rest placed.bytes)

  pub chain_all : (heads : ℕ) (records : List Placed) → AllByRecursion P records → (most : ℕ) (bytes : List ℕ) → AllByRecursion P (chain_of heads records most bytes)
  chain_all heads records all zero bytes = tt
  chain_all heads records all (suc most) bytes =
      behind heads records most (λ next. chain_all heads records all most next) (next_format_3 heads records bytes)
      (found_format is_f3 (named_record heads records (pointer_in bytes)) (found_named heads records (pointer_in bytes) all))

-- ---- rows

abbrev pub IsRunBelow : ℕ → ℕ → ExtentField → Type 0
IsRunBelow heads limit field = is_run heads limit field ≡ true

-- the tracks of an extent that is a run
pub run_below : (heads limit : ℕ) (field : ExtentField) → is_run heads limit field ≡ true → (track : ℕ) → HasTrack (run_of heads field) track → track < limit
run_below heads limit field runs track holds =
    let first = track_at heads field.first in
    let last = track_at heads field.last in
    let parts = and_parts (nat_lt field.first.head heads && nat_lt field.last.head heads && nat_le first last) (nat_lt last limit) runs in
    let order : first ≤ last = leb-true first last (and_parts (nat_lt field.first.head heads && nat_lt field.last.head heads) (nat_le first last) parts.0).1 in
    let below : last < limit = ltb-true last limit parts.1 in
    omega (arith, holds.0, holds.1, order, below)

-- what holds of each extent of the records holds of each extent of the rows
module _ (Q : ExtentField → Type 0) where
  abbrev pub RecordHas : Placed → Type 0
  RecordHas placed = All Q (extents_of placed.bytes)

  abbrev pub RowHas : DirectoryRow → Type 0
  RowHas row = All Q row.extents

  row_has : (heads : ℕ) (records : List Placed) → AllByRecursion RecordHas records → (placed : Placed) → RecordHas placed → RowHas (row_of heads records placed)
  row_has heads records all placed here =
      let chain = chain_of heads records (length records) placed.bytes in
      All-append Q (extents_of placed.bytes) (flat_map (λ three. extents_of three.bytes) chain) here
      (flat_all Q (λ three. extents_of three.bytes) chain (chain_all RecordHas heads records all (length records) placed.bytes))

  rows_have : (heads : ℕ) (records : List Placed) → AllByRecursion RecordHas records → All RowHas (rows_of heads records)
  rows_have heads records all =
      let test : Placed → Bool = λ placed. is_f1 (format_of placed.bytes) in
      let P : Placed → Type 0 = λ placed. RowHas (row_of heads records placed) in
      All-map RowHas (row_of heads records) (filter test records) (All-filter test P records (All-from_recursion P records (weaker RecordHas P (row_has heads records all) records all)))

  pub order_has : (heads : ℕ) (records : List Placed) (rows : List DirectoryRow) → AreInOrder (rows_of heads records) rows → AllByRecursion RecordHas records → AllByRecursion RowHas rows
  order_has heads records rows order all = recursion_from_All RowHas rows (All-permutation RowHas (rows_of heads records) rows order.same (rows_have heads records all))

abbrev pub HasRuns : ℕ → ℕ → Placed → Type 0
HasRuns heads limit = RecordHas (IsRunBelow heads limit)

abbrev pub RowHasRuns : ℕ → ℕ → DirectoryRow → Type 0
RowHasRuns heads limit = RowHas (IsRunBelow heads limit)

-- of a volume that breaks no rule
pub records_runs : (vtoc : Vtoc) → breaches_of vtoc ≡ [] → AllByRecursion (HasRuns vtoc.heads vtoc.limit) (records_of vtoc)
records_runs vtoc sound =
    let test : Placed → Bool = λ placed. list_any (λ field. not (is_run vtoc.heads vtoc.limit field)) (extents_of placed.bytes) in
    let none : bad_ranges vtoc ≡ [] = (nil_parts _ _ (nil_parts _ _ (nil_parts _ _ sound).0).0).1 in
    weaker (λ placed. test placed ≡ false) (HasRuns vtoc.heads vtoc.limit)
    (λ placed no. All-from_recursion (IsRunBelow vtoc.heads vtoc.limit) (extents_of placed.bytes) (none_not (is_run vtoc.heads vtoc.limit) (extents_of placed.bytes) no))
    (records_of vtoc) (filter_nil test (records_of vtoc) (map_nil (breach rules.Range) (filter test (records_of vtoc)) none))

pub sound_rows : (vtoc : Vtoc) (rows : List DirectoryRow) → breaches_of vtoc ≡ [] → AreInOrder (rows_of vtoc.heads (records_of vtoc)) rows → AllByRecursion (RowHasRuns vtoc.heads vtoc.limit) rows
sound_rows vtoc rows sound order = order_has (IsRunBelow vtoc.heads vtoc.limit) vtoc.heads (records_of vtoc) rows order (records_runs vtoc sound)

-- ---- data sets

-- what each extent gives where it holds a track, the data sets give where one of them holds it
module _ (heads track : ℕ) (Q : ExtentField → Type 0) (R : Type 0) (each : (field : ExtentField) → Q field → HasTrack (run_of heads field) track → R) where
  fields_give : (fields : List ExtentField) → AllByRecursion Q fields → InRuns (map run_in (map (extent_in heads) fields)) track → R
  fields_give [] all holds = absurd holds
  fields_give (field ∷ fields) all (inl here) = each field all.0 here
  fields_give (field ∷ fields) all (inr there) = fields_give fields all.1 there

  set_gives : (place : ℕ → ℕ) (slots : Slots) (row : DirectoryRow) (set : DataSet) → IsDataSet heads place slots row set → RowHas Q row → InRuns (map run_in set.extents) track → R
  set_gives place slots row set is all holds =
      fields_give row.extents (recursion_from_All Q row.extents all) (subst (λ (extents : List Extent). InRuns (map run_in extents) track) is.extents_are holds)

  pub sets_give : (place : ℕ → ℕ) (slots : Slots) (rows : List DirectoryRow) (sets : List DataSet) → AreDataSets heads place slots rows sets → AllByRecursion (RowHas Q) rows
      → InRuns (runs_of_sets sets) track → R
  sets_give place slots [] [] are all holds = absurd holds
  sets_give place slots [] (set ∷ sets) are all holds = absurd are
  sets_give place slots (row ∷ rows) [] are all holds = absurd are
  sets_give place slots (row ∷ rows) (set ∷ sets) are all holds = ⊎_elim
      (λ here. set_gives place slots row set are.0 all.0 here)
      (λ there. sets_give place slots rows sets are.1 all.1 there)
      (in_append (map run_in set.extents) (runs_of_sets sets) track holds)

pub sets_below : (heads limit : ℕ) (place : ℕ → ℕ) (slots : Slots) (rows : List DirectoryRow) (sets : List DataSet) → AreDataSets heads place slots rows sets
    → AllByRecursion (RowHasRuns heads limit) rows → (track : ℕ) → InRuns (runs_of_sets sets) track → track < limit
sets_below heads limit place slots rows sets are runs track holds =
    sets_give heads track (IsRunBelow heads limit) (track < limit) (λ field is. run_below heads limit field is track) place slots rows sets are runs holds
