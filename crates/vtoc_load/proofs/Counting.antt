-- How many records of a VTOC that breaks no rule are used.
use Rattle.std.proofs.Common.{◌≡◌, ℕ, ◌+◌, List, [], ◌∷◌, length, map, filter, Bool, true, false, cond, Contains, refl, ap, subst, arith, length-append}
use Rattle.std.specs.Prelude.{◌||◌, ◌&&◌, not}
use Rattle.std.specs.List.{flat_map, fold, sum_by}
use Rattle.std.proofs.lemmas.List.Sorted.{sum_by-IsPermutation}
use Rattle.std.proofs.lemmas.List.Sums.{sum_by-cons}
use Rattle.volume_model.specs.declared.format.Format.{Format}
use Rattle.volume_model.specs.declared.format.Format.TheVariants.{Broken, Free, F1, F3, F4, F5}
use Rattle.volume_model.specs.declared.place.Placed.{Placed}
use Rattle.volume_model.specs.declared.place.Vtoc.{Vtoc}
use Rattle.volume_model.specs.declared.rule.VtocRule.TheVariants as rules
use Rattle.volume_model.specs.Dscbs.{format_of, is_f1, is_f3, is_f4, is_f5, is_broken, is_free_dscb}
use Rattle.volume_model.specs.Directory.{DirectoryRow, same_place, row_of, rows_of, AreInOrder}
use Rattle.volume_model.specs.Check.{breach, records_of, fives_of, breaches_of}
use Rattle.vtoc_check.specs.Places.{AreShort}
use Rattle.vtoc_core.specs.declared.volume.Row.{Row}
use Rattle.vtoc_core.specs.Loaded.{row_in, records_for}
use Rattle.vtoc_layout.proofs.Distinct.{in_none, in_filter, at_first, in_later}
use Rattle.vtoc_load.specs.LoadedVtoc.{free_records_of}
use Rattle.vtoc_load.specs.Counted.{fours_of}
use Rattle.vtoc_load.proofs.Chains.{chain_at, chains_apart, no_bad_dscbs}
use Rattle.ckd_image.proofs.Lists.{map_nil}

-- ---- each record has one format

one_more : {X : Type 0} (test : X → Bool) (x : X) (xs : List X) → length (filter test (x ∷ xs)) ≡ cond (test x) 1 0 + length (filter test xs)
one_more {X} test x xs = by (test x)
  where
    by : (t : Bool) → length (cond t (x ∷ filter test xs) (filter test xs)) ≡ cond t 1 0 + length (filter test xs)
    by true = omega arith
    by false = omega arith

one_format : (f : Format) → is_broken f ≡ false → cond (is_free_dscb f) 1 0 + cond (is_f4 f) 1 0 + cond (is_f5 f) 1 0 + cond (is_f1 f) 1 0 + cond (is_f3 f) 1 0 ≡ 1
one_format Broken e = let q : true ≡ false = e in cc
one_format Free e = refl
one_format F1 e = refl
one_format F3 e = refl
one_format F4 e = refl
one_format F5 e = refl

abbrev of_format : (Format → Bool) → List Placed → List Placed
of_format test records = filter (λ placed. test (format_of placed.bytes)) records

by_formats : (records : List Placed) → ((placed : Placed) → Contains records placed → is_broken (format_of placed.bytes) ≡ false)
    → length (of_format is_free_dscb records) + length (of_format is_f4 records) + length (of_format is_f5 records) + length (of_format is_f1 records) + length (of_format is_f3 records) ≡ length records
by_formats [] h = refl
by_formats (placed ∷ records) h =
    omega (
      arith,
      one_more (λ (p : Placed). is_free_dscb (format_of p.bytes)) placed records,
      one_more (λ (p : Placed). is_f4 (format_of p.bytes)) placed records,
      one_more (λ (p : Placed). is_f5 (format_of p.bytes)) placed records,
      one_more (λ (p : Placed). is_f1 (format_of p.bytes)) placed records,
      one_more (λ (p : Placed). is_f3 (format_of p.bytes)) placed records,
      one_format (format_of placed.bytes) (h placed (at_first placed records)),
      by_formats records (λ p c. h p (in_later placed p records c)),
    )

-- ---- no record is broken

pub none_broken : (vtoc : Vtoc) → breaches_of vtoc ≡ [] → (placed : Placed) → Contains (records_of vtoc) placed → is_broken (format_of placed.bytes) ≡ false
none_broken vtoc e placed there = by (is_broken (format_of placed.bytes)) refl
  where
    test : Placed → Bool
    test = λ p. is_broken (format_of p.bytes) || (is_f4 (format_of p.bytes) && not (same_place p.place vtoc.format_4))

    none : filter test (records_of vtoc) ≡ []
    none = map_nil (breach rules.Dscb) (filter test (records_of vtoc)) (no_bad_dscbs vtoc e)

    by : (t : Bool) → is_broken (format_of placed.bytes) ≡ t → t ≡ false
    by false q = refl
    by true q =
        let P : List Placed → Type 0 = λ ps. Contains ps placed in
        absurd (in_none placed (subst P none (in_filter test (records_of vtoc) placed there (ap (λ (t : Bool). t || (is_f4 (format_of placed.bytes) && not (same_place placed.place vtoc.format_4))) q))))

-- ---- the records of data sets

abbrev uses : DirectoryRow → ℕ
uses row = 1 + row.threes

rows_use : (heads : ℕ) (records starts : List Placed) → sum_by uses (map (row_of heads records) starts) ≡ length starts + length (flat_map (chain_at heads records) starts)
rows_use heads records [] = refl
rows_use heads records (a ∷ starts) =
    omega (
      arith,
      sum_by-cons uses (row_of heads records a) (map (row_of heads records) starts),
      rows_use heads records starts,
      length-append (chain_at heads records a) (flat_map (chain_at heads records) starts),
    )

same_uses : (n : ℕ) (rows : List Row) → fold (λ sum row. sum + records_for row) n rows ≡ fold (λ sum row. sum + uses row) n (map row_in rows)
same_uses n [] = refl
same_uses n (row ∷ rows) = same_uses (n + records_for row) rows

-- ---- all of them

pub counted : (vtoc : Vtoc) (rows : List Row) → AreShort vtoc.tracks → breaches_of vtoc ≡ [] → AreInOrder (rows_of vtoc.heads (records_of vtoc)) (map row_in rows)
    → length (free_records_of vtoc) + length (fours_of vtoc) + length (fives_of vtoc) + sum_by records_for rows ≡ length (records_of vtoc)
counted vtoc rows short none order =
    let records = records_of vtoc in
    let starts = of_format is_f1 records in
    omega (
      arith,
      by_formats records (none_broken vtoc none),
      same_uses 0 rows,
      sum_by-IsPermutation uses (rows_of vtoc.heads records) (map row_in rows) order.same,
      rows_use vtoc.heads records starts,
      (chains_apart vtoc short none).count,
    )
