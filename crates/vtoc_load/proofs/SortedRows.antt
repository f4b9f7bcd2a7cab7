-- The rows of data sets by their format 1s.
use Rattle.std.proofs.Common.{◌≡◌, ℕ, zero, suc, ◌+◌, ◌<◌, ◌≤◌, List, [], ◌∷◌, length, map, filter, refl, sym, subst, ◌∙◌, arith, Option, Some, None}
use Rattle.std.specs.List.Sorted.{IsPermutation, IsSortedBy}
use Rattle.std.specs.Ordering.{is_lt, nat_cmp}
use Rattle.std.specs.Cmp.Lexicographic.{slice_cmp}
use Rattle.std.proofs.lemmas.List.{get_or-map, length-map}
use Rattle.std.proofs.lemmas.List.Sorted.{IsPermutation-map}
use Rattle.volume_model.specs.declared.place.Placed.{Placed}
use Rattle.volume_model.specs.Dscbs.{format_of, is_f1}
use Rattle.volume_model.specs.Directory.{DirectoryRow, name_before, AreInOrder, chain_of, next_format_3, extended, rows_of, row_of}
use Rattle.vtoc_core.proofs.NameOrder.{row_for, in_order}
use Rattle.vtoc_load.specs.LoadedVtoc.{row_with, set_before}

-- format 1s in the order of their bytes are in the order of their names
pub by_name : (sets : List (List ℕ)) → IsSortedBy (λ a b. is_lt (slice_cmp nat_cmp a b)) sets → IsSortedBy set_before sets
by_name sets h k d from lt =
    let same : length (map row_for sets) ≡ length sets = simp length-map in
    let later = get_or-map row_for sets (k + 1) d (row_for d) lt in
    let earlier = get_or-map row_for sets k d (row_for d) (omega (arith, lt)) in
    (λ i. name_before (sym later i) (sym earlier i)) ∙ in_order sets h k (row_for d) from (omega (arith, lt, same))

-- and so are their rows
rows_by_name : (heads : ℕ) (records : List Placed) (sets : List (List ℕ)) → IsSortedBy set_before sets → IsSortedBy name_before (map (row_with heads records) sets)
rows_by_name heads records sets h k d from lt =
    let same : length (map (row_with heads records) sets) ≡ length sets = simp length-map in
    let below : k + 1 < length sets = omega (arith, lt, same) in
    let e : List ℕ = [] in
    let later = get_or-map (row_with heads records) sets (k + 1) e d below in
    let earlier = get_or-map (row_with heads records) sets k e d (omega (arith, below)) in
    (λ i. name_before (later i) (earlier i)) ∙ h k e from below

-- the format 1s among records
abbrev pub sets_among : List Placed → List (List ℕ)
sets_among records = map (λ placed. placed.bytes) (filter (λ placed. is_f1 (format_of placed.bytes)) records)

same_rows : (heads : ℕ) (records found : List Placed) → map (row_with heads records) (map (λ placed. placed.bytes) found) ≡ map (row_of heads records) found
same_rows heads records [] = refl
same_rows heads records (placed ∷ found) = (λ i. row_of heads records placed ∷ same_rows heads records found i)

pub sorted_rows : (heads : ℕ) (records : List Placed) (sorted : List (List ℕ)) (rows : List DirectoryRow) → IsPermutation (sets_among records) sorted → IsSortedBy set_before sorted
    → rows ≡ map (row_with heads records) sorted → AreInOrder (rows_of heads records) rows
sorted_rows heads records sorted rows same order e =
    let P : List DirectoryRow → Type 0 = λ found. AreInOrder (rows_of heads records) found in
    let Q : List DirectoryRow → Type 0 = λ all. IsPermutation all (map (row_with heads records) sorted) in
    subst P (sym e) (record {
      same = subst Q (same_rows heads records (filter (λ placed. is_f1 (format_of placed.bytes)) records)) (IsPermutation-map (row_with heads records) (sets_among records) sorted same);
      order = rows_by_name heads records sorted order;
    })

-- a chain has no more format 3s than are asked for
pub chain_short : (heads : ℕ) (records : List Placed) (most : ℕ) (bytes : List ℕ) → length (chain_of heads records most bytes) ≤ most
chain_short heads records zero bytes = omega arith
chain_short heads records (suc most) bytes = by (λ bytes. chain_short heads records most bytes) (next_format_3 heads records bytes)
  where
    by : ((bytes : List ℕ) → length (chain_of heads records most bytes) ≤ most) → (o : Option Placed) → length (extended o (λ placed. chain_of heads records most placed.bytes)) ≤ suc most
    by shorter None = omega arith
    by shorter (Some placed) = omega (arith, shorter placed.bytes)
