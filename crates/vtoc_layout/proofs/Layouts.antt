-- A VTOC with a layout breaks no rule, and its rows are the layout's.
use Rattle.std.proofs.Common.{◌≡◌, ◌≢◌, true, List, [], ◌∷◌, ◌++◌, length, map, All, Contains, None, refl, ap, subst}
use Rattle.std.specs.List.Sorted.{IsPermutation}
use Rattle.std.specs.List.{flat_map}
use Rattle.volume_model.specs.declared.place.Placed.{Placed}
use Rattle.volume_model.specs.declared.place.Vtoc.{Vtoc}
use Rattle.volume_model.specs.Dscbs.{extents_of}
use Rattle.volume_model.specs.Directory.{DirectoryRow, row_of, rows_of}
use Rattle.volume_model.specs.Check.{records_of, breaches_of}
use Rattle.vtoc_check.specs.Sized.{IsSized}
use Rattle.vtoc_layout.specs.Layout.{SetRecords, Layout, IsLayoutOf, AreLinkedFives, AreExtentsApart, AreEntriesRight, row_by}
use Rattle.vtoc_layout.proofs.Distinct.{at_first, in_later, map_permuted}
use Rattle.vtoc_layout.proofs.Uses.{one_of, ones, distinct_f1s, distinct_starts, same_ones}
use Rattle.vtoc_layout.proofs.PlainRules.{no_bad_tracks, no_bad_dscbs, no_bad_names}
use Rattle.vtoc_layout.proofs.PointerRules.{threes_are_chain, no_bad_pointers}
use Rattle.vtoc_layout.proofs.FiveRules.{no_bad_fives}
use Rattle.vtoc_layout.proofs.ExtentRules.{no_bad_ranges, no_bad_overlaps}
use Rattle.vtoc_layout.proofs.FreeRules.{no_bad_free}

pub sound : (vtoc : Vtoc) (layout : Layout) → IsSized vtoc → All (λ dscbs. dscbs ≢ None) vtoc.tracks → IsLayoutOf vtoc layout
    → (vtoc.valid ≡ true → AreLinkedFives vtoc.heads (records_of vtoc) layout.fives) → AreExtentsApart vtoc layout
    → (vtoc.valid ≡ true → AreEntriesRight vtoc layout) → breaches_of vtoc ≡ []
sound vtoc layout sized tracks is linked apart right =
    let names = no_bad_names vtoc layout sized is in
    let ranges = no_bad_ranges vtoc layout sized is apart in
    let overlaps = no_bad_overlaps vtoc layout sized is apart in
    (λ i. no_bad_tracks vtoc.run.first vtoc.tracks tracks i ++ no_bad_dscbs vtoc layout sized is i ++ names i ++ no_bad_pointers vtoc layout sized is i
    ++ no_bad_fives vtoc layout sized is linked i ++ ranges i ++ overlaps i ++ no_bad_free vtoc layout sized is apart right i)

-- ---- rows

map_same : {X Y Z : Type 0} (f : Y → Z) (g : X → Y) (h : X → Z) (xs : List X) → ((x : X) → Contains xs x → f (g x) ≡ h x) → map f (map g xs) ≡ map h xs
map_same f g h [] e = refl
map_same f g h (x ∷ xs) e = (λ i. e x (at_first x xs) i ∷ map_same f g h xs (λ y c. e y (in_later x y xs c)) i)

pub rows : (vtoc : Vtoc) (layout : Layout) → IsSized vtoc → IsLayoutOf vtoc layout → IsPermutation (rows_of vtoc.heads (records_of vtoc)) (map row_by layout.sets)
rows vtoc layout sized is =
    let P : List DirectoryRow → Type 0 = λ found. IsPermutation (rows_of vtoc.heads (records_of vtoc)) found in
    subst P (map_same row one_of row_by layout.sets same)
    (map_permuted row (ones vtoc layout sized is) (map one_of layout.sets) (distinct_f1s vtoc layout sized is) (distinct_starts vtoc layout sized is) (same_ones vtoc layout sized is))
  where
    row : Placed → DirectoryRow
    row = row_of vtoc.heads (records_of vtoc)

    -- a row by the chain of its format 3s
    with_chain : SetRecords → List Placed → DirectoryRow
    with_chain set chain = record { format_1 = set.one.bytes; extents = extents_of set.one.bytes ++ flat_map (λ three. extents_of three.bytes) chain; threes = length chain }

    same : (set : SetRecords) → Contains layout.sets set → row_of vtoc.heads (records_of vtoc) set.one ≡ row_by set
    same set c = ap (with_chain set) (threes_are_chain vtoc layout sized is set c)
