-- What holds of a VTOC that has a layout.
use Rattle.std.specs.Prelude.{◌≡◌, ◌≢◌, true, [], map, None, All}
use Rattle.std.specs.List.Sorted.{IsPermutation}
use Rattle.volume_model.specs.declared.place.Vtoc.{Vtoc}
use Rattle.volume_model.specs.Directory.{rows_of}
use Rattle.volume_model.specs.Check.{records_of, extents_in, entries_in, breaches_of}
use Rattle.vtoc_check.specs.Sized.{IsSized}
use Rattle.vtoc_layout.specs.Layout.{Layout, IsLayoutOf, AreLinkedFives, AreExtentsApart, AreEntriesRight, row_by, runs_by, entries_by}

-- Where each of its tracks is one of a VTOC, its extents are apart, and, where format 5 is valid, the format 5s are one chain and state the
-- free tracks, it breaks no rule.
abbrev pub LayoutsBreakNoRule : Type 0
LayoutsBreakNoRule =
    (vtoc : Vtoc) (layout : Layout) → IsSized vtoc → All (λ dscbs. dscbs ≢ None) vtoc.tracks → IsLayoutOf vtoc layout
    → (vtoc.valid ≡ true → AreLinkedFives vtoc.heads (records_of vtoc) layout.fives) → AreExtentsApart vtoc layout
    → (vtoc.valid ≡ true → AreEntriesRight vtoc layout) → breaches_of vtoc ≡ []

-- its rows are the data sets of the layout
abbrev pub RowsAreOfLayout : Type 0
RowsAreOfLayout =
    (vtoc : Vtoc) (layout : Layout) → IsSized vtoc → IsLayoutOf vtoc layout → IsPermutation (rows_of vtoc.heads (records_of vtoc)) (map row_by layout.sets)

-- its extents are those of the layout
abbrev pub ExtentsAreOfLayout : Type 0
ExtentsAreOfLayout =
    (vtoc : Vtoc) (layout : Layout) → IsSized vtoc → IsLayoutOf vtoc layout → AreExtentsApart vtoc layout → IsPermutation (extents_in vtoc) (runs_by vtoc.heads layout)

-- and its entries of free space, too
abbrev pub EntriesAreOfLayout : Type 0
EntriesAreOfLayout = (vtoc : Vtoc) (layout : Layout) → IsSized vtoc → IsLayoutOf vtoc layout → IsPermutation (entries_in vtoc) (entries_by vtoc.heads layout)
