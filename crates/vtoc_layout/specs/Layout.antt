-- The records of a VTOC by what they are used for.
use Rattle.std.specs.Prelude.{◌≡◌, ℕ, ◌≤◌, true, false, List, [], ◌∷◌, ◌++◌, length, map, filter, take, All, Contains, Some, None, if◌then◌else◌, IsTrue}
use Rattle.std.specs.List.{flat_map}
use Rattle.free_map.specs.declared.run.Run.{Run}
use Rattle.free_map.specs.Runs.{AreMaximalRuns}
use Rattle.volume_model.specs.declared.extent.ExtentField.{ExtentField}
use Rattle.volume_model.specs.declared.format.Format.TheVariants.{Free, F1, F3, F4, F5}
use Rattle.volume_model.specs.declared.place.Placed.{Placed}
use Rattle.volume_model.specs.declared.place.Vtoc.{Vtoc}
use Rattle.volume_model.specs.Dscbs.{format_of, is_f1, extents_of, pointer_in}
use Rattle.volume_model.specs.Directory.{DirectoryRow, named_record, chain_of}
use Rattle.volume_model.specs.Space.{end_of, overlap, is_run, run_of, entries_of, usable_of, is_free}
use Rattle.volume_model.specs.Check.{records_of, fives_of, track_0}
use Rattle.volume_model.specs.FiveChain.{walk_of}

-- no element stands twice in a list
abbrev pub AreDistinct : {X : Type 0} → List X → Type 0
AreDistinct [] = Unit {0}
AreDistinct (x ∷ xs) = (¬ Contains xs x) × AreDistinct xs

-- ---- what the records are used for

-- the records of a data set: its format 1, and its format 3s in the order in which pointers reach them
pub record SetRecords : Type 0 where
  pub one : Placed
  pub threes : List Placed

-- the format 4, the format 5s in the order of their chain, and the records of the data sets; all other records are free
pub record Layout : Type 0 where
  pub four : Placed
  pub fives : List Placed
  pub sets : List SetRecords

abbrev pub records_in_set : SetRecords → List Placed
records_in_set set = set.one ∷ set.threes

-- the records that are used
abbrev pub records_used : Layout → List Placed
records_used layout = layout.four ∷ (layout.fives ++ flat_map records_in_set layout.sets)

-- Pointers lead from these bytes on to these records, one after the other, and the last has no pointer.
abbrev pub IsLinked : ℕ → List Placed → List ℕ → List Placed → Type 0
IsLinked heads records bytes [] = pointer_in bytes ≡ None
IsLinked heads records bytes (next ∷ more) = (named_record heads records (pointer_in bytes) ≡ Some next) × IsLinked heads records next.bytes more

-- format 5s are one chain, in this order
abbrev pub AreLinkedFives : ℕ → List Placed → List Placed → Type 0
AreLinkedFives heads records [] = Unit {0}
AreLinkedFives heads records (five ∷ more) = IsLinked heads records five.bytes more

-- a data set's records: a format 1, and its chain of format 3s
pub record AreSetRecords (heads : ℕ) (records : List Placed) (set : SetRecords) : Type 0 where
  pub one_is : format_of set.one.bytes ≡ F1
  pub threes_are : All (λ three. format_of three.bytes ≡ F3) set.threes
  pub linked : IsLinked heads records set.one.bytes set.threes

-- the name of a data set
abbrev pub name_of : SetRecords → List ℕ
name_of set = take 44 set.one.bytes

-- A VTOC's records are used so: each used one stands there and has one use, names differ, and the others are free.
pub record IsLayoutOf (vtoc : Vtoc) (layout : Layout) : Type 0 where
  pub there : All (Contains (records_of vtoc)) (records_used layout)
  pub once : AreDistinct (records_used layout)
  pub four_is : format_of layout.four.bytes ≡ F4
  pub four_at : layout.four.place ≡ vtoc.format_4
  pub fives_are : All (λ five. format_of five.bytes ≡ F5) layout.fives
  pub sets_are : All (AreSetRecords vtoc.heads (records_of vtoc)) layout.sets
  pub names : AreDistinct (map name_of layout.sets)
  pub rest : (placed : Placed) → Contains (records_of vtoc) placed → ¬ Contains (records_used layout) placed → format_of placed.bytes ≡ Free

-- ---- what a layout says of data sets and space

-- the extents of a data set in order
abbrev pub extents_in_set : SetRecords → List ExtentField
extents_in_set set = flat_map (λ placed. extents_of placed.bytes) (records_in_set set)

-- the data set as the directory has it
abbrev pub row_by : SetRecords → DirectoryRow
row_by set = record { format_1 = set.one.bytes; extents = extents_in_set set; threes = length set.threes }

-- the extents of all data sets, and their runs of tracks
abbrev pub extents_by : Layout → List ExtentField
extents_by layout = flat_map extents_in_set layout.sets

abbrev pub runs_by : ℕ → Layout → List Run
runs_by heads layout = map (run_of heads) (extents_by layout)

-- the entries of the format 5s in the order of their chain
abbrev pub entries_by : ℕ → Layout → List Run
entries_by heads layout = flat_map (λ five. entries_of heads five.bytes) layout.fives

-- no two of these runs have a track
abbrev pub AreApart : List Run → Type 0
AreApart [] = Unit {0}
AreApart (run ∷ runs) = All (λ other. overlap run other ≡ false) runs × AreApart runs

-- the extents are runs below the end of the volume, and no two of them, nor one of them and track 0 or the VTOC, have a track
pub record AreExtentsApart (vtoc : Vtoc) (layout : Layout) : Type 0 where
  pub ranges : All (λ extent. is_run vtoc.heads vtoc.limit extent ≡ true) (extents_by layout)
  pub off_track_0 : All (λ run. overlap run track_0 ≡ false) (runs_by vtoc.heads layout)
  pub off_vtoc : All (λ run. overlap run vtoc.run ≡ false) (runs_by vtoc.heads layout)
  pub apart : AreApart (runs_by vtoc.heads layout)

-- the usable tracks
abbrev pub usable_by : Vtoc → Layout → ℕ
usable_by vtoc layout = usable_of vtoc.valid vtoc.heads vtoc.limit vtoc.alternates vtoc.run (runs_by vtoc.heads layout) (entries_by vtoc.heads layout)

-- the entries are the runs of the free tracks, none of which lies behind the end of the volume
pub record AreEntriesRight (vtoc : Vtoc) (layout : Layout) : Type 0 where
  pub within : All (λ entry. end_of entry ≤ vtoc.limit) (entries_by vtoc.heads layout)
  pub runs : AreMaximalRuns (λ track. IsTrue (is_free (usable_by vtoc layout) vtoc.run (runs_by vtoc.heads layout) track)) (entries_by vtoc.heads layout)

-- ---- the layout of a VTOC that breaks no rule

-- the format 5s: in the order of their chain where they are valid, and else of their places
abbrev pub fives_in_order : Vtoc → List Placed
fives_in_order vtoc = if vtoc.valid then (walk_of vtoc).0 else fives_of vtoc

-- the records of the data set with this format 1
abbrev pub set_of : Vtoc → Placed → SetRecords
set_of vtoc one = record { one = one; threes = chain_of vtoc.heads (records_of vtoc) (length (records_of vtoc)) one.bytes }

-- the records of all data sets, in the order of their format 1s
abbrev pub sets_of : Vtoc → List SetRecords
sets_of vtoc = map (set_of vtoc) (filter (λ placed. is_f1 (format_of placed.bytes)) (records_of vtoc))

abbrev pub layout_of : Vtoc → Placed → Layout
layout_of vtoc four = record { four = four; fives = fives_in_order vtoc; sets = sets_of vtoc }
