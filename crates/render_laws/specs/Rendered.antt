-- A volume after a change of its VTOC was planned and written.
use Rattle.std.specs.Prelude.{◌≡◌, ℕ, ◌+◌, ◌<◌, ◌≤◌, Bool, true, false, IsTrue, List, [], ◌∷◌, ◌++◌, length, map, All, Contains, Option}
use Rattle.std.specs.List.{flat_map}
use Rattle.std.specs.List.Sorted.{IsPermutation, IsSortedBy}
use Rattle.ckd_image.specs.declared.head.Head.{Head}
use Rattle.ckd_image.specs.declared.track.Cchhr.{Cchhr}
use Rattle.ckd_image.specs.Device.{slot_of}
use Rattle.dscb_rec.specs.declared.field.Entry5.{Entry5}
use Rattle.free_map.specs.declared.run.Run.{Run}
use Rattle.free_map.specs.Entries.{entry_of}
use Rattle.free_map.specs.Runs.{AreMaximalRuns}
use Rattle.vol_label.specs.declared.label.Label.{Label}
use Rattle.volume_model.specs.declared.place.Place.{Place}
use Rattle.volume_model.specs.declared.place.Placed.{Placed}
use Rattle.volume_model.specs.declared.place.Vtoc.{Vtoc}
use Rattle.volume_model.specs.Directory.{name_before}
use Rattle.volume_model.specs.Space.{is_run, run_of, is_free, overlap}
use Rattle.volume_model.specs.Sound.{Slots}
use Rattle.volume_model.specs.Check.{records_of, breaches_of, track_0}
use Rattle.vtoc_check.specs.Sized.{IsSized, IsVtocWith}
use Rattle.vtoc_check.specs.Slots.{AreSlotsOf}
use Rattle.vtoc_core.specs.declared.volume.Volume.{Volume}
use Rattle.vtoc_core.specs.Loaded.{row_in, field_of, HasItsName}
use Rattle.vtoc_load.specs.LoadedVtoc.{free_records_of, IsVolumeOf, IsLoadedVtoc}
use Rattle.vtoc_layout.specs.Layout.{SetRecords, Layout, AreApart, layout_of, row_by, runs_by}
use Rattle.layout_edit.specs.Change.{LayoutChange, edits_of, vtoc_after, layout_after}
use Rattle.layout_edit.specs.Space.{runs_in_sets}
use Rattle.vtoc_write.specs.declared.blocks.Block.{Block}
use Rattle.vtoc_write.specs.Written.{AreRewritten}
use Rattle.vtoc_rewrite.specs.Rewrite.{AreSlotsAfter}
use Rattle.vtoc_allot.specs.declared.held.Held.{Held}
use Rattle.vtoc_allot.specs.declared.held.Wanted.{Wanted}
use Rattle.vtoc_allot.specs.declared.places.Allotment.{Allotment}
use Rattle.vtoc_allot.specs.Allotted.{IsAllotted}
use Rattle.dscb_made.specs.Made.{IsMarkedFormat4}
use Rattle.vtoc_plan.specs.Plan.{Putting, HoldsLayout, Wants, MayBePut, IsPlanned}

-- A volume that was loaded from slots, and its VTOC.
pub record WasLoaded (head : Head) (label : Label) (unit : Slots) (sliding : Bool) (slots : List ℕ) (volume : Volume) (vtoc : Vtoc) (four : Placed) : Type 0 where
  pub small : head.tracks ≤ 65535
  pub stands : IsVtocWith head unit label.vtoc sliding vtoc four.bytes
  pub sized : IsSized vtoc
  pub sound : breaches_of vtoc ≡ []
  pub volume_is : IsVolumeOf label head.device vtoc four.bytes volume
  pub slots_are : AreSlotsOf vtoc.run (slot_of head.device) slots unit
  pub long : (k : ℕ) → k < vtoc.run.len → length (unit (vtoc.run.first + k)) ≡ slot_of head.device
  pub four_there : Contains (records_of vtoc) four
  pub four_at : four.place ≡ vtoc.format_4

-- A change of a layout, as it was planned and allotted.
pub record WasPlanned (vtoc : Vtoc) (four : Placed) (front gone back : List SetRecords) (putting : List Putting) (parts : List (List Entry5)) (change : LayoutChange) : Type 0 where
  pub held : Held
  pub wanted : Wanted
  pub second : Place
  pub allotment : Allotment
  pub highest : Option Cchhr
  pub free : ℕ
  pub sets_are : (layout_of vtoc four).sets ≡ front ++ (gone ++ back)
  pub one_gone : length gone ≤ 1
  pub holds : HoldsLayout (layout_of vtoc four) gone held
  pub wants : Wants putting parts wanted
  pub may : MayBePut (front ++ back) putting
  pub allotted : IsAllotted (records_of vtoc) second held wanted allotment
  pub planned : IsPlanned vtoc putting parts highest free four allotment change

-- the runs of what is put
abbrev pub runs_put : ℕ → List Putting → List Run
runs_put heads putting = map (run_of heads) (flat_map (λ p. map field_of p.extents) putting)

-- The extents of what is put are runs below the usable tracks, apart from each other, from track 0, the VTOC and what stays.
pub record MayTakeTracks (vtoc : Vtoc) (usable : ℕ) (others : List SetRecords) (putting : List Putting) : Type 0 where
  pub ranges : All (λ p. All (λ extent. is_run vtoc.heads usable (field_of extent) ≡ true) p.extents) putting
  pub off_track_0 : All (λ run. overlap run track_0 ≡ false) (runs_put vtoc.heads putting)
  pub off_vtoc : All (λ run. overlap run vtoc.run ≡ false) (runs_put vtoc.heads putting)
  pub off_others : All (λ run. All (λ other. overlap run other ≡ false) (runs_in_sets vtoc.heads others)) (runs_put vtoc.heads putting)
  pub apart : AreApart (runs_put vtoc.heads putting)

-- The volume after a change, by the layout that it leaves.
pub record IsVolumeAfter (vtoc : Vtoc) (old : Volume) (layout : Layout) (parts : List (List Entry5)) (new : Volume) : Type 0 where
  pub serial_is : new.serial ≡ old.serial
  pub device_is : new.device ≡ old.device
  pub usable_is : new.usable ≡ old.usable
  pub vtoc_is : new.vtoc ≡ old.vtoc
  pub rows_are : IsPermutation (map row_by layout.sets) (map row_in new.rows)
  pub in_order : IsSortedBy name_before (map row_in new.rows)
  pub names_are : All HasItsName new.rows
  pub free_are : AreMaximalRuns (λ track. IsTrue (is_free old.usable vtoc.run (runs_by vtoc.heads layout) track)) new.free.runs
  pub limit_is : new.free.usable ≡ old.usable
  pub heads_are : new.free.heads ≡ vtoc.heads
  pub stated : flat_map (λ entries. entries) parts ≡ map (entry_of vtoc.heads) new.free.runs
  pub repair_is : new.repair ≡ false
  pub indexed_is : new.indexed ≡ old.indexed
  pub dscbs_are : new.dscbs ≡ old.dscbs
  pub fives_are : new.fives ≡ length parts

-- Where blocks are written that the planned change makes of the slots, the slots load to that volume, whatever a slide.
abbrev pub RenderedVolumesLoad : Type 0
RenderedVolumesLoad =
    (head : Head) (label : Label) (old new : Slots) (before after : Bool) (slots : List ℕ) (blocks : List Block) (volume next : Volume) (vtoc : Vtoc) (four : Placed)
    (front gone back : List SetRecords) (putting : List Putting) (parts : List (List Entry5)) (change : LayoutChange)
    → WasLoaded head label old before slots volume vtoc four → WasPlanned vtoc four front gone back putting parts change → MayTakeTracks vtoc volume.usable (front ++ back) putting
    → AreRewritten (edits_of change) head.device vtoc.run slots blocks → AreSlotsAfter vtoc.run blocks old new
    → IsVolumeAfter vtoc volume (layout_after front change back) parts next
    → next.free_dscbs ≡ length (free_records_of (vtoc_after vtoc (edits_of change)))
    → IsLoadedVtoc head label new after next

-- Where the format 4 alone is marked, the slots load to the old volume while a slide is open.
abbrev pub MarkedVolumesLoad : Type 0
MarkedVolumesLoad =
    (head : Head) (label : Label) (old new : Slots) (before : Bool) (slots : List ℕ) (blocks : List Block) (volume : Volume) (vtoc : Vtoc) (four marked : Placed)
    → WasLoaded head label old before slots volume vtoc four → volume.repair ≡ false → marked.place ≡ four.place → IsMarkedFormat4 four.bytes marked.bytes → length four.bytes ≡ 140
    → AreRewritten (marked ∷ []) head.device vtoc.run slots blocks → AreSlotsAfter vtoc.run blocks old new
    → IsLoadedVtoc head label new true volume
