-- What a change writes on the tracks of a VTOC, record by record.
use Rattle.std.specs.Prelude.{◌≡◌, ℕ, List, [], ◌∷◌, filter, Option, Some, None}
use Rattle.ckd_image.specs.declared.track.Cchhr.{Cchhr}
use Rattle.dscb_rec.specs.declared.field.Entry5.{Entry5}
use Rattle.volume_model.specs.declared.place.Placed.{Placed}
use Rattle.volume_model.specs.declared.place.Vtoc.{Vtoc}
use Rattle.volume_model.specs.Check.{records_of}
use Rattle.volume_model.specs.Dscbs.{format_of, is_f1}
use Rattle.vtoc_core.specs.declared.volume.Row.{Row}
use Rattle.vtoc_core.specs.declared.volume.Volume.{Volume}
use Rattle.vtoc_layout.specs.Layout.{SetRecords}
use Rattle.layout_edit.specs.Change.{LayoutChange, edits_of, vtoc_after}
use Rattle.vtoc_making.specs.Places.{next_pointer, last_of}
use Rattle.vtoc_plan.specs.Plan.{Putting}
use Rattle.vtoc_write.specs.Written.{AreRewritten}
use Rattle.volume_change.specs.declared.change.Change.{Change}
use Rattle.volume_change.specs.declared.change.Change.TheVariants.{Mark}
use Rattle.render_laws.specs.Rendered.{WasPlanned}
use Rattle.vtoc_render.specs.declared.change.Rendered.{Rendered}
use Rattle.vtoc_render.specs.Loads.{gone_of}
use Rattle.vtoc_render.specs.Steps.{IsAimOf}
use Rattle.vtoc_render.specs.Written.{second_of, IsMarked}

-- a row's format 1 and extents, as they are put
abbrev pub putting_of : Option Row → List Putting
putting_of None = []
putting_of (Some row) = record { format_1 = row.f1; extents = row.extents } ∷ []

-- the pointer to the last format 1 of a VTOC, if it has one
abbrev pub highest_in : Vtoc → Option Cchhr
highest_in vtoc = next_pointer vtoc.heads (last_of (filter (λ placed. is_f1 (format_of placed.bytes)) (records_of vtoc)))

-- The data set that a change is of goes, if it is there, and the one that it puts comes. Their records and those of free space are kept, taken
-- and given back in their order; the format 4 counts the records that are free and points to the last format 1. These records are written, no
-- other, and the blocks are the tracks that they make other.
pub record WritesRecords (volume : Volume) (slots : List ℕ) (change : Change) (rendered : Rendered) (vtoc : Vtoc) (four : Placed) : Type 0 where
  pub name : Option (List ℕ)
  pub put : Option Row
  pub front : List SetRecords
  pub back : List SetRecords
  pub parts : List (List Entry5)
  pub records : LayoutChange
  pub aim : IsAimOf change name put
  pub planned : WasPlanned vtoc four front (gone_of vtoc name) back (putting_of put) parts records
  pub second_is : planned.second ≡ second_of volume
  pub free_is : planned.free ≡ rendered.next.free_dscbs
  pub highest_is : planned.highest ≡ highest_in (vtoc_after vtoc (edits_of records))
  pub blocks_are : AreRewritten (edits_of records) volume.device volume.vtoc slots rendered.blocks

-- what a change writes; a mark writes the format 4 alone
abbrev pub IsChangeWritten : Volume → List ℕ → Change → Rendered → Vtoc → Placed → Type 0
IsChangeWritten volume slots Mark rendered vtoc four = IsMarked volume slots rendered vtoc four
IsChangeWritten volume slots change rendered vtoc four = WritesRecords volume slots change rendered vtoc four
