-- A change that is written, step by step.
use Rattle.std.specs.Prelude.{◌≡◌, ℕ, ◌+◌, ◌-◌, ◌≤◌, false, List, [], ◌∷◌, ◌++◌, length, map, Option, option_to_list}
use Rattle.ckd_image.specs.Device.{heads_of}
use Rattle.free_map.specs.Entries.{entry_of}
use Rattle.free_map.specs.Free.{Free}
use Rattle.free_map.specs.Runs.{AreMaximalRuns}
use Rattle.volume_model.specs.declared.place.Place.{Place}
use Rattle.volume_model.specs.declared.place.Placed.{Placed}
use Rattle.volume_model.specs.declared.place.Vtoc.{Vtoc}
use Rattle.volume_model.specs.Unit.{fives_for}
use Rattle.dscb_made.specs.Made.{IsMarkedFormat4}
use Rattle.vtoc_check.specs.declared.fault.VtocFault.{VtocFault}
use Rattle.vtoc_check.specs.declared.fault.VtocFault.TheVariants.{VtocFull, NoMemory}
use Rattle.vtoc_core.specs.declared.volume.Row.{Row}
use Rattle.vtoc_core.specs.declared.volume.Volume.{Volume}
use Rattle.layout_edit.specs.Change.{place_of, zeroed}
use Rattle.vtoc_allot.specs.declared.held.Held.{Held}
use Rattle.vtoc_allot.specs.declared.places.Allotment.{Allotment}
use Rattle.vtoc_allot.specs.Allotted.{held_count, wanted_count, free_count, IsAllotted, IsShort}
use Rattle.vtoc_plan.specs.Plan.{AreFivesWith}
use Rattle.vtoc_making.specs.declared.set.SetWritten.{SetWritten}
use Rattle.vtoc_making.specs.Places.{parts_of}
use Rattle.vtoc_write.specs.Written.{AreRewritten}
use Rattle.volume_change.specs.declared.spot.Spot.{Spot}
use Rattle.volume_change.specs.Runs.{IsFreeAfter}
use Rattle.volume_change.specs.Spot.{rows_with}
use Rattle.vtoc_render.specs.declared.ground.Ground.{Ground}
use Rattle.vtoc_render.specs.declared.change.Rendered.{Rendered}
use Rattle.vtoc_render.specs.Loads.{OfEachVtoc, IsGroundOf, HoldsNamed}
use Rattle.vtoc_render.specs.Next.{runs_of_rows}
use Rattle.vtoc_render.specs.Steps.{IsSpotFor, gone_from, wanted_for, IsSetFor, IsRowFor, IsFourFor, records_put}

-- the record that a first format 5 takes where it is free
abbrev pub second_of : Volume → Place
second_of volume = record { track = volume.vtoc.first; record_number = 2 }

-- the free tracks once the data set of a name is away and a row is put
pub record IsSpaceWith (volume : Volume) (spot : Spot) (put : Option Row) (free : Free) : Type 0 where
  pub usable_is : free.usable ≡ volume.free.usable
  pub heads_are : free.heads ≡ volume.free.heads
  pub free_are : AreMaximalRuns (IsFreeAfter volume.free (runs_of_rows volume (option_to_list (gone_from volume.rows spot))) (runs_of_rows volume (option_to_list put))) free.runs

-- format 5s at these places, which state free tracks
pub record StateFree (heads : ℕ) (free : Free) (places : List Place) (fives : List Placed) : Type 0 where
  pub at : map place_of fives ≡ places
  pub with_entries : AreFivesWith heads (parts_of (length places) (map (entry_of free.heads) free.runs)) fives

-- the records that are free once what is held is given back and what is wanted is taken
abbrev pub free_left : Volume → Held → Option Row → Free → ℕ
free_left volume held put free = volume.free_dscbs + held_count held - wanted_count (wanted_for put (length free.runs))

-- what is written
abbrev pub edits_with : Placed → List Placed → Option SetWritten → Allotment → List Placed
edits_with four fives set allotment = four ∷ (fives ++ (records_put set ++ map zeroed allotment.freed))

-- the volume with other rows and other free tracks
abbrev pub volume_with : Volume → Spot → Option Row → Free → ℕ → Volume
volume_with volume spot row free free_dscbs =
    record {
      serial = volume.serial;
      device = volume.device;
      usable = volume.usable;
      vtoc = volume.vtoc;
      rows = rows_with volume.rows spot row;
      free = free;
      repair = false;
      indexed = volume.indexed;
      dscbs = volume.dscbs;
      free_dscbs = free_dscbs;
      fives = fives_for (length free.runs);
    }

-- The data set of a name is taken out, if one is named and is there, and a row is put, if one is: the free tracks after it, the records that
-- stand there, the places of what is written, and the tracks and the volume after it.
pub record IsWritten (volume : Volume) (slots : List ℕ) (name : Option (List ℕ)) (put : Option Row) (rendered : Rendered) : Type 0 where
  pub spot : Spot
  pub free : Free
  pub base : Ground
  pub held : Held
  pub allotment : Allotment
  pub set : Option SetWritten
  pub row : Option Row
  pub four : Placed
  pub fives : List Placed
  pub spot_is : IsSpotFor volume.rows name spot
  pub space : IsSpaceWith volume spot put free
  pub ground_is : OfEachVtoc volume slots (IsGroundOf base)
  pub held_is : OfEachVtoc volume slots (HoldsNamed name held)
  pub allotted : IsAllotted base.directory.records.items (second_of volume) held (wanted_for put (length free.runs)) allotment
  pub room : wanted_count (wanted_for put (length free.runs)) ≤ held_count held + free_count base.directory.records.items
  pub set_is : IsSetFor (heads_of volume.device) put allotment set
  pub row_is : IsRowFor put set row
  pub four_is : IsFourFor (heads_of volume.device) base.directory.records.items base.four held.one allotment.one (free_left volume held put free) four
  pub fives_are : StateFree (heads_of volume.device) free allotment.fives fives
  pub blocks_are : AreRewritten (edits_with four fives set allotment) volume.device volume.vtoc slots rendered.blocks
  pub next_is : rendered.next ≡ volume_with volume spot row free (free_left volume held put free)

-- so many more records are wanted than are held, and fewer are free
pub record IsShortOf (volume : Volume) (slots : List ℕ) (name : Option (List ℕ)) (put : Option Row) (need left : ℕ) : Type 0 where
  pub spot : Spot
  pub free : Free
  pub base : Ground
  pub held : Held
  pub spot_is : IsSpotFor volume.rows name spot
  pub space : IsSpaceWith volume spot put free
  pub ground_is : OfEachVtoc volume slots (IsGroundOf base)
  pub held_is : OfEachVtoc volume slots (HoldsNamed name held)
  pub short : IsShort base.directory.records.items held (wanted_for put (length free.runs)) need left

abbrev pub IsPutFault : Volume → List ℕ → Option (List ℕ) → Option Row → VtocFault → Type 0
IsPutFault volume slots name put (VtocFull need free) = IsShortOf volume slots name put need free
IsPutFault volume slots name put NoMemory = Unit {0}
IsPutFault volume slots name put _ = ⊥

-- the format 4 alone is written, with the mark of an interrupted change
pub record IsMarked (volume : Volume) (slots : List ℕ) (rendered : Rendered) (vtoc : Vtoc) (four : Placed) : Type 0 where
  pub marked : Placed
  pub marked_at : marked.place ≡ four.place
  pub marked_is : IsMarkedFormat4 four.bytes marked.bytes
  pub blocks_are : AreRewritten (marked ∷ []) volume.device volume.vtoc slots rendered.blocks
