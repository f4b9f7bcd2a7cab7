-- The rendered tracks of changes, and the units after them.
use Rattle.std.specs.Prelude.{◌≡◌, ◌≢◌, ℕ, ◌+◌, ◌<◌, ◌≤◌, List, [], ◌∷◌, ◌++◌, length, map, All, AllPairs, Some, slice_get, slice_set}
use Rattle.ckd_image.specs.Device.{slot_of}
use Rattle.dasd_pool.specs.Disk.{Shape}
use Rattle.free_map.specs.declared.run.Run.{Run}
use Rattle.redo_core.specs.declared.entries.Entry.{Entry}
use Rattle.redo_core.specs.Phases.{targets, IsEntry}
use Rattle.vtoc_check.specs.Slots.{slot_in}
use Rattle.vtoc_core.specs.declared.volume.Volume.{Volume}
use Rattle.vtoc_write.specs.declared.blocks.Block.{Block}
use Rattle.vtoc_write.specs.Written.{block_of, slot_with}
use Rattle.volume_change.specs.declared.change.Change.{Change}
use Rattle.unit_change.specs.vtoc_render.declared.change.Rendered.{Rendered}
use Rattle.unit_change.specs.vtoc_render.Change.{IsChangeWritten}
use Rattle.unit_change.specs.vtoc_render.Loads.{OfEachVtoc}
use Rattle.unit_change.specs.vtoc_render.Next.{IsNext}
use Rattle.unit_change.specs.vtoc_render.Render.{LoadsAfter}
use Rattle.unit_load.specs.declared.state.UnitState.{UnitState}
use Rattle.unit_load.specs.declared.state.UnitState.TheVariants.{Online}
use Rattle.unit_steps.specs.Plans.{IsLoadedAt}

-- a change of a unit's VTOC was rendered on the slots that are kept of it
pub record WasRendered (units : List UnitState) (vtocs : List (List ℕ)) (unit : ℕ) (change : Change) (rendered : Rendered) : Type 0 where
  pub volume : Volume
  pub slots : List ℕ
  pub loaded : IsLoadedAt units unit volume
  pub kept : slice_get vtocs unit ≡ Some slots
  pub next : IsNext volume change rendered.next
  pub loads : LoadsAfter volume slots change rendered
  pub written : OfEachVtoc volume slots (IsChangeWritten volume slots change rendered)

-- changes were rendered in their order
abbrev pub WereRendered : List UnitState → List (List ℕ) → List (ℕ × Change) → List Rendered → Type 0
WereRendered units vtocs [] [] = Unit {0}
WereRendered units vtocs (change ∷ changes) (one ∷ more) = WasRendered units vtocs change.0 change.1 one × WereRendered units vtocs changes more
WereRendered units vtocs _ _ = ⊥

-- ---- entries

abbrev pub entry_for : ℕ → Block → Entry
entry_for unit block = record { unit = unit; block = block.track; slot = block.slot }

-- the entries of a commit that writes the rendered tracks
abbrev pub entries_of : List (ℕ × Change) → List Rendered → List Entry
entries_of (change ∷ changes) (one ∷ more) = map (entry_for change.0) one.blocks ++ entries_of changes more
entries_of _ _ = []

-- entries that one commit may put in place
pub record AreReady (shape : Shape) (room : ℕ) (entries : List Entry) : Type 0 where
  pub fit : length entries ≤ room
  pub each : All (IsEntry shape) entries
  pub apart : AllPairs (λ one other. one ≢ other) (targets entries)

-- ---- units

-- no two of the changes are of one unit
abbrev pub AreOfUnits : List (ℕ × Change) → Type 0
AreOfUnits changes = AllPairs (λ one other. one ≢ other) (map (λ change. change.0) changes)

-- the units with the rendered volumes
abbrev pub units_after : List UnitState → List (ℕ × Change) → List Rendered → List UnitState
units_after units (change ∷ changes) (one ∷ more) = units_after (slice_set units change.0 (Online one.next)) changes more
units_after units _ _ = units

-- the slots of a VTOC, of so many bytes each, with the blocks in place
pub record ArePatched (run : Run) (size : ℕ) (blocks : List Block) (old new : List ℕ) : Type 0 where
  pub long : length new ≡ length old
  pub each : (k : ℕ) → k < run.len → slot_in run size new (run.first + k) ≡ slot_with (slot_in run size old (run.first + k)) (block_of blocks (run.first + k))

-- the kept slots with the rendered tracks in place
abbrev pub VtocsAfter : List UnitState → List (List ℕ) → List (ℕ × Change) → List Rendered → List (List ℕ) → Type 0
VtocsAfter units old (change ∷ changes) (one ∷ more) new =
    (volume : Volume) × (before after : List ℕ) × IsLoadedAt units change.0 volume × (slice_get old change.0 ≡ Some before)
    × ArePatched volume.vtoc (slot_of volume.device) one.blocks before after × VtocsAfter units (slice_set old change.0 after) changes more new
VtocsAfter units old _ _ new = new ≡ old
