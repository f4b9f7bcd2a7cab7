-- The run of a VTOC on a unit whose head passes.
use Rattle.std.proofs.Common.{◌≡◌, ℕ, ◌+◌, ◌≤◌, List, ap, arith}
use Rattle.std.specs.Prelude.{◌==◌, ◌||◌, if◌then◌else◌}
use Rattle.std.proofs.Math.Nat.{min-le_right}
use Rattle.ckd_image.specs.declared.device.Device.{Device}
use Rattle.ckd_image.specs.declared.device.Device.TheVariants.{D3390, D3380, D3350}
use Rattle.ckd_image.specs.declared.head.Head.{Head}
use Rattle.ckd_image.specs.declared.track.Cchhr.{Cchhr}
use Rattle.ckd_image.specs.Device.{heads_of, slot_of}
use Rattle.ckd_image.specs.Head.{HasSlot}
use Rattle.dasd_pool.specs.Calls.{size_in}
use Rattle.free_map.specs.declared.run.Run.{Run}
use Rattle.free_map.specs.Runs.{HasTrack}
use Rattle.volume_model.specs.Sound.{Slots, limit_of}
use Rattle.volume_model.specs.Space.{track_at, end_of}
use Rattle.vtoc_check.specs.Front.{IsVtocRun}
use Rattle.vtoc_check.proofs.VtocRead.{run_within, holds_pointer}
use Rattle.vtoc_core.proofs.Spaces.{true_holds}

abbrev size_said : ℕ → ℕ
size_said said = if (said == 56832) || (said == 47616) || (said == 19456) || (said == 65536) then said else 0

-- the size that a head says which passes is that of its device
pub said_slot : (head : List ℕ) (device : Device) → HasSlot device head → size_in head ≡ slot_of device
said_slot head D3390 said = ap size_said said
said_slot head D3380 said = ap size_said said
said_slot head D3350 said = ap size_said said

-- its tracks are the unit's
pub run_blocks : (head : Head) (slots : Slots) (pointer : Cchhr) (run : Run) (blocks : ℕ) → head.tracks ≡ blocks → IsVtocRun head slots pointer run → run.first + run.len ≤ blocks
run_blocks head slots pointer run blocks tracks is =
    let within : end_of run ≤ limit_of head is.bytes = run_within head slots pointer run is in
    let most : limit_of head is.bytes ≤ head.tracks = min-le_right _ head.tracks in
    omega (arith, within, most, tracks)

pub run_holds : (head : Head) (slots : Slots) (pointer : Cchhr) (run : Run) → IsVtocRun head slots pointer run → HasTrack run (track_at (heads_of head.device) pointer.at)
run_holds head slots pointer run is = true_holds (track_at (heads_of head.device) pointer.at) run (holds_pointer head slots pointer run is)
