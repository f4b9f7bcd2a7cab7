-- Why a change is refused whose records aren't allotted.
use Rattle.std.proofs.Common.{ℕ, List, length, Option}
use Rattle.free_map.specs.Free.{Free}
use Rattle.vtoc_check.specs.declared.fault.VtocFault.{VtocFault}
use Rattle.vtoc_check.specs.declared.fault.VtocFault.TheVariants.{BadVtoc, Indexed, VtocFull, NoMemory}
use Rattle.vtoc_core.specs.declared.volume.Row.{Row}
use Rattle.vtoc_core.specs.declared.volume.Volume.{Volume}
use Rattle.vtoc_allot.specs.declared.held.Held.{Held}
use Rattle.vtoc_allot.specs.Allotted.{IsAllotFault}
use Rattle.volume_change.specs.declared.spot.Spot.{Spot}
use Rattle.vtoc_render.specs.declared.ground.Ground.{Ground}
use Rattle.vtoc_render.specs.Loads.{OfEachVtoc, IsGroundOf, HoldsNamed}
use Rattle.vtoc_render.specs.Steps.{IsSpotFor, wanted_for}
use Rattle.vtoc_render.specs.Written.{IsSpaceWith, IsPutFault}

module _ (volume : Volume) (slots : List ℕ) (name : Option (List ℕ)) (put : Option Row) (spot : Spot) (free : Free) (base : Ground) (held : Held)
    (spot_is : IsSpotFor volume.rows name spot) (space : IsSpaceWith volume spot put free) (ground_is : OfEachVtoc volume slots (IsGroundOf base)) (held_is : OfEachVtoc volume slots (HoldsNamed name held)) where
  pub put_fault : (fault : VtocFault) → IsAllotFault base.directory.records.items held (wanted_for put (length free.runs)) fault → IsPutFault volume slots name put fault
  put_fault (VtocFull need left) is =
      record { spot = spot; free = free; base = base; held = held; spot_is = spot_is; space = space; ground_is = ground_is; held_is = held_is; short = is }
  put_fault NoMemory is = tt
  put_fault Indexed is = absurd is
  put_fault (BadVtoc track number why) is = absurd is
