-- How far tracks are filled while blocks are put on them one after the other.
use Rattle.std.specs.Prelude.{◌≡◌, ℕ, ◌+◌, ◌*◌, ◌<◌, ◌≤◌, nat_le, if◌then◌else◌, List, [], ◌∷◌, ◌++◌, length, take, map, sum_by, fold, slice_index_or}
use Rattle.std.specs.List.{enumerate_from}
use Rattle.ckd_image.specs.declared.device.Device.{Device}
use Rattle.ckd_image.specs.declared.track.Rec.{Rec}
use Rattle.ckd_image.specs.Device.{capacity_of, cost_of}
use Rattle.org_reloc.specs.declared.block.Block.{Block}
use Rattle.org_reloc.specs.declared.place.Place.{Place}
use Rattle.org_reloc.specs.Packing.{record_of}

-- what a block takes of a track
abbrev pub block_cost : Device → Block → ℕ
block_cost device block = cost_of device (length block.key) (length block.body)

abbrev pub blocks_cost : Device → List Block → ℕ
blocks_cost device blocks = sum_by (block_cost device) blocks

-- what the shortest record takes of a track: an end of file, which has neither key nor body
abbrev pub least_cost : Device → ℕ
least_cost device = cost_of device 0 0

-- so many records may be on a track of which so much is left: as many of the shortest would leave as much or more
abbrev pub LeaveRoom : Device → ℕ → ℕ → Type 0
LeaveRoom device number room = number * least_cost device + room ≤ capacity_of device

-- the tracks that are full, and what the current one has
pub record Filling : Type 0 where
  pub full : List (List Block)
  pub current : List Block

abbrev pub unfilled : Filling
unfilled = record { full = []; current = [] }

-- the tracks after one more block
abbrev pub filled_by : Device → Filling → Block → Filling
filled_by device filling block =
    if nat_le (blocks_cost device filling.current + block_cost device block) (capacity_of device)
    then record { full = filling.full; current = filling.current ++ block ∷ [] }
    else record { full = filling.full ++ filling.current ∷ []; current = block ∷ [] }

abbrev pub filling_of : Device → List Block → Filling
filling_of device blocks = fold (filled_by device) unfilled blocks

-- the tracks at the end
abbrev pub groups_of : Filling → List (List Block)
groups_of filling = filling.full ++ filling.current ∷ []

-- so many records are on the current track, and so much of it is left
pub record IsAt (device : Device) (number room : ℕ) (filling : Filling) : Type 0 where
  pub number_is : number ≡ length filling.current
  pub room_is : room + blocks_cost device filling.current ≡ capacity_of device

abbrev pub records_on : List Block → List Rec
records_on blocks = map record_of (enumerate_from 1 blocks)

-- the place of the block that was put last
abbrev pub IsNewest : Filling → Place → Type 0
IsNewest filling place = (place.track ≡ length filling.full) × (place.number ≡ length filling.current)

-- each place is that of its block
pub record ArePlaces (device : Device) (blocks : List Block) (places : List Place) : Type 0 where
  pub each_placed : length places ≡ length blocks
  pub places_are : (k : ℕ) (d : Place) → k < length places → IsNewest (filling_of device (take (k + 1) blocks)) (slice_index_or places k d)
