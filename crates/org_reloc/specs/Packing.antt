-- Blocks on tracks: each on the current one where it fits, and else on the next.
use Rattle.std.specs.Prelude.{◌≡◌, ℕ, ◌≤◌, List, [], ◌∷◌, ◌++◌, length, map, replicate, All}
use Rattle.std.specs.List.{flat_map, enumerate_from}
use Rattle.ckd_image.specs.declared.device.Device.{Device}
use Rattle.ckd_image.specs.declared.track.Rec.{Rec}
use Rattle.ckd_image.specs.declared.track.Track.{Track}
use Rattle.ckd_image.specs.Device.{Fit, slot_of}
use Rattle.ckd_image.specs.Track.{track_text, IsTrack}
use Rattle.ckd_image.specs.declared.track.TrackAt.{TrackAt}
use Rattle.org_reloc.specs.declared.block.Block.{Block}

-- the key length and the length that a block costs by
abbrev pub size_of : Block → ℕ × ℕ
size_of block = (length block.key, length block.body)

-- the blocks fit one track of the device
abbrev pub FitTrack : Device → List Block → Type 0
FitTrack device blocks = Fit device (map size_of blocks)

abbrev pub FitsAlone : Device → Block → Type 0
FitsAlone device block = FitTrack device (block ∷ [])

-- a track takes none of what the next one begins with
abbrev pub IsFullBefore : Device → List Block → List Block → Type 0
IsFullBefore device group [] = ⊥
IsFullBefore device group (block ∷ more) = ¬ FitTrack device (group ++ block ∷ [])

-- each track but the last is full
abbrev pub AreFull : Device → List (List Block) → Type 0
AreFull device [] = Unit {0}
AreFull device (group ∷ []) = Unit {0}
AreFull device (group ∷ next ∷ more) = IsFullBefore device group next × AreFull device (next ∷ more)

-- the blocks in their order, parted into the fewest for one track each; no part is empty but where there are no blocks at all, as `fit` and `full` say
pub record AreGrouped (device : Device) (blocks : List Block) (groups : List (List Block)) : Type 0 where
  pub whole : flat_map (λ group. group) groups ≡ blocks
  pub fit : All (FitTrack device) groups
  pub full : AreFull device groups

-- a record by its number and its block
abbrev pub record_of : ℕ × Block → Rec
record_of x = record { r = x.0; key = x.1.key; body = x.1.body }

-- a track of these blocks, numbered from 1; flag and record 0 are zero
abbrev pub track_of : List Block → Track
track_of group = record { flag = 0; r0 = replicate 8 0; recs = map record_of (enumerate_from 1 group) }

-- the blocks stand on these tracks
pub record ArePacked (device : Device) (blocks : List Block) (tracks : List Track) : Type 0 where
  pub groups : List (List Block)
  pub grouped : AreGrouped device blocks groups
  pub tracks_are : tracks ≡ map track_of groups

-- each track may stand in a slot of the device, which has room for it at any address
pub record HaveRoom (device : Device) (tracks : List Track) : Type 0 where
  pub sound : All IsTrack tracks
  pub short : All (λ track. (at : TrackAt) → length (track_text at track) ≤ slot_of device) tracks
