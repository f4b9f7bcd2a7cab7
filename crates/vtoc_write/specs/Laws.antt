-- What the tracks of a VTOC and their records say, once some records have other bytes.
use Rattle.std.specs.Prelude.{◌≡◌, ℕ, ◌≤◌, List, length, Option}
use Rattle.ckd_image.specs.declared.device.Device.{Device}
use Rattle.ckd_image.specs.Device.{heads_of, slot_of}
use Rattle.volume_model.specs.declared.place.Placed.{Placed}
use Rattle.volume_model.specs.Directory.{placed_in}
use Rattle.volume_model.specs.Sound.{IsVtocTrack}
use Rattle.vtoc_write.specs.declared.blocks.Block.{Block}
use Rattle.vtoc_write.specs.Edited.{after_edits, dscbs_after, tracks_after}
use Rattle.vtoc_write.specs.Written.{slot_with, IsBlockFor}

-- a track of a VTOC stays one, with the edits made
abbrev pub KeepsTracks : Type 0
KeepsTracks = (edits : List Placed) (device : Device) (track : ℕ) (slot : List ℕ) (dscbs : List (List ℕ)) (block : Option Block) → track ≤ 65535 → length slot ≤ slot_of device
    → IsVtocTrack (heads_of device) track slot dscbs → IsBlockFor edits (heads_of device) track slot block
    → IsVtocTrack (heads_of device) track (slot_with slot block) (dscbs_after edits track 1 dscbs)

-- the records of the tracks are those before, each in its place, with the edits made
abbrev pub KeepsPlaces : Type 0
KeepsPlaces = (edits : List Placed) (first : ℕ) (tracks : List (Option (List (List ℕ)))) → placed_in first (tracks_after edits first tracks) ≡ after_edits edits (placed_in first tracks)
