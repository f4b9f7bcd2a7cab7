-- The slots of a VTOC's tracks, once some records have other bytes.
use Rattle.std.specs.Prelude.{◌≡◌, ◌⊎◌, ℕ, ◌+◌, ◌*◌, ◌<◌, ◌≤◌, ◌==◌, List, [], ◌∷◌, ◌++◌, length, map, take, drop, find, All, Any, Option, Some, None, ◌≢◌}
use Rattle.ckd_image.specs.declared.device.Device.{Device}
use Rattle.ckd_image.specs.declared.track.Track.{Track}
use Rattle.ckd_image.specs.declared.track.TrackAt.{TrackAt}
use Rattle.ckd_image.specs.Address.{address_of}
use Rattle.ckd_image.specs.Device.{heads_of, slot_of}
use Rattle.ckd_image.specs.Track.{IsTrackText}
use Rattle.free_map.specs.declared.run.Run.{Run}
use Rattle.volume_model.specs.declared.place.Placed.{Placed}
use Rattle.volume_model.specs.Sound.{IsDscbRecord}
use Rattle.vtoc_write.specs.declared.blocks.Block.{Block}
use Rattle.vtoc_write.specs.Edited.{rec_after, text_after, written}

-- ---- one track

-- a slot whose text has records of the lengths of DSCBs alone
pub record IsDscbText (at : TrackAt) (slot : List ℕ) : Type 0 where
  pub text : Track
  pub stands : IsTrackText at slot text
  pub shaped : All IsDscbRecord text.recs

-- the edits change no record of a slot's text
pub record IsUnchangedText (edits : List Placed) (heads track : ℕ) (slot : List ℕ) : Type 0 where
  pub text : Track
  pub stands : IsTrackText (address_of heads track) slot text
  pub same : text_after edits track text ≡ text

-- They change some, and the slot is written anew: its text with the edits made, and zeros behind it.
pub record IsRewritten (edits : List Placed) (heads track : ℕ) (old new : List ℕ) : Type 0 where
  pub text : Track
  pub stands : IsTrackText (address_of heads track) old text
  pub changes : Any (λ rec. rec_after edits track rec ≢ rec) text.recs
  pub new_is : new ≡ written (address_of heads track) (length old) (text_after edits track text)
  pub new_stands : IsTrackText (address_of heads track) new (text_after edits track text)
  pub new_shaped : All IsDscbRecord (map (rec_after edits track) text.recs)

-- ---- all tracks of a VTOC

-- the slot at a place among slots of so many bytes each
abbrev pub slot_at : ℕ → List ℕ → ℕ → List ℕ
slot_at size slots place = take size (drop (place * size) slots)

-- the first block of a track
abbrev pub block_of : List Block → ℕ → Option Block
block_of blocks track = find (λ block. block.track == track) blocks

-- the track has a block, which is the slot written anew, or has none, and no record of it changes
abbrev pub IsBlockFor : List Placed → ℕ → ℕ → List ℕ → Option Block → Type 0
IsBlockFor edits heads track slot None = IsUnchangedText edits heads track slot
IsBlockFor edits heads track slot (Some block) = IsRewritten edits heads track slot block.slot

-- the slot that stands there afterwards
abbrev pub slot_with : List ℕ → Option Block → List ℕ
slot_with slot None = slot
slot_with slot (Some block) = block.slot

-- a list of blocks goes on with one more track
abbrev pub AddsBlock : List Placed → ℕ → ℕ → List ℕ → List Block → List Block → Type 0
AddsBlock edits heads track slot old new =
    ((new ≡ old) × IsUnchangedText edits heads track slot)
    ⊎ ((block : Block) × (new ≡ old ++ (block ∷ [])) × (block.track ≡ track) × IsRewritten edits heads track slot block.slot)

-- the blocks of so many tracks from one on
pub record AreRewrittenUpTo (edits : List Placed) (device : Device) (first count : ℕ) (slots : List ℕ) (blocks : List Block) : Type 0 where
  pub each : (k : ℕ) → k < count → IsBlockFor edits (heads_of device) (first + k) (slot_at (slot_of device) slots k) (block_of blocks (first + k))
  pub above : All (λ block. first ≤ block.track) blocks
  pub below : All (λ block. block.track < first + count) blocks

-- each track comes behind those of lower numbers
abbrev pub AreAscending : List Block → Type 0
AreAscending [] = Unit {0}
AreAscending (block ∷ blocks) = All (λ later. block.track < later.track) blocks × AreAscending blocks

-- the tracks of a VTOC's run that the edits change, in ascending order
pub record AreRewritten (edits : List Placed) (device : Device) (run : Run) (slots : List ℕ) (blocks : List Block) : Type 0 where
  pub upto : AreRewrittenUpTo edits device run.first run.len slots blocks
  pub ascending : AreAscending blocks
