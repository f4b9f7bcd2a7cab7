-- A sequential data set on another device.
use Rattle.std.specs.Prelude.{◌≡◌, ◌≢◌, ◌⊎◌, ℕ, ◌-◌, ◌≤◌, List, [], ◌∷◌, ◌++◌, length, map, All, slice_index_or}
use Rattle.ckd_image.specs.declared.device.Device.{Device}
use Rattle.ckd_image.specs.declared.track.Rec.{Rec}
use Rattle.ckd_image.specs.declared.track.Track.{Track}
use Rattle.org_reloc.specs.declared.block.Block.{Block}
use Rattle.org_reloc.specs.declared.refit.Refit.{Refit}
use Rattle.org_reloc.specs.declared.fault.Why.{Why}
use Rattle.org_reloc.specs.declared.fault.Why.TheVariants as whys
use Rattle.org_reloc.specs.declared.fault.RelocFault.{RelocFault}
use Rattle.org_reloc.specs.declared.fault.RelocFault.TheVariants.{NotRelocatable, BlockTooLong, NoMemory}
use Rattle.org_reloc.specs.Content.{block_of, end_of_file, records_of, HasNoEnd, HoldUpToEnd}
use Rattle.org_reloc.specs.Packing.{FitsAlone, track_of, ArePacked}
use Rattle.org_reloc.specs.Filling.{filling_of, groups_of, ArePlaces}
use Rattle.org_reloc.specs.declared.place.Place.{Place}
use Rattle.org_reloc.specs.Place.{nowhere, place_text, Names}
use Rattle.org_reloc.specs.Refusal.{number_of, IsFirstTooLong, TakeTooMany}

-- what a sequential data set with this last block holds: nothing where it names none, and else the blocks up to the first end of file
abbrev pub IsContent : List Track → List ℕ → List Block → Type 0
IsContent tracks last content = ((last ≡ nowhere) × (content ≡ [])) ⊎ ((last ≢ nowhere) × HoldUpToEnd (records_of tracks) content)

-- two records stand last, a block and an end of file, and the place is the block's
pub record IsLastBlock (tracks : List Track) (last : List ℕ) : Type 0 where
  pub block : Rec
  pub end : Rec
  pub ends : block_of end ≡ end_of_file
  pub place : Names tracks last (block ∷ end ∷ [])

-- the place of the last block of this content, or none where it is empty
abbrev pub IsLast : List Track → List Block → List ℕ → Type 0
IsLast tracks [] last = last ≡ nowhere
IsLast tracks (block ∷ more) last = IsLastBlock tracks last

-- the data set's blocks on tracks of the device, an end of file behind them, and the place of the last
pub record IsRefit (device : Device) (tracks : List Track) (last : List ℕ) (refit : Refit) : Type 0 where
  pub content : List Block
  pub held : IsContent tracks last content
  pub packed : ArePacked device (content ++ end_of_file ∷ []) refit.tracks
  pub last_is : IsLast refit.tracks content refit.last

-- both hold one content
pub record HoldsTheSame (tracks : List Track) (last : List ℕ) (refit : Refit) : Type 0 where
  pub content : List Block
  pub old : IsContent tracks last content
  pub new : IsContent refit.tracks refit.last content

-- a block that no track takes
pub record HasTooLong (device : Device) (tracks : List Track) (last : List ℕ) (len largest : ℕ) : Type 0 where
  pub content : List Block
  pub held : IsContent tracks last content
  pub first : IsFirstTooLong device content len largest

-- the refit would have too many tracks
pub record IsTooLong (device : Device) (tracks : List Track) (last : List ℕ) : Type 0 where
  pub content : List Block
  pub held : IsContent tracks last content
  pub many : TakeTooMany device (content ++ end_of_file ∷ [])

-- the end of file that is needed is missing, or the refit would have too many tracks
abbrev pub HasCause : Device → List Track → List ℕ → Why → Type 0
HasCause device tracks last whys.NoEnd = (last ≢ nowhere) × HasNoEnd (records_of tracks)
HasCause device tracks last whys.Long = IsTooLong device tracks last
HasCause device tracks last _ = ⊥

-- what a refusal says
abbrev pub IsRefusal : Device → List Track → List ℕ → RelocFault → Type 0
IsRefusal device tracks last (NotRelocatable why) = (cause : Why) × (why ≡ number_of cause) × HasCause device tracks last cause
IsRefusal device tracks last (BlockTooLong len largest) = HasTooLong device tracks last len largest
IsRefusal device tracks last NoMemory = Unit {0}

-- ---- what the steps of a refit say

-- the end of file that is needed is missing
abbrev pub IsContentRefusal : List Track → List ℕ → RelocFault → Type 0
IsContentRefusal tracks last (NotRelocatable why) = (why ≡ number_of whys.NoEnd) × (last ≢ nowhere) × HasNoEnd (records_of tracks)
IsContentRefusal tracks last (BlockTooLong len largest) = ⊥
IsContentRefusal tracks last NoMemory = Unit {0}

-- the place of the last of so many blocks, or none
abbrev pub IsPlaceOfLast : List Place → ℕ → List ℕ → Type 0
IsPlaceOfLast places count last = ((count ≡ 0) × (last ≡ nowhere)) ⊎ ((1 ≤ count) × ((d : Place) → last ≡ place_text (slice_index_or places (count - 1) d).track (slice_index_or places (count - 1) d).number))

-- blocks and an end of file on tracks
pub record IsBlocksRefit (device : Device) (content : List Block) (refit : Refit) : Type 0 where
  pub fit : All (FitsAlone device) content
  pub tracks : refit.tracks ≡ map track_of (groups_of (filling_of device (content ++ end_of_file ∷ [])))
  pub few : length refit.tracks ≤ 65535
  pub places : List Place
  pub placed : ArePlaces device (content ++ end_of_file ∷ []) places
  pub last : IsPlaceOfLast places (length content) refit.last

abbrev pub IsBlocksRefusal : Device → List Block → RelocFault → Type 0
IsBlocksRefusal device content (NotRelocatable why) = (why ≡ number_of whys.Long) × TakeTooMany device (content ++ end_of_file ∷ [])
IsBlocksRefusal device content (BlockTooLong len largest) = IsFirstTooLong device content len largest
IsBlocksRefusal device content NoMemory = Unit {0}
