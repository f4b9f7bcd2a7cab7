-- What is taken of a partitioned data set, and put on tracks.
use Rattle.std.specs.Prelude.{◌≡◌, ◌+◌, ◌-◌, ◌<◌, ◌≤◌, List, ◌++◌, length, map, All, slice_index_or}
use Rattle.std.specs.List.Sorted.{IsStrictlyIncreasing}
use Rattle.ckd_image.specs.declared.device.Device.{Device}
use Rattle.ckd_image.specs.declared.track.Track.{Track}
use Rattle.org_reloc.specs.declared.block.Block.{Block}
use Rattle.org_reloc.specs.declared.place.Place.{Place}
use Rattle.org_reloc.specs.declared.refit.Refit.{Refit}
use Rattle.org_reloc.specs.declared.partitioned.Movable.{Movable}
use Rattle.org_reloc.specs.declared.fault.Why.{Why}
use Rattle.org_reloc.specs.declared.fault.Why.TheVariants as whys
use Rattle.org_reloc.specs.declared.fault.RelocFault.{RelocFault}
use Rattle.org_reloc.specs.declared.fault.RelocFault.TheVariants.{NotRelocatable, BlockTooLong, NoMemory}
use Rattle.org_reloc.specs.Content.{IsBlock}
use Rattle.org_reloc.specs.Directory.{page_block}
use Rattle.org_reloc.specs.Filling.{filling_of, groups_of, ArePlaces}
use Rattle.org_reloc.specs.Member.{Member, number_of_place, starts_of}
use Rattle.org_reloc.specs.Moved.{moved_to, moved_blocks}
use Rattle.org_reloc.specs.Packing.{FitsAlone, track_of}
use Rattle.org_reloc.specs.Partitioned.{all_blocks, IsMovable, HasFault}
use Rattle.org_reloc.specs.Place.{place_text}
use Rattle.org_reloc.specs.Refusal.{number_of, IsFirstTooLong, TakeTooMany}

-- the directory and the members of a data set have been taken
pub record IsTaken (tracks : List Track) (movable : Movable) : Type 0 where
  pub behind : List Block
  pub members : List Member
  pub sound : IsMovable tracks movable.pages behind members
  pub numbers_are : movable.numbers ≡ map (λ member. number_of_place member.place) members
  pub blocks_are : movable.blocks ≡ all_blocks movable.pages behind members
  pub starts_are : movable.starts ≡ starts_of (length (map page_block movable.pages ++ behind) + 1) members

abbrev pub IsTakingRefusal : List Track → RelocFault → Type 0
IsTakingRefusal tracks (NotRelocatable why) = (cause : Why) × (why ≡ number_of cause) × HasFault tracks cause
IsTakingRefusal tracks (BlockTooLong len largest) = ⊥
IsTakingRefusal tracks NoMemory = Unit {0}

-- it can be put on tracks, whatever it stands for
pub record IsPlaceable (movable : Movable) : Type 0 where
  pub rest : List Block
  pub front : movable.blocks ≡ map page_block movable.pages ++ rest
  pub sized : All IsBlock movable.blocks
  pub some : 1 ≤ length movable.blocks
  pub ascending : IsStrictlyIncreasing movable.numbers
  pub counted : length movable.starts ≡ length movable.numbers
  pub starts_in : All (λ start. start < length movable.blocks) movable.starts

-- the first of all places
abbrev pub origin : Place
origin = record { track = 0; number = 0 }

-- its blocks on tracks, with new places in the directory
pub record IsPut (device : Device) (movable : Movable) (refit : Refit) : Type 0 where
  pub fit : All (FitsAlone device) movable.blocks
  pub places : List Place
  pub placed : ArePlaces device movable.blocks places
  pub news : List Place
  pub news_are : news ≡ map (λ start. slice_index_or places start origin) movable.starts
  pub tracks : refit.tracks ≡ map track_of (groups_of (filling_of device (moved_blocks (moved_to movable.numbers news) movable.pages movable.blocks)))
  pub few : length refit.tracks ≤ 65535
  pub last_is : refit.last ≡ place_text (slice_index_or places (length movable.blocks - 1) origin).track (slice_index_or places (length movable.blocks - 1) origin).number

abbrev pub IsPutRefusal : Device → Movable → RelocFault → Type 0
IsPutRefusal device movable (NotRelocatable why) = (why ≡ number_of whys.Long) × TakeTooMany device movable.blocks
IsPutRefusal device movable (BlockTooLong len largest) = IsFirstTooLong device movable.blocks len largest
IsPutRefusal device movable NoMemory = Unit {0}
