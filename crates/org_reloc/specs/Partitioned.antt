-- A partitioned data set on another device.
use Rattle.std.specs.Prelude.{◌≡◌, ◌⊎◌, ℕ, Bool, false, List, [], ◌∷◌, ◌++◌, map, All}
use Rattle.std.specs.List.{Contains}
use Rattle.ckd_image.specs.declared.device.Device.{Device}
use Rattle.ckd_image.specs.declared.track.Rec.{Rec}
use Rattle.ckd_image.specs.declared.track.Track.{Track}
use Rattle.org_reloc.specs.declared.block.Block.{Block}
use Rattle.org_reloc.specs.declared.entry.Entry.{Entry}
use Rattle.org_reloc.specs.declared.directory.Page.{Page}
use Rattle.org_reloc.specs.declared.place.Place.{Place}
use Rattle.org_reloc.specs.declared.refit.Refit.{Refit}
use Rattle.org_reloc.specs.declared.fault.Why.{Why}
use Rattle.org_reloc.specs.declared.fault.Why.TheVariants as whys
use Rattle.org_reloc.specs.declared.fault.RelocFault.{RelocFault}
use Rattle.org_reloc.specs.declared.fault.RelocFault.TheVariants.{NotRelocatable, BlockTooLong, NoMemory}
use Rattle.org_reloc.specs.Content.{end_of_file, records_of, HoldUpToEnd, Hold, IsEnd}
use Rattle.org_reloc.specs.Packing.{ArePacked}
use Rattle.org_reloc.specs.Place.{place_text, Names, NamesBlocks}
use Rattle.org_reloc.specs.Refusal.{number_of, IsFirstTooLong, TakeTooMany}
use Rattle.org_reloc.specs.Directory.{page_block, entries_of, IsPlain, IsDirectory, IsBrokenAfter, HasUserPlaces}
use Rattle.org_reloc.specs.Member.{Member, members_blocks, NamesOne, HoldsMember, IsEndless, AreMembers}

-- ---- what a partitioned data set holds

-- an entry without its place, and the blocks of the member that it names
pub record Item : Type 0 where
  pub name : List ℕ
  pub kind : ℕ
  pub user : List ℕ
  pub blocks : List Block

abbrev pub item_of : Entry × List Block → Item
item_of x = record { name = x.0.name; kind = x.0.kind; user = x.0.«data»; blocks = x.1 }

-- up to their first end of file the tracks hold a directory, in these blocks and then others behind the last entry
pub record HasDirectory (tracks : List Track) (pages : List Page) (behind : List Block) : Type 0 where
  pub held : HoldUpToEnd (records_of tracks) (map page_block pages ++ behind)
  pub directory : IsDirectory (map page_block pages ++ behind) pages

-- what a partitioned data set holds: the entries of its directory in their order, each without its place, and with the blocks
-- from there up to the first end of file
pub record IsPartitioned (tracks : List Track) (content : List Item) : Type 0 where
  pub pages : List Page
  pub behind : List Block
  pub directory : HasDirectory tracks pages behind
  pub listed : List (Entry × List Block)
  pub entries_are : map (λ x. x.0) listed ≡ entries_of pages
  pub held : All (λ x. HoldsMember tracks x.0.place x.1) listed
  pub content_is : content ≡ map item_of listed

-- both hold one content
pub record HoldsTheItems (tracks : List Track) (refit : Refit) : Type 0 where
  pub content : List Item
  pub old : IsPartitioned tracks content
  pub new : IsPartitioned refit.tracks content

-- ---- the refit

-- an entry with the place to which its own goes
abbrev pub moved_entry : (Place → Place) → Entry → Entry
moved_entry move entry = record { name = entry.name; place = move entry.place; kind = entry.kind; «data» = entry.«data» }

-- all else of a block stays
abbrev pub moved_page : (Place → Place) → Page → Page
moved_page move page = record { key = page.key; used = page.used; entries = map (moved_entry move) page.entries; left = page.left; filler = page.filler }

-- the directory and its end of file, and the members in the order of their old places, each with its end of file
abbrev pub all_blocks : List Page → List Block → List Member → List Block
all_blocks pages behind members = (map page_block pages ++ behind) ++ end_of_file ∷ members_blocks members

-- a member's new place is that of its first block, or of its end of file where it has none
abbrev pub AreMoved : List Track → List Member → (Place → Place) → Type 0
AreMoved tracks members move = (front back : List Member) (member : Member) → members ≡ front ++ member ∷ back
    → NamesBlocks tracks (place_text (move member.place).track (move member.place).number) (members_blocks (member ∷ back))

-- nothing stands behind the end of file at the place
pub record IsLastEnd (tracks : List Track) (last : List ℕ) : Type 0 where
  pub end : Rec
  pub ends : IsEnd end
  pub place : Names tracks last (end ∷ [])

-- what can be moved: a directory whose entries have no places but their own, and its members
pub record IsMovable (tracks : List Track) (pages : List Page) (behind : List Block) (members : List Member) : Type 0 where
  pub directory : HasDirectory tracks pages behind
  pub plain : All IsPlain (entries_of pages)
  pub members_are : AreMembers tracks (entries_of pages) members

-- the directory with new places, and the members, on tracks of the device, and the place of the last end of file
pub record IsPartitionedRefit (device : Device) (tracks : List Track) (refit : Refit) : Type 0 where
  pub pages : List Page
  pub behind : List Block
  pub members : List Member
  pub movable : IsMovable tracks pages behind members
  pub move : Place → Place
  pub packed : ArePacked device (all_blocks (map (moved_page move) pages) behind members) refit.tracks
  pub moved : AreMoved refit.tracks members move
  pub last_is : IsLastEnd refit.tracks refit.last

-- ---- why there is none

-- the blocks up to the first end of file, or all where there is none
pub record HasFrontBlocks (tracks : List Track) (blocks : List Block) : Type 0 where
  pub ended : Bool
  pub held : Hold (records_of tracks) blocks ended

-- an entry before any fault of the directory has places in its user data
pub record HasUsers (tracks : List Track) : Type 0 where
  pub blocks : List Block
  pub front : HasFrontBlocks tracks blocks
  pub user : HasUserPlaces blocks

-- the blocks are no directory, and no entry before the first fault has places in its user data
pub record HasBrokenDirectory (tracks : List Track) : Type 0 where
  pub blocks : List Block
  pub front : HasFrontBlocks tracks blocks
  pub entries : List Entry
  pub broken : IsBrokenAfter blocks entries
  pub plain : All IsPlain entries

-- they are a directory, and none of its entries has places in its user data
pub record HasFrontDirectory (tracks : List Track) (ended : Bool) (pages : List Page) : Type 0 where
  pub blocks : List Block
  pub held : Hold (records_of tracks) blocks ended
  pub directory : IsDirectory blocks pages
  pub plain : All IsPlain (entries_of pages)

-- one of its entries names no record
pub record HasLostEntry (tracks : List Track) : Type 0 where
  pub ended : Bool
  pub pages : List Page
  pub directory : HasFrontDirectory tracks ended pages
  pub lost : ¬ All (λ entry. NamesOne tracks entry.place) (entries_of pages)

-- each of its entries names a record, and the directory or a member has no end of file
pub record HasNoEndThere (tracks : List Track) : Type 0 where
  pub ended : Bool
  pub pages : List Page
  pub directory : HasFrontDirectory tracks ended pages
  pub named : All (λ entry. NamesOne tracks entry.place) (entries_of pages)
  pub endless : (ended ≡ false) ⊎ ((entry : Entry) × Contains (entries_of pages) entry × IsEndless tracks entry.place)

-- of all blocks, which new places leave as long as they are, a first one is too long
pub record HasLongBlock (device : Device) (tracks : List Track) (len largest : ℕ) : Type 0 where
  pub pages : List Page
  pub behind : List Block
  pub members : List Member
  pub movable : IsMovable tracks pages behind members
  pub first : IsFirstTooLong device (all_blocks pages behind members) len largest

-- they take too many tracks
pub record TakesTooMany (device : Device) (tracks : List Track) : Type 0 where
  pub pages : List Page
  pub behind : List Block
  pub members : List Member
  pub movable : IsMovable tracks pages behind members
  pub many : TakeTooMany device (all_blocks pages behind members)

-- what stands against it on any device
abbrev pub HasFault : List Track → Why → Type 0
HasFault tracks whys.UserTtrs = HasUsers tracks
HasFault tracks whys.Directory = HasBrokenDirectory tracks ⊎ HasLostEntry tracks
HasFault tracks whys.NoEnd = HasNoEndThere tracks
HasFault tracks _ = ⊥

abbrev pub StandsAgainst : Device → List Track → Why → Type 0
StandsAgainst device tracks whys.Long = TakesTooMany device tracks
StandsAgainst device tracks why = HasFault tracks why

-- what a refusal says
abbrev pub IsPartitionedRefusal : Device → List Track → RelocFault → Type 0
IsPartitionedRefusal device tracks (NotRelocatable why) = (cause : Why) × (why ≡ number_of cause) × StandsAgainst device tracks cause
IsPartitionedRefusal device tracks (BlockTooLong len largest) = HasLongBlock device tracks len largest
IsPartitionedRefusal device tracks NoMemory = Unit {0}
