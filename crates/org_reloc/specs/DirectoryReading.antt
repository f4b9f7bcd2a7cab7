-- What the steps of reading a directory say.
use Rattle.std.specs.Prelude.{◌≡◌, ◌⊎◌, ℕ, List, [], ◌∷◌, ◌++◌, map, All}
use Rattle.ckd_image.specs.Bytes.{Begins}
use Rattle.org_reloc.specs.declared.block.Block.{Block}
use Rattle.org_reloc.specs.declared.entry.Entry.{Entry}
use Rattle.org_reloc.specs.declared.directory.Page.{Page}
use Rattle.org_reloc.specs.declared.fault.RelocFault.{RelocFault}
use Rattle.org_reloc.specs.declared.fault.RelocFault.TheVariants.{NotRelocatable, BlockTooLong, NoMemory}
use Rattle.org_reloc.specs.declared.fault.Why.TheVariants as whys
use Rattle.org_reloc.specs.Refusal.{number_of}
use Rattle.org_reloc.specs.Directory.{entry_text, entries_text, last_text, IsEntry, IsPlain, page_block, IsPage, IsFullPage, IsLastPage, IsNoEntry, IsNoPage, entries_of, IsDirectory, IsBrokenAfter, HasUserPlaces}

-- the bytes are these entries and what is left
pub record IsReadSoFar (bytes : List ℕ) (entries : List Entry) (left : List ℕ) : Type 0 where
  pub text : bytes ≡ entries_text entries ++ left
  pub each : All IsEntry entries
  pub plain : All IsPlain entries

-- nothing is left, or the last entry comes
abbrev pub IsDone : List ℕ → Type 0
IsDone left = (left ≡ []) ⊎ Begins last_text left

pub record IsReadTo (bytes : List ℕ) (entries : List Entry) (left : List ℕ) : Type 0 where
  pub so_far : IsReadSoFar bytes entries left
  pub done : IsDone left

-- an entry with places in its user data comes
pub record UserNext (left : List ℕ) : Type 0 where
  pub entry : Entry
  pub sound : IsEntry entry
  pub next : Begins (entry_text entry) left
  pub places : ¬ IsPlain entry

pub record HasUserEntry (bytes : List ℕ) : Type 0 where
  pub entries : List Entry
  pub left : List ℕ
  pub so_far : IsReadSoFar bytes entries left
  pub user : UserNext left

-- something comes that is no entry
pub record HasNoEntry (bytes : List ℕ) : Type 0 where
  pub entries : List Entry
  pub left : List ℕ
  pub so_far : IsReadSoFar bytes entries left
  pub broken : IsNoEntry left

abbrev pub IsReadRefusal : List ℕ → RelocFault → Type 0
IsReadRefusal bytes (NotRelocatable why) = ((why ≡ number_of whys.UserTtrs) × HasUserEntry bytes) ⊎ ((why ≡ number_of whys.Directory) × HasNoEntry bytes)
IsReadRefusal bytes (BlockTooLong len largest) = ⊥
IsReadRefusal bytes NoMemory = Unit {0}

-- the block as a page, as far as it has been read
pub record IsPart (block : Block) (page : Page) : Type 0 where
  pub sound : IsPage page
  pub plain : All IsPlain page.entries
  pub block_is : block ≡ page_block page

pub record IsPageRead (block : Block) (page : Page) : Type 0 where
  pub part : IsPart block page
  pub done : IsDone page.left

pub record HasUserPage (block : Block) : Type 0 where
  pub page : Page
  pub part : IsPart block page
  pub user : UserNext page.left

pub record HasBrokenPage (block : Block) : Type 0 where
  pub page : Page
  pub part : IsPart block page
  pub broken : IsNoEntry page.left

abbrev pub IsPageRefusal : Block → RelocFault → Type 0
IsPageRefusal block (NotRelocatable why) = ((why ≡ number_of whys.UserTtrs) × HasUserPage block) ⊎ ((why ≡ number_of whys.Directory) × (HasBrokenPage block ⊎ IsNoPage block))
IsPageRefusal block (BlockTooLong len largest) = ⊥
IsPageRefusal block NoMemory = Unit {0}

-- the pages up to the one with the last entry
pub record ArePagesRead (blocks : List Block) (pages : List Page) : Type 0 where
  pub before : List Page
  pub last : Page
  pub behind : List Block
  pub pages_are : pages ≡ before ++ last ∷ []
  pub blocks_are : blocks ≡ map page_block pages ++ behind
  pub full : All IsFullPage before
  pub ends : IsLastPage last
  pub plain : All IsPlain (entries_of pages)

pub record IsDirectoryRead (blocks : List Block) (pages : List Page) : Type 0 where
  pub directory : IsDirectory blocks pages
  pub plain : All IsPlain (entries_of pages)

-- the blocks are no directory, and no entry before the first fault has places in its user data
pub record IsFaulty (blocks : List Block) : Type 0 where
  pub entries : List Entry
  pub broken : IsBrokenAfter blocks entries
  pub plain : All IsPlain entries

abbrev pub IsDirectoryRefusal : List Block → RelocFault → Type 0
IsDirectoryRefusal blocks (NotRelocatable why) = ((why ≡ number_of whys.UserTtrs) × HasUserPlaces blocks) ⊎ ((why ≡ number_of whys.Directory) × IsFaulty blocks)
IsDirectoryRefusal blocks (BlockTooLong len largest) = ⊥
IsDirectoryRefusal blocks NoMemory = Unit {0}
