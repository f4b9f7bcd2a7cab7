-- The directory of a partitioned data set.
use Rattle.std.specs.Prelude.{◌≡◌, ◌≢◌, ◌⊎◌, ℕ, ◌+◌, ◌*◌, ◌/◌, ◌%◌, List, [], ◌∷◌, ◌++◌, length, map, All}
use Rattle.std.specs.List.{flat_map}
use Rattle.byteorder.specs.Endian.{big_bytes}
use Rattle.ckd_image.specs.Bytes.{Begins}
use Rattle.org_reloc.specs.declared.block.Block.{Block}
use Rattle.org_reloc.specs.declared.entry.Entry.{Entry}
use Rattle.org_reloc.specs.declared.entry.Heading.{Heading}
use Rattle.org_reloc.specs.declared.directory.Page.{Page}
use Rattle.org_reloc.specs.Place.{place_text, IsPlace}

-- ---- an entry

-- what the last five bits of the kind count: halfwords of user data
abbrev pub data_length : ℕ → ℕ
data_length kind = 2 * (kind % 32)

-- what the two bits before them count: places in the user data
abbrev pub places_in : ℕ → ℕ
places_in kind = kind / 32 % 4

-- name, place and kind
abbrev pub heading_text : Heading → List ℕ
heading_text heading = heading.name ++ (place_text heading.place.track heading.place.number ++ heading.kind ∷ [])

abbrev pub heading_of : Entry → Heading
heading_of entry = record { name = entry.name; place = entry.place; kind = entry.kind }

-- name, place and kind, and the user data
abbrev pub entry_text : Entry → List ℕ
entry_text entry = heading_text (heading_of entry) ++ entry.data

abbrev pub entries_text : List Entry → List ℕ
entries_text entries = flat_map entry_text entries

-- the highest name, and zeros as place and kind: this ends the entries
abbrev pub last_text : List ℕ
last_text = 255 ∷ 255 ∷ 255 ∷ 255 ∷ 255 ∷ 255 ∷ 255 ∷ 255 ∷ 0 ∷ 0 ∷ 0 ∷ 0 ∷ []

pub record IsHeading (heading : Heading) : Type 0 where
  pub name_fits : length heading.name ≡ 8
  pub place_fits : IsPlace heading.place

-- what an entry may be; the last is none
pub record IsEntry (entry : Entry) : Type 0 where
  pub heading : IsHeading (heading_of entry)
  pub data_fits : length entry.data ≡ data_length entry.kind
  pub goes_on : ¬ Begins last_text (entry_text entry)

-- there are no places in its user data
abbrev pub IsPlain : Entry → Type 0
IsPlain entry = places_in entry.kind ≡ 0

-- ---- a block of a directory

-- the number of bytes used, entries, what is left of the bytes used, and the bytes behind them
abbrev pub page_body : Page → List ℕ
page_body page = big_bytes 2 page.used ++ (entries_text page.entries ++ (page.left ++ page.filler))

abbrev pub page_block : Page → Block
page_block page = record { key = page.key; body = page_body page }

-- the lengths of key and body
pub record IsShaped (block : Block) : Type 0 where
  pub key : length block.key ≡ 8
  pub body : length block.body ≡ 256

-- a block of a directory, of which so many entries have been read
pub record IsPage (page : Page) : Type 0 where
  pub shape : IsShaped (page_block page)
  pub used_is : page.used ≡ 2 + (length (entries_text page.entries) + length page.left)
  pub entries : All IsEntry page.entries

-- the entries take all the bytes used
pub record IsFullPage (page : Page) : Type 0 where
  pub sound : IsPage page
  pub nothing_left : page.left ≡ []

-- the last entry stands behind the entries
pub record IsLastPage (page : Page) : Type 0 where
  pub sound : IsPage page
  pub ends : Begins last_text page.left

abbrev pub entries_of : List Page → List Entry
entries_of pages = flat_map (λ page. page.entries) pages

-- ---- a directory

-- blocks full of entries, one with the last entry, and any blocks behind it, at which nothing is looked but their lengths
pub record IsDirectory (blocks : List Block) (pages : List Page) : Type 0 where
  pub before : List Page
  pub last : Page
  pub behind : List Block
  pub pages_are : pages ≡ before ++ last ∷ []
  pub blocks_are : blocks ≡ map page_block pages ++ behind
  pub full : All IsFullPage before
  pub ends : IsLastPage last
  pub shaped : All IsShaped behind

-- ---- what makes blocks no directory

-- these bytes begin with no entry, not even the last
pub record IsNoEntry (bytes : List ℕ) : Type 0 where
  pub some : bytes ≢ []
  pub not_last : ¬ Begins last_text bytes
  pub none : (entry : Entry) → IsEntry entry → ¬ Begins (entry_text entry) bytes

-- the block has other lengths, or a number of bytes used that isn't one
abbrev pub IsNoPage : Block → Type 0
IsNoPage block = (page : Page) → IsPage page → block ≢ page_block page

-- after full blocks and these entries, what is left of a block's bytes used is no entry
pub record HasBrokenEntry (blocks : List Block) (entries : List Entry) : Type 0 where
  pub before : List Page
  pub here : Page
  pub behind : List Block
  pub blocks_are : blocks ≡ map page_block before ++ page_block here ∷ behind
  pub full : All IsFullPage before
  pub sound : IsPage here
  pub broken : IsNoEntry here.left
  pub entries_are : entries ≡ entries_of before ++ here.entries

-- after full blocks with these entries, a block is none of a directory
pub record HasBrokenBlock (blocks : List Block) (entries : List Entry) : Type 0 where
  pub before : List Page
  pub block : Block
  pub behind : List Block
  pub blocks_are : blocks ≡ map page_block before ++ block ∷ behind
  pub full : All IsFullPage before
  pub broken : IsNoPage block
  pub entries_are : entries ≡ entries_of before

-- all blocks are full of these entries, and none has the last one
pub record HasNoLast (blocks : List Block) (entries : List Entry) : Type 0 where
  pub pages : List Page
  pub blocks_are : blocks ≡ map page_block pages
  pub full : All IsFullPage pages
  pub entries_are : entries ≡ entries_of pages

-- behind the last entry a block has other lengths
pub record HasBrokenRest (blocks : List Block) (entries : List Entry) : Type 0 where
  pub before : List Page
  pub last : Page
  pub behind : List Block
  pub blocks_are : blocks ≡ map page_block (before ++ last ∷ []) ++ behind
  pub full : All IsFullPage before
  pub ends : IsLastPage last
  pub broken : ¬ All IsShaped behind
  pub entries_are : entries ≡ entries_of (before ++ last ∷ [])

-- the first fault of a directory stands behind these entries
abbrev pub IsBrokenAfter : List Block → List Entry → Type 0
IsBrokenAfter blocks entries = HasBrokenEntry blocks entries ⊎ HasBrokenBlock blocks entries ⊎ HasNoLast blocks entries ⊎ HasBrokenRest blocks entries

-- an entry before the first fault has places in its user data
pub record HasUserPlaces (blocks : List Block) : Type 0 where
  pub before : List Page
  pub here : Page
  pub behind : List Block
  pub entry : Entry
  pub blocks_are : blocks ≡ map page_block before ++ page_block here ∷ behind
  pub full : All IsFullPage before
  pub sound : IsPage here
  pub entry_sound : IsEntry entry
  pub next : Begins (entry_text entry) here.left
  pub places : ¬ IsPlain entry
