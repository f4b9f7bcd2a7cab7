-- The members of a partitioned data set.
use Rattle.std.specs.Prelude.{◌≡◌, ◌≢◌, ℕ, ◌+◌, ◌*◌, ◌/◌, ◌%◌, List, [], ◌∷◌, ◌++◌, length, map, All}
use Rattle.std.specs.List.{flat_map, Contains}
use Rattle.std.specs.List.Sorted.{IsStrictlyIncreasing}
use Rattle.ckd_image.specs.declared.track.Rec.{Rec}
use Rattle.ckd_image.specs.declared.track.Track.{Track}
use Rattle.org_reloc.specs.declared.block.Block.{Block}
use Rattle.org_reloc.specs.declared.entry.Entry.{Entry}
use Rattle.org_reloc.specs.declared.place.Place.{Place}
use Rattle.org_reloc.specs.Content.{end_of_file, HasNoEnd, HoldUpToEnd}
use Rattle.org_reloc.specs.Place.{place_text, Names}

-- a place as one number, by which places have an order
abbrev pub number_of_place : Place → ℕ
number_of_place place = 256 * place.track + place.number

abbrev pub place_of_number : ℕ → Place
place_of_number number = record { track = number / 256 % 65536; number = number % 256 }

-- these are the record at the place and all behind it
abbrev pub NamesRecords : List Track → Place → List Rec → Type 0
NamesRecords tracks place recs = Names tracks (place_text place.track place.number) recs

-- there is a record at the place
pub record NamesOne (tracks : List Track) (place : Place) : Type 0 where
  pub recs : List Rec
  pub names : NamesRecords tracks place recs

-- the member at the place has these blocks: those from there up to the first end of file
pub record HoldsMember (tracks : List Track) (place : Place) (blocks : List Block) : Type 0 where
  pub recs : List Rec
  pub names : NamesRecords tracks place recs
  pub held : HoldUpToEnd recs blocks

-- there is a record at the place, and no end of file from there on
pub record IsEndless (tracks : List Track) (place : Place) : Type 0 where
  pub recs : List Rec
  pub names : NamesRecords tracks place recs
  pub none : HasNoEnd recs

-- a member: the place that its entries name, and its blocks
pub record Member : Type 0 where
  pub place : Place
  pub blocks : List Block

abbrev pub member_blocks : Member → List Block
member_blocks member = member.blocks ++ end_of_file ∷ []

abbrev pub members_blocks : List Member → List Block
members_blocks members = flat_map member_blocks members

abbrev pub places_of_entries : List Entry → List Place
places_of_entries entries = map (λ entry. entry.place) entries

-- the members that entries name, each once, in the order of their places
pub record AreMembers (tracks : List Track) (entries : List Entry) (members : List Member) : Type 0 where
  pub ascending : IsStrictlyIncreasing (map (λ member. number_of_place member.place) members)
  pub named : All (λ entry. Contains (map (λ member. member.place) members) entry.place) entries
  pub only : All (λ member. Contains (places_of_entries entries) member.place) members
  pub held : All (λ member. HoldsMember tracks member.place member.blocks) members

-- ---- what the steps say

-- the places of these entries as numbers, each once, in ascending order
pub record AreNumbers (entries : List Entry) (numbers : List ℕ) : Type 0 where
  pub ascending : IsStrictlyIncreasing numbers
  pub named : All (λ entry. Contains numbers (number_of_place entry.place)) entries
  pub only : All (Contains (map (λ entry. number_of_place entry.place) entries)) numbers

-- the records of a track from the first with the number
pub record AreFrom (recs : List Rec) (number : ℕ) (from : List Rec) : Type 0 where
  pub skipped : List Rec
  pub rec : Rec
  pub rest : List Rec
  pub recs_are : recs ≡ skipped ++ rec ∷ rest
  pub first : All (λ other. other.r ≢ number) skipped
  pub number_is : rec.r ≡ number
  pub from_is : from ≡ rec ∷ rest

-- a member's blocks and an end of file come behind others
pub record IsMemberPut (tracks : List Track) (place : Place) (old new : List Block) : Type 0 where
  pub blocks : List Block
  pub held : HoldsMember tracks place blocks
  pub new_is : new ≡ old ++ (blocks ++ end_of_file ∷ [])

-- where each member begins when they stand behind so many blocks
abbrev pub starts_of : ℕ → List Member → List ℕ
starts_of base [] = []
starts_of base (member ∷ more) = base ∷ starts_of (base + length (member_blocks member)) more

-- the members at these places come behind others
pub record AreMembersPut (tracks : List Track) (numbers : List ℕ) (old new : List Block) (starts : List ℕ) : Type 0 where
  pub members : List Member
  pub places_are : map (λ member. member.place) members ≡ map place_of_number numbers
  pub held : All (λ member. HoldsMember tracks member.place member.blocks) members
  pub new_is : new ≡ old ++ members_blocks members
  pub starts_are : starts ≡ starts_of (length old) members
