-- A dump that is read piece by piece.
use Rattle.std.specs.Prelude.{◌≡◌, ◌⊎◌, ℕ, ◌≤◌, List, [], ◌∷◌, length, Option, Some, None}
use Rattle.ckd_image.specs.Bytes.{Begins}
use Rattle.dasd_pool.specs.Count.{Rose}
use Rattle.dasd_pool.specs.Stream.{Takes, EndsOnly}
use Rattle.dump_fmt.specs.declared.fault.DumpFault.{DumpFault}
use Rattle.dump_fmt.specs.declared.fault.DumpFault.TheVariants.{BadDump, NoMemory, Reel}
use Rattle.dump_fmt.specs.declared.piece.DumpHead.{DumpHead}
use Rattle.dump_fmt.specs.declared.piece.Piece.{Piece}
use Rattle.dump_fmt.specs.Front.{Front, Adds, HasLabel, IsFront}
use Rattle.dump_fmt.specs.Text.{front_text, added_text, IsDumpText}
use Rattle.vol_label.specs.declared.label.Label.{Label}
use Rattle.dump_read.specs.declared.feed.Feed.{Feed}
use Rattle.dump_read.specs.declared.mark.Mark.{Mark}
use Rattle.dump_read.specs.declared.mark.Mark.TheVariants as marks
use Rattle.dump_read.specs.declared.standing.Standing.{Standing}
use Rattle.dump_read.specs.Tape.{TapeSeen}
use Rattle.dump_read.specs.Feed.{coming}
use Rattle.dump_read.specs.Faults.{LacksRecord}
use Rattle.dump_read.specs.Labelled.{IsLabelSlot, IsFormat4Slot}
use Rattle.dump_read.specs.PartText.{IsNextName}
use Rattle.dump_read.specs.Marks.{byte_of, MayStand}
use Rattle.dump_read.specs.Reading.{HasRead, HeldSuch}
use Rattle.dump_read.specs.Shape.{IsGoing}
use Rattle.dump_read.specs.Standing.{StandsAt}

-- the header of a dump, its reel, and where it stands between two pieces
pub record ReaderView : Type 0 where
  pub head : DumpHead
  pub feed : Feed
  pub standing : Standing

-- a piece with this mark, or the trailer, stands next; and a data set only where any name is left
pub record IsAhead (reader : ReaderView) (mark : Mark) : Type 0 where
  pub begins : Begins (byte_of mark ∷ []) reader.feed.window
  pub name : mark ≡ marks.Part → (name : List ℕ) × IsNextName reader.standing.name name

-- these pieces of a dump came from the front of the reel so far, which can go on
pub record IsReading (tape : TapeSeen) (reader : ReaderView) (front : Front) : Type 0 where
  pub is_front : IsFront reader.head front
  pub going : IsGoing reader.head front
  pub stands : StandsAt reader.head front reader.standing
  pub read : HasRead tape reader.feed (front_text reader.head front)

-- and what may stand next is this, with as much behind it as a piece may have, or all
pub record IsMarked (tape : TapeSeen) (reader : ReaderView) (front : Front) (mark : Mark) : Type 0 where
  pub reading : IsReading tape reader front
  pub may : MayStand reader.head front (byte_of mark)
  pub ahead : IsAhead reader mark
  pub looked : (57344 ≤ length reader.feed.window) ⊎ EndsOnly tape.left

-- a piece more came
abbrev pub Gives : TapeSeen → ReaderView → Front → Piece → Type 0
Gives tape reader front piece = (next : Front) × Adds front piece next × IsReading tape reader next

-- what the reel holds is the dump of these pieces
abbrev pub IsWhole : TapeSeen → ReaderView → Front → Type 0
IsWhole tape reader front = HeldSuch tape.held (λ whole. IsDumpText whole reader.head front)

-- a piece more came, or none and the dump is whole
abbrev pub GivesNext : TapeSeen → ReaderView → Front → Option Piece → Type 0
GivesNext tape reader front (Some piece) = Gives tape reader front piece
GivesNext tape reader front None = IsWhole tape reader front

-- what is to come: what is held beyond the pieces so far, and then what is left on the reel
abbrev pub to_come : TapeSeen → ReaderView → Option (List ℕ)
to_come tape reader = coming reader.feed.window tape.left

-- the piece took its bytes from the front of what was to come, and no others; behind the dump nothing is to come
abbrev pub TakesPiece : Option (List ℕ) → Option (List ℕ) → DumpHead → Front → Option Piece → Type 0
TakesPiece old new head front (Some piece) = Takes old new (added_text head front piece)
TakesPiece old new head front None = EndsOnly new

-- only where the reel failed its count rose
abbrev pub HasItsCause : TapeSeen → TapeSeen → DumpFault → Type 0
HasItsCause old new fault = fault ≡ Reel → Rose old.faults new.faults

-- ---- slots

-- with a slot of these bytes more, label and format 4 are where they have to be; this label is that of track 0
pub record IsLabelled (head : DumpHead) (front : Front) (bytes : List ℕ) (found : Option Label) : Type 0 where
  pub first : front.slots ≡ [] → (label : Label) × (found ≡ Some label) × IsLabelSlot head bytes label
  pub format_4 : length front.slots ≡ head.vtoc → (label : Label) × HasLabel head front.slots label × IsFormat4Slot head label bytes

-- or one of them isn't
abbrev pub IsLabelFault : DumpHead → Front → Feed → List ℕ → DumpFault → Type 0
IsLabelFault head front feed bytes (BadDump offset why) = (offset ≡ feed.offset) × (why ≡ 9) × LacksRecord head front.slots bytes
IsLabelFault head front feed bytes NoMemory = Unit {0}
IsLabelFault head front feed bytes _ = ⊥
