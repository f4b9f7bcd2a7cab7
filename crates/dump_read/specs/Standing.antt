-- Where a dump stands between two pieces, as a reader keeps it.
use Rattle.std.specs.Prelude.{◌≡◌, ℕ, List, [], ◌∷◌, length, take, Option, Some, None}
use Rattle.vol_label.specs.declared.label.Label.{Label}
use Rattle.dump_fmt.specs.declared.piece.DumpHead.{DumpHead}
use Rattle.dump_fmt.specs.declared.piece.Piece.{Piece}
use Rattle.dump_fmt.specs.Parts.{DumpPart}
use Rattle.dump_fmt.specs.Front.{Front, Adds, HasLabel, all_parts, whole_parts, whole_tracks}
use Rattle.dump_read.specs.Labelled.{IsLabelSlot}
use Rattle.dump_read.specs.Shape.{IsGoing}
use Rattle.dump_read.specs.declared.standing.UnderWay.{UnderWay}
use Rattle.dump_read.specs.declared.standing.Standing.{Standing}

abbrev pub name_of : DumpPart → List ℕ
name_of part = take 44 part.f1

-- the name of the last of some parts
abbrev pub last_name : List DumpPart → Option (List ℕ)
last_name [] = None
last_name (part ∷ []) = Some (name_of part)
last_name (part ∷ (next ∷ more)) = last_name (next ∷ more)

-- how many tracks the part under way is to have, and how many it has
abbrev pub IsUnderWay : Option DumpPart → Option UnderWay → Type 0
IsUnderWay None under = under ≡ None
IsUnderWay (Some part) under = under ≡ Some (record { due = part.tracks; read = length part.texts })

-- the label of a full dump, once its slot stands there
abbrev pub KeepsLabel : DumpHead → List (List ℕ) → Option Label → Type 0
KeepsLabel head [] kept = Unit {0}
KeepsLabel head (slot ∷ slots) kept = (label : Label) × (kept ≡ Some label) × HasLabel head (slot ∷ slots) label

-- what is kept of what stands so far
pub record StandsAt (head : DumpHead) (front : Front) (standing : Standing) : Type 0 where
  pub name : standing.name ≡ last_name (all_parts front)
  pub begun : standing.begun ≡ length (all_parts front)
  pub parts : standing.parts ≡ whole_parts front
  pub tracks : standing.tracks ≡ whole_tracks front
  pub under_way : IsUnderWay front.current standing.under_way
  pub slots : standing.slots ≡ length front.slots
  pub label : KeepsLabel head front.slots standing.label

-- the slot of track 0 has this label
abbrev pub IsLabelledBy : DumpHead → Standing → List ℕ → Option Label → Type 0
IsLabelledBy head old bytes found = old.slots ≡ 0 → (label : Label) × (found ≡ Some label) × IsLabelSlot head bytes label

-- wherever a shape stood with a piece more, that piece stands there now
abbrev pub Steps : DumpHead → Standing → Piece → Standing → Type 0
Steps head old piece new = (front next : Front) → IsGoing head front → StandsAt head front old → Adds front piece next → IsGoing head next → StandsAt head next new
