-- What holds of the parts of a dump, whoever reads them.
use Rattle.std.specs.Prelude.{◌≡◌, ℕ, List, [], ◌∷◌, ◌++◌, Option, Some, None}
use Rattle.ckd_image.specs.declared.track.Track.{Track as Text}
use Rattle.dump_fmt.specs.declared.piece.DumpHead.{DumpHead}
use Rattle.dump_fmt.specs.Front.{Front}
use Rattle.dump_fmt.specs.Parts.{DumpPart}
use Rattle.dump_fmt.specs.Text.{IsDumpText}
use Rattle.dump_read.specs.Reader.{IsReading, ReaderView}
use Rattle.dump_read.specs.Tape.{TapeSeen}
use Rattle.dump_parts.specs.Reading.{with_texts}

-- the part under way, if there is one, begins the first of those that are still to come
abbrev pub BeginsNext : Option DumpPart → List DumpPart → Type 0
BeginsNext None later = Unit {0}
BeginsNext (Some part) [] = ⊥
BeginsNext (Some part) (next ∷ later) = (texts : List Text) × (next ≡ with_texts part texts)

-- The parts that ended are the first of a dump, and the one under way begins the next.
pub record IsFrontOf (before whole : Front) : Type 0 where
  pub later : List DumpPart
  pub parts_are : whole.parts ≡ before.parts ++ later
  pub current : BeginsNext before.current later

-- What was read so far of a reel that holds a dump is a front of it.
abbrev pub FrontsAreOfTheirDump : Type 0
FrontsAreOfTheirDump =
    (tape : TapeSeen) (reader : ReaderView) (before front : Front) (whole : List ℕ) (head : DumpHead)
    → tape.held ≡ Some whole → IsDumpText whole head front → IsReading tape reader before → (reader.head ≡ head) × IsFrontOf before front
