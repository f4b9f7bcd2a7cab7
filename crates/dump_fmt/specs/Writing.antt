-- A dump while it is written, and what is left of it on its outputs.
use Rattle.std.specs.Prelude.{◌≡◌, ℕ, ◌<◌, List, length, All, Some, None, Option}
use Rattle.sha2.specs.Hashers.{Holds256}
use Rattle.dump_fmt.specs.declared.piece.DumpHead.{DumpHead}
use Rattle.dump_fmt.specs.declared.piece.Piece.{Piece}
use Rattle.dump_fmt.specs.declared.progress.Progress.{Progress}
use Rattle.dump_fmt.specs.declared.outs.OutState.{OutState}
use Rattle.dump_fmt.specs.declared.outs.OutState.TheVariants as states
use Rattle.dump_fmt.specs.Outs.{OutSeen, EachAt, HasTaken, AreDistinct}
use Rattle.dump_fmt.specs.Parts.{DumpPart}
use Rattle.dump_fmt.specs.Front.{Front, Adds, IsFront, IsDump, whole_parts, whole_tracks}
use Rattle.dump_fmt.specs.Text.{front_text}

-- how many tracks the part under way is to have
abbrev pub IsDue : Option DumpPart → ℕ → Type 0
IsDue None count = Unit {0}
IsDue (Some part) count = count ≡ part.tracks

-- Each output at the places took this text behind what it held before, or a front of it and is lost. Every other output is the very same.
abbrev pub IsWritten : {X : Type 0} → (X → OutSeen) → OutState → List ℕ → List ℕ → List X → List X → Type 0
IsWritten seen state text places before outs = EachAt (λ a b. HasTaken state text (seen a) (seen b)) places before outs

-- The outputs at the places have taken the text of header and pieces so far behind what they held before: each of them all of it, or a front and it is lost.
-- The counts and the digest are those of what stands so far.
pub record IsWriting {X : Type 0} (seen : X → OutSeen) (before : List X) (head : DumpHead) (front : Front) (progress : Progress) (outs : List X) : Type 0 where
  pub stands : IsFront head front
  pub taken : IsWritten seen states.Cut (front_text head front) progress.places.items before outs
  pub within : All (λ place. place < length before) progress.places.items
  pub distinct : AreDistinct progress.places.items
  pub parts : progress.parts ≡ whole_parts front
  pub tracks : progress.tracks ≡ whole_tracks front
  pub due : IsDue front.current progress.due
  pub digest : Holds256 progress.digest (front_text head front)

-- a piece may stand next
abbrev pub MayAdd : {X : Type 0} → (X → OutSeen) → Piece → Progress → List X → Type 0
MayAdd {X} seen piece progress outs =
    (before : List X) × (head : DumpHead) × (front : Front) × (next : Front) × IsWriting seen before head front progress outs × Adds front piece next × IsFront head next

-- the trailer may stand next
abbrev pub MayEnd : {X : Type 0} → (X → OutSeen) → Progress → List X → Type 0
MayEnd {X} seen progress outs = (before : List X) × (head : DumpHead) × (front : Front) × IsWriting seen before head front progress outs × IsDump head front
