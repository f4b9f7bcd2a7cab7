-- What holds of the texts of dumps whatever reads or writes them.
use Rattle.std.specs.Prelude.{◌≡◌, ℕ, List}
use Rattle.ckd_image.specs.Bytes.{Begins}
use Rattle.dump_fmt.specs.declared.piece.DumpHead.{DumpHead}
use Rattle.dump_fmt.specs.Head.{IsDumpHead, header_text}
use Rattle.dump_fmt.specs.Front.{Front, IsFront}
use Rattle.dump_fmt.specs.Text.{front_text, IsDumpText}

-- no dump text begins another one
abbrev pub NoneBeginsAnother : Type 0
NoneBeginsAnother = (a b : List ℕ) (head other : DumpHead) (front behind : Front) → IsDumpText a head front → IsDumpText b other behind → Begins a b → a ≡ b

-- a text is of one header
abbrev pub OneHeader : Type 0
OneHeader = (head other : DumpHead) → IsDumpHead head → IsDumpHead other → header_text head ≡ header_text other → head ≡ other

-- what stands so far is of one header and one front
abbrev pub OneFront : Type 0
OneFront = (head other : DumpHead) (front behind : Front) → IsFront head front → IsFront other behind → front_text head front ≡ front_text other behind → (head ≡ other) × (front ≡ behind)

-- and so is a dump text
abbrev pub OneDump : Type 0
OneDump = (text : List ℕ) (head other : DumpHead) (front behind : Front) → IsDumpText text head front → IsDumpText text other behind → (head ≡ other) × (front ≡ behind)
