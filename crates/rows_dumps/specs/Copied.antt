-- A dump that goes from a reel to outputs.
use Rattle.std.specs.Prelude.{List, Bool, true, false}
use Rattle.dump_fmt.specs.declared.piece.DumpHead.{DumpHead}
use Rattle.dump_fmt.specs.declared.progress.Progress.{Progress}
use Rattle.dump_fmt.specs.Front.{Front}
use Rattle.dump_fmt.specs.Outs.{OutSeen}
use Rattle.dump_fmt.specs.Text.{IsDumpText}
use Rattle.dump_fmt.specs.Writing.{IsWriting}
use Rattle.dump_read.specs.Reader.{ReaderView, IsReading}
use Rattle.dump_read.specs.Reading.{HeldSuch}
use Rattle.dump_read.specs.Tape.{TapeSeen}

-- the same pieces were read from the reel and put on the outputs
pub record IsCopied {X : Type 0} (seen : X → OutSeen) (before : List X) (tape : TapeSeen) (reader : ReaderView) (progress : Progress) (outs : List X) : Type 0 where
  pub front : Front
  pub reading : IsReading tape reader front
  pub writing : IsWriting seen before reader.head front progress outs

-- all pieces of the dump that the reel holds were put on the outputs
pub record IsAllCopied {X : Type 0} (seen : X → OutSeen) (before : List X) (tape : TapeSeen) (head : DumpHead) (progress : Progress) (outs : List X) : Type 0 where
  pub front : Front
  pub whole : HeldSuch tape.held (λ whole. IsDumpText whole head front)
  pub writing : IsWriting seen before head front progress outs

-- a piece more was read and put there, or none is left
abbrev pub CopiesNext : {X : Type 0} → (X → OutSeen) → List X → TapeSeen → ReaderView → Progress → List X → Bool → Type 0
CopiesNext seen before tape reader progress outs true = IsCopied seen before tape reader progress outs
CopiesNext seen before tape reader progress outs false = IsAllCopied seen before tape reader.head progress outs
