-- A dump that goes from a reel to outputs: each piece that is read may be put there.
use Rattle.std.proofs.Common.{◌≡◌, ℕ, Bool, true, false, List, drop, Option, Some, None, sym, subst}
use Rattle.dasd_pool.specs.declared.media.MemoryReel.{MemoryReel}
use Rattle.dump_fmt.specs.declared.outs.OutState.TheVariants.{Whole}
use Rattle.dump_fmt.specs.declared.piece.DumpHead.{DumpHead}
use Rattle.dump_fmt.specs.declared.piece.Piece.{Piece}
use Rattle.dump_fmt.specs.declared.progress.Progress.{Progress}
use Rattle.dump_fmt.specs.Front.{Front, empty_front, Adds, IsFront, IsDump}
use Rattle.dump_fmt.specs.Outs.{OutSeen}
use Rattle.dump_fmt.specs.Text.{dump_text, IsDumpText}
use Rattle.dump_fmt.specs.Writing.{IsWriting, IsWritten, MayEnd}
use Rattle.dump_read.specs.Reader.{ReaderView, IsReading, GivesNext}
use Rattle.dump_read.specs.Reading.{HeldSuch}
use Rattle.dump_read.specs.Tape.{TapeSeen}
use Rattle.rows_dumps.specs.Copied.{IsCopied, IsAllCopied, CopiesNext}

-- what contracts see of a reel in memory
abbrev pub seen_of : MemoryReel → TapeSeen
seen_of reel = record { held = Some reel.text; left = Some (drop reel.place reel.text); faults = reel.failures.faults }

-- ---- piece by piece

pub none_copied : {X : Type 0} (seen : X → OutSeen) (before : List X) (tape : TapeSeen) (reader : ReaderView) (head : DumpHead) (progress : Progress) (outs : List X) → head ≡ reader.head
    → IsReading tape reader empty_front → IsWriting seen before head empty_front progress outs → IsCopied seen before tape reader progress outs
none_copied seen before tape reader head progress outs same reading writing =
    record { front = empty_front; reading = reading; writing = subst (λ (h : DumpHead). IsWriting seen before h empty_front progress outs) same writing }

-- a call gives this, whatever front was read
abbrev pub GivesAny : TapeSeen → ReaderView → TapeSeen → ReaderView → Option Piece → Type 0
GivesAny old from new to found = (front : Front) → IsReading old from front → GivesNext new to front found

-- a call puts it, whatever front is written
abbrev pub PutsPiece : {X : Type 0} → (X → OutSeen) → Piece → Progress → List X → Progress → List X → Type 0
PutsPiece {X} seen piece progress outs after sent =
    (before : List X) (head : DumpHead) (front next : Front) → IsWriting seen before head front progress outs → Adds front piece next → IsFront head next → IsWriting seen before head next after sent

pub piece_copied : {X : Type 0} (seen : X → OutSeen) (before : List X) (old new : TapeSeen) (from to : ReaderView) (progress : Progress) (outs : List X) (after : Progress) (sent : List X) (piece : Piece)
    → to.head ≡ from.head → GivesAny old from new to (Some piece) → PutsPiece seen piece progress outs after sent → IsCopied seen before old from progress outs → IsCopied seen before new to after sent
piece_copied seen before old new from to progress outs after sent piece same gives puts copied =
    let (next, adds, reading) = gives copied.front copied.reading in
    let stands : IsFront from.head next = subst (λ (head : DumpHead). IsFront head next) same reading.is_front in
    let writing : IsWriting seen before from.head next after sent = puts before from.head copied.front next copied.writing adds stands in
    record { front = next; reading = reading; writing = subst (λ (head : DumpHead). IsWriting seen before head next after sent) (sym same) writing }

pub copied_on : {X : Type 0} (seen : X → OutSeen) (before : List X) (tape : TapeSeen) (reader : ReaderView) (progress : Progress) (outs : List X) (more : Bool) → more ≡ true
    → CopiesNext seen before tape reader progress outs more → IsCopied seen before tape reader progress outs
copied_on seen before tape reader progress outs more some copies = subst (λ (b : Bool). CopiesNext seen before tape reader progress outs b) some copies

-- ---- the end

pub all_copied : {X : Type 0} (seen : X → OutSeen) (before : List X) (old new : TapeSeen) (from to : ReaderView) (progress : Progress) (outs : List X) → to.head ≡ from.head → GivesAny old from new to None
    → IsCopied seen before old from progress outs → IsAllCopied seen before new to.head progress outs
all_copied seen before old new from to progress outs same gives copied = record {
  front = copied.front;
  whole = gives copied.front copied.reading;
  writing = subst (λ (head : DumpHead). IsWriting seen before head copied.front progress outs) (sym same) copied.writing;
}

copied_all : {X : Type 0} (seen : X → OutSeen) (before : List X) (tape : TapeSeen) (reader : ReaderView) (progress : Progress) (outs : List X) (more : Bool) → more ≡ false
    → CopiesNext seen before tape reader progress outs more → IsAllCopied seen before tape reader.head progress outs
copied_all seen before tape reader progress outs more none copies = subst (λ (b : Bool). CopiesNext seen before tape reader progress outs b) none copies

is_text : {X : Type 0} (seen : X → OutSeen) (before : List X) (tape : TapeSeen) (head : DumpHead) (progress : Progress) (outs : List X) (text : List ℕ) → tape.held ≡ Some text
    → (all : IsAllCopied seen before tape head progress outs) → IsDumpText text head all.front
is_text seen before tape head progress outs text told all = subst (λ (held : Option (List ℕ)). HeldSuch held (λ whole. IsDumpText whole head all.front)) told all.whole

pub may_end : {X : Type 0} (seen : X → OutSeen) (before : List X) (tape : TapeSeen) (reader : ReaderView) (progress : Progress) (outs : List X) (text : List ℕ) (more : Bool) → tape.held ≡ Some text
    → more ≡ false → CopiesNext seen before tape reader progress outs more → MayEnd seen progress outs
may_end seen before tape reader progress outs text more told none copies =
    let all = copied_all seen before tape reader progress outs more none copies in
    (before, reader.head, all.front, all.writing, (is_text seen before tape reader.head progress outs text told all).sound)

-- a call ends it, whatever dump is written
abbrev pub Ends : {X : Type 0} → (X → OutSeen) → Progress → List X → List X → Type 0
Ends {X} seen progress outs after =
    (before : List X) (head : DumpHead) (front : Front) → IsWriting seen before head front progress outs → IsDump head front → IsWritten seen Whole (dump_text head front) progress.places.items before after

pub text_copied : {X : Type 0} (seen : X → OutSeen) (before : List X) (tape : TapeSeen) (reader : ReaderView) (progress : Progress) (outs after : List X) (places text : List ℕ) (more : Bool)
    → tape.held ≡ Some text → progress.places.items ≡ places → Ends seen progress outs after → more ≡ false → CopiesNext seen before tape reader progress outs more
    → IsWritten seen Whole text places before after
text_copied seen before tape reader progress outs after places text more told at ends none copies =
    let all = copied_all seen before tape reader progress outs more none copies in
    let is : IsDumpText text reader.head all.front = is_text seen before tape reader.head progress outs text told all in
    let there : IsWritten seen Whole text progress.places.items before after =
    subst (λ (t : List ℕ). IsWritten seen Whole t progress.places.items before after) (sym is.spelled) (ends before reader.head all.front all.writing is.sound) in
    subst (λ (p : List ℕ). IsWritten seen Whole text p before after) at there
