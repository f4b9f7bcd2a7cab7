-- A reader behind the header, and why no header is read.
use Rattle.std.proofs.Common.{◌≡◌, ℕ, ◌+◌, ◌≤◌, ◌<◌, Bool, true, false, List, length, take, refl, sym, ap, subst, arith, length-append}
use Rattle.std.proofs.lemmas.List.{append-nil}
use Rattle.std.proofs.lemmas.List.Elements.{All-nil}
use Rattle.dasd_pool.specs.Stream.{EndsOnly}
use Rattle.dump_fmt.specs.declared.piece.DumpHead.{DumpHead}
use Rattle.dump_fmt.specs.Front.{empty_front, IsOfKind, IsCutSlot}
use Rattle.dump_fmt.specs.Head.{IsDumpHead, header_text}
use Rattle.dump_read.specs.declared.feed.Feed.{Feed}
use Rattle.dump_read.specs.declared.header.HeaderField.{HeaderField}
use Rattle.dump_read.specs.declared.header.HeaderField.TheVariants as fields
use Rattle.dump_read.specs.declared.header.HeaderStop.{HeaderStop}
use Rattle.dump_read.specs.declared.header.HeaderStop.TheVariants.{Wrong, Cut}
use Rattle.dump_read.specs.declared.standing.Standing.{Standing}
use Rattle.dump_read.specs.Faults.{IsBadHead, IsShortDump}
use Rattle.dump_read.specs.Feed.{coming}
use Rattle.dump_read.specs.Header.{offset_of, length_of, why_of, IsHeaderStop}
use Rattle.dump_read.specs.Reader.{IsReading}
use Rattle.dump_read.specs.Reading.{HasRead, HeldSuch}
use Rattle.dump_read.specs.Shape.{IsOfShape}
use Rattle.dump_read.specs.Standing.{StandsAt}
use Rattle.dump_read.specs.Tape.{TapeSeen}
use Rattle.dump_read.proofs.Ends.{told, nothing_left, taken_count}
use Rattle.dump_read.proofs.LiftedHeads.{header_going, wrong_head, cut_head}

-- ---- the header is there

empty_of : (full : Bool) (head : DumpHead) → IsOfShape full head empty_front → IsOfKind full head empty_front
empty_of true head is = record {
  no_parts = refl;
  no_current = refl;
  slots = All-nil (IsCutSlot head.device);
  few = omega arith;
  labelled = λ some. absurd (omega (arith, some));
  format_4 = λ behind. absurd (omega (arith, behind));
}
empty_of false head is = is

pub header_read : (tape : TapeSeen) (head : DumpHead) (feed : Feed) (standing : Standing) → IsDumpHead head → StandsAt head empty_front standing → HasRead tape feed (header_text head)
    → IsReading tape (record { head = head; feed = feed; standing = standing }) empty_front
header_read tape head feed standing is stands read =
    let going = header_going head is in
    record {
      is_front = record { header = is; behind = empty_of head.full head going.is_front.behind; few_tracks = going.is_front.few_tracks };
      going = going;
      stands = stands;
      read = subst (HasRead tape feed) (sym (append-nil (header_text head))) read;
    }

-- ---- it isn't

within : (field : HeaderField) → offset_of field + length_of field ≤ 32
within fields.Magic = omega arith
within fields.Kind = omega arith
within fields.Device = omega arith
within fields.Serial = omega arith
within fields.Tracks = omega arith
within fields.Vtoc = omega arith
within fields.Zeros = omega arith

pub bad_head : (tape : TapeSeen) (feed : Feed) (buf : List ℕ) (count offset why : ℕ) (field : HeaderField) (stop : HeaderStop) → HasRead tape feed (take count buf) → length buf ≡ 32 → count ≤ length buf
    → (count < length buf → EndsOnly (coming feed.window tape.left)) → IsHeaderStop (take count buf) stop → stop ≡ Wrong field → offset ≡ offset_of field → why ≡ why_of field
    → HeldSuch tape.held (IsBadHead offset why)
bad_head tape feed buf count offset why field stop is full few ends stops there at number =
    let bytes : List ℕ = take count buf in
    let len = taken_count buf count few in
    let wrong : IsHeaderStop bytes (Wrong field) = subst (IsHeaderStop bytes) there stops in
    told tape.held (coming feed.window tape.left) bytes (IsBadHead offset why) is.taken
    (λ whole left spelled next. record {
      field = field;
      at = at;
      number = number;
      wrong = rw at (wrong_head whole bytes left (offset_of field) (length_of field) spelled (omega (arith, len, few, full))
          (λ short. nothing_left left (coming feed.window tape.left) next (ends (omega (arith, short, len, full)))) wrong (within field));
    })

pub short_head : (tape : TapeSeen) (feed : Feed) (buf : List ℕ) (count : ℕ) (stop : HeaderStop) → HasRead tape feed (take count buf) → length buf ≡ 32 → count ≤ length buf
    → (count < length buf → EndsOnly (coming feed.window tape.left)) → IsHeaderStop (take count buf) stop → stop ≡ Cut → HeldSuch tape.held (λ whole. IsShortDump count whole × (length whole < 32))
short_head tape feed buf count stop is full few ends stops there =
    let bytes : List ℕ = take count buf in
    let (short, goes) = subst (IsHeaderStop bytes) there stops in
    let len = taken_count buf count few in
    told tape.held (coming feed.window tape.left) bytes (λ whole. IsShortDump count whole × (length whole < 32)) is.taken
    (λ whole left spelled next.
    let none = nothing_left left (coming feed.window tape.left) next (ends (omega (arith, short, len, full))) in
    let less = cut_head whole bytes left spelled (omega (arith, len, few, full)) (λ also. none) short goes in
    let all : length whole ≡ count = omega (arith, len, ap length spelled, length-append bytes left, ap length none) in (
      record { text = less.text; is_shape = less.is_shape; begins = less.begins; short = less.short; all = omega (arith, all, short, len) },
      omega (arith, all, short, len),
    ))
