-- What was read from a reel, one part after the other.
use Rattle.std.proofs.Common.{◌≡◌, ℕ, ◌+◌, ◌≤◌, min, List, [], ◌++◌, length, take, drop, Option, Some, None, refl, sym, ap, subst, ◌∙◌, arith, length-append, append_assoc}
use Rattle.byteorder.specs.Endian.{big_bytes}
use Rattle.std.proofs.lemmas.List.{take-append-drop, append-nil, length-take}
use Rattle.sha2.specs.Hashers.{Holds256}
use Rattle.dasd_pool.specs.Stream.{Takes, EndsOnly}
use Rattle.ckd_image.specs.Bytes.{Begins}
use Rattle.dump_fmt.specs.declared.piece.DumpHead.{DumpHead}
use Rattle.dump_fmt.specs.Head.{IsDumpHead, header_text, day_text}
use Rattle.dump_read.specs.declared.feed.Feed.{Feed}
use Rattle.dump_read.specs.Tape.{TapeSeen}
use Rattle.dump_read.specs.Feed.{coming, largest_offset}
use Rattle.dump_read.specs.Reading.{HasRead, HeldSuch}
use Rattle.dump_read.proofs.Words.{whole_front}
use Rattle.dasd_pool.proofs.Streams.{takes_then}

takes_none : (held left : Option (List ℕ)) → held ≡ left → Takes held (coming [] left) []
takes_none None left same = subst (λ (o : Option (List ℕ)). coming [] o ≡ None) same refl
takes_none (Some bytes) left same = (bytes, subst (λ (o : Option (List ℕ)). coming [] o ≡ Some bytes) same refl, refl)

pub read_none : (tape : TapeSeen) (feed : Feed) → tape.left ≡ tape.held → feed.window ≡ [] → feed.offset ≡ 0 → Holds256 feed.digest [] → HasRead tape feed []
read_none tape feed same window offset digest = record {
  taken = subst (λ (w : List ℕ). Takes tape.held (coming w tape.left) []) (sym window) (takes_none tape.held tape.left (sym same));
  offset = omega arith;
  digest = digest;
}

takes_behind : (old new : Option (List ℕ)) (bytes piece left : List ℕ) (whole : List ℕ) → whole ≡ bytes ++ left → old ≡ Some left → Takes old new piece → Takes (Some whole) new (bytes ++ piece)
takes_behind old new bytes piece left whole is there took =
    let more : Takes (Some left) new piece = subst (λ (o : Option (List ℕ)). Takes o new piece) there took in
    (more.0, more.1, is ∙ ap (λ (t : List ℕ). bytes ++ t) more.2 ∙ sym (append_assoc bytes piece more.0))

pub read_more : (old new : TapeSeen) (before after : Feed) (bytes piece : List ℕ) → HasRead old before bytes → new.held ≡ old.held
    → Takes (coming before.window old.left) (coming after.window new.left) piece → after.offset ≡ min (before.offset + length piece) largest_offset
    → ((message : List ℕ) → Holds256 before.digest message → Holds256 after.digest (message ++ piece)) → HasRead new after (bytes ++ piece)
read_more old new before after bytes piece is same took offset holds = record {
  taken = subst (λ (h : Option (List ℕ)). Takes h (coming after.window new.left) (bytes ++ piece)) (sym same)
      (takes_then old.held (coming before.window old.left) (coming after.window new.left) bytes piece is.taken took);
  offset = let a = is.offset in let b = length-append bytes piece in omega arith;
  digest = holds bytes is.digest;
}

-- ---- what was read of the header

pub long_header : (head : DumpHead) → IsDumpHead head → length (header_text head) ≡ 32
long_header head sound =
    let a = length-append head.serial.text (big_bytes 4 head.tracks) in
    let b = length-append (head.serial.text ++ big_bytes 4 head.tracks) (day_text head) in
    let six = sound.serial.1.six in
    omega arith

-- no more than 32 bytes that begin with a header are it
pub header_is : (head : DumpHead) (bytes : List ℕ) → IsDumpHead head → length bytes ≤ 32 → Begins (header_text head) bytes → bytes ≡ header_text head
header_is head bytes sound short (more, is) = whole_front (header_text head) bytes more is (let h = long_header head sound in omega arith)

-- ---- the beginning

-- the first bytes that were fetched, by what was done
pub first_fetched : (old new : TapeSeen) (fresh after : Feed) (buf : List ℕ) (count : ℕ) → old.left ≡ old.held → fresh.window ≡ [] → fresh.offset ≡ 0 → Holds256 fresh.digest []
    → count ≤ length buf → Takes (coming fresh.window old.left) (coming after.window new.left) (take count buf) → after.offset ≡ min (fresh.offset + count) largest_offset
    → ((message : List ℕ) → Holds256 fresh.digest message → Holds256 after.digest (message ++ take count buf)) → new.held ≡ old.held → HasRead new after (take count buf)
first_fetched old new fresh after buf count same window none empty within took offset holds held =
    let len : length (take count buf) ≡ count = length-take count buf ∙ (let e : min count (length buf) ≡ count = omega arith in e) in
    read_more old new fresh after [] (take count buf) (read_none old fresh same window none empty) held took (subst (λ (n : ℕ). after.offset ≡ min (fresh.offset + n) largest_offset) (sym len) offset) holds

pub whole_header : (tape : TapeSeen) (feed : Feed) (head : DumpHead) (bytes : List ℕ) → HasRead tape feed bytes → length bytes ≤ 32 → IsDumpHead head → Begins (header_text head) bytes
    → HasRead tape feed (header_text head)
whole_header tape feed head bytes is short sound begins = subst (HasRead tape feed) (header_is head bytes sound short begins) is

-- ---- what is read ahead

-- what is read behind the window comes in the same place
pub coming_more : (window piece : List ℕ) (old new : Option (List ℕ)) → Takes old new piece → coming (window ++ piece) new ≡ coming window old
coming_more window piece None new took = subst (λ (o : Option (List ℕ)). coming (window ++ piece) o ≡ None) (sym took) refl
coming_more window piece (Some old) new (left, is, all) =
    subst (λ (o : Option (List ℕ)). coming (window ++ piece) o ≡ Some (window ++ old)) (sym is)
    (ap Some (append_assoc window piece left ∙ ap (λ (t : List ℕ). window ++ t) (sym all)))

pub read_look : (old new : TapeSeen) (before after : Feed) (bytes : List ℕ) → HasRead old before bytes → new.held ≡ old.held → coming after.window new.left ≡ coming before.window old.left
    → after.offset ≡ before.offset → ((message : List ℕ) → Holds256 before.digest message → Holds256 after.digest message) → HasRead new after bytes
read_look old new before after bytes is same next offset holds = record {
  taken = subst (λ (h : Option (List ℕ)). Takes h (coming after.window new.left) bytes) (sym same)
      (subst (λ (o : Option (List ℕ)). Takes old.held o bytes) (sym next) is.taken);
  offset = offset ∙ is.offset;
  digest = holds bytes is.digest;
}

coming_less : (window : List ℕ) (count : ℕ) (left : Option (List ℕ)) → Takes (coming window left) (coming (drop count window) left) (take count window)
coming_less window count None = refl
coming_less window count (Some left) =
    (drop count window ++ left, refl, ap (λ (t : List ℕ). t ++ left) (sym (take-append-drop count window)) ∙ append_assoc (take count window) (drop count window) left)

pub read_pass : (tape : TapeSeen) (before after : Feed) (bytes : List ℕ) (count : ℕ) → HasRead tape before bytes → after.window ≡ drop count before.window
    → after.offset ≡ min (before.offset + count) largest_offset → count ≤ length before.window
    → ((message : List ℕ) → Holds256 before.digest message → Holds256 after.digest (message ++ take count before.window)) → HasRead tape after (bytes ++ take count before.window)
read_pass tape before after bytes count is window offset within holds =
    let len : length (take count before.window) ≡ count = length-take count before.window ∙ (let e : min count (length before.window) ≡ count = omega arith in e) in
    read_more tape tape before after bytes (take count before.window) is refl
    (subst (λ (w : List ℕ). Takes (coming before.window tape.left) (coming w tape.left) (take count before.window)) (sym window) (coming_less before.window count tape.left))
    (subst (λ (n : ℕ). after.offset ≡ min (before.offset + n) largest_offset) (sym len) offset) holds

some_held : (held left : Option (List ℕ)) (window bytes : List ℕ) → Takes held (coming window left) bytes → HeldSuch held (λ whole. Begins (bytes ++ window) whole)
some_held None left window bytes took = tt
some_held (Some whole) None window bytes took = absurd (let e : None ≡ Some took.0 = took.1 in cc)
some_held (Some whole) (Some left) window bytes took =
    let next : Some (window ++ left) ≡ Some took.0 = took.1 in
    let same : window ++ left ≡ took.0 = cc in
    (left, took.2 ∙ ap (λ (t : List ℕ). bytes ++ t) (sym same) ∙ sym (append_assoc bytes window left))

pub read_some : (tape : TapeSeen) (feed : Feed) (bytes : List ℕ) → HasRead tape feed bytes → HeldSuch tape.held (λ whole. Begins (bytes ++ feed.window) whole)
read_some tape feed bytes is = some_held tape.held tape.left feed.window bytes is.taken

all_held : (held left : Option (List ℕ)) (window bytes : List ℕ) → Takes held (coming window left) bytes → EndsOnly left → HeldSuch held (λ whole. whole ≡ bytes ++ window)
all_held None left window bytes took ends = tt
all_held (Some whole) None window bytes took ends = absurd (let e : None ≡ Some took.0 = took.1 in cc)
all_held (Some whole) (Some left) window bytes took ends =
    let next : Some (window ++ left) ≡ Some took.0 = took.1 in
    let same : window ++ left ≡ took.0 = cc in
    let last : window ++ left ≡ window = ap (λ (t : List ℕ). window ++ t) ends ∙ append-nil window in
    took.2 ∙ ap (λ (t : List ℕ). bytes ++ t) (sym same ∙ last)

pub read_all : (tape : TapeSeen) (feed : Feed) (bytes : List ℕ) → HasRead tape feed bytes → EndsOnly tape.left → HeldSuch tape.held (λ whole. whole ≡ bytes ++ feed.window)
read_all tape feed bytes is ends = all_held tape.held tape.left feed.window bytes is.taken ends
