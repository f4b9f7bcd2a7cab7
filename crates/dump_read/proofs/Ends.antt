-- The end of a dump, field by field.
use Rattle.std.proofs.Common.{◌≡◌, ◌≢◌, ◌⊎◌, inl, inr, ℕ, ◌+◌, ◌-◌, ◌≤◌, ◌<◌, min, List, [], ◌++◌, length, take, replicate, Option, Some, None, refl, sym, ap, subst, ◌∙◌, arith, length-append, append_assoc}
use Rattle.std.proofs.lemmas.List.{append-nil, length-take, length-replicate}
use Rattle.byteorder.specs.Endian.{big_bytes}
use Rattle.sha2.specs.Hashers.{Holds256}
use Rattle.dasd_pool.specs.Stream.{Takes, EndsOnly}
use Rattle.ckd_image.specs.Bytes.{Begins}
use Rattle.dump_fmt.specs.declared.fault.DumpFault.{DumpFault}
use Rattle.dump_fmt.specs.declared.fault.DumpFault.TheVariants.{BadDump, Truncated, DigestDiffers}
use Rattle.dump_read.specs.declared.ending.CountStop.{CountStop}
use Rattle.dump_read.specs.declared.ending.CountStop.TheVariants.{Wrong, Cut}
use Rattle.dump_read.specs.declared.feed.Feed.{Feed}
use Rattle.dump_read.specs.Tape.{TapeSeen}
use Rattle.dump_read.specs.Feed.{coming, largest_offset}
use Rattle.dump_read.specs.Fields.{GoesOn, IsFirstWrong}
use Rattle.dump_read.specs.Header.{BeginsFixed}
use Rattle.dump_read.specs.Reading.{HasRead, HasCome, HeldSuch}
use Rattle.dump_read.specs.Ending.{both_counts, right_digest, count_fault, IsEnd, IsCountStop, IsFixedStop, IsEndFault, IsBadCount, IsMoreBehind, IsShortEnd, HasDigest}
use Rattle.dump_read.proofs.Chains.{Then, wrong_here, wrong_behind, cut_behind, field_goes, wrong_as, goes_as, wrong_with}
use Rattle.dump_read.proofs.Words.{whole_front}
use Rattle.dump_read.proofs.Fed.{read_more}
use Rattle.dasd_pool.proofs.Streams.{takes_then}

-- ---- the counts

abbrev pub IsDigest : List ℕ → Type 0
IsDigest digest = length digest ≡ 32

abbrev pub FromTracks : ℕ → List ℕ → Type 0
FromTracks tracks = Then {X = Unit {0}} (λ x. Unit {0}) (λ x. big_bytes 4 tracks) (λ x. IsDigest)

abbrev pub FromParts : ℕ → ℕ → List ℕ → Type 0
FromParts parts tracks = Then {X = Unit {0}} (λ x. Unit {0}) (λ x. big_bytes 4 parts) (λ x. FromTracks tracks)

end_of : (parts tracks : ℕ) (text : List ℕ) → FromParts parts tracks text → IsEnd parts tracks text
end_of parts tracks text is =
    let second = is.behind in
    (second.rest, second.behind, is.spelled ∙ ap (λ (t : List ℕ). big_bytes 4 parts ++ t) second.spelled)

chain_of : (parts tracks : ℕ) (text : List ℕ) → IsEnd parts tracks text → FromParts parts tracks text
chain_of parts tracks text (digest, long, is) = record {
  value = tt;
  may = tt;
  rest = big_bytes 4 tracks ++ digest;
  behind = record { value = tt; may = tt; rest = digest; behind = long; spelled = refl };
  spelled = is;
}

tracks_there : (tracks : ℕ) → FromTracks tracks (big_bytes 4 tracks ++ replicate 32 0)
tracks_there tracks = record { value = tt; may = tt; rest = replicate 32 0; behind = refl; spelled = refl }

pub first_wrong : (parts tracks : ℕ) (bytes : List ℕ) → ¬ BeginsFixed (big_bytes 4 parts) (take 4 bytes) → IsFirstWrong (IsEnd parts tracks) bytes 0 4
first_wrong parts tracks bytes none =
    wrong_as (FromParts parts tracks) (IsEnd parts tracks) (end_of parts tracks) (chain_of parts tracks) bytes 0 4
    (wrong_here {X = Unit {0}} (λ x. Unit {0}) (λ x. big_bytes 4 parts) (λ x. FromTracks tracks) 4 (λ x may. refl) bytes (big_bytes 4 tracks ++ replicate 32 0) tt tt (tracks_there tracks) none)

pub second_wrong : (parts tracks : ℕ) (bytes rest : List ℕ) → bytes ≡ big_bytes 4 parts ++ rest → ¬ BeginsFixed (big_bytes 4 tracks) (take 4 rest) → IsFirstWrong (IsEnd parts tracks) bytes 4 4
second_wrong parts tracks bytes rest is none =
    wrong_as (FromParts parts tracks) (IsEnd parts tracks) (end_of parts tracks) (chain_of parts tracks) bytes 4 4
    (wrong_behind {X = Unit {0}} (λ x. Unit {0}) (λ x. big_bytes 4 parts) (λ x. FromTracks tracks) 4 (λ x may. refl) bytes rest tt 0 4 tt is (λ y r may same behind. behind)
    (wrong_here {X = Unit {0}} (λ x. Unit {0}) (λ x. big_bytes 4 tracks) (λ x. IsDigest) 4 (λ x may. refl) rest (replicate 32 0) tt tt refl none))

pub first_cut : (parts tracks : ℕ) (bytes : List ℕ) → Begins bytes (big_bytes 4 parts) → GoesOn (IsEnd parts tracks) bytes
first_cut parts tracks bytes front =
    goes_as (FromParts parts tracks) (IsEnd parts tracks) (end_of parts tracks) bytes
    (field_goes {X = Unit {0}} (λ x. Unit {0}) (λ x. big_bytes 4 parts) (λ x. FromTracks tracks) 4 (λ x may. refl) tt (big_bytes 4 tracks ++ replicate 32 0) bytes tt (tracks_there tracks) front)

pub second_cut : (parts tracks : ℕ) (bytes rest : List ℕ) → bytes ≡ big_bytes 4 parts ++ rest → Begins rest (big_bytes 4 tracks) → GoesOn (IsEnd parts tracks) bytes
second_cut parts tracks bytes rest is front =
    goes_as (FromParts parts tracks) (IsEnd parts tracks) (end_of parts tracks) bytes
    (cut_behind {X = Unit {0}} (λ x. Unit {0}) (λ x. big_bytes 4 parts) (λ x. FromTracks tracks) 4 (λ x may. refl) bytes rest tt tt is
    (field_goes {X = Unit {0}} (λ x. Unit {0}) (λ x. big_bytes 4 tracks) (λ x. IsDigest) 4 (λ x may. refl) tt (replicate 32 0) rest tt refl front))

pub counts_read : (parts tracks : ℕ) (bytes rest more : List ℕ) → bytes ≡ big_bytes 4 parts ++ rest → rest ≡ big_bytes 4 tracks ++ more → length bytes ≤ 8 → bytes ≡ both_counts parts tracks
counts_read parts tracks bytes rest more first second short =
    whole_front (both_counts parts tracks) bytes more (first ∙ ap (λ (t : List ℕ). big_bytes 4 parts ++ t) second) short

pub first_stop : (parts tracks : ℕ) (bytes : List ℕ) (stop : CountStop) → IsFixedStop 0 (big_bytes 4 parts) bytes stop → IsCountStop parts tracks bytes stop
first_stop parts tracks bytes (Wrong place) (is, none) =
    (inl is, subst (λ (p : ℕ). IsFirstWrong (IsEnd parts tracks) bytes p 4) (sym is) (first_wrong parts tracks bytes none))
first_stop parts tracks bytes Cut (short, front) = ((let e : length bytes < 8 = omega arith in e), first_cut parts tracks bytes front)

pub second_stop : (parts tracks : ℕ) (bytes rest : List ℕ) (stop : CountStop) → bytes ≡ big_bytes 4 parts ++ rest → IsFixedStop 4 (big_bytes 4 tracks) rest stop → IsCountStop parts tracks bytes stop
second_stop parts tracks bytes rest (Wrong place) begins (is, none) =
    (inr is, subst (λ (p : ℕ). IsFirstWrong (IsEnd parts tracks) bytes p 4) (sym is) (second_wrong parts tracks bytes rest begins none))
second_stop parts tracks bytes rest Cut begins (short, front) =
    let long : length bytes ≡ 4 + length rest = ap length begins ∙ length-append (big_bytes 4 parts) rest in
    ((let e : length bytes < 8 = omega arith in e), second_cut parts tracks bytes rest begins front)

-- the digest is cut
pub digest_cut : (parts tracks : ℕ) (kept : List ℕ) → length kept < 32 → GoesOn (IsEnd parts tracks) (both_counts parts tracks ++ kept)
digest_cut parts tracks kept short =
    let fill : List ℕ = replicate (32 - length kept) 0 in
    let a : length (kept ++ fill) ≡ length kept + length fill = length-append kept fill in
    let b : length fill ≡ 32 - length kept = length-replicate {A = ℕ} (32 - length kept) 0 in
    let long : length (kept ++ fill) ≡ 32 = a ∙ (let e : length kept + length fill ≡ 32 = omega arith in e) in
    (both_counts parts tracks ++ (kept ++ fill), (kept ++ fill, long, refl), (fill, sym (append_assoc (both_counts parts tracks) kept fill)))

-- ---- what the reel holds

pub told : (held next : Option (List ℕ)) (bytes : List ℕ) (Such : List ℕ → Type 0) → Takes held next bytes → ((whole left : List ℕ) → whole ≡ bytes ++ left → next ≡ Some left → Such whole) → HeldSuch held Such
told None next bytes Such took so = tt
told (Some whole) next bytes Such took so = so whole took.0 took.2 took.1

pub has_come : (tape : TapeSeen) (feed : Feed) (bytes : List ℕ) → HasRead tape feed bytes → HasCome tape feed bytes
has_come tape feed bytes is = record { taken = is.taken; offset = is.offset }

pub come_more : (old new : TapeSeen) (before after : Feed) (bytes buf : List ℕ) (count : ℕ) → HasCome old before bytes → new.held ≡ old.held → count ≤ length buf
    → Takes (coming before.window old.left) (coming after.window new.left) (take count buf) → after.offset ≡ min (before.offset + count) largest_offset → HasCome new after (bytes ++ take count buf)
come_more old new before after bytes buf count is same within took offset = record {
  taken = subst (λ (h : Option (List ℕ)). Takes h (coming after.window new.left) (bytes ++ take count buf)) (sym same)
      (takes_then old.held (coming before.window old.left) (coming after.window new.left) bytes (take count buf) is.taken took);
  offset =
      let len : length (take count buf) ≡ count = length-take count buf ∙ (let e : min count (length buf) ≡ count = omega arith in e) in
      let a = is.offset in
      let b = length-append bytes (take count buf) in
      omega arith;
}

pub nothing_left : (left : List ℕ) (next : Option (List ℕ)) → next ≡ Some left → EndsOnly next → left ≡ []
nothing_left left next is ends = subst EndsOnly is ends

-- a count is refused
bad_count : (parts tracks : ℕ) (bytes piece : List ℕ) (place start : ℕ) (whole left : List ℕ) → whole ≡ (bytes ++ piece) ++ left
    → (place ≡ 0) ⊎ (place ≡ 4) → start ≡ min (length bytes) largest_offset
    → IsFirstWrong (IsEnd parts tracks) piece place 4 → IsBadCount parts tracks bytes (min (start + place) largest_offset) 10 whole
bad_count parts tracks bytes piece place start whole left is there at wrong = record {
  rest = piece ++ left;
  place = place;
  there = there;
  spelled = is ∙ append_assoc bytes piece left;
  at = omega arith;
  number = refl;
  wrong = wrong_with (IsEnd parts tracks) piece left place 4 wrong;
}

short_end : (parts tracks : ℕ) (bytes piece whole left : List ℕ) (end : ℕ) → whole ≡ (bytes ++ piece) ++ left → left ≡ [] → length piece < 40 → end ≡ min (length (bytes ++ piece)) largest_offset
    → GoesOn (IsEnd parts tracks) piece → IsShortEnd parts tracks bytes end whole
short_end parts tracks bytes piece whole left end is none short at goes =
    let all : whole ≡ bytes ++ piece = is ∙ ap (λ (t : List ℕ). (bytes ++ piece) ++ t) none ∙ append-nil (bytes ++ piece) in
    record {
      rest = piece;
      spelled = all;
      all = at ∙ ap (λ (t : List ℕ). min (length t) largest_offset) (sym all);
      short = short;
      goes = goes;
    }

pub count_refused : (tape : TapeSeen) (feed : Feed) (parts tracks : ℕ) (bytes piece : List ℕ) (start : ℕ) (stop : CountStop) → HasRead tape feed (bytes ++ piece) → start ≡ min (length bytes) largest_offset
    → (length piece < 8 → EndsOnly (coming feed.window tape.left)) → IsCountStop parts tracks piece stop → IsEndFault parts tracks bytes tape.held (count_fault start feed.offset stop)
count_refused tape feed parts tracks bytes piece start (Wrong place) is at ends (there, wrong) =
    told tape.held (coming feed.window tape.left) (bytes ++ piece)
    (λ whole. IsBadCount parts tracks bytes (min (start + place) largest_offset) 10 whole ⊎ IsMoreBehind parts tracks bytes (min (start + place) largest_offset) 10 whole) is.taken
    (λ whole left spelled next. inl (bad_count parts tracks bytes piece place start whole left spelled there at wrong))
count_refused tape feed parts tracks bytes piece start Cut is at ends (short, goes) =
    told tape.held (coming feed.window tape.left) (bytes ++ piece) (IsShortEnd parts tracks bytes feed.offset) is.taken
    (λ whole left spelled next.
    short_end parts tracks bytes piece whole left feed.offset spelled (nothing_left left (coming feed.window tape.left) next (ends short)) (omega arith) is.offset goes)

pub digest_refused : (tape : TapeSeen) (feed : Feed) (parts tracks : ℕ) (bytes kept : List ℕ) → HasCome tape feed ((bytes ++ both_counts parts tracks) ++ kept) → length kept < 32
    → EndsOnly (coming feed.window tape.left) → IsEndFault parts tracks bytes tape.held (Truncated feed.offset)
digest_refused tape feed parts tracks bytes kept is short ends =
    let piece : List ℕ = both_counts parts tracks ++ kept in
    let same : (bytes ++ both_counts parts tracks) ++ kept ≡ bytes ++ piece = append_assoc bytes (both_counts parts tracks) kept in
    told tape.held (coming feed.window tape.left) ((bytes ++ both_counts parts tracks) ++ kept) (IsShortEnd parts tracks bytes feed.offset) is.taken
    (λ whole left spelled next.
    short_end parts tracks bytes piece whole left feed.offset (spelled ∙ ap (λ (t : List ℕ). t ++ left) same) (nothing_left left (coming feed.window tape.left) next ends)
    (let h = length-append (both_counts parts tracks) kept in omega arith) (is.offset ∙ ap (λ (t : List ℕ). min (length t) largest_offset) same) (digest_cut parts tracks kept short))

pub more_refused : (tape : TapeSeen) (feed : Feed) (parts tracks : ℕ) (bytes digest buf : List ℕ) (count offset : ℕ) → HasCome tape feed (((bytes ++ both_counts parts tracks) ++ digest) ++ take count buf)
    → length digest ≡ 32 → offset ≡ min (length bytes + 40) largest_offset → 0 < count → count ≤ length buf → IsEndFault parts tracks bytes tape.held (BadDump offset 11)
more_refused tape feed parts tracks bytes digest buf count offset is long at some within =
    let len : length (take count buf) ≡ count = length-take count buf ∙ (let e : min count (length buf) ≡ count = omega arith in e) in
    let ending : List ℕ = both_counts parts tracks ++ digest in
    told tape.held (coming feed.window tape.left) (((bytes ++ both_counts parts tracks) ++ digest) ++ take count buf)
    (λ whole. IsBadCount parts tracks bytes offset 11 whole ⊎ IsMoreBehind parts tracks bytes offset 11 whole) is.taken
    (λ whole left spelled next. inr (record {
      ending = ending;
      more = take count buf ++ left;
      spelled = spelled ∙ append_assoc ((bytes ++ both_counts parts tracks) ++ digest) (take count buf) left ∙ ap (λ (t : List ℕ). t ++ (take count buf ++ left)) (append_assoc bytes (both_counts parts tracks) digest)
          ∙ append_assoc bytes ending (take count buf ++ left);
      is_end = (digest, long, refl);
      some = λ none. let a = ap length none in let b = length-append (take count buf) left in absurd (omega arith);
      at = at;
      number = refl;
    }))

pub all_came : (tape : TapeSeen) (feed : Feed) (bytes buf : List ℕ) (count : ℕ) → HasCome tape feed (bytes ++ take count buf) → count ≡ 0 → EndsOnly (coming feed.window tape.left) → HeldSuch tape.held (λ whole. whole ≡ bytes)
all_came tape feed bytes buf count is none ends =
    told tape.held (coming feed.window tape.left) (bytes ++ take count buf) (λ whole. whole ≡ bytes) is.taken
    (λ whole left spelled next. spelled ∙ ap (λ (t : List ℕ). (bytes ++ take count buf) ++ t) (nothing_left left (coming feed.window tape.left) next ends) ∙ append-nil (bytes ++ take count buf)
    ∙ ap (λ (n : ℕ). bytes ++ take n buf) none ∙ append-nil bytes)

-- the bytes are all that the reel holds, by their last part
pub held_as : (held other : Option (List ℕ)) (bytes more : List ℕ) → held ≡ other → bytes ≡ more → HeldSuch other (λ whole. whole ≡ bytes) → HeldSuch held (λ whole. whole ≡ more)
held_as held other bytes more same is such = subst (λ (h : Option (List ℕ)). HeldSuch h (λ whole. whole ≡ more)) (sym same) (subst (λ (t : List ℕ). HeldSuch other (λ whole. whole ≡ t)) is such)

differs : (held : Option (List ℕ)) (parts tracks : ℕ) (bytes kept : List ℕ) → length kept ≡ 32 → HeldSuch held (λ whole. whole ≡ (bytes ++ both_counts parts tracks) ++ kept)
    → HeldSuch held (HasDigest parts tracks bytes kept)
differs None parts tracks bytes kept long such = tt
differs (Some whole) parts tracks bytes kept long such = record { long = long; spelled = such ∙ append_assoc bytes (both_counts parts tracks) kept }

pub digest_differs : (held : Option (List ℕ)) (parts tracks : ℕ) (bytes kept found : List ℕ) → length kept ≡ 32 → found ≡ right_digest parts tracks bytes → kept ≢ found
    → HeldSuch held (λ whole. whole ≡ (bytes ++ both_counts parts tracks) ++ kept) → IsEndFault parts tracks bytes held (DigestDiffers kept found)
digest_differs held parts tracks bytes kept found long is other such = (is, other, differs held parts tracks bytes kept long such)

-- ---- calls

pub taken_count : (buf : List ℕ) (count : ℕ) → count ≤ length buf → length (take count buf) ≡ count
taken_count buf count within = length-take count buf ∙ (let e : min count (length buf) ≡ count = omega arith in e)

pub fetched : (old new : TapeSeen) (before after : Feed) (bytes buf : List ℕ) (count : ℕ) → HasRead old before bytes → count ≤ length buf
    → Takes (coming before.window old.left) (coming after.window new.left) (take count buf) → after.offset ≡ min (before.offset + count) largest_offset
    → ((message : List ℕ) → Holds256 before.digest message → Holds256 after.digest (message ++ take count buf)) → new.held ≡ old.held → HasRead new after (bytes ++ take count buf)
fetched old new before after bytes buf count is within took offset holds held =
    read_more old new before after bytes (take count buf) is held took (subst (λ (n : ℕ). after.offset ≡ min (before.offset + n) largest_offset) (sym (taken_count buf count within)) offset) holds

pub counts_refused : (tape : TapeSeen) (feed : Feed) (parts tracks : ℕ) (bytes buf : List ℕ) (count start : ℕ) (stop : CountStop) (fault : DumpFault) → HasRead tape feed (bytes ++ take count buf)
    → start ≡ min (length bytes) largest_offset → count ≤ length buf → length buf ≡ 8 → (count < length buf → EndsOnly (coming feed.window tape.left)) → IsCountStop parts tracks (take count buf) stop
    → fault ≡ count_fault start feed.offset stop → IsEndFault parts tracks bytes tape.held fault
counts_refused tape feed parts tracks bytes buf count start stop fault is at within full ends stops same =
    let len = taken_count buf count within in
    subst (IsEndFault parts tracks bytes tape.held) (sym same) (count_refused tape feed parts tracks bytes (take count buf) start stop is at (λ short. ends (omega arith)) stops)

pub come_as : (tape : TapeSeen) (feed after : Feed) (bytes : List ℕ) → HasRead tape feed bytes → after.window ≡ feed.window → after.offset ≡ feed.offset → HasCome tape after bytes
come_as tape feed after bytes is window offset = record {
  taken = subst (λ (w : List ℕ). Takes tape.held (coming w tape.left) bytes) (sym window) is.taken;
  offset = offset ∙ is.offset;
}
