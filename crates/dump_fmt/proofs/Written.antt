-- A dump while it is written.
use Rattle.std.proofs.Common.{◌≡◌, ℕ, ◌<◌, Bool, true, false, List, [], ◌++◌, length, All, refl, sym, ap, subst, ◌∙◌, arith, append_assoc}
use Rattle.std.proofs.lemmas.List.{append-nil}
use Rattle.std.proofs.lemmas.List.Elements.{All-nil}
use Rattle.sha2.specs.Hashers.{Holds256}
use Rattle.sha2.specs.Sha256.{sha256}
use Rattle.dump_fmt.specs.declared.outs.OutState.TheVariants as states
use Rattle.dump_fmt.specs.declared.piece.DumpHead.{DumpHead}
use Rattle.dump_fmt.specs.declared.piece.Piece.{Piece}
use Rattle.dump_fmt.specs.declared.progress.Progress.{Progress}
use Rattle.dump_fmt.specs.Head.{IsDumpHead, header_text}
use Rattle.dump_fmt.specs.Pieces.{piece_text, counted_text}
use Rattle.dump_fmt.specs.Parts.{IsPart}
use Rattle.dump_fmt.specs.Front.{Front, empty_front, Adds, IsFront, IsOfKind, IsCutSlot, whole_parts}
use Rattle.dump_fmt.specs.Text.{front_text, digested_text, counts_text, dump_text}
use Rattle.dump_fmt.specs.Counting.{FitsCounts, IsCounted}
use Rattle.dump_fmt.specs.Outs.{OutSeen, marked, HasTaken, IsSentTo, IsFinished, AreFinished, EachAt, AreDistinct}
use Rattle.dump_fmt.specs.Writing.{IsWriting, IsDue}
use Rattle.dump_fmt.proofs.Places.{each_at_then}
use Rattle.dump_fmt.proofs.Taken.{taken_first, taken_more, taken_end, are_finished}
use Rattle.dump_fmt.proofs.Fronts.{text_grows}
use Rattle.dump_fmt.proofs.Sizes.{Agrees, fits_counts, counted}

-- ---- the beginning

nothing_of_kind : (full : Bool) (head : DumpHead) → IsOfKind full head empty_front
nothing_of_kind true head = record {
  no_parts = refl;
  no_current = refl;
  slots = All-nil (IsCutSlot head.device);
  few = omega arith;
  labelled = λ some. absurd (omega (arith, some));
  format_4 = λ some. absurd (omega (arith, some));
}
nothing_of_kind false head = record {
  no_slots = refl;
  parts = All-nil (IsPart head.device);
  order = λ i j d before within. absurd (omega (arith, within));
  few = omega arith;
}

nothing_stands : (head : DumpHead) → IsDumpHead head → IsFront head empty_front
nothing_stands head sound = record { header = sound; behind = nothing_of_kind head.full head; few_tracks = omega arith }

-- what a dump begins with
pub begins_so : {X : Type 0} (seen : X → OutSeen) (before mid outs : List X) (head : DumpHead) (progress : Progress) → IsDumpHead head
    → All (λ place. place < length before) progress.places.items → AreDistinct progress.places.items
    → EachAt (λ a b. seen b ≡ marked states.Cut (seen a)) progress.places.items before mid → EachAt (IsSentTo seen (header_text head)) progress.places.items mid outs
    → progress.parts ≡ 0 → progress.tracks ≡ 0 → Holds256 progress.digest (header_text head) → IsWriting seen before head empty_front progress outs
begins_so {X} seen before mid outs head progress sound within distinct begun sent parts tracks digest =
    let all : header_text head ≡ front_text head empty_front = sym (append-nil (header_text head)) in
    let taken = each_at_then (λ (a b : X). seen b ≡ marked states.Cut (seen a)) (IsSentTo seen (header_text head)) (λ (a b : X). HasTaken states.Cut (header_text head) (seen a) (seen b))
    progress.places.items before mid outs begun sent (λ a m b. taken_first seen (header_text head) a m b) in
    record {
      stands = nothing_stands head sound;
      taken = subst (λ (t : List ℕ). EachAt (λ a b. HasTaken states.Cut t (seen a) (seen b)) progress.places.items before outs) all taken;
      within = within;
      distinct = distinct;
      parts = parts;
      tracks = tracks;
      due = tt;
      digest = subst (Holds256 progress.digest) all digest;
    }

-- ---- a piece more

agrees_of : {X : Type 0} (seen : X → OutSeen) (before : List X) (head : DumpHead) (front : Front) (progress : Progress) (outs : List X) → IsWriting seen before head front progress outs
    → Agrees front progress
agrees_of seen before head front progress outs w = record { parts = w.parts; tracks = w.tracks; due = w.due }

pub has_count_room : {X : Type 0} (seen : X → OutSeen) (before : List X) (head : DumpHead) (front : Front) (piece : Piece) (next : Front) (progress : Progress) (outs : List X)
    → IsWriting seen before head front progress outs → Adds front piece next → IsFront head next → FitsCounts piece progress
has_count_room seen before head front piece next progress outs w adds stands =
    fits_counts head front piece next progress adds stands (agrees_of seen before head front progress outs w)

-- what was sent behind what was taken
both_sent : {X : Type 0} (seen : X → OutSeen) (text piece : List ℕ) (places : List ℕ) (before outs new : List X) → EachAt (λ a b. HasTaken states.Cut text (seen a) (seen b)) places before outs
    → EachAt (IsSentTo seen piece) places outs new → EachAt (λ a b. HasTaken states.Cut (text ++ piece) (seen a) (seen b)) places before new
both_sent {X} seen text piece places before outs new taken sent =
    each_at_then (λ (a b : X). HasTaken states.Cut text (seen a) (seen b)) (IsSentTo seen piece) (λ (a b : X). HasTaken states.Cut (text ++ piece) (seen a) (seen b))
    places before outs new taken sent (λ a m b. taken_more seen text piece a m b)

pub goes_on : {X : Type 0} (seen : X → OutSeen) (before : List X) (head : DumpHead) (front : Front) (piece : Piece) (next : Front) (old mid new : Progress) (outs sent : List X)
    → IsWriting seen before head front old outs → Adds front piece next → IsFront head next → IsCounted piece old mid
    → new.parts ≡ mid.parts → new.tracks ≡ mid.tracks → new.due ≡ mid.due → new.places.items ≡ old.places.items
    → Holds256 new.digest (front_text head front ++ piece_text piece) → EachAt (IsSentTo seen (piece_text piece)) old.places.items outs sent → IsWriting seen before head next new sent
goes_on {X} seen before head front piece next old mid new outs sent w adds stands count parts tracks due places digest was =
    let grows = text_grows head front piece next adds stands in
    let agrees = counted front piece next old mid adds (agrees_of seen before head front old outs w) count.counts in
    let taken = both_sent seen (front_text head front) (piece_text piece) old.places.items before outs sent w.taken was in
    let here : EachAt (λ a b. HasTaken states.Cut (front_text head next) (seen a) (seen b)) old.places.items before sent =
    subst (λ (t : List ℕ). EachAt (λ a b. HasTaken states.Cut t (seen a) (seen b)) old.places.items before sent) (sym grows) taken in
    record {
      stands = stands;
      taken = subst (λ (p : List ℕ). EachAt (λ a b. HasTaken states.Cut (front_text head next) (seen a) (seen b)) p before sent) (sym places) here;
      within = subst (λ (p : List ℕ). All (λ place. place < length before) p) (sym places) w.within;
      distinct = subst AreDistinct (sym places) w.distinct;
      parts = parts ∙ agrees.parts;
      tracks = tracks ∙ agrees.tracks;
      due = subst (IsDue next.current) (sym due) agrees.due;
      digest = subst (Holds256 new.digest) (sym grows) digest;
    }

-- the same by what was done: the piece was counted, and then its text was sent
pub put_so : {X : Type 0} (seen : X → OutSeen) (before : List X) (head : DumpHead) (front : Front) (piece : Piece) (next : Front) (old mid new : Progress) (outs sent : List X) (bytes : List ℕ)
    → IsWriting seen before head front old outs → Adds front piece next → IsFront head next → IsCounted piece old mid → bytes ≡ piece_text piece
    → new.parts ≡ mid.parts → new.tracks ≡ mid.tracks → new.due ≡ mid.due → new.places.items ≡ mid.places.items
    → ((message : List ℕ) → Holds256 mid.digest message → Holds256 new.digest (message ++ bytes)) → EachAt (IsSentTo seen bytes) mid.places.items outs sent
    → IsWriting seen before head next new sent
put_so {X} seen before head front piece next old mid new outs sent bytes w adds stands count is parts tracks due places holds was =
    let same_places : mid.places.items ≡ old.places.items = ap (λ v. v.items) count.places in
    let held : Holds256 mid.digest (front_text head front) = subst (λ d. Holds256 d (front_text head front)) (sym count.digest) w.digest in
    goes_on seen before head front piece next old mid new outs sent w adds stands count parts tracks due (places ∙ same_places)
    (subst (λ (t : List ℕ). Holds256 new.digest (front_text head front ++ t)) is (holds (front_text head front) held))
    (subst (λ (t : List ℕ). EachAt (IsSentTo seen t) old.places.items outs sent) is (subst (λ (p : List ℕ). EachAt (IsSentTo seen bytes) p outs sent) same_places was))

-- ---- the end

pub ends_so : {X : Type 0} (seen : X → OutSeen) (before : List X) (head : DumpHead) (front : Front) (progress : Progress) (outs sent ended : List X) (trailer : List ℕ)
    → IsWriting seen before head front progress outs → trailer ≡ counts_text front ++ sha256 (digested_text head front)
    → EachAt (IsSentTo seen trailer) progress.places.items outs sent → EachAt (IsFinished seen) progress.places.items sent ended
    → EachAt (λ a b. HasTaken states.Whole (dump_text head front) (seen a) (seen b)) progress.places.items before ended
ends_so {X} seen before head front progress outs sent ended trailer w is was done =
    let text = front_text head front in
    let taken = both_sent seen text trailer progress.places.items before outs sent w.taken was in
    let same : text ++ trailer ≡ dump_text head front =
    ap (λ (t : List ℕ). text ++ t) is ∙ sym (append_assoc text (counts_text front) (sha256 (digested_text head front))) in
    let all : EachAt (λ a b. HasTaken states.Cut (dump_text head front) (seen a) (seen b)) progress.places.items before sent =
    subst (λ (t : List ℕ). EachAt (λ a b. HasTaken states.Cut t (seen a) (seen b)) progress.places.items before sent) same taken in
    each_at_then (λ (a b : X). HasTaken states.Cut (dump_text head front) (seen a) (seen b)) (IsFinished seen) (λ (a b : X). HasTaken states.Whole (dump_text head front) (seen a) (seen b))
    progress.places.items before sent ended all done (λ a m b. taken_end seen (dump_text head front) a m b)

-- the same by what was done: the trailer was made and sent, and each output finished
pub end_so : {X : Type 0} (seen : X → OutSeen) (before : List X) (head : DumpHead) (front : Front) (old made : Progress) (outs sent ended : List X) (trailer : List ℕ) (places : List ℕ)
    → IsWriting seen before head front old outs
    → ((message : List ℕ) → Holds256 old.digest message → trailer ≡ counted_text old.parts old.tracks ++ sha256 (message ++ counted_text old.parts old.tracks))
    → made.places ≡ old.places → EachAt (IsSentTo seen trailer) made.places.items outs sent → places ≡ made.places.items → EachAt (IsFinished seen) places sent ended
    → EachAt (λ a b. HasTaken states.Whole (dump_text head front) (seen a) (seen b)) old.places.items before ended
end_so {X} seen before head front old made outs sent ended trailer places w says kept was same done =
    let here : made.places.items ≡ old.places.items = ap (λ v. v.items) kept in
    let counts : counted_text old.parts old.tracks ≡ counts_text front = ap (λ (n : ℕ). counted_text n old.tracks) w.parts ∙ ap (counted_text (whole_parts front)) w.tracks in
    let is : trailer ≡ counts_text front ++ sha256 (digested_text head front) =
    says (front_text head front) w.digest ∙ ap (λ (t : List ℕ). t ++ sha256 (front_text head front ++ t)) counts in
    ends_so seen before head front old outs sent ended trailer w is (subst (λ (p : List ℕ). EachAt (IsSentTo seen trailer) p outs sent) here was)
    (subst (λ (p : List ℕ). EachAt (IsFinished seen) p sent ended) (same ∙ here) done)

-- the beginning by what was done
pub start_so : {X : Type 0} (seen : X → OutSeen) (before mid outs : List X) (head : DumpHead) (made begun new : Progress) (bytes places : List ℕ) → IsDumpHead head
    → All (λ place. place < length before) places → AreDistinct places → made.places.items ≡ places → made.parts ≡ 0 → made.tracks ≡ 0 → Holds256 made.digest [] → begun ≡ made
    → EachAt (λ a b. seen b ≡ marked states.Cut (seen a)) made.places.items before mid → bytes ≡ header_text head → EachAt (IsSentTo seen bytes) begun.places.items mid outs
    → new.parts ≡ begun.parts → new.tracks ≡ begun.tracks → new.places.items ≡ begun.places.items
    → ((message : List ℕ) → Holds256 begun.digest message → Holds256 new.digest (message ++ bytes)) → IsWriting seen before head empty_front new outs
start_so {X} seen before mid outs head made begun new bytes places sound within distinct are parts tracks empty same was is sent new_parts new_tracks new_places holds =
    let now : begun.places.items ≡ places = ap (λ (p : Progress). p.places.items) same ∙ are in
    let all : new.places.items ≡ places = new_places ∙ now in
    let first : EachAt (λ a b. seen b ≡ marked states.Cut (seen a)) new.places.items before mid =
    subst (λ (p : List ℕ). EachAt (λ a b. seen b ≡ marked states.Cut (seen a)) p before mid) (are ∙ sym all) was in
    let second : EachAt (IsSentTo seen (header_text head)) new.places.items mid outs =
    subst (λ (t : List ℕ). EachAt (IsSentTo seen t) new.places.items mid outs) is (subst (λ (p : List ℕ). EachAt (IsSentTo seen bytes) p mid outs) (now ∙ sym all) sent) in
    let digest : Holds256 new.digest (header_text head) =
    subst (Holds256 new.digest) is (holds [] (subst (λ (p : Progress). Holds256 p.digest []) (sym same) empty)) in
    begins_so seen before mid outs head new sound (subst (λ (p : List ℕ). All (λ place. place < length before) p) (sym all) within) (subst AreDistinct (sym all) distinct)
    first second (new_parts ∙ ap (λ (p : Progress). p.parts) same ∙ parts) (new_tracks ∙ ap (λ (p : Progress). p.tracks) same ∙ tracks) digest

-- ---- calls

-- the same bytes at the same places
pub sent_so : {X : Type 0} (seen : X → OutSeen) (text other : List ℕ) (places at : List ℕ) (old new : List X) → text ≡ other → places ≡ at
    → EachAt (IsSentTo seen text) places old new → EachAt (IsSentTo seen other) at old new
sent_so seen text other places at old new same there sent =
    subst (λ (t : List ℕ). EachAt (IsSentTo seen t) at old new) same (subst (λ (p : List ℕ). EachAt (IsSentTo seen text) p old new) there sent)

pub finished_so : {X : Type 0} (seen : X → OutSeen) (places at : List ℕ) (old new : List X) → places ≡ at → EachAt (IsFinished seen) places old new → EachAt (IsFinished seen) at old new
finished_so seen places at old new there done = subst (λ (p : List ℕ). EachAt (IsFinished seen) p old new) there done

-- what is whole then is finished
pub whole_finished : {X : Type 0} (seen : X → OutSeen) (places at : List ℕ) (old new : List X) → places ≡ at → EachAt (IsFinished seen) places old new → AreFinished seen at new
whole_finished seen places at old new there done = subst (λ (p : List ℕ). AreFinished seen p new) there (are_finished seen places old new done)
