-- The end of a dump that is read: the whole, or why it is none.
use Rattle.std.proofs.Common.{◌≡◌, ◌⊎◌, inl, inr, ℕ, ◌+◌, ◌≤◌, min, List, [], ◌∷◌, ◌++◌, length, take, drop, Option, refl, sym, ap, subst, ◌∙◌, arith, length-append, append_assoc}
use Rattle.std.proofs.lemmas.List.{append-nil}
use Rattle.sha2.specs.Hashers.{Holds256}
use Rattle.sha2.specs.Sha256.{sha256}
use Rattle.dump_fmt.specs.declared.fault.DumpFault.{DumpFault}
use Rattle.dump_fmt.specs.declared.fault.DumpFault.TheVariants.{BadDump, Truncated, DigestDiffers, Reel, NoMemory}
use Rattle.dump_fmt.specs.declared.piece.DumpHead.{DumpHead}
use Rattle.dump_fmt.specs.Front.{Front, IsFront, whole_parts, whole_tracks}
use Rattle.dump_fmt.specs.Text.{front_text, digested_text, IsDumpText}
use Rattle.dump_read.specs.declared.feed.Feed.{Feed}
use Rattle.dump_read.specs.declared.field.DumpField.TheVariants as fields
use Rattle.dump_read.specs.declared.mark.Mark.TheVariants as marks
use Rattle.dump_read.specs.declared.standing.Standing.{Standing}
use Rattle.dump_read.specs.Ending.{both_counts, right_digest, IsEnd, IsBadCount, IsMoreBehind, IsShortEnd, HasDigest, IsEndFault}
use Rattle.dump_read.specs.Faults.{IsBadField, IsBadSlot, HasMore, IsCutBehind, HasOtherDigest, IsFaultBehind}
use Rattle.dump_read.specs.Feed.{largest_offset}
use Rattle.dump_read.specs.Fields.{IsFirstWrong}
use Rattle.dump_read.specs.Marks.{byte_of, MayStand}
use Rattle.dump_read.specs.Reader.{ReaderView, IsMarked}
use Rattle.dump_read.specs.Reading.{HasRead, HeldSuch}
use Rattle.dump_read.specs.Shape.{IsGoing, MayClose, IsShape, IsSomeShape}
use Rattle.dump_read.specs.Standing.{StandsAt}
use Rattle.dump_read.specs.Tape.{TapeSeen}
use Rattle.dump_read.proofs.Fed.{read_pass}
use Rattle.dump_read.proofs.Languages.{no_trailer, counts_kept, whole_shape, end_long, end_language}
use Rattle.dump_read.proofs.Lifted.{IsShort, wrong_field, cut_field}
use Rattle.dump_read.proofs.Reaches.{end_reaches}
use Rattle.dump_read.proofs.Ahead.{held_as_well, mark_ahead}

-- ---- the mark

-- the pieces and the mark behind them
abbrev pub marked_text : DumpHead → Front → List ℕ
marked_text head front = front_text head front ++ (byte_of marks.Trailer ∷ [])

pub closes_at : (head : DumpHead) (front : Front) → MayStand head front (byte_of marks.Trailer) → MayClose head front
closes_at head front (inl may) = let (rest, e) = may.mark in absurd (no_trailer may.piece rest ([], sym e ∙ sym (append-nil _)))
closes_at head front (inr (is, closes)) = closes

pub mark_passed : (tape : TapeSeen) (reader : ReaderView) (after : Feed) (front : Front) → IsMarked tape reader front marks.Trailer → after.window ≡ drop 1 reader.feed.window
    → after.offset ≡ min (reader.feed.offset + 1) largest_offset → ((message : List ℕ) → Holds256 reader.feed.digest message → Holds256 after.digest (message ++ take 1 reader.feed.window))
    → HasRead tape after (marked_text reader.head front)
mark_passed tape reader after front is window offset digest =
    let before : List ℕ = front_text reader.head front in
    let first = mark_ahead reader marks.Trailer is.ahead in
    subst (λ (t : List ℕ). HasRead tape after (before ++ t)) (ap (take 1) first)
    (read_pass tape reader.feed after before 1 is.reading.read window offset (omega (arith, ap length first)) digest)

-- ---- the whole

digested : (head : DumpHead) (front : Front) (standing : Standing) → StandsAt head front standing → marked_text head front ++ both_counts standing.parts standing.tracks ≡ digested_text head front
digested head front standing stands =
    append_assoc (front_text head front) (byte_of marks.Trailer ∷ []) (both_counts standing.parts standing.tracks)
    ∙ ap (λ (t : List ℕ). front_text head front ++ (byte_of marks.Trailer ∷ t)) (counts_kept head front standing stands)

pub dump_whole : (held : Option (List ℕ)) (head : DumpHead) (front : Front) (standing : Standing) → IsFront head front → StandsAt head front standing → MayClose head front
    → HeldSuch held (λ whole. whole ≡ (marked_text head front ++ both_counts standing.parts standing.tracks) ++ right_digest standing.parts standing.tracks (marked_text head front))
    → HeldSuch held (λ whole. IsDumpText whole head front)
dump_whole held head front standing is stands closes all =
    held_as_well held (λ whole. whole ≡ (marked_text head front ++ both_counts standing.parts standing.tracks) ++ right_digest standing.parts standing.tracks (marked_text head front))
    (λ whole. IsDumpText whole head front)
    (λ whole e. record {
      sound = record { is_front = is; ended = closes.ended; all_slots = closes.all_slots };
      spelled = e ∙ ap (λ (t : List ℕ). t ++ sha256 t) (digested head front standing stands);
    }) all

-- ---- why it is none

module _ (head : DumpHead) (front : Front) (standing : Standing) (going : IsGoing head front) (stands : StandsAt head front standing) (closes : MayClose head front) where
  count_wrong : (offset why : ℕ) (whole : List ℕ) → IsBadCount standing.parts standing.tracks (marked_text head front) offset why whole → IsBadField head front offset why whole
  count_wrong offset why whole bad =
      let before : List ℕ = front_text head front in
      let mark : ℕ = byte_of marks.Trailer in
      let same : whole ≡ before ++ (mark ∷ bad.rest) = bad.spelled ∙ append_assoc before (mark ∷ []) bad.rest in
      let few : min (bad.place + 4) (length bad.rest) ≤ 40 = elim bad.there [ inl first ↦ omega (arith, first) | inr second ↦ omega (arith, second) ] in
      record {
        field = fields.Count;
        rest = mark ∷ bad.rest;
        place = 1 + bad.place;
        count = 4;
        spelled = same;
        is_at = ((bad.rest, refl), (elim bad.there [ inl first ↦ inl (omega (arith, first)) | inr second ↦ inr (omega (arith, second)) ]), refl);
        at = omega (arith, bad.at, length-append before (mark ∷ []));
        number = bad.number;
        wrong = subst (λ (t : List ℕ). IsFirstWrong IsSomeShape t (length before + (1 + bad.place)) 4) (sym same)
            (wrong_field head front mark (IsEnd standing.parts standing.tracks) bad.rest bad.place 4 (end_language head front standing going stands closes)
            (end_reaches standing.parts standing.tracks bad.rest bad.place 4 few) bad.wrong);
      }

  ends_so : (digest ending : List ℕ) → ending ≡ both_counts standing.parts standing.tracks ++ digest
      → marked_text head front ++ ending ≡ front_text head front ++ (byte_of marks.Trailer ∷ (both_counts (whole_parts front) (whole_tracks front) ++ digest))
  ends_so digest ending is =
      append_assoc (front_text head front) (byte_of marks.Trailer ∷ []) ending
      ∙ ap (λ (t : List ℕ). front_text head front ++ (byte_of marks.Trailer ∷ t)) (is ∙ ap (λ (t : List ℕ). t ++ digest) (counts_kept head front standing stands))

  more_behind : (offset why : ℕ) (whole : List ℕ) → IsMoreBehind standing.parts standing.tracks (marked_text head front) offset why whole → HasMore head front offset why whole
  more_behind offset why whole is =
      let (digest, long, ends) = is.is_end in
      let text : List ℕ = front_text head front ++ (byte_of marks.Trailer ∷ (both_counts (whole_parts front) (whole_tracks front) ++ digest)) in
      let same : marked_text head front ++ is.ending ≡ text = ends_so digest is.ending ends in
      record {
        digest = digest;
        text = text;
        more = is.more;
        is_shape = whole_shape head front digest closes going long;
        spelled = is.spelled ∙ sym (append_assoc (marked_text head front) is.ending is.more) ∙ ap (λ (t : List ℕ). t ++ is.more) same;
        some = is.some;
        at = omega (arith, is.at, ap length same, length-append (marked_text head front) is.ending, end_long standing.parts standing.tracks is.ending is.is_end);
        number = is.number;
      }

  cut_short : (count : ℕ) (whole : List ℕ) → IsShortEnd standing.parts standing.tracks (marked_text head front) count whole → IsCutBehind head front count whole
  cut_short count whole is =
      let before : List ℕ = front_text head front in
      let mark : ℕ = byte_of marks.Trailer in
      let (text, ends, begins) = is.goes in
      let same : whole ≡ before ++ (mark ∷ is.rest) = is.spelled ∙ append_assoc before (mark ∷ []) is.rest in
      let short : IsShort whole = subst IsShort (sym same)
      (cut_field head front mark (IsEnd standing.parts standing.tracks) is.rest text (end_language head front standing going stands closes) ends begins
      (omega (arith, is.short, end_long standing.parts standing.tracks text ends))) in
      record {
        short = record { text = short.text; is_shape = short.is_shape; begins = short.begins; short = short.short; all = is.all };
        rest = mark ∷ is.rest;
        spelled = same;
        none = λ piece next adds goes begun. no_trailer piece is.rest begun;
      }

  other_digest : (kept found whole : List ℕ) → found ≡ right_digest standing.parts standing.tracks (marked_text head front)
      → HasDigest standing.parts standing.tracks (marked_text head front) kept whole → HasOtherDigest head front kept found whole
  other_digest kept found whole right is = record {
    is_shape = subst (IsShape head front kept) (sym (is.spelled ∙ ends_so kept (both_counts standing.parts standing.tracks ++ kept) refl)) (whole_shape head front kept closes going is.long);
    right = right ∙ ap sha256 (digested head front standing stands);
  }

  pub end_refused : (held : Option (List ℕ)) (fault : DumpFault) → IsEndFault standing.parts standing.tracks (marked_text head front) held fault → IsFaultBehind head front held fault
  end_refused held (BadDump offset why) is =
      let bytes : List ℕ = marked_text head front in
      held_as_well held (λ whole. IsBadCount standing.parts standing.tracks bytes offset why whole ⊎ IsMoreBehind standing.parts standing.tracks bytes offset why whole)
      (λ whole. IsBadField head front offset why whole ⊎ (IsBadSlot head front offset why whole ⊎ HasMore head front offset why whole))
      (λ whole there. elim there [ inl bad ↦ inl (count_wrong offset why whole bad) | inr more ↦ inr (inr (more_behind offset why whole more)) ]) is
  end_refused held (Truncated count) is =
      held_as_well held (IsShortEnd standing.parts standing.tracks (marked_text head front) count) (IsCutBehind head front count) (λ whole short. cut_short count whole short) is
  end_refused held (DigestDiffers kept found) (right, other, is) =
      let Kept : List ℕ → Type 0 = HasDigest standing.parts standing.tracks (marked_text head front) kept in
      (other, held_as_well held Kept (HasOtherDigest head front kept found) (λ whole has. other_digest kept found whole right has) is)
  end_refused held Reel is = tt
  end_refused held NoMemory is = tt
