-- The turn of a data set in a dump: why it isn't dumped, or that its part was put.
use Rattle.std.proofs.Common.{◌≡◌, ◌⊎◌, inl, inr, ℕ, ◌+◌, Bool, true, false, List, [], ◌∷◌, ◌++◌, length, map, All, Option, Some, None, Ok, Err, refl, sym, ap, subst, ◌∙◌, arith, append_assoc, length-append}
use Rattle.std.specs.Prelude.{Result, IfErr, IfSome, slice_get}
use Rattle.std.proofs.lemmas.Bool.{eqb-true, eq-eqb, false≢true}
use Rattle.std.proofs.lemmas.List.{append-nil, length-map}
use Rattle.std.proofs.lemmas.List.Elements.{All-nil, All-cons, All-head, All-tail}
use Rattle.by_rules.specs.declared.day.Day.{Day}
use Rattle.ckd_image.specs.declared.device.Device.{Device}
use Rattle.ckd_image.specs.declared.track.Track.{Track}
use Rattle.dasd_pool.specs.declared.pool.Pool.{Ghosts}
use Rattle.dsn_filter.specs.declared.dsn.Dsn.{Dsn}
use Rattle.dump_fmt.specs.declared.progress.Progress.{Progress}
use Rattle.dump_fmt.specs.Outs.{OutSeen}
use Rattle.dump_fmt.specs.Parts.{DumpPart, is_whole}
use Rattle.dump_fmt.specs.Writing.{IsWriting}
use Rattle.enq_table.specs.declared.hold.Hold.{Hold}
use Rattle.volume_model.specs.Unit.{DataSet, OnlineVolume, Text, UnitModel, good, bad, online}
use Rattle.move_core.specs.Facts.{Original}
use Rattle.move_core.specs.Stands.{IsGood}
use Rattle.job_lines.specs.declared.message.Reason.{Reason}
use Rattle.job_lines.specs.declared.message.Reason.TheVariants as reasons
use Rattle.job_lines.specs.Order.{IsFirst, IsReason, HasNoReason}
use Rattle.job_turns.specs.job_steps.unit_session.Sessions.{SessionView}
use Rattle.job_turns.specs.job_steps.Units.{ForUnits, IsSet}
use Rattle.job_dumps.specs.declared.wish.DumpWish.{DumpWish}
use Rattle.job_dumps.specs.Dumped.{BeginsPart, DumpRequest, DumpsSet, IsUnderWayFor}
use Rattle.job_dumps.specs.Parts.{EndsHere, IsFrontOf, IsPartOf, IsPartOfSet}
use Rattle.job_dumps.specs.Passing.{GoesSoFar, IsRefusedSoFar}
use Rattle.job_dumps.specs.Putting.{HasPut, holding}
use Rattle.job_dumps.specs.Reasons.{LacksRoomToChange, PreventsAtFirst, PreventsDump, changes_sets, first_reasons}
use Rattle.job_dumps.specs.Texts.{IsFrontOfSet}

-- ---- reasons

module _ (held : List Hold) (today : Day) (wish : DumpWish) (volume : OnlineVolume) (name : Dsn) (set : DataSet) where
  abbrev AtFirst : Reason → Type 0
  AtFirst reason = PreventsAtFirst held today wish volume name set reason

  abbrev Prevents : Reason → Type 0
  Prevents reason = PreventsDump held today wish volume name set reason

  abbrev Lets : Reason → Type 0
  Lets reason = ¬ Prevents reason

  abbrev LetsAtFirst : Reason → Type 0
  LetsAtFirst reason = ¬ AtFirst reason

  -- the reasons that are judged at first
  abbrev is_early : Reason → Type 0
  is_early reasons.BadTrack = ⊥
  is_early reasons.VtocFull = ⊥
  is_early _ = Unit {0}

  prevents : (reason : Reason) → AtFirst reason → Prevents reason
  prevents reasons.Held is = is
  prevents reasons.NoSpace is = absurd is
  prevents reasons.VtocFull is = absurd is
  prevents reasons.NameExists is = absurd is
  prevents reasons.Pinned is = is
  prevents reasons.NotRelocatable is = absurd is
  prevents reasons.BadTrack is = absurd is
  prevents reasons.NotExpired is = is
  prevents reasons.BlockTooLong is = absurd is
  prevents reasons.NewNameTooLong is = absurd is

  prevents_early : (reason : Reason) → is_early reason → Prevents reason → AtFirst reason
  prevents_early reasons.Held early is = is
  prevents_early reasons.NoSpace early is = is
  prevents_early reasons.VtocFull early is = absurd early
  prevents_early reasons.NameExists early is = is
  prevents_early reasons.Pinned early is = is
  prevents_early reasons.NotRelocatable early is = is
  prevents_early reasons.BadTrack early is = absurd early
  prevents_early reasons.NotExpired early is = is
  prevents_early reasons.BlockTooLong early is = is
  prevents_early reasons.NewNameTooLong early is = is

  begins_not : (reason : Reason) → AtFirst reason → ¬ BeginsPart wish volume (Some reason)
  begins_not reasons.Held is = λ h. h
  begins_not reasons.NoSpace is = λ h. h
  begins_not reasons.VtocFull is = λ h. h
  begins_not reasons.NameExists is = λ h. h
  begins_not reasons.Pinned is = λ h. h
  begins_not reasons.NotRelocatable is = λ h. h
  begins_not reasons.BadTrack is = absurd is
  begins_not reasons.NotExpired is = λ h. h
  begins_not reasons.BlockTooLong is = λ h. h
  begins_not reasons.NewNameTooLong is = λ h. h

  early_first : All is_early first_reasons
  early_first =
      All-cons is_early reasons.Pinned (reasons.Held ∷ reasons.NotExpired ∷ []) (tt {0})
      (All-cons is_early reasons.Held (reasons.NotExpired ∷ []) (tt {0}) (All-cons is_early reasons.NotExpired [] (tt {0}) (All-nil is_early)))

  front_early : (front back : List Reason) → All is_early (front ++ back) → All is_early front
  front_early [] back all = All-nil is_early
  front_early (reason ∷ front) back all =
      All-cons is_early reason front (All-head is_early reason (front ++ back) all) (front_early front back (All-tail is_early reason (front ++ back) all))

  lets_front : (front : List Reason) → All is_early front → All LetsAtFirst front → All Lets front
  lets_front [] early all = All-nil Lets
  lets_front (reason ∷ front) early all =
      All-cons Lets reason front (λ is. All-head LetsAtFirst reason front all (prevents_early reason (All-head is_early reason front early) is))
      (lets_front front (All-tail is_early reason front early) (All-tail LetsAtFirst reason front all))

  abbrev later_reasons : List Reason
  later_reasons =
      reasons.NameExists ∷ reasons.BadTrack ∷ reasons.NotRelocatable ∷ reasons.BlockTooLong ∷ reasons.NoSpace ∷ reasons.VtocFull ∷ []

  -- a reason that is found at first is the first of all
  reason_at_first : (reason : Reason) → IsFirst AtFirst first_reasons reason → IsReason Prevents reason
  reason_at_first reason is = record {
    front = reasons.NewNameTooLong ∷ is.front;
    back = is.back ++ later_reasons;
    list_is =
        ap (λ (list : List Reason). reasons.NewNameTooLong ∷ (list ++ later_reasons)) is.list_is
        ∙ ap (λ (list : List Reason). reasons.NewNameTooLong ∷ list) (append_assoc is.front (reason ∷ is.back) later_reasons);
    holds = prevents reason is.holds;
    none =
        All-cons Lets reasons.NewNameTooLong is.front (λ h. h)
        (lets_front is.front (front_early is.front (reason ∷ is.back) (subst (All is_early) is.list_is early_first)) is.none);
  }

  module _ (lets : All LetsAtFirst first_reasons) where
    lets_pinned : ¬ AtFirst reasons.Pinned
    lets_pinned = All-head LetsAtFirst reasons.Pinned (reasons.Held ∷ reasons.NotExpired ∷ []) lets

    rest_held : All LetsAtFirst (reasons.Held ∷ reasons.NotExpired ∷ [])
    rest_held = All-tail LetsAtFirst reasons.Pinned (reasons.Held ∷ reasons.NotExpired ∷ []) lets

    lets_held : ¬ AtFirst reasons.Held
    lets_held = All-head LetsAtFirst reasons.Held (reasons.NotExpired ∷ []) rest_held

    lets_expired : ¬ AtFirst reasons.NotExpired
    lets_expired = All-head LetsAtFirst reasons.NotExpired [] (All-tail LetsAtFirst reasons.Held (reasons.NotExpired ∷ []) rest_held)

    abbrev before_tracks : (rest : List Reason) → All Lets rest
        → All Lets (reasons.NewNameTooLong ∷ reasons.Pinned ∷ reasons.Held ∷ reasons.NotExpired ∷ reasons.NameExists ∷ rest)
    before_tracks rest all =
        All-cons Lets reasons.NewNameTooLong (reasons.Pinned ∷ reasons.Held ∷ reasons.NotExpired ∷ reasons.NameExists ∷ rest) (λ h. h)
        (All-cons Lets reasons.Pinned (reasons.Held ∷ reasons.NotExpired ∷ reasons.NameExists ∷ rest) lets_pinned
        (All-cons Lets reasons.Held (reasons.NotExpired ∷ reasons.NameExists ∷ rest) lets_held
        (All-cons Lets reasons.NotExpired (reasons.NameExists ∷ rest) lets_expired (All-cons Lets reasons.NameExists rest (λ h. h) all))))

    -- a track without a text is told before the room in the VTOC
    bad_track : ¬ All IsGood set.texts → IsReason Prevents reasons.BadTrack
    bad_track some = record {
      front = reasons.NewNameTooLong ∷ reasons.Pinned ∷ reasons.Held ∷ reasons.NotExpired ∷ reasons.NameExists ∷ [];
      back = reasons.NotRelocatable ∷ reasons.BlockTooLong ∷ reasons.NoSpace ∷ reasons.VtocFull ∷ [];
      list_is = refl;
      holds = some;
      none = before_tracks [] (All-nil Lets);
    }

    module _ (all_good : All IsGood set.texts) where
      vtoc_full : LacksRoomToChange wish volume → IsReason Prevents reasons.VtocFull
      vtoc_full lacks = record {
        front =
            reasons.NewNameTooLong ∷ reasons.Pinned ∷ reasons.Held ∷ reasons.NotExpired ∷ reasons.NameExists ∷ reasons.BadTrack ∷ reasons.NotRelocatable ∷ reasons.BlockTooLong
            ∷ reasons.NoSpace ∷ [];
        back = [];
        list_is = refl;
        holds = lacks;
        none =
            before_tracks (reasons.BadTrack ∷ reasons.NotRelocatable ∷ reasons.BlockTooLong ∷ reasons.NoSpace ∷ [])
            (All-cons Lets reasons.BadTrack (reasons.NotRelocatable ∷ reasons.BlockTooLong ∷ reasons.NoSpace ∷ []) (λ some. some all_good)
            (All-cons Lets reasons.NotRelocatable (reasons.BlockTooLong ∷ reasons.NoSpace ∷ []) (λ h. h)
            (All-cons Lets reasons.BlockTooLong (reasons.NoSpace ∷ []) (λ h. h) (All-cons Lets reasons.NoSpace [] (λ h. h) (All-nil Lets)))));
      }

      no_reason : ¬ LacksRoomToChange wish volume → HasNoReason Prevents
      no_reason room reasons.Held = lets_held
      no_reason room reasons.NoSpace = λ h. h
      no_reason room reasons.VtocFull = room
      no_reason room reasons.NameExists = λ h. h
      no_reason room reasons.Pinned = lets_pinned
      no_reason room reasons.NotRelocatable = λ h. h
      no_reason room reasons.BadTrack = λ some. some all_good
      no_reason room reasons.NotExpired = lets_expired
      no_reason room reasons.BlockTooLong = λ h. h
      no_reason room reasons.NewNameTooLong = λ h. h

-- ---- texts

-- either each track has a text, or one has none
are_good : (texts : List Text) → All IsGood texts ⊎ (¬ All IsGood texts)
are_good [] = inl (All-nil IsGood)
are_good (good text ∷ texts) = elim (are_good texts) [
  | inl all ↦ inl (All-cons IsGood (good text) texts (tt {0}) all)
  | inr some ↦ inr (λ all. some (All-tail IsGood (good text) texts all))
]
are_good (bad bytes ∷ texts) = inr (λ all. All-head IsGood (bad bytes) texts all)

good_texts : (texts : List Track) → All IsGood (map good texts ++ [])
good_texts [] = All-nil IsGood
good_texts (text ∷ texts) = All-cons IsGood (good text) (map good texts ++ []) (tt {0}) (good_texts texts)

no_good : (texts : List Track) (bytes : List ℕ) (rest : List Text) → ¬ All IsGood (map good texts ++ bad bytes ∷ rest)
no_good [] bytes rest all = All-head IsGood (bad bytes) rest all
no_good (text ∷ texts) bytes rest all = no_good texts bytes rest (All-tail IsGood (good text) (map good texts ++ bad bytes ∷ rest) all)

count_texts : (original : Original) (part : DumpPart) (is : IsPartOf original part) → length original.texts ≡ length part.texts + length is.rest
count_texts original part is =
    omega (arith, ap length is.texts_are, length-append (map good part.texts) is.rest, length-map part.texts good)

whole_good : (original : Original) (part : DumpPart) (is : IsPartOf original part) → is_whole part ≡ true → All IsGood original.texts
whole_good original part is whole = by is.rest is.texts_are (omega (arith, count_texts original part is, is.tracks_are, eqb-true (length part.texts) part.tracks whole))
  where
    by : (rest : List Text) → original.texts ≡ map good part.texts ++ rest → length rest ≡ 0 → All IsGood original.texts
    by [] are none = subst (All IsGood) (sym are) (good_texts part.texts)
    by (text ∷ rest) are none = absurd (omega (arith, none))

dropped_bad : (original : Original) (part : DumpPart) (is : IsPartOf original part) → is_whole part ≡ false → ¬ All IsGood original.texts
dropped_bad original part is not = by is.rest is.texts_are is.ends (λ none. false≢true (sym not ∙ eq-eqb (length part.texts) part.tracks
    (omega (arith, count_texts original part is, is.tracks_are, ap length none))))
  where
    by : (rest : List Text) → original.texts ≡ map good part.texts ++ rest → EndsHere rest → ¬ (rest ≡ []) → ¬ All IsGood original.texts
    by [] are ends some = absurd (some refl)
    by (good text ∷ rest) are ends some = absurd ends
    by (bad bytes ∷ rest) are ends some = λ all. no_good part.texts bytes rest (subst (All IsGood) are all)

module _ (volume : OnlineVolume) (set : DataSet) (part : DumpPart) (is : IsPartOfSet volume set part) where
  set_good : is_whole part ≡ true → All IsGood set.texts
  set_good whole = subst (All IsGood) (ap (λ (original : Original). original.texts) is.1.original_is) (whole_good is.0 part is.2 whole)

  set_bad : is_whole part ≡ false → ¬ All IsGood set.texts
  set_bad not all = dropped_bad is.0 part is.2 not (subst (All IsGood) (sym (ap (λ (original : Original). original.texts) is.1.original_is)) all)

-- ---- the turn

module _ {request : DumpRequest} {name : Dsn} {units : List UnitModel} (there : (volume : OnlineVolume) × (set : DataSet) × IsSet units request.unit name volume set) where
  -- a reason is told that is found at first
  pub refused_turn : (reason : Reason) → IsRefusedSoFar request name reason units → DumpsSet request name units (Some reason) []
  refused_turn reason first =
      let is = first there.0 there.1 there.2 in
      record {
        volume = there.0;
        online_is = there.2.online_is;
        set = there.1;
        there = there.2.there;
        name_is = there.2.name_is;
        told = reason_at_first request.held request.today request.wish there.0 name there.1 reason is;
        parts_are = inr (begins_not request.held request.today request.wish there.0 name there.1 reason is.holds, refl);
      }

  module _ (goes : GoesSoFar request name units) where
    -- its VTOC is full, and its tracks have texts
    pub full_turn : LacksRoomToChange request.wish there.0 → All IsGood there.1.texts → DumpsSet request name units (Some reasons.VtocFull) []
    full_turn lacks all = record {
      volume = there.0;
      online_is = there.2.online_is;
      set = there.1;
      there = there.2.there;
      name_is = there.2.name_is;
      told = vtoc_full request.held request.today request.wish there.0 name there.1 (goes there.0 there.1 there.2) all lacks;
      parts_are = inr (λ h. h, refl);
    }

    -- its VTOC is full, and a track has no text
    pub full_bad_turn : LacksRoomToChange request.wish there.0 → ¬ All IsGood there.1.texts → DumpsSet request name units (Some reasons.BadTrack) []
    full_bad_turn lacks some = record {
      volume = there.0;
      online_is = there.2.online_is;
      set = there.1;
      there = there.2.there;
      name_is = there.2.name_is;
      told = bad_track request.held request.today request.wish there.0 name there.1 (goes there.0 there.1 there.2) some;
      parts_are = inr (λ room. room lacks, refl);
    }

    module _ (room : ¬ LacksRoomToChange request.wish there.0) (part : DumpPart) (is : IsPartOfSet there.0 there.1 part) where
      good_turn : All IsGood there.1.texts → DumpsSet request name units None (part ∷ [])
      good_turn all = record {
        volume = there.0;
        online_is = there.2.online_is;
        set = there.1;
        there = there.2.there;
        name_is = there.2.name_is;
        told = no_reason request.held request.today request.wish there.0 name there.1 (goes there.0 there.1 there.2) all room;
        parts_are = inl (tt {0}, (part, is, refl));
      }

      bad_turn : ¬ All IsGood there.1.texts → DumpsSet request name units (Some reasons.BadTrack) (part ∷ [])
      bad_turn some = record {
        volume = there.0;
        online_is = there.2.online_is;
        set = there.1;
        there = there.2.there;
        name_is = there.2.name_is;
        told = bad_track request.held request.today request.wish there.0 name there.1 (goes there.0 there.1 there.2) some;
        parts_are = inl (room, (part, is, refl));
      }

      -- its part is whole
      pub whole_turn : is_whole part ≡ true → DumpsSet request name units None (part ∷ [])
      whole_turn whole = good_turn (set_good there.0 there.1 part is whole)

      -- its part ends at a track without a text
      pub dropped_turn : is_whole part ≡ false → DumpsSet request name units (Some reasons.BadTrack) (part ∷ [])
      dropped_turn not = bad_turn (set_bad there.0 there.1 part is not)

      -- a part is under way that is to be its part
      front_turn : (front : DumpPart) → IsFrontOf front part → IsUnderWayFor request (name ∷ []) units (Some front)
      front_turn front of = elim (are_good there.1.texts) [
        | inl all ↦ (part, None, good_turn all, of)
        | inr some ↦ (part, Some reasons.BadTrack, bad_turn some, of)
      ]

-- what is under way of a data set, if anything is
pub under_way : {P : Type 0} (pools : Ghosts P) (session : SessionView P) (request : DumpRequest) {name : Dsn} (current : Option DumpPart)
    → IfSome current (λ part. ForUnits pools session (λ units. (volume : OnlineVolume) (set : DataSet) → IsSet units request.unit name volume set → IsFrontOfSet volume set part))
    → ForUnits pools session (λ units. (volume : OnlineVolume) × (set : DataSet) × IsSet units request.unit name volume set)
    → ForUnits pools session (GoesSoFar request name)
    → ForUnits pools session (λ units. (volume : OnlineVolume) → slice_get units request.unit ≡ Some (online volume) → ¬ LacksRoomToChange request.wish volume)
    → ForUnits pools session (λ units. IsUnderWayFor request (name ∷ []) units current)
under_way pools session request None front there goes room told units settled = tt {0}
under_way pools session request (Some part) front there goes room told units settled =
    let at = there told units settled in
    let whole = front told units settled at.0 at.1 at.2 in
    front_turn {request = request} at (goes told units settled) (room told units settled at.0 at.2.online_is) whole.0 whole.1 part whole.2

-- ---- the room in the VTOC

-- it isn't asked where nothing is changed
pub room_unasked : (wish : DumpWish) {changes : Bool} → changes ≡ changes_sets wish → changes ≡ false → (volume : OnlineVolume) → ¬ LacksRoomToChange wish volume
room_unasked wish same not volume lacks = false≢true (sym not ∙ same ∙ lacks.0)

-- ---- nothing is put

-- the dump stands as it stood
pub put_none : {X : Type 0} {seen : X → OutSeen} {device : Device} {name : List ℕ} {tracks : ℕ} {progress : Progress} {outs : List X}
    → HasPut seen device name tracks [] None progress outs progress outs
put_none {X} {seen} {device} {name} {tracks} {progress} {outs} before head parts ready is =
    subst (λ (list : List DumpPart). IsWriting seen before head (holding list None) progress outs) (sym (append-nil parts)) is

-- what stands in each case where it failed
pub on_err : {T E A : Type 0} (result : Result T E) → A → IfErr result (λ error. A)
on_err (Ok value) is = tt
on_err (Err error) is = is
