-- The turn of a data set that is to be copied: what was judged of it, and what became of it.
use Rattle.std.proofs.Common.{◌≡◌, inl, inr, ℕ, ◌≤◌, ◌==◌, List, [], ◌∷◌, ◌++◌, length, All, refl, ap, subst, ◌∙◌, arith}
use Rattle.std.proofs.lemmas.List.Elements.{All-nil, All-cons, All-head, All-tail}
use Rattle.ckd_image.specs.Device.{heads_of}
use Rattle.ckd_image.specs.declared.device.Device.TheVariants.{D3390, D3380, D3350}
use Rattle.by_rules.specs.declared.day.Day.{Day}
use Rattle.dsn_filter.specs.declared.dsn.Dsn.{Dsn}
use Rattle.enq_table.specs.declared.hold.Hold.{Hold}
use Rattle.free_map.specs.declared.run.Run.{Run}
use Rattle.free_map.specs.Runs.{SameTracksSameRuns}
use Rattle.free_map.specs.Several.{NoChoiceWhereShort, AreTooShort}
use Rattle.plan_core.specs.Consolidate.{IsStepOf}
use Rattle.volume_model.specs.Unit.{UnitModel, tracks_of, IsFreeTrack}
use Rattle.move_core.specs.Stands.{IsGood}
use Rattle.job_lines.specs.declared.message.Reason.{Reason}
use Rattle.job_lines.specs.declared.message.Reason.TheVariants as reasons
use Rattle.job_lines.specs.Order.{IsFirst, IsReason, HasNoReason}
use Rattle.dump_sets.specs.job_turns.job_copies.Case.{Case}
use Rattle.dump_sets.specs.job_turns.job_copies.Places.{ArePlacesFor, HasNoPlaces}
use Rattle.dump_sets.specs.job_turns.job_copies.Reasons.{PreventsAtFirst, first_reasons}
use Rattle.job_ops.specs.Copy.{Request, PreventsCopy, LacksRoomToCopy}
use Rattle.job_ops.specs.Copying.{IsThere, IsCase}
use Rattle.job_ops.proofs.CopyRoom.{one_list}
use Rattle.job_ops.proofs.NewKinds.{one_step}

-- ---- reasons

module _ (held : List Hold) (today : Day) (case : Case) where
  abbrev AtFirst : Reason → Type 0
  AtFirst reason = PreventsAtFirst held today case reason

  abbrev Prevents : Reason → Type 0
  Prevents reason = PreventsCopy held today case reason

  abbrev Lets : Reason → Type 0
  Lets reason = ¬ Prevents reason

  abbrev LetsAtFirst : Reason → Type 0
  LetsAtFirst reason = ¬ AtFirst reason

  -- the reasons that are judged at first
  abbrev is_early : Reason → Type 0
  is_early reasons.BadTrack = ⊥
  is_early reasons.NoSpace = ⊥
  is_early reasons.VtocFull = ⊥
  is_early _ = Unit {0}

  prevents : (reason : Reason) → AtFirst reason → Prevents reason
  prevents reasons.Held is = is
  prevents reasons.NoSpace is = absurd is
  prevents reasons.VtocFull is = absurd is
  prevents reasons.NameExists is = is
  prevents reasons.Pinned is = is
  prevents reasons.NotRelocatable is = absurd is
  prevents reasons.BadTrack is = absurd is
  prevents reasons.NotExpired is = is
  prevents reasons.BlockTooLong is = absurd is
  prevents reasons.NewNameTooLong is = absurd is

  prevents_early : (reason : Reason) → is_early reason → Prevents reason → AtFirst reason
  prevents_early reasons.Held early is = is
  prevents_early reasons.NoSpace early is = absurd early
  prevents_early reasons.VtocFull early is = absurd early
  prevents_early reasons.NameExists early is = is
  prevents_early reasons.Pinned early is = is
  prevents_early reasons.NotRelocatable early is = is
  prevents_early reasons.BadTrack early is = absurd early
  prevents_early reasons.NotExpired early is = is
  prevents_early reasons.BlockTooLong early is = is
  prevents_early reasons.NewNameTooLong early is = is

  early_first : All is_early first_reasons
  early_first =
      All-cons is_early reasons.Pinned (reasons.Held ∷ reasons.NotExpired ∷ reasons.NameExists ∷ []) (tt {0})
      (All-cons is_early reasons.Held (reasons.NotExpired ∷ reasons.NameExists ∷ []) (tt {0})
      (All-cons is_early reasons.NotExpired (reasons.NameExists ∷ []) (tt {0}) (All-cons is_early reasons.NameExists [] (tt {0}) (All-nil is_early))))

  front_early : (front back : List Reason) → All is_early (front ++ back) → All is_early front
  front_early [] back all = All-nil is_early
  front_early (reason ∷ front) back all =
      All-cons is_early reason front (All-head is_early reason (front ++ back) all) (front_early front back (All-tail is_early reason (front ++ back) all))

  lets_front : (front : List Reason) → All is_early front → All LetsAtFirst front → All Lets front
  lets_front [] early all = All-nil Lets
  lets_front (reason ∷ front) early all =
      All-cons Lets reason front (λ is. All-head LetsAtFirst reason front all (prevents_early reason (All-head is_early reason front early) is))
      (lets_front front (All-tail is_early reason front early) (All-tail LetsAtFirst reason front all))

  abbrev later_reasons : List Reason
  later_reasons = reasons.BadTrack ∷ reasons.NotRelocatable ∷ reasons.BlockTooLong ∷ reasons.NoSpace ∷ reasons.VtocFull ∷ []

  -- a reason that is found at first is the first of all
  pub reason_at_first : (reason : Reason) → IsFirst AtFirst first_reasons reason → IsReason Prevents reason
  reason_at_first reason is = record {
    front = reasons.NewNameTooLong ∷ is.front;
    back = is.back ++ later_reasons;
    list_is =
        ap (λ (list : List Reason). reasons.NewNameTooLong ∷ (list ++ later_reasons)) is.list_is
        ∙ ap (λ (list : List Reason). reasons.NewNameTooLong ∷ list) (Rattle.std.proofs.Common.append_assoc is.front (reason ∷ is.back) later_reasons);
    holds = prevents reason is.holds;
    none =
        All-cons Lets reasons.NewNameTooLong is.front (λ h. h)
        (lets_front is.front (front_early is.front (reason ∷ is.back) (subst (All is_early) is.list_is early_first)) is.none);
  }

  module _ (lets : All LetsAtFirst first_reasons) where
    lets_all : All Lets first_reasons
    lets_all = lets_front first_reasons early_first lets

    lets_pinned : ¬ AtFirst reasons.Pinned
    lets_pinned = All-head LetsAtFirst reasons.Pinned (reasons.Held ∷ reasons.NotExpired ∷ reasons.NameExists ∷ []) lets

    rest_held : All LetsAtFirst (reasons.Held ∷ reasons.NotExpired ∷ reasons.NameExists ∷ [])
    rest_held = All-tail LetsAtFirst reasons.Pinned (reasons.Held ∷ reasons.NotExpired ∷ reasons.NameExists ∷ []) lets

    lets_held : ¬ AtFirst reasons.Held
    lets_held = All-head LetsAtFirst reasons.Held (reasons.NotExpired ∷ reasons.NameExists ∷ []) rest_held

    rest_expired : All LetsAtFirst (reasons.NotExpired ∷ reasons.NameExists ∷ [])
    rest_expired = All-tail LetsAtFirst reasons.Held (reasons.NotExpired ∷ reasons.NameExists ∷ []) rest_held

    lets_expired : ¬ AtFirst reasons.NotExpired
    lets_expired = All-head LetsAtFirst reasons.NotExpired (reasons.NameExists ∷ []) rest_expired

    lets_name : ¬ AtFirst reasons.NameExists
    lets_name = All-head LetsAtFirst reasons.NameExists [] (All-tail LetsAtFirst reasons.NotExpired (reasons.NameExists ∷ []) rest_expired)

    abbrev before_tracks : (rest : List Reason) → All Lets rest
        → All Lets (reasons.NewNameTooLong ∷ reasons.Pinned ∷ reasons.Held ∷ reasons.NotExpired ∷ reasons.NameExists ∷ rest)
    before_tracks rest all =
        All-cons Lets reasons.NewNameTooLong (reasons.Pinned ∷ reasons.Held ∷ reasons.NotExpired ∷ reasons.NameExists ∷ rest) (λ h. h)
        (All-cons Lets reasons.Pinned (reasons.Held ∷ reasons.NotExpired ∷ reasons.NameExists ∷ rest) lets_pinned
        (All-cons Lets reasons.Held (reasons.NotExpired ∷ reasons.NameExists ∷ rest) lets_held
        (All-cons Lets reasons.NotExpired (reasons.NameExists ∷ rest) lets_expired (All-cons Lets reasons.NameExists rest lets_name all))))

    pub bad_track : ¬ All IsGood case.set.texts → IsReason Prevents reasons.BadTrack
    bad_track bad = record {
      front = reasons.NewNameTooLong ∷ reasons.Pinned ∷ reasons.Held ∷ reasons.NotExpired ∷ reasons.NameExists ∷ [];
      back = reasons.NotRelocatable ∷ reasons.BlockTooLong ∷ reasons.NoSpace ∷ reasons.VtocFull ∷ [];
      list_is = refl;
      holds = bad;
      none = before_tracks [] (All-nil Lets);
    }

    module _ (good : All IsGood case.set.texts) where
      abbrev before_places : (rest : List Reason) → All Lets rest
          → All Lets (reasons.NewNameTooLong ∷ reasons.Pinned ∷ reasons.Held ∷ reasons.NotExpired ∷ reasons.NameExists ∷ reasons.BadTrack ∷ reasons.NotRelocatable ∷ reasons.BlockTooLong ∷ rest)
      before_places rest all =
          before_tracks (reasons.BadTrack ∷ reasons.NotRelocatable ∷ reasons.BlockTooLong ∷ rest)
          (All-cons Lets reasons.BadTrack (reasons.NotRelocatable ∷ reasons.BlockTooLong ∷ rest) (λ bad. bad good)
          (All-cons Lets reasons.NotRelocatable (reasons.BlockTooLong ∷ rest) (λ h. h) (All-cons Lets reasons.BlockTooLong rest (λ h. h) all)))

      pub no_space : HasNoPlaces case → IsReason Prevents reasons.NoSpace
      no_space none = record {
        front = reasons.NewNameTooLong ∷ reasons.Pinned ∷ reasons.Held ∷ reasons.NotExpired ∷ reasons.NameExists ∷ reasons.BadTrack ∷ reasons.NotRelocatable ∷ reasons.BlockTooLong ∷ [];
        back = reasons.VtocFull ∷ [];
        list_is = refl;
        holds = none;
        none = before_places [] (All-nil Lets);
      }

      pub vtoc_full : ¬ HasNoPlaces case → LacksRoomToCopy case → IsReason Prevents reasons.VtocFull
      vtoc_full place lacks = record {
        front =
            reasons.NewNameTooLong ∷ reasons.Pinned ∷ reasons.Held ∷ reasons.NotExpired ∷ reasons.NameExists ∷ reasons.BadTrack ∷ reasons.NotRelocatable ∷ reasons.BlockTooLong
            ∷ reasons.NoSpace ∷ [];
        back = [];
        list_is = refl;
        holds = lacks;
        none = before_places (reasons.NoSpace ∷ []) (All-cons Lets reasons.NoSpace [] place (All-nil Lets));
      }

      pub no_reason : ¬ HasNoPlaces case → ¬ LacksRoomToCopy case → HasNoReason Prevents
      no_reason place room reasons.Held h = lets_held h
      no_reason place room reasons.NoSpace h = place h
      no_reason place room reasons.VtocFull h = room h
      no_reason place room reasons.NameExists h = lets_name h
      no_reason place room reasons.Pinned h = lets_pinned h
      no_reason place room reasons.NotRelocatable h = h
      no_reason place room reasons.BadTrack h = h good
      no_reason place room reasons.NotExpired h = lets_expired h
      no_reason place room reasons.BlockTooLong h = h
      no_reason place room reasons.NewNameTooLong h = h

-- ---- places

some_step : (case : Case) (step : ℕ) → IsStepOf (heads_of case.to.device) case.set.extents step → 1 ≤ step
some_step case step (inl by) = by_heads case.to.device by.1
  where
    by_heads : (device : Rattle.ckd_image.specs.declared.device.Device.Device) → step ≡ heads_of device → 1 ≤ step
    by_heads D3390 is = omega (arith, is)
    by_heads D3380 is = omega (arith, is)
    by_heads D3350 is = omega (arith, is)
some_step case step (inr by) = omega (arith, by.1)

-- where places are chosen, the longest runs aren't too short
pub placed_somewhere : (case : Case) (runs : List Run) → SameTracksSameRuns → NoChoiceWhereShort → ArePlacesFor case runs → ¬ HasNoPlaces case
placed_somewhere case runs list law (step, free, step_is, free_is, chosen) (other, longest, all, other_is, all_is, short) =
    let need = length (tracks_of case.set.extents) in
    law free runs need step longest free_is.apart (some_step case step step_is)
    (subst (λ (s : ℕ). AreTooShort free need s longest) (one_step (heads_of case.to.device) case.set.extents other step other_is step_is)
    (subst (λ (l : List Run). AreTooShort l need other longest) (one_list list (IsFreeTrack case.to) all free all_is free_is) short)) chosen

-- ---- a case

-- the case of a data set that is there
abbrev pub case_of : {request : Request} {name : Dsn} {units : List UnitModel} → IsThere request name units → Dsn → Case
case_of {request} {name} is new = record { from = is.source; to = is.target; within = request.from == request.to; name = name; new = new; set = is.set; wish = request.wish }

pub is_case : {request : Request} {name : Dsn} {units : List UnitModel} (is : IsThere request name units) (new : Dsn) → IsCase request name new units (case_of is new)
is_case is new = record { source_is = is.source_is; target_is = is.target_is; within_is = refl; case_name = refl; case_new = refl; wish_is = refl; there = is.there; named = is.name_is }
