-- Why a data set isn't processed.
use Rattle.std.proofs.Common.{◌≡◌, ℕ, List, [], ◌∷◌, All, Contains, Some, None, refl, sym, ap, subst, ◌∙◌}
use Rattle.std.proofs.lemmas.Option.{same_Some}
use Rattle.std.proofs.lemmas.List.Elements.{All-nil, All-cons}
use Rattle.dsn_filter.specs.declared.dsn.Dsn.{Dsn}
use Rattle.enq_table.specs.declared.hold.Hold.{Hold}
use Rattle.volume_model.specs.Unit.{DataSet, OnlineVolume, UnitModel, online, offline}
use Rattle.move_core.specs.Stands.{IsGood}
use Rattle.job_lines.specs.declared.message.Reason.{Reason}
use Rattle.job_lines.specs.declared.message.Reason.TheVariants as reasons
use Rattle.job_ops.specs.declared.asking.Candidate.{Candidate}
use Rattle.job_ops.specs.declared.task.Task.{Task}
use Rattle.dump_sets.specs.job_turns.job_steps.Units.{IsSet}
use Rattle.job_ops.specs.Asked.{IsSeen, ReasonSoFar}
use Rattle.job_lines.specs.Order.{IsReason, HasNoReason}
use Rattle.job_ops.specs.Reasons.{IsHeld, PreventsInPlace}

-- ---- the data set that was seen

abbrev pub volume_in : OnlineVolume → UnitModel → OnlineVolume
volume_in other (online volume) = volume
volume_in other (offline why kept) = other

-- what holds of it holds of each data set of the name
pub at_seen : (Holds : OnlineVolume → DataSet → Type 0) {task : Task} {units : List UnitModel} {unit : ℕ} {name : Dsn} {candidate : Candidate} (seen : IsSeen task unit name candidate units) → Holds seen.volume seen.set
    → (volume : OnlineVolume) (set : DataSet) → IsSet units unit name volume set → Holds volume set
at_seen Holds {task} {units} {unit} {name} {candidate} seen holds volume set is =
    let one : seen.volume ≡ volume = ap (volume_in volume) (same_Some (online seen.volume) (online volume) (sym seen.set_is.online_is ∙ is.online_is)) in
    let same : set ≡ seen.set = seen.alone set (subst (λ (v : OnlineVolume). Contains v.sets set) (sym one) is.there) is.name_is in
    subst (λ (v : OnlineVolume). Holds v set) one (subst (λ (s : DataSet). Holds seen.volume s) (sym same) holds)

-- ---- reasons

module _ (held : List Hold) (name : Dsn) (set : DataSet) (stays no_place no_room : Type 0) where
  abbrev Bars : Reason → Type 0
  Bars reason = PreventsInPlace held name set stays no_place no_room reason

  abbrev Lets : Reason → Type 0
  Lets reason = ¬ Bars reason

  abbrev long_lets : All Lets (reasons.NewNameTooLong ∷ [])
  long_lets = All-cons Lets reasons.NewNameTooLong [] (λ h. h) (All-nil Lets)

  pinned_reason : stays → IsReason Bars reasons.Pinned
  pinned_reason is = record {
    front = reasons.NewNameTooLong ∷ [];
    back = reasons.Held ∷ reasons.NotExpired ∷ reasons.NameExists ∷ reasons.BadTrack ∷ reasons.NotRelocatable ∷ reasons.BlockTooLong ∷ reasons.NoSpace ∷ reasons.VtocFull ∷ [];
    list_is = refl;
    holds = is;
    none = long_lets;
  }

  module _ (moves : ¬ stays) where
    abbrev pinned_lets : (rest : List Reason) → All Lets rest → All Lets (reasons.NewNameTooLong ∷ reasons.Pinned ∷ rest)
    pinned_lets rest lets = All-cons Lets reasons.NewNameTooLong (reasons.Pinned ∷ rest) (λ h. h) (All-cons Lets reasons.Pinned rest moves lets)

    held_reason : IsHeld held name → IsReason Bars reasons.Held
    held_reason is = record {
      front = reasons.NewNameTooLong ∷ reasons.Pinned ∷ [];
      back = reasons.NotExpired ∷ reasons.NameExists ∷ reasons.BadTrack ∷ reasons.NotRelocatable ∷ reasons.BlockTooLong ∷ reasons.NoSpace ∷ reasons.VtocFull ∷ [];
      list_is = refl;
      holds = is;
      none = pinned_lets [] (All-nil Lets);
    }

    module _ (free : ¬ IsHeld held name) where
      abbrev held_lets : (rest : List Reason) → All Lets rest → All Lets (reasons.NewNameTooLong ∷ reasons.Pinned ∷ reasons.Held ∷ reasons.NotExpired ∷ reasons.NameExists ∷ rest)
      held_lets rest lets =
          pinned_lets (reasons.Held ∷ reasons.NotExpired ∷ reasons.NameExists ∷ rest)
          (All-cons Lets reasons.Held (reasons.NotExpired ∷ reasons.NameExists ∷ rest) free
          (All-cons Lets reasons.NotExpired (reasons.NameExists ∷ rest) (λ h. h) (All-cons Lets reasons.NameExists rest (λ h. h) lets)))

      track_reason : ¬ All IsGood set.texts → IsReason Bars reasons.BadTrack
      track_reason bad = record {
        front = reasons.NewNameTooLong ∷ reasons.Pinned ∷ reasons.Held ∷ reasons.NotExpired ∷ reasons.NameExists ∷ [];
        back = reasons.NotRelocatable ∷ reasons.BlockTooLong ∷ reasons.NoSpace ∷ reasons.VtocFull ∷ [];
        list_is = refl;
        holds = bad;
        none = held_lets [] (All-nil Lets);
      }

      module _ (good : All IsGood set.texts) where
        abbrev track_lets : (rest : List Reason) → All Lets rest
            → All Lets (reasons.NewNameTooLong ∷ reasons.Pinned ∷ reasons.Held ∷ reasons.NotExpired ∷ reasons.NameExists ∷ reasons.BadTrack ∷ reasons.NotRelocatable ∷ reasons.BlockTooLong ∷ rest)
        track_lets rest lets =
            held_lets (reasons.BadTrack ∷ reasons.NotRelocatable ∷ reasons.BlockTooLong ∷ rest)
            (All-cons Lets reasons.BadTrack (reasons.NotRelocatable ∷ reasons.BlockTooLong ∷ rest) (λ bad. bad good)
            (All-cons Lets reasons.NotRelocatable (reasons.BlockTooLong ∷ rest) (λ h. h) (All-cons Lets reasons.BlockTooLong rest (λ h. h) lets)))

        place_reason_so : no_place → IsReason Bars reasons.NoSpace
        place_reason_so lacks = record {
          front =
              reasons.NewNameTooLong ∷ reasons.Pinned ∷ reasons.Held ∷ reasons.NotExpired ∷ reasons.NameExists ∷ reasons.BadTrack ∷ reasons.NotRelocatable ∷ reasons.BlockTooLong ∷ [];
          back = reasons.VtocFull ∷ [];
          list_is = refl;
          holds = lacks;
          none = track_lets [] (All-nil Lets);
        }

        room_reason_so : ¬ no_place → no_room → IsReason Bars reasons.VtocFull
        room_reason_so place lacks = record {
          front =
              reasons.NewNameTooLong ∷ reasons.Pinned ∷ reasons.Held ∷ reasons.NotExpired ∷ reasons.NameExists ∷ reasons.BadTrack ∷ reasons.NotRelocatable ∷ reasons.BlockTooLong
              ∷ reasons.NoSpace ∷ [];
          back = [];
          list_is = refl;
          holds = lacks;
          none = track_lets (reasons.NoSpace ∷ []) (All-cons Lets reasons.NoSpace [] place (All-nil Lets));
        }

        no_reason_so : ¬ no_place → ¬ no_room → HasNoReason Bars
        no_reason_so place room reasons.Pinned h = moves h
        no_reason_so place room reasons.Held h = free h
        no_reason_so place room reasons.BadTrack h = h good
        no_reason_so place room reasons.NoSpace h = place h
        no_reason_so place room reasons.VtocFull h = room h
        no_reason_so place room reasons.NewNameTooLong h = h
        no_reason_so place room reasons.NotExpired h = h
        no_reason_so place room reasons.NameExists h = h
        no_reason_so place room reasons.NotRelocatable h = h
        no_reason_so place room reasons.BlockTooLong h = h

  -- ---- from what was asked

  pub reason_found : (reason : Reason) → ReasonSoFar held name set stays (Some reason) → IsReason Bars reason
  reason_found reasons.Pinned is = pinned_reason is
  reason_found reasons.Held is = held_reason is.0 is.1
  reason_found reasons.BadTrack is = track_reason is.0 is.1 is.2
  reason_found reasons.NewNameTooLong is = absurd is
  reason_found reasons.NotExpired is = absurd is
  reason_found reasons.NameExists is = absurd is
  reason_found reasons.NotRelocatable is = absurd is
  reason_found reasons.BlockTooLong is = absurd is
  reason_found reasons.NoSpace is = absurd is
  reason_found reasons.VtocFull is = absurd is

  module _ (so_far : ReasonSoFar held name set stays None) where
    pub place_reason : no_place → IsReason Bars reasons.NoSpace
    place_reason = place_reason_so so_far.0 so_far.1 so_far.2

    pub room_reason : ¬ no_place → no_room → IsReason Bars reasons.VtocFull
    room_reason = room_reason_so so_far.0 so_far.1 so_far.2

    pub no_reason : ¬ no_place → ¬ no_room → HasNoReason Bars
    no_reason = no_reason_so so_far.0 so_far.1 so_far.2

-- ---- holds
