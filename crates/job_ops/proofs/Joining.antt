-- The extents of a data set become one.
use Rattle.std.proofs.Common.{◌≡◌, inl, inr, ℕ, ◌<◌, ◌≤◌, List, [], ◌∷◌, ◌++◌, length, None, refl, sym, ap, subst, ◌∙◌, arith}
use Rattle.std.specs.Prelude.{if◌then◌else◌}
use Rattle.ckd_image.specs.Device.{heads_of}
use Rattle.dsn_filter.specs.declared.dsn.Dsn.{Dsn}
use Rattle.enq_table.specs.declared.hold.Hold.{Hold}
use Rattle.free_map.specs.declared.run.Run.{Run}
use Rattle.volume_model.specs.Unit.{DataSet, OnlineVolume, UnitModel}
use Rattle.move_core.specs.declared.steps.Step.TheVariants as steps
use Rattle.move_core.specs.Steps.{JoinsExtents, moved}
use Rattle.job_lines.specs.declared.message.Message.TheVariants as messages
use Rattle.job_lines.specs.declared.message.Reason.TheVariants as reasons
use Rattle.job_lines.specs.declared.severity.Severity.TheVariants as severities
use Rattle.job_ops.specs.declared.asking.Candidate.{Candidate}
use Rattle.job_ops.specs.declared.reshaping.Layout.TheVariants as layouts
use Rattle.job_ops.specs.declared.reshaping.Reshape.{Reshape}
use Rattle.job_ops.specs.declared.task.Task.TheVariants as tasks
use Rattle.dump_sets.specs.job_turns.job_steps.Units.{IsSet}
use Rattle.job_ops.specs.Asked.{IsSeen, IsReasonBefore, ReasonSoFar, said_of}
use Rattle.job_ops.specs.Consolidate.{HasSeveral, IsPlaceOf, LacksPlace, LacksRoomAtPlace, run_from, ConsolidatesSet}
use Rattle.job_ops.specs.Reasons.{LacksRoomFor}
use Rattle.job_ops.specs.Reshaping.{HasRoomToReshape, LacksRoomToReshape, steps_of_reshape}
use Rattle.dump_sets.specs.job_turns.Stating.{repairs, rebuilt}
use Rattle.job_ops.specs.Task.{StaysFor}
use Rattle.job_ops.proofs.Changing.{reshape_of, target_seen}
use Rattle.job_ops.proofs.Judging.{no_reason, place_reason, room_reason}
use Rattle.job_ops.proofs.Places.{one_place, has_place}

-- what a consolidation asks for
abbrev pub joined_from : ℕ → Candidate → Run
joined_from first candidate = record { first = first; len = candidate.size }

abbrev pub join_of : ℕ → Dsn → Candidate → ℕ → Reshape
join_of unit name candidate first = reshape_of unit name candidate (layouts.Joined (joined_from first candidate))

module _ (held : List Hold) {unit : ℕ} {name : Dsn} {candidate : Candidate} {units : List UnitModel} (seen : IsSeen tasks.Consolidate unit name candidate units)
    (before : IsReasonBefore tasks.Consolidate held unit name None units) where
  abbrev Stays : Type 0
  Stays = StaysFor tasks.Consolidate (heads_of seen.volume.device) seen.set

  abbrev NoPlace : Type 0
  NoPlace = HasSeveral seen.set × LacksPlace seen.volume seen.set

  abbrev NoRoom : Type 0
  NoRoom = HasSeveral seen.set × LacksRoomAtPlace seen.volume seen.set

  so_far : ReasonSoFar held name seen.set Stays None
  so_far = before seen.volume seen.set seen.set_is

  -- it has one extent, or none
  pub nothing_joined : candidate.extents ≤ 1 → ConsolidatesSet held unit name units [] []
  nothing_joined few = record {
    volume = seen.volume;
    online_is = seen.set_is.online_is;
    set = seen.set;
    there = seen.set_is.there;
    name_is = seen.set_is.name_is;
    outcome =
        let not : ¬ HasSeveral seen.set = λ several. omega (arith, few, several, seen.extents_are) in
        inr (no_reason held name seen.set Stays NoPlace NoRoom so_far (λ lacks. not lacks.0) (λ lacks. not lacks.0), inl (not, refl, refl));
  }

  module _ (more : 1 < candidate.extents) where
    several : HasSeveral seen.set
    several = omega (arith, more, seen.extents_are)

    -- no free run holds it
    pub no_place : ((volume : OnlineVolume) (set : DataSet) → IsSet units unit name volume set → LacksPlace volume set)
        → ConsolidatesSet held unit name units [] (messages.NotProcessed candidate.name reasons.NoSpace severities.Error ∷ [])
    no_place lacks = record {
      volume = seen.volume;
      online_is = seen.set_is.online_is;
      set = seen.set;
      there = seen.set_is.there;
      name_is = seen.set_is.name_is;
      outcome =
          inl (
            reasons.NoSpace,
            place_reason held name seen.set Stays NoPlace NoRoom so_far (several, lacks seen.volume seen.set seen.set_is),
            refl,
            ap (λ (n : List ℕ). messages.NotProcessed n reasons.NoSpace severities.Error ∷ []) seen.name_is,
          );
    }

    module _ (first : ℕ) (placed : (volume : OnlineVolume) (set : DataSet) → IsSet units unit name volume set → IsPlaceOf volume set first) where
      place : IsPlaceOf seen.volume seen.set first
      place = placed seen.volume seen.set seen.set_is

      has : ¬ NoPlace
      has lacks = has_place place lacks.1

      run_same : joined_from first candidate ≡ run_from first seen.set
      run_same = λ i. record { first = first; len = seen.size_is i }

      -- the VTOC has no room
      pub too_full : LacksRoomToReshape (join_of unit name candidate first) units → ConsolidatesSet held unit name units [] (messages.NotProcessed candidate.name reasons.VtocFull severities.Error ∷ [])
      too_full lacks = record {
        volume = seen.volume;
        online_is = seen.set_is.online_is;
        set = seen.set;
        there = seen.set_is.there;
        name_is = seen.set_is.name_is;
        outcome =
            let found = lacks seen.volume seen.set (target_seen (layouts.Joined (joined_from first candidate)) seen) in
            let extents = found.1.0 in
            inl (
              reasons.VtocFull,
              room_reason held name seen.set Stays NoPlace NoRoom so_far has (
                several,
                (
                  first,
                  extents,
                  place,
                  subst (λ (run : Run). JoinsExtents seen.set.extents (run ∷ []) extents) run_same found.1.1,
                  subst (λ (d : DataSet). LacksRoomFor seen.volume (seen.set ∷ []) (d ∷ [])) found.1.2 found.2,
                ),
              ),
              refl,
              ap (λ (n : List ℕ). messages.NotProcessed n reasons.VtocFull severities.Error ∷ []) seen.name_is,
            );
      }

      steps_same : steps_of_reshape (join_of unit name candidate first) ≡ repairs unit seen.volume ++ (steps.Move unit name (run_from first seen.set ∷ []) ∷ [])
      steps_same = λ i. (if seen.repair_is i then steps.Repair unit ∷ [] else []) ++ (steps.Move unit name (run_same i ∷ []) ∷ [])

      said_same : said_of candidate (messages.Consolidated candidate.name candidate.extents first)
          ≡ rebuilt seen.volume ++ (messages.Consolidated seen.set.name (length seen.set.extents) first ∷ [])
      said_same = λ i. (if seen.repair_is i then messages.Rebuilt (seen.serial_is i) ∷ [] else []) ++ (messages.Consolidated (seen.name_is i) (seen.extents_are i) first ∷ [])

      -- the place that is asked for room is this one
      has_room : HasRoomToReshape (join_of unit name candidate first) units → ¬ NoRoom
      has_room room (some, (other, extents, at, joins, full)) =
          room seen.volume seen.set (moved seen.set extents) (target_seen (layouts.Joined (joined_from first candidate)) seen) (
            extents,
            subst (λ (run : Run). JoinsExtents seen.set.extents (run ∷ []) extents)
                (ap (λ (f : ℕ). run_from f seen.set) (one_place at place) ∙ sym run_same) joins,
            refl,
          ) full

      -- it comes together
      pub brought_together : HasRoomToReshape (join_of unit name candidate first) units
          → ConsolidatesSet held unit name units (steps_of_reshape (join_of unit name candidate first)) (said_of candidate (messages.Consolidated candidate.name candidate.extents first))
      brought_together room = record {
        volume = seen.volume;
        online_is = seen.set_is.online_is;
        set = seen.set;
        there = seen.set_is.there;
        name_is = seen.set_is.name_is;
        outcome = inr (no_reason held name seen.set Stays NoPlace NoRoom so_far has (has_room room), inr (several, (first, place, steps_same, said_same)));
      }
