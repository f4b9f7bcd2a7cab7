-- When the steps that change a data set may be done, and what becomes of it, from what became of them.
use Rattle.std.proofs.Common.{◌≡◌, ◌≢◌, inl, inr, ℕ, Bool, true, false, List, [], ◌∷◌, ◌++◌, length, All, Contains, Result, Ok, Err, refl, sym, ap, subst, ◌∙◌}
use Rattle.std.specs.Prelude.{if◌then◌else◌}
use Rattle.std.proofs.lemmas.Bool.{false≢true}
use Rattle.std.proofs.lemmas.List.{append-nil, length-map}
use Rattle.std.proofs.lemmas.List.Elements.{All-nil, All-cons, All-head, All-tail}
use Rattle.dasd_pool.specs.declared.pool.Pool.{Ghosts}
use Rattle.ckd_image.specs.Device.{heads_of}
use Rattle.dscb_rec.specs.declared.field.Extent.{Extent as Field}
use Rattle.plan_core.specs.Consolidate.{IsStepOf}
use Rattle.volume_model.specs.Reads.{extent_in}
use Rattle.volume_model.specs.Unit.{Extent, DataSet, OnlineVolume, UnitModel}
use Rattle.vtoc_core.specs.Loaded.{field_of}
use Rattle.vtoc_layout.proofs.Distinct.{first_or_later, in_none}
use Rattle.volume_change.specs.declared.change.Change.{Change}
use Rattle.volume_change.specs.declared.change.Change.TheVariants.{Repair, Swap}
use Rattle.unit_load.specs.declared.state.UnitState.{UnitState}
use Rattle.move_core.specs.declared.steps.Step.{Step}
use Rattle.move_core.specs.declared.steps.Step.TheVariants as steps
use Rattle.move_core.specs.Stands.{IsSettled}
use Rattle.move_core.specs.Steps.{IsNewKind, extents_on, moved, shrunk}
use Rattle.move_core.proofs.Running.{run_idle}
use Rattle.dump_sets.specs.job_turns.job_copies.unit_change.Described.{DescribesSet}
use Rattle.dump_sets.specs.job_turns.job_copies.unit_steps.Plans.{extents_in}
use Rattle.dump_sets.specs.job_turns.job_copies.step_room.Room.{IsFullFor, LackingChangesAreFull, FittingChangesAreNotFull, AlikeChangesHaveRoom}
use Rattle.dump_sets.specs.job_turns.job_steps.unit_session.Sessions.{SessionView}
use Rattle.dump_sets.specs.job_turns.job_steps.declared.cut.Cut.{Cut}
use Rattle.dump_sets.specs.job_turns.job_steps.declared.cut.Cut.TheVariants as cuts
use Rattle.dump_sets.specs.job_turns.job_steps.Carried.{IsUnitAfter, HaveNext}
use Rattle.dump_sets.specs.job_turns.job_acts.declared.acts.Acts.{Acts}
use Rattle.dump_sets.specs.job_turns.job_acts.declared.acts.Acted.{Acted}
use Rattle.dump_sets.specs.job_turns.job_acts.declared.acts.Acted.TheVariants as ends
use Rattle.dump_sets.specs.job_turns.job_acts.Making.{MayBeChanged, MayPlan}
use Rattle.dump_sets.specs.job_turns.job_acts.Acting.{AreSound, Fits, LacksRoom, IsDone, MayDo, AreDone, AllFit, SomeLacks, MayAct, EndsActs, looked_at}
use Rattle.dump_sets.proofs.job_turns.job_acts.Kept.{behind_itself, behind_repair, after_one, plan_behind}
use Rattle.dump_sets.proofs.job_turns.job_acts.PlansMade.{repair_planned}
use Rattle.dump_sets.proofs.job_turns.job_acts.Repairing.{AfterRepairs, may_step, may_repair, may_act, seen_are}
use Rattle.dump_sets.proofs.job_turns.job_acts.Sessions.{no_change}
use Rattle.job_ops.specs.declared.reshaping.Layout.{Layout}
use Rattle.job_ops.specs.declared.reshaping.Layout.TheVariants as layouts
use Rattle.job_ops.specs.declared.reshaping.Reshape.{Reshape}
use Rattle.dump_sets.specs.job_turns.job_steps.Units.{facts_of, ForUnits}
use Rattle.job_ops.specs.Reshaping.{step_of, step_to, steps_of_reshape, IsReshaped, MayReshape, NeedsRepair, IsTarget, LacksRoomToReshape, HasRoomToReshape, StaysChangeable, ReshapeAnswers, EndsReshape}
use Rattle.dump_sets.proofs.job_turns.LoadedUnits.{AreKnown}
use Rattle.job_ops.proofs.ReshapeRoom.{change_full, change_fits, repair_full, repair_fits}
use Rattle.job_ops.proofs.ReshapeTargets.{PlansReshape, described_by, one_put, put, put_reshaped}
use Rattle.job_ops.proofs.ReshapeUnits.{reshape_planned, stays_repaired, stays_changed, stays_then}

-- ---- its steps, with a repair or without

abbrev steps_if : Reshape → Bool → List Step
steps_if reshape repair = (if repair then steps.Repair reshape.unit ∷ [] else []) ++ (step_of reshape ∷ [])

-- its volume may be changed
changeable : (room : ℕ) (units : List UnitState) (reshape : Reshape) → MayReshape room units reshape → MayBeChanged room units reshape.unit
changeable room units reshape may = by reshape.layout may
  where
    by : (layout : Layout) → MayPlan room units (step_to reshape.unit reshape.name layout) → MayBeChanged room units reshape.unit
    by (layouts.Front keep) can = can.set.may
    by (layouts.Joined run) can = can.set.may

module _ (room : ℕ) (units : List UnitState) (reshape : Reshape) (may : MayReshape room units reshape) where
  looks_if : (repair : Bool) → All (MayPlan room units) (steps_if reshape repair)
  looks_if true =
      All-cons (MayPlan room units) (steps.Repair reshape.unit) (step_of reshape ∷ []) (changeable room units reshape may)
      (All-cons (MayPlan room units) (step_of reshape) [] may (All-nil (MayPlan room units)))
  looks_if false = All-cons (MayPlan room units) (step_of reshape) [] may (All-nil (MayPlan room units))

  module _ (sound : AreSound units) (alike : AlikeChangesHaveRoom) where
    changes : Fits units (step_of reshape) → AfterRepairs room units (step_of reshape ∷ [])
    changes fits = may_step room units alike sound (step_of reshape) [] may fits (λ now after behind known done reached. tt {0})

    does_if : (repair : Bool) → AllFit units (steps_if reshape repair) → MayDo room units (steps_if reshape repair)
    does_if true fit =
        may_repair room units alike sound reshape.unit (step_of reshape ∷ []) (changeable room units reshape may) (All-head (Fits units) (steps.Repair reshape.unit) (step_of reshape ∷ []) fit)
        (changes (All-head (Fits units) (step_of reshape) [] (All-tail (Fits units) (steps.Repair reshape.unit) (step_of reshape ∷ []) fit))) units (behind_itself units) sound
    does_if false fit = changes (All-head (Fits units) (step_of reshape) [] fit) units (behind_itself units) sound

    -- they may be done
    pub reshape_acts : (acts : Acts) → acts.steps.items ≡ steps_of_reshape reshape → acts.looked ≡ length (steps_of_reshape reshape) → MayAct room units acts
    reshape_acts acts steps_are looked =
        may_act acts (steps_of_reshape reshape) [] (steps_are ∙ sym (append-nil (steps_of_reshape reshape))) looked room units (looks_if reshape.repair)
        (λ fit. subst (MayDo room units) (sym (append-nil (steps_of_reshape reshape))) (does_if reshape.repair fit))

  -- ---- the units behind it

  changed : (after : List UnitState) → IsDone units (step_of reshape) after → StaysChangeable room units after reshape.unit
  changed after done =
      let plan = reshape_planned room reshape done.0 may done.1 done.2 in
      stays_changed units after reshape.unit reshape.name plan.swap.row
      (after_one units after reshape.unit (Swap reshape.name plan.swap.row) done.0.changes plan.swap.changes_are done.3)

module _ (room : ℕ) (units : List UnitState) (reshape : Reshape) (may : MayReshape room units reshape) where
  repaired : (after : List UnitState) → IsDone units (steps.Repair reshape.unit) after → IsUnitAfter units reshape.unit Repair after
  repaired after done = after_one units after reshape.unit Repair done.0.changes (repair_planned units done.0 reshape.unit done.1 done.2).1.changes_are done.3

  stays_if : (repair : Bool) (after : List UnitState) → AreDone units (steps_if reshape repair) after → StaysChangeable room units after reshape.unit
  stays_if true after (between, stated, sound, (last, done, known, same)) =
      let is = repaired between stated in
      let later : MayReshape room between reshape = plan_behind room (behind_repair (behind_itself units) is) sound (step_of reshape) may in
      stays_then units between after reshape.unit (stays_repaired units between reshape.unit is)
      (subst (λ (list : List UnitState). StaysChangeable room between list reshape.unit) (sym same) (changed room between reshape later last done))
  stays_if false after (last, done, known, same) =
      subst (λ (list : List UnitState). StaysChangeable room units list reshape.unit) (sym same) (changed room units reshape may last done)

-- ---- the room

module _ {P : Type 0} (pools : Ghosts P) {session : SessionView P} (reshape : Reshape) (may : MayReshape session.room session.units reshape) (known : AreKnown pools session) where
  module _ (told : pools.tells) (units : List UnitModel) (settled : IsSettled (facts_of pools session) (pools.disk session.pool).state units)
      {volume : OnlineVolume} {set : DataSet} (target : IsTarget units reshape volume set) where
    -- the data set with its extents, which needs no plan
    some_put : (other : DataSet) × IsReshaped reshape.layout set other
    some_put = by reshape.layout may
      where
        by : (layout : Layout) → MayPlan session.room session.units (step_to reshape.unit reshape.name layout) → (other : DataSet) × IsReshaped layout set other
        by (layouts.Front keep) can = (shrunk keep set, refl)
        by (layouts.Joined run) can = joins can.place.step_is
          where
            row : DescribesSet (heads_of can.set.may.volume.device) can.set.row set
            row =
                described_by can.set.may.volume volume reshape.name can.set.row set can.set.sound
                (known.described told units settled reshape.unit can.set.may.volume volume can.set.may.loaded target.online_is) can.set.row_is target.there target.name_is

            several : length set.extents ≢ 1
            several one =
                can.several
                (sym (length-map can.set.row.extents (λ (extent : Field). extent_in (heads_of can.set.may.volume.device) (field_of extent))) ∙ ap (λ (list : List Extent). length list) (sym row.extents_are) ∙ one)

            with_kind : (kind : ℕ) → IsNewKind (extents_in can.set.may.volume can.set.row) kind → (other : DataSet) × IsReshaped (layouts.Joined run) set other
            with_kind kind is = (
              moved set (extents_on kind (run ∷ [])),
              (
                extents_on kind (run ∷ []),
                record {
                  several = several;
                  run = run;
                  one = refl;
                  kind = kind;
                  kind_is = subst (λ (list : List Extent). IsNewKind list kind) (sym row.extents_are) is;
                  new_is = refl;
                },
                refl,
              ),
            )

            joins : IsStepOf (heads_of can.set.may.volume.device) (extents_in can.set.may.volume can.set.row) can.place.step → (other : DataSet) × IsReshaped (layouts.Joined run) set other
            joins (inl (whole, step)) = with_kind 0x81 (inl (whole, refl))
            joins (inr (parts, step)) = with_kind 0x01 (inr (parts, refl))

  module _ {changes : List (ℕ × Change)} (plan : PlansReshape session.units reshape changes) where
    lacks_change : (need free : ℕ) → LackingChangesAreFull → Rattle.dump_sets.specs.job_turns.job_steps.unit_session.Planned.LacksRecordsFor session.units changes need free → ForUnits pools session (LacksRoomToReshape reshape)
    lacks_change need free law full told units settled volume set target =
        let sound = known.sound reshape.unit plan.swap.volume plan.swap.loaded in
        let is = known.described told units settled reshape.unit plan.swap.volume volume plan.swap.loaded target.online_is in (
          put plan sound is set target.there target.name_is,
          put_reshaped plan sound is set target.there target.name_is,
          inr (change_full plan sound is set target.there target.name_is need free law full),
        )

    fits_change : FittingChangesAreNotFull → HaveNext session.units changes → pools.tells → (units : List UnitModel) → IsSettled (facts_of pools session) (pools.disk session.pool).state units
        → (volume : OnlineVolume) (set other : DataSet) → IsTarget units reshape volume set → IsReshaped reshape.layout set other → ¬ IsFullFor volume (set ∷ []) (other ∷ [])
    fits_change law all told units settled volume set other target becomes full =
        let sound = known.sound reshape.unit plan.swap.volume plan.swap.loaded in
        let is = known.described told units settled reshape.unit plan.swap.volume volume plan.swap.loaded target.online_is in
        let one : put plan sound is set target.there target.name_is ≡ other =
        one_put reshape.layout set (put plan sound is set target.there target.name_is) other (put_reshaped plan sound is set target.there target.name_is) becomes in
        change_fits plan sound is set target.there target.name_is law all (subst (λ (d : DataSet). IsFullFor volume (set ∷ []) (d ∷ [])) (sym one) full)

    -- the free space is stated
    room_plain : reshape.repair ≡ false → NeedsRepair session.units reshape → FittingChangesAreNotFull → HaveNext session.units changes → ForUnits pools session (HasRoomToReshape reshape)
    room_plain stated needs law all told units settled volume set other target becomes (inl (repair, full)) =
        let is = known.described told units settled reshape.unit plan.swap.volume volume plan.swap.loaded target.online_is in
        false≢true (sym stated ∙ needs plan.swap.volume plan.swap.loaded ∙ sym is.repair_is ∙ repair)
    room_plain stated needs law all told units settled volume set other target becomes (inr full) = fits_change law all told units settled volume set other target becomes full

  module _ (needs : NeedsRepair session.units reshape) (fits_law : FittingChangesAreNotFull) (full_law : LackingChangesAreFull) where
    fits_plan : (fits : Fits session.units (step_of reshape)) → PlansReshape session.units reshape fits.plan.changes
    fits_plan fits = reshape_planned session.room reshape fits.plan may fits.step_is fits.lawful

    room_if : (repair : Bool) → reshape.repair ≡ repair → AllFit session.units (steps_if reshape repair) → ForUnits pools session (HasRoomToReshape reshape)
    room_if false stated fit told units settled volume set other target becomes lacks =
        let fits = All-head (Fits session.units) (step_of reshape) [] fit in
        room_plain (fits_plan fits) stated needs fits_law fits.next told units settled volume set other target becomes lacks
    room_if true unstated fit told units settled volume set other target becomes (inl (repair, full)) =
        let stated = All-head (Fits session.units) (steps.Repair reshape.unit) (step_of reshape ∷ []) fit in
        let plan = (repair_planned session.units stated.plan reshape.unit stated.step_is stated.lawful).1 in
        repair_fits plan (known.sound reshape.unit plan.volume plan.loaded) (known.described told units settled reshape.unit plan.volume volume plan.loaded target.online_is) fits_law stated.next full
    room_if true unstated fit told units settled volume set other target becomes (inr full) =
        let fits = All-head (Fits session.units) (step_of reshape) [] (All-tail (Fits session.units) (steps.Repair reshape.unit) (step_of reshape ∷ []) fit) in
        fits_change (fits_plan fits) fits_law fits.next told units settled volume set other target becomes full

    lacks_step : LacksRoom session.units (step_of reshape) → ForUnits pools session (LacksRoomToReshape reshape)
    lacks_step lacks = lacks_change (reshape_planned session.room reshape lacks.plan may lacks.step_is lacks.lawful) lacks.need lacks.free full_law lacks.full

    lacks_repair : reshape.repair ≡ true → LacksRoom session.units (steps.Repair reshape.unit) → ForUnits pools session (LacksRoomToReshape reshape)
    lacks_repair unstated lacks told units settled volume set target =
        let plan = (repair_planned session.units lacks.plan reshape.unit lacks.step_is lacks.lawful).1 in
        let is = known.described told units settled reshape.unit plan.volume volume plan.loaded target.online_is in
        let other = some_put told units settled target in (
          other.0,
          other.1,
          inl (is.repair_is ∙ sym (needs plan.volume plan.loaded) ∙ unstated, repair_full plan (known.sound reshape.unit plan.volume plan.loaded) is lacks.need lacks.free full_law lacks.full),
        )

    last_lacks : (step : Step) → Contains (step_of reshape ∷ []) step → LacksRoom session.units step → ForUnits pools session (LacksRoomToReshape reshape)
    last_lacks step there lacks = elim (first_or_later (step_of reshape) step [] there) [
      | inl same ↦ lacks_step (subst (LacksRoom session.units) (sym same) lacks)
      | inr none ↦ absurd (in_none step none)
    ]

    lacks_if : (repair : Bool) → reshape.repair ≡ repair → SomeLacks session.units (steps_if reshape repair) → ForUnits pools session (LacksRoomToReshape reshape)
    lacks_if false stated (step, there, lacks) = last_lacks step there lacks
    lacks_if true unstated (step, there, lacks) = elim (first_or_later (steps.Repair reshape.unit) step (step_of reshape ∷ []) there) [
      | inl same ↦ lacks_repair unstated (subst (LacksRoom session.units) (sym same) lacks)
      | inr later ↦ last_lacks step later lacks
    ]

    -- ---- the whole

    answers : (added : List Step) (result : Result (Acted P) (Cut P)) → Rattle.dump_sets.specs.job_turns.job_acts.Acting.ActsAnswer pools session (steps_of_reshape reshape) (steps_of_reshape reshape) added result
        → ReshapeAnswers pools session reshape added result
    answers added (Ok (ends.Done next)) (all, keeps, done, fit) = (all, keeps, stays_if session.room session.units reshape may reshape.repair next.units done, room_if reshape.repair refl fit)
    answers added (Ok (ends.Full next)) (none, same, lacks) = (none, same, lacks_if reshape.repair refl lacks)
    answers added (Err cut) (facts, inl before) = (facts, inl before)
    answers added (Err cut) (facts, inr (rest, front, fit)) = (facts, inr (rest, front, room_if reshape.repair refl fit))

    pub reshape_ends : (acts : Acts) (before after : List Step) (result : Result (Acted P) (Cut P)) → acts.steps.items ≡ steps_of_reshape reshape → acts.looked ≡ length (steps_of_reshape reshape)
        → EndsActs pools session acts.steps.items (looked_at acts) before after result → EndsReshape pools session reshape before after result
    reshape_ends acts before after result steps_are looked is =
        let seen : looked_at acts ≡ steps_of_reshape reshape = seen_are acts (steps_of_reshape reshape) [] (steps_are ∙ sym (append-nil (steps_of_reshape reshape))) looked in
        let done : EndsActs pools session (steps_of_reshape reshape) (steps_of_reshape reshape) before after result =
        subst (λ (list : List Step). EndsActs pools session list (steps_of_reshape reshape) before after result) steps_are
        (subst (λ (list : List Step). EndsActs pools session acts.steps.items list before after result) seen is) in
        record { added = done.added; steps_are = done.steps_are; run = done.run; answers = answers done.added result done.answers }

-- memory ran out for its steps
pub reshape_short : {P : Type 0} (pools : Ghosts P) (session : SessionView P) (reshape : Reshape) (before : List Step) → EndsReshape pools session reshape before before (Err (cuts.Short session))
reshape_short pools session reshape before = record { added = []; steps_are = sym (append-nil before); run = run_idle (tt {0}); answers = (no_change pools session, inl (refl, refl)) }
