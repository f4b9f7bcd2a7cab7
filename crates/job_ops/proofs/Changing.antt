-- A data set was changed, or not, and what is told of it.
use Rattle.std.proofs.Common.{◌≡◌, ◌≢◌, ◌⊎◌, ⊎_elim, inl, inr, ℕ, ◌<◌, ◌≤◌, length, List, [], ◌++◌, IsTrue, None, refl, sym, ap, subst, ◌∙◌}
use Rattle.std.specs.Prelude.{Result, Ok, Err, IfOk, IfErr}
use Rattle.std.proofs.lemmas.List.{append-nil}
use Rattle.dasd_pool.specs.declared.pool.Pool.{Ghosts}
use Rattle.dsn_filter.specs.declared.dsn.Dsn.{Dsn}
use Rattle.volume_model.specs.Unit.{UnitModel}
use Rattle.move_core.specs.declared.steps.Step.{Step}
use Rattle.move_core.specs.Runs.{moves_of}
use Rattle.move_core.proofs.Running.{run_steps}
use Rattle.vtoc_core.specs.declared.volume.Row.{Row}
use Rattle.vtoc_core.specs.declared.volume.Volume.{Volume}
use Rattle.unit_load.specs.declared.state.UnitState.{UnitState}
use Rattle.dump_sets.specs.job_turns.job_copies.unit_steps.Plans.{HasRow, tracks_in}
use Rattle.dump_sets.specs.job_turns.job_copies.step_plans.Plans.{IsSound, IsPlaceOn}
use Rattle.dump_sets.specs.job_turns.job_steps.unit_session.Sessions.{SessionView}
use Rattle.job_lines.specs.declared.message.Message.{Message}
use Rattle.dump_sets.specs.job_turns.job_steps.declared.cut.Cut.{Cut}
use Rattle.dump_sets.specs.job_turns.job_steps.declared.cut.Cut.TheVariants as cuts
use Rattle.dump_sets.specs.job_turns.job_steps.Carried.{pending_cut}
use Rattle.job_ops.specs.declared.asking.Candidate.{Candidate}
use Rattle.job_ops.specs.declared.reshaping.Layout.{Layout}
use Rattle.job_ops.specs.declared.reshaping.Layout.TheVariants as layouts
use Rattle.job_ops.specs.declared.reshaping.Reshape.{Reshape}
use Rattle.dump_sets.specs.job_turns.job_acts.declared.acts.Acted.{Acted}
use Rattle.dump_sets.specs.job_turns.job_acts.declared.acts.Acted.TheVariants as variants
use Rattle.job_ops.specs.declared.task.Task.{Task}
use Rattle.dump_sets.specs.job_turns.job_acts.Making.{MayBeChanged, HasSet, MayPlan}
use Rattle.job_ops.specs.Asked.{IsCandidate, IsSeen}
use Rattle.dump_sets.specs.job_turns.job_steps.Units.{ForUnits}
use Rattle.dump_sets.specs.job_turns.Ends.{Ends}
use Rattle.job_ops.specs.Reshaping.{step_to, MayReshape, NeedsRepair, StaysChangeable, EndsReshape, HasRoomToReshape, LacksRoomToReshape, IsTarget, steps_of_reshape}
use Rattle.dump_sets.specs.job_turns.Turns.{Action, IsCutAction}
use Rattle.dump_sets.proofs.job_turns.job_acts.Sessions.{keeps_same}
use Rattle.dump_sets.proofs.job_turns.SameSessions.{cut_leaves, only_short, ends_told, told_grows}
use Rattle.dump_sets.proofs.job_turns.job_steps.unit_session.unit_steps.OneChange.{same_volume}

-- what a turn asks for
abbrev pub reshape_of : ℕ → Dsn → Candidate → Layout → Reshape
reshape_of unit name candidate layout = record { unit = unit; name = name; layout = layout; repair = candidate.repair }

pub target_seen : {task : Task} {unit : ℕ} {name : Dsn} {candidate : Candidate} {units : List UnitModel} (layout : Layout) (seen : IsSeen task unit name candidate units)
    → IsTarget units (reshape_of unit name candidate layout) seen.volume seen.set
target_seen layout seen = record { online_is = seen.set_is.online_is; there = seen.set_is.there; name_is = seen.set_is.name_is }

-- ---- what was cut

module _ {P : Type 0} (pools : Ghosts P) where
  -- a session whose units are the same can be changed as before
  pub stays_same : (room : ℕ) (unit : ℕ) {before after : List UnitState} → after ≡ before → StaysChangeable room before after unit
  stays_same room unit {before} {after} same = subst (λ (units : List UnitState). StaysChangeable room before units unit) (sym same) (λ old. (old, λ name row has. (row, has)))

  -- steps all done, of an action that was then cut
  all_done : (Means : Action) (units : List UnitModel) (all : List Step) (said : List Message) → Means units all said → IsCutAction Means units all None
  all_done Means units all said means = inr (all, [], said, means, sym (append-nil all))

  pub cut_reshape : {Means : Action} {session : SessionView P} {reshape : Reshape} {before after : List Step} {messages : List Message} {cut : Cut P} (said : List Message)
      → EndsReshape pools session reshape before after (Err cut) → ForUnits pools session (λ units. HasRoomToReshape reshape units → Means units (steps_of_reshape reshape) said)
      → Ends pools Means (IsCutAction Means) session before after messages messages (Err cut)
  cut_reshape {Means} {session} {reshape} {before} {after} {messages} {cut} said ends means = record {
    added = ends.added;
    said = [];
    steps_are = ends.steps_are;
    messages_are = sym (append-nil messages);
    run = ends.run;
    facts = cut_leaves pools session cut ends.answers.0;
    ended = tt;
    cut = within ends.answers.1;
  }
    where
      within : (((ends.added ≡ []) × (pending_cut cut ≡ None))
          ⊎ ((rest : List Step) × (steps_of_reshape reshape ≡ moves_of ends.added (pending_cut cut) ++ rest) × ForUnits pools session (HasRoomToReshape reshape)))
          → ForUnits pools session (λ units. IsCutAction Means units ends.added (pending_cut cut))
      within (inl none) told units settled = inl none
      within (inr some) told units settled = inr (steps_of_reshape reshape, some.0, said, means told units settled (some.2 told units settled), some.1)

  -- there was no room, and that is told
  pub full_reshape : {Means : Action} {session kept : SessionView P} {reshape : Reshape} {before after last : List Step} {messages_before messages_after : List Message} (said : List Message)
      (given : Acted P) (result : Result (SessionView P) (Cut P)) → EndsReshape pools session reshape before after (Ok given) → given ≡ variants.Full kept → last ≡ after → IfOk result (λ next. (next ≡ kept) × (messages_after ≡ messages_before ++ said))
      → IfErr result (λ cut. (cut ≡ cuts.Short kept) × (messages_after ≡ messages_before)) → ForUnits pools session (λ units. LacksRoomToReshape reshape units → Means units [] said)
      → Ends pools Means (IsCutAction Means) session before last messages_before messages_after result
  full_reshape {Means} {session} {kept} {reshape} {before} {after} {last} {messages_before} {messages_after} said given result ends_so is steps ok err means =
      let ends : EndsReshape pools session reshape before after (Ok (variants.Full kept)) = subst (λ (r : Acted P). EndsReshape pools session reshape before after (Ok r)) is ends_so in
      ends_told pools said result (run_steps (λ told. ends.answers.0) ends.run) (keeps_same pools ends.answers.1) (steps ∙ ends.steps_are ∙ ap (λ (l : List Step). before ++ l) ends.answers.0) ok
      (only_short kept messages_before messages_after result err)
      (told_grows (λ next. next ≡ kept) (λ cut. cut ≡ cuts.Short kept) messages_before messages_after said result ok err)
      (λ told units settled. means told units settled (ends.answers.2 told units settled)) (λ told units settled. inl (refl, refl))

  -- all was done, and that is told
  pub done_reshape : {Means : Action} {session next : SessionView P} {reshape : Reshape} {before after last : List Step} {messages_before messages_after : List Message} (said : List Message)
      (given : Acted P) (result : Result (SessionView P) (Cut P)) → EndsReshape pools session reshape before after (Ok given) → given ≡ variants.Done next → last ≡ after
      → IfOk result (λ left. (left ≡ next) × (messages_after ≡ messages_before ++ said))
      → IfErr result (λ cut. cut ≡ cuts.Short next) → ((more : List Message) × (messages_after ≡ messages_before ++ more))
      → ForUnits pools session (λ units. HasRoomToReshape reshape units → Means units (steps_of_reshape reshape) said)
      → Ends pools Means (IsCutAction Means) session before last messages_before messages_after result
  done_reshape {Means} {session} {next} {reshape} {before} {after} {last} {messages_before} {messages_after} said given result ends_so is steps ok err grows means =
      let ends : EndsReshape pools session reshape before after (Ok (variants.Done next)) = subst (λ (r : Acted P). EndsReshape pools session reshape before after (Ok r)) is ends_so in
      ends_told pools said result (run_steps (λ told. ends.answers.0) ends.run) ends.answers.1 (steps ∙ ends.steps_are ∙ ap (λ (l : List Step). before ++ l) ends.answers.0) ok err grows
      (λ told units settled. means told units settled (ends.answers.3 told units settled))
      (λ told units settled. all_done Means units (steps_of_reshape reshape) said (means told units settled (ends.answers.3 told units settled)))

  -- ---- what can be changed then

  pub full_stays : {session kept : SessionView P} {reshape : Reshape} {before after : List Step} (messages_before messages_after said : List Message) (given : Acted P)
      (result : Result (SessionView P) (Cut P)) → EndsReshape pools session reshape before after (Ok given) → given ≡ variants.Full kept
      → IfOk result (λ next. (next ≡ kept) × (messages_after ≡ messages_before ++ said)) → IfOk result (λ next. StaysChangeable session.room session.units next.units reshape.unit)
  full_stays {session} {kept} {reshape} {before} {after} messages_before messages_after said given (Ok next) ends_so is ok =
      let ends : EndsReshape pools session reshape before after (Ok (variants.Full kept)) = subst (λ (r : Acted P). EndsReshape pools session reshape before after (Ok r)) is ends_so in
      stays_same session.room reshape.unit (ap (λ (s : SessionView P). s.units) ok.0 ∙ ends.answers.1.units)
  full_stays {session} {kept} {reshape} {before} {after} messages_before messages_after said given (Err cut) ends_so is ok = tt

  pub done_stays : {session next : SessionView P} {reshape : Reshape} {before after : List Step} (messages_before messages_after said : List Message) (given : Acted P)
      (result : Result (SessionView P) (Cut P)) → EndsReshape pools session reshape before after (Ok given) → given ≡ variants.Done next
      → IfOk result (λ left. (left ≡ next) × (messages_after ≡ messages_before ++ said)) → IfOk result (λ left. StaysChangeable session.room session.units left.units reshape.unit)
  done_stays {session} {next} {reshape} {before} {after} messages_before messages_after said given (Ok left) ends_so is ok =
      let ends : EndsReshape pools session reshape before after (Ok (variants.Done next)) = subst (λ (r : Acted P). EndsReshape pools session reshape before after (Ok r)) is ends_so in
      subst (λ (s : SessionView P). StaysChangeable session.room session.units s.units reshape.unit) (sym ok.0) ends.answers.2
  done_stays {session} {next} {reshape} {before} {after} messages_before messages_after said given (Err cut) ends_so is ok = tt

-- ---- before

-- a row's data set can have a layout: it has more tracks than stay; or it has another number of extents than one, and the run is free and as long as all its tracks
abbrev pub CanHave : Layout → Volume → Row → Type 0
CanHave (layouts.Front keep) volume row = keep < length (tracks_in volume row)
CanHave (layouts.Joined run) volume row =
    (length row.extents ≢ 1) × (1 ≤ run.len) × (run.len ≡ length (tracks_in volume row)) × IsPlaceOn volume row volume run.first

-- what was asked is what the step needs
pub may_reshape : {task : Task} {room : ℕ} {units : List UnitState} {unit : ℕ} {name : Dsn} {candidate : Candidate} (layout : Layout) → MayBeChanged room units unit
    → (is : IsCandidate task units unit name candidate) → ¬ IsTrue candidate.stays → CanHave layout is.volume is.row → MayReshape room units (reshape_of unit name candidate layout)
may_reshape {task} {room} {units} {unit} {name} {candidate} layout may is moves can = by layout (subst (λ (v : Volume). CanHave layout v is.row) same can)
  where
    same : is.volume ≡ may.volume
    same = same_volume units unit is.volume may.volume is.loaded may.loaded

    few : length is.row.extents ≤ 16
    few = ⊎_elim (λ stays. absurd (moves stays)) (λ few. few) is.few

    set : HasSet room units unit name
    set = record { may = may; sound = subst IsSound same is.sound; row = is.row; row_is = subst (λ (v : Volume). HasRow v name is.row) same is.row_is }

    by : (layout : Layout) → CanHave layout may.volume is.row → MayPlan room units (step_to unit name layout)
    by (layouts.Front keep) fewer = record { set = set; few = few; fewer = fewer }
    by (layouts.Joined run) (several, some, whole, place) =
        record { set = set; few = few; several = several; run = run; to_is = refl; some = some; whole = whole; place = place }

pub needs_repair : {task : Task} {units : List UnitState} {unit : ℕ} {name : Dsn} {candidate : Candidate} (layout : Layout) → IsCandidate task units unit name candidate
    → NeedsRepair units (reshape_of unit name candidate layout)
needs_repair {task} {units} {unit} {name} {candidate} layout is volume loaded =
    is.repair_is ∙ ap (λ (v : Volume). v.repair) (same_volume units unit is.volume volume is.loaded loaded)
