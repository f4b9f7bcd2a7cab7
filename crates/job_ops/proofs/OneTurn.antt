-- The turn of a data set: what was asked of it, and what became of it.
use Rattle.std.proofs.Common.{◌≡◌, inl, ℕ, All, List, [], ◌∷◌, ◌++◌, Option, Some, None, refl, sym, ap, subst, ◌∙◌}
use Rattle.std.specs.Prelude.{Result, Ok, Err, IfOk, IfErr}
use Rattle.std.proofs.lemmas.List.Elements.{All-nil, All-cons, All-head, All-tail, All-weaker}
use Rattle.ckd_image.specs.Device.{heads_of}
use Rattle.dasd_pool.specs.declared.pool.Pool.{Ghosts}
use Rattle.dsn_filter.specs.declared.dsn.Dsn.{Dsn}
use Rattle.enq_table.specs.declared.hold.Hold.{Hold}
use Rattle.volume_model.specs.Unit.{UnitModel}
use Rattle.move_core.specs.declared.steps.Step.{Step}
use Rattle.move_core.specs.Facts.{shown}
use Rattle.move_core.specs.Runs.{IsRun}
use Rattle.move_core.specs.Steps.{shrunk}
use Rattle.vtoc_core.specs.declared.volume.Row.{Row}
use Rattle.unit_load.specs.declared.state.UnitState.{UnitState}
use Rattle.dump_sets.specs.job_turns.job_copies.unit_steps.Plans.{HasRow}
use Rattle.dump_sets.specs.job_turns.job_steps.unit_session.Sessions.{SessionView, IsSameSession}
use Rattle.job_lines.specs.declared.message.Message.{Message}
use Rattle.job_lines.specs.declared.message.Message.TheVariants as messages
use Rattle.job_lines.specs.declared.message.Reason.{Reason}
use Rattle.dump_sets.specs.job_turns.job_steps.declared.cut.Cut.{Cut}
use Rattle.dump_sets.specs.job_turns.job_steps.declared.cut.Cut.TheVariants as cuts
use Rattle.job_ops.specs.declared.asking.Candidate.{Candidate}
use Rattle.job_ops.specs.declared.task.Task.{Task}
use Rattle.job_ops.specs.declared.task.Task.TheVariants as tasks
use Rattle.job_ops.specs.Asked.{MayProcess, IsSeen, IsReasonBefore}
use Rattle.dump_sets.specs.job_turns.job_steps.Units.{ForUnits}
use Rattle.dump_sets.specs.job_turns.Ends.{Ends}
use Rattle.job_ops.specs.Consolidate.{HasSeveral, LacksPlace, LacksRoomAtPlace}
use Rattle.job_ops.specs.Meaning.{TurnOf}
use Rattle.job_ops.specs.Reasons.{LacksRoomFor}
use Rattle.job_ops.specs.Release.{keep_of, HasUnused}
use Rattle.job_ops.specs.Reshaping.{StaysChangeable}
use Rattle.job_ops.specs.Task.{StaysFor, severity_for}
use Rattle.dump_sets.specs.job_turns.Turns.{IsCutAction}
use Rattle.job_ops.proofs.Judging.{reason_found}
use Rattle.dump_sets.proofs.job_turns.job_acts.Sessions.{for_new}
use Rattle.dump_sets.proofs.job_turns.SameSessions.{ends_after, ends_said}

-- a reason is told
pub reason_told : (task : Task) (held : List Hold) {unit : ℕ} {name : Dsn} {candidate : Candidate} {units : List UnitModel} (reason : Reason) → IsSeen task unit name candidate units
    → IsReasonBefore task held unit name (Some reason) units → TurnOf task held unit name units [] (messages.NotProcessed candidate.name reason (severity_for task reason) ∷ [])
reason_told tasks.Release held {unit} {name} {candidate} {units} reason seen before =
    let size = HasUnused seen.volume seen.set × LacksRoomFor seen.volume (seen.set ∷ []) (shrunk (keep_of seen.volume seen.set) seen.set ∷ []) in
    record {
      volume = seen.volume;
      online_is = seen.set_is.online_is;
      set = seen.set;
      there = seen.set_is.there;
      name_is = seen.set_is.name_is;
      outcome =
          inl (
            reason,
            reason_found held name seen.set (StaysFor tasks.Release (heads_of seen.volume.device) seen.set) ⊥ size reason (before seen.volume seen.set seen.set_is),
            refl,
            ap (λ (n : List ℕ). messages.NotProcessed n reason (severity_for tasks.Release reason) ∷ []) seen.name_is,
          );
    }
reason_told tasks.Consolidate held {unit} {name} {candidate} {units} reason seen before =
    let place = HasSeveral seen.set × LacksPlace seen.volume seen.set in
    let room = HasSeveral seen.set × LacksRoomAtPlace seen.volume seen.set in
    record {
      volume = seen.volume;
      online_is = seen.set_is.online_is;
      set = seen.set;
      there = seen.set_is.there;
      name_is = seen.set_is.name_is;
      outcome =
          inl (
            reason,
            reason_found held name seen.set (StaysFor tasks.Consolidate (heads_of seen.volume.device) seen.set) place room reason (before seen.volume seen.set seen.set_is),
            refl,
            ap (λ (n : List ℕ). messages.NotProcessed n reason (severity_for tasks.Consolidate reason) ∷ []) seen.name_is,
          );
    }

module _ {P : Type 0} (pools : Ghosts P) {old new : SessionView P} (run : IsRun pools.tells (shown pools old.pool) (shown pools new.pool) (Unit {0}) [] None) (same : IsSameSession pools old new) where
  -- the data set isn't processed
  pub refused : (task : Task) (held : List Hold) {unit : ℕ} {name : Dsn} {candidate : Candidate} {steps_before steps_after : List Step} {messages_before messages_after : List Message} (reason : Reason)
      (found : Option Reason) (result : Result (SessionView P) (Cut P)) → found ≡ Some reason → ForUnits pools old (IsSeen task unit name candidate) → ForUnits pools old (IsReasonBefore task held unit name found)
      → steps_after ≡ steps_before → IfOk result (λ next. (next ≡ new) × (messages_after ≡ messages_before ++ (messages.NotProcessed candidate.name reason (severity_for task reason) ∷ [])))
      → IfErr result (λ cut. (cut ≡ cuts.Short new) × (messages_after ≡ messages_before))
      → Ends pools (TurnOf task held unit name) (IsCutAction (TurnOf task held unit name)) old steps_before steps_after messages_before messages_after result
  refused task held {unit} {name} {candidate} {steps_before} {steps_after} {messages_before} {messages_after} reason found result is seen before steps ok err =
      let told_before : ForUnits pools old (IsReasonBefore task held unit name (Some reason)) = subst (λ (o : Option Reason). ForUnits pools old (IsReasonBefore task held unit name o)) is before in
      ends_after pools run same
      (ends_said pools (messages.NotProcessed candidate.name reason (severity_for task reason) ∷ []) result steps ok err
      (for_new pools same (λ told units settled. reason_told task held reason (seen told units settled) (told_before told units settled))) (λ units. inl (refl, refl)))

-- ---- what can be changed then

module _ {P : Type 0} (pools : Ghosts P) {old new : SessionView P} (same : IsSameSession pools old new) (unit : ℕ) where
  pub refused_stays : (messages_before messages_after said : List Message) (result : Result (SessionView P) (Cut P)) → IfOk result (λ next. (next ≡ new) × (messages_after ≡ messages_before ++ said))
      → IfOk result (λ next. StaysChangeable old.room old.units next.units unit)
  refused_stays messages_before messages_after said (Ok next) ok =
      subst (λ (units : List UnitState). StaysChangeable old.room old.units units unit) (sym (ap (λ (s : SessionView P). s.units) ok.0 ∙ same.units)) (λ may. (may, λ name row has. (row, has)))
  refused_stays messages_before messages_after said (Err cut) ok = tt

  pub stays_after : (result : Result (SessionView P) (Cut P)) → IfOk result (λ next. StaysChangeable new.room new.units next.units unit)
      → IfOk result (λ next. StaysChangeable old.room old.units next.units unit)
  stays_after (Ok next) stays =
      subst (λ (room : ℕ). StaysChangeable room old.units next.units unit) same.room (subst (λ (units : List UnitState). StaysChangeable new.room units next.units unit) same.units stays)
  stays_after (Err cut) stays = tt

-- ---- the names that are left

pub may_one : {room : ℕ} {units : List UnitState} {unit : ℕ} (name : Dsn) (left later : List Dsn) → left ≡ name ∷ later → MayProcess room units unit left → MayProcess room units unit (name ∷ [])
may_one {room} {units} {unit} name left later is may =
    let Has : Dsn → Type 0 = λ other. (row : Row) × HasRow may.may.volume other row in
    record { may = may.may; sets = All-cons Has name [] (All-head Has name later (subst (All Has) is may.sets)) (All-nil Has) }

pub may_later : {room after : ℕ} {units next : List UnitState} {unit : ℕ} (name : Dsn) (left later : List Dsn) → left ≡ name ∷ later → MayProcess room units unit left
    → StaysChangeable room units next unit → after ≡ room → MayProcess after next unit later
may_later {room} {after} {units} {next} {unit} name left later is may stays same =
    let Has : Dsn → Type 0 = λ other. (row : Row) × HasRow may.may.volume other row in
    let new = stays may.may in
    subst (λ (r : ℕ). MayProcess r next unit later) (sym same) (record {
      may = new.0;
      sets =
          All-weaker Has (λ other. (row : Row) × HasRow new.0.volume other row) (λ other has. new.1 other has.0 has.1) later (All-tail Has name later (subst (All Has) is may.sets));
    })
