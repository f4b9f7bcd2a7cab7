-- Whether free space can be stated is looked at before a dump.
use Rattle.std.proofs.Common.{ℕ, true, false, List, [], ◌∷◌, All, Contains, Option, None, refl, sym, subst, ◌∙◌}
use Rattle.std.specs.Prelude.{Err}
use Rattle.std.proofs.lemmas.Bool.{false≢true}
use Rattle.std.proofs.lemmas.List.{append-nil}
use Rattle.std.proofs.lemmas.List.Elements.{All-head, All-nil}
use Rattle.dasd_pool.specs.declared.pool.Pool.{Ghosts}
use Rattle.volume_model.specs.Unit.{UnitModel}
use Rattle.vtoc_core.specs.declared.volume.Volume.{Volume}
use Rattle.volume_change.specs.declared.change.Change.{Change}
use Rattle.volume_change.specs.declared.change.Change.TheVariants.{Repair}
use Rattle.unit_load.specs.declared.state.UnitState.{UnitState}
use Rattle.move_core.specs.declared.steps.Step.{Step}
use Rattle.move_core.specs.declared.steps.Step.TheVariants as steps
use Rattle.move_core.specs.Facts.{shown}
use Rattle.move_core.specs.Runs.{IsRun}
use Rattle.job_lines.specs.declared.message.Message.{Message}
use Rattle.job_dumps.specs.job_turns.job_copies.step_room.step_plans.vtoc_render.Next.{IsNext}
use Rattle.job_dumps.specs.job_turns.job_copies.step_room.Room as room
use Rattle.job_dumps.specs.job_turns.job_copies.step_room.Room.{FittingChangesAreNotFull, LackingChangesAreFull, IsFullFor}
use Rattle.job_dumps.specs.job_turns.job_copies.unit_steps.Plans.{IsLoadedAt}
use Rattle.job_dumps.proofs.job_turns.job_copies.unit_steps.OneChange.{same_volume}
use Rattle.job_dumps.specs.job_turns.job_steps.unit_session.Sessions.{SessionView}
use Rattle.job_dumps.specs.job_turns.job_steps.declared.cut.Cut.{Cut}
use Rattle.job_dumps.specs.job_turns.job_steps.declared.cut.Cut.TheVariants as cuts
use Rattle.job_dumps.specs.job_turns.job_steps.Carried.{IsCutBefore, IsShort, pending_cut, pool_cut}
use Rattle.job_dumps.specs.job_turns.job_steps.Units.{ForUnits}
use Rattle.job_dumps.specs.job_turns.job_acts.Acting.{AllFit, Fits, SomeLacks}
use Rattle.job_dumps.specs.job_turns.job_acts.Making.{MayBeChanged}
use Rattle.job_dumps.proofs.job_turns.job_acts.PlansMade.{repair_planned}
use Rattle.job_dumps.proofs.job_turns.job_acts.Repairing.{full_one}
use Rattle.job_dumps.proofs.job_turns.job_acts.Sessions.{keeps_same}
use Rattle.job_dumps.specs.Passing.{SaysFull}
use Rattle.job_dumps.specs.job_turns.Ends.{Ends}
use Rattle.job_dumps.specs.job_turns.Turns.{Action}
use Rattle.job_dumps.proofs.job_turns.LoadedUnits.{AreKnown}
use Rattle.dump_sets.specs.Going.{CanState}
use Rattle.dump_sets.proofs.Changes.{no_mark_repair, only_one}

-- ---- it fits

abbrev HasNext : List UnitState → ℕ × Change → Type 0
HasNext units change = (volume : Volume) × (next : Volume) × IsLoadedAt units change.0 volume × IsNext volume change.1 next

stated : {units : List UnitState} {unit : ℕ} (volume : Volume) → IsLoadedAt units unit volume → AllFit units (steps.Repair unit ∷ []) → (next : Volume) × IsNext volume Repair next
stated {units} {unit} volume loaded fit =
    let fits = All-head (Fits units) (steps.Repair unit) [] fit in
    let one = All-head (HasNext units) (unit, Repair) []
    (subst (λ (list : List (ℕ × Change)). All (HasNext units) list) (repair_planned units fits.plan unit fits.step_is fits.lawful).1.changes_are fits.next) in
    (one.1, subst (λ (v : Volume). IsNext v Repair one.1) (same_volume units unit one.0 volume one.2 loaded) one.3)

pub can_state : {least : ℕ} {units : List UnitState} {unit : ℕ} → MayBeChanged least units unit → AllFit units (steps.Repair unit ∷ []) → CanState least units unit
can_state may fit = let next = stated may.volume may.loaded fit in record { may = may; stated = next.0; states = next.1 }

module _ {P : Type 0} (pools : Ghosts P) (session : SessionView P) (known : AreKnown pools session) {unit : ℕ} (loaded : Volume) (at : IsLoadedAt session.units unit loaded) where
  pub says_room : FittingChangesAreNotFull → AllFit session.units (steps.Repair unit ∷ []) → ForUnits pools session (SaysFull unit false)
  says_room law fit tells units settled volume is =
      let next = stated loaded at fit in (
        λ yes. absurd (false≢true yes),
        λ full. absurd (law loaded next.0 volume Repair [] [] (known.sound unit loaded at) (known.described tells units settled unit loaded volume at is) (tt {0}) no_mark_repair
            (refl, All-nil (Contains volume.sets)) next.1 full),
      )

  -- ---- it lacks room

  pub says_full : LackingChangesAreFull → SomeLacks session.units (steps.Repair unit ∷ []) → ForUnits pools session (SaysFull unit true)
  says_full law (step, there, lacks) tells units settled volume is =
      let made = (repair_planned session.units lacks.plan unit (lacks.step_is ∙ sym (only_one (steps.Repair unit) step there)) lacks.lawful).1 in
      let one = full_one lacks.full in
      let here : (v : Volume) × IsLoadedAt session.units unit v × room.LacksRoom v Repair =
      subst (λ (c : ℕ × Change). (v : Volume) × IsLoadedAt session.units c.0 v × room.LacksRoom v c.1)
      (sym (only_one (unit, Repair) one.0 (subst (λ (list : List (ℕ × Change)). Contains list one.0) made.changes_are one.2))) (one.1, one.3, one.4) in (
        λ yes.
            law loaded volume Repair [] [] (known.sound unit loaded at) (known.described tells units settled unit loaded volume at is) (tt {0}) (refl, All-nil (Contains volume.sets))
            (subst (λ (v : Volume). room.LacksRoom v Repair) (same_volume session.units unit here.0 loaded here.1 at) here.2),
        λ full. refl,
      )

-- ---- the look was cut

pub look_cut : {P : Type 0} (pools : Ghosts P) (session : SessionView P) {Means : Action} {IsCut : List UnitModel → List Step → Option Step → Type 0} (cut : Cut P)
    → IsRun pools.tells (shown pools session.pool) (shown pools (pool_cut cut)) (IsShort cut) [] (pending_cut cut) → IsCutBefore pools session cut
    → ((units : List UnitModel) → IsCut units [] None) → (before : List Step) (messages : List Message) → Ends pools Means IsCut session before before messages messages (Err cut)
look_cut pools session {Means} {IsCut} (cuts.Halted broken) run before nothing done messages = record {
  added = [];
  said = [];
  steps_are = sym (append-nil done);
  messages_are = sym (append-nil messages);
  run = run;
  facts = tt;
  ended = tt;
  cut = λ tells units settled. subst (λ (step : Option Step). IsCut units [] step) (sym before) (nothing units);
}
look_cut pools session (cuts.Short kept) run before nothing done messages = record {
  added = [];
  said = [];
  steps_are = sym (append-nil done);
  messages_are = sym (append-nil messages);
  run = run;
  facts = keeps_same pools before;
  ended = tt;
  cut = λ tells units settled. nothing units;
}
