-- Functions of a run, one after another.
use Rattle.std.proofs.Common.{◌≡◌, ℕ, ◌<◌, ◌≤◌, List, [], ◌∷◌, ◌++◌, length, Bool, false, Option, Some, None, refl, sym, ap, subst, ◌∙◌, arith}
use Rattle.std.specs.Prelude.{◌&&◌}
use Rattle.std.proofs.lemmas.List.{append-nil}
use Rattle.std.proofs.lemmas.Option.{none-some}
use Rattle.dasd_pool.specs.Count.{Rose}
use Rattle.dasd_pool.specs.Disk.{Image, Shape, State, LeavesOnly, Touches, Runs, none}
use Rattle.dasd_pool.proofs.Moments.{runs_start, runs_then}
use Rattle.vol_label.specs.declared.serial.Serial.{Serial}
use Rattle.redo_core.specs.declared.control.Control.{Control}
use Rattle.redo_core.specs.declared.control.Control.TheVariants.{Idle}
use Rattle.redo_core.specs.declared.entries.Entry.{Entry}
use Rattle.redo_core.specs.Format.{is_open, control_in, directory_in}
use Rattle.redo_core.specs.Reading.{journal_of}
use Rattle.redo_core.specs.Faults.{HasNoSlide}
use Rattle.redo_core.specs.Opening.{IsOpened, ReadsSame, of_opening, of_redo}
use Rattle.redo_core.specs.Phases.{IsAtRest, OldOrNew, IsCommitted}
use Rattle.redo_core.proofs.Crash.{closed_overlay}
use Rattle.volume_model.specs.Unit.{UnitModel}
use Rattle.move_core.specs.declared.steps.Step.{Step}
use Rattle.move_core.specs.Facts.{Facts, Shown}
use Rattle.move_core.specs.Stands.{AreUnused, IsSettled}
use Rattle.move_core.specs.Runs.{StandsAfterSome, KeepsUnits, AreCallsFor, IsFinished, IsRunFor, IsRun, moves_of}
use Rattle.move_core.specs.Taking.{IsQuiet, TakeUnitsFor, KeepUnits}
use Rattle.move_core.proofs.Below.{nil_parts}
use Rattle.move_core.proofs.Keeping.{demote, under_way, quiet, still, idle, ends_less, keeps_then, opened, refused, commit_done, commit_failed, each_moment, each_closed}
use Rattle.dasd_pool.proofs.Streams.{rose_since}

-- under the shape of the facts
pub at_shape : (P : Shape → Type 0) {given shape : Shape} → given ≡ shape → P shape → P given
at_shape P same holds = subst P (sym same) holds

-- ---- a list of steps that isn't empty

some_steps : (steps : List Step) (step : Step) → steps ++ (step ∷ []) ≡ [] → ⊥
some_steps steps step empty = let last = (nil_parts steps (step ∷ []) empty).1 in omega (arith, ap length last)

-- where nothing was written, there still is nothing to finish
finished_still : (old mid : Shown) → IsFinished old.shape old.disk.state.contents → Runs none old.disk mid.disk → IsFinished old.shape mid.disk.state.contents
finished_still old mid over still = record {
  gate = ap is_open (still.touches.contents (journal_of old.shape) 1 refl) ∙ over.gate;
  control = ap control_in (still.touches.contents (journal_of old.shape) 2 refl) ∙ over.control;
}

-- a run does what its calls do
pub call_of : {allows : Facts → Type 0} {tells : Type 0} {old new : Shown} {ended : Type 0} {steps : List Step} {pending : Option Step} → IsRunFor allows tells old new ended steps pending → AreCallsFor allows tells old new ended steps pending
call_of run = record { shape = run.shape; later = run.later; cause = run.cause; keeps = run.keeps }

-- for fewer facts
pub run_allows : {wide narrow : Facts → Type 0} {tells : Type 0} {old new : Shown} {ended : Type 0} {steps : List Step} {pending : Option Step}
    → ((facts : Facts) → facts.shape ≡ old.shape → narrow facts → wide facts) → IsRunFor wide tells old new ended steps pending → IsRunFor narrow tells old new ended steps pending
run_allows among run = record {
  shape = run.shape;
  later = run.later;
  cause = run.cause;
  keeps = λ told facts same allowed. run.keeps told facts same (among facts same allowed);
  still = run.still;
}

pub calls_allow : {wide narrow : Facts → Type 0} {tells : Type 0} {old new : Shown} {ended : Type 0} {steps : List Step} {pending : Option Step}
    → ((facts : Facts) → facts.shape ≡ old.shape → narrow facts → wide facts) → AreCallsFor wide tells old new ended steps pending → AreCallsFor narrow tells old new ended steps pending
calls_allow among calls = record {
  shape = calls.shape;
  later = calls.later;
  cause = calls.cause;
  keeps = λ told facts same allowed. calls.keeps told facts same (among facts same allowed);
}

-- what is so of all facts is so of those that are allowed
pub run_any : {allows : Facts → Type 0} {tells : Type 0} {old new : Shown} {ended : Type 0} {steps : List Step} {pending : Option Step} → IsRun tells old new ended steps pending
    → IsRunFor allows tells old new ended steps pending
run_any run = run_allows (λ facts same allowed. tt {0}) run

-- nothing was done
pub run_idle : {allows : Facts → Type 0} {tells : Type 0} {now : Shown} {ended : Type 0} → ended → IsRunFor allows tells now now ended [] None
run_idle {allows} {tells} {now} {ended} end = record {
  shape = refl;
  later = omega arith;
  cause = λ not. absurd (not end);
  keeps = λ told facts same allowed. idle facts now.disk ended;
  still = λ told over no_steps none_pending. runs_start none now.disk;
}

-- nothing was written
pub run_still : {allows : Facts → Type 0} {tells : Type 0} {old new : Shown} {ended : Type 0} → new.shape ≡ old.shape → old.faults ≤ new.faults → (¬ ended → Rose old.faults new.faults)
    → (tells → Runs none old.disk new.disk) → IsRunFor allows tells old new ended [] None
run_still {allows} {tells} {old} {new} {ended} shape later cause run = record {
  shape = shape;
  later = later;
  cause = cause;
  keeps = λ told facts same allowed. still facts old.disk new.disk ended (run told);
  still = λ told over no_steps none_pending. run told;
}

-- only blocks were written on which no meaning rests
pub run_quiet : {allows : Facts → Type 0} {tells : Type 0} {old new : Shown} {ended : Type 0} {may : ℕ → ℕ → Bool} → new.shape ≡ old.shape → old.faults ≤ new.faults → (¬ ended → Rose old.faults new.faults)
    → (tells → (facts : Facts) (units : List UnitModel) → facts.shape ≡ old.shape → (settled : IsSettled facts old.disk.state units)
    → AreUnused may facts.shape settled.stands.reading settled.stands.means.found)
    → (tells → Runs may old.disk new.disk) → AreCallsFor allows tells old new ended [] None
run_quiet {allows} {tells} {old} {new} {ended} {may} shape later cause unused run = record {
  shape = shape;
  later = later;
  cause = cause;
  keeps = λ told facts same allowed units settled. quiet facts may old.disk new.disk units settled (unused told facts units same settled) (run told) ended;
}

-- calls that ended, and then others
pub calls_then : {allows : Facts → Type 0} {tells : Type 0} {old mid new : Shown} {ended later : Type 0} {steps more : List Step} {pending : Option Step}
    → AreCallsFor allows tells old mid ended steps None → ended → AreCallsFor allows tells mid new later more pending → AreCallsFor allows tells old new later (steps ++ more) pending
calls_then {allows} {tells} {old} {mid} {new} {ended} {later} {steps} {more} {pending} calls end next = record {
  shape = next.shape ∙ calls.shape;
  later = omega (arith, calls.later, next.later);
  cause = λ not. rose_since old.faults mid.faults new.faults calls.later (next.cause not);
  keeps = λ told facts same allowed units settled.
      keeps_then facts old.disk mid.disk new.disk ended later units settled steps more pending (calls.keeps told facts same allowed units settled) end
      (next.keeps told facts (same ∙ sym calls.shape) allowed);
}

-- one run that ended, and then another
pub run_then : {allows : Facts → Type 0} {tells : Type 0} {old mid new : Shown} {ended later : Type 0} {steps more : List Step} {pending : Option Step}
    → IsRunFor allows tells old mid ended steps None → ended → IsRunFor allows tells mid new later more pending → IsRunFor allows tells old new later (steps ++ more) pending
run_then {allows} {tells} {old} {mid} {new} {ended} {later} {steps} {more} {pending} run end next = record {
  shape = next.shape ∙ run.shape;
  later = omega (arith, run.later, next.later);
  cause = λ not. rose_since old.faults mid.faults new.faults run.later (next.cause not);
  keeps = λ told facts same allowed units settled.
      keeps_then facts old.disk mid.disk new.disk ended later units settled steps more pending (run.keeps told facts same allowed units settled) end
      (next.keeps told facts (same ∙ sym run.shape) allowed);
  still = λ told over no_steps none_pending.
      let parts = nil_parts steps more no_steps in
      let first = run.still told over parts.0 refl in
      let between = at_shape (λ s. IsFinished s mid.disk.state.contents) run.shape (finished_still old mid over first) in
      runs_then none none none old.disk mid.disk new.disk (λ u b apart. refl) (λ u b apart. refl) first (next.still told between parts.1 none_pending);
}

-- one run that ended, and then another that did no step
pub run_halted : {allows : Facts → Type 0} {tells : Type 0} {old mid new : Shown} {ended later : Type 0} {steps : List Step} {pending : Option Step}
    → IsRunFor allows tells old mid ended steps None → ended → IsRunFor allows tells mid new later [] pending → IsRunFor allows tells old new later steps pending
run_halted {allows} {tells} {old} {mid} {new} {ended} {later} {steps} {pending} run end next =
    subst (λ (l : List Step). IsRunFor allows tells old new later l pending) (append-nil steps) (run_then run end next)

-- it ends in fewer cases
pub run_less : {allows : Facts → Type 0} {tells : Type 0} {old new : Shown} {ended less : Type 0} {steps : List Step} {pending : Option Step} → (less → ended) → (¬ less → Rose old.faults new.faults)
    → IsRunFor allows tells old new ended steps pending → IsRunFor allows tells old new less steps pending
run_less {allows} {tells} {old} {new} {ended} {less} {steps} {pending} implies cause run = record {
  shape = run.shape;
  later = run.later;
  cause = cause;
  keeps = λ told facts same allowed units settled. ends_less facts old.disk new.disk ended less units steps pending implies (run.keeps told facts same allowed units settled);
  still = run.still;
}

-- the last step of a run turns out to be under way
pub run_demoted : {allows : Facts → Type 0} {tells : Type 0} {old new : Shown} {ended later : Type 0} {steps : List Step} {step : Step} → ¬ later → Rose old.faults new.faults
    → IsRunFor allows tells old new ended (steps ++ (step ∷ [])) None → IsRunFor allows tells old new later steps (Some step)
run_demoted {allows} {tells} {old} {new} {ended} {later} {steps} {step} never rose run = record {
  shape = run.shape;
  later = run.later;
  cause = λ not. rose;
  keeps = λ told facts same allowed units settled. demote facts old.disk new.disk ended later units steps step (run.keeps told facts same allowed units settled) never;
  still = λ told over no_steps none_pending. absurd (none-some step (sym none_pending));
}

-- a step turns out to be under way in calls that did none
pub calls_pending : {allows : Facts → Type 0} {tells : Type 0} {old new : Shown} {ended later : Type 0} {step : Step} → ¬ later → Rose old.faults new.faults
    → AreCallsFor allows tells old new ended [] None → AreCallsFor allows tells old new later [] (Some step)
calls_pending {allows} {tells} {old} {new} {ended} {later} {step} never rose calls = record {
  shape = calls.shape;
  later = calls.later;
  cause = λ not. rose;
  keeps = λ told facts same allowed units settled. under_way facts old.disk new.disk ended later units step (calls.keeps told facts same allowed units settled) never;
}

-- calls that did a step, or have one under way, are a run
pub run_of : {allows : Facts → Type 0} {tells : Type 0} {old new : Shown} {ended : Type 0} {steps : List Step} {pending : Option Step} → AreCallsFor allows tells old new ended steps pending
    → (steps ≡ [] → pending ≡ None → ⊥) → IsRunFor allows tells old new ended steps pending
run_of calls some = record {
  shape = calls.shape;
  later = calls.later;
  cause = calls.cause;
  keeps = calls.keeps;
  still = λ told over no_steps none_pending. absurd (some no_steps none_pending);
}

-- so are calls that ended without a step, and then a run that did one or has one under way
pub run_behind : {allows : Facts → Type 0} {tells : Type 0} {old mid new : Shown} {ended later : Type 0} {steps : List Step} {pending : Option Step} → AreCallsFor allows tells old mid ended [] None → ended
    → IsRunFor allows tells mid new later steps pending → (steps ≡ [] → pending ≡ None → ⊥) → IsRunFor allows tells old new later steps pending
run_behind calls end next some = run_of (calls_then calls end (call_of next)) some

-- steps under another form
pub run_steps : {allows : Facts → Type 0} {tells : Type 0} {old new : Shown} {ended : Type 0} {steps others : List Step} {pending : Option Step} → (tells → steps ≡ others)
    → IsRunFor allows tells old new ended steps pending → IsRunFor allows tells old new ended others pending
run_steps {allows} {tells} {old} {new} {ended} {steps} {others} {pending} same run = record {
  shape = run.shape;
  later = run.later;
  cause = run.cause;
  keeps = λ told facts at allowed units settled.
      subst (λ (l : List Step). KeepsUnits facts old.disk new.disk ended units l pending) (same told) (run.keeps told facts at allowed units settled);
  still = λ told over no_steps none_pending. run.still told over (same told ∙ no_steps) none_pending;
}

-- what a stop may have left since a run began
pub run_stops : {allows : Facts → Type 0} {tells : Type 0} {old new : Shown} {ended : Type 0} {steps : List Step} {pending : Option Step} → IsRunFor allows tells old new ended steps pending → tells
    → (facts : Facts) → facts.shape ≡ old.shape → allows facts → (units : List UnitModel) → IsSettled facts old.disk.state units
    → (image : Image) → new.disk.left_since old.disk.moment image → StandsAfterSome facts units (moves_of steps pending) image
run_stops {allows} {tells} {old} {new} {ended} {steps} {pending} run told facts same allowed units settled =
    each_moment facts old.disk new.disk ended units steps pending settled (run.keeps told facts same allowed units settled)

-- no slide is open in it where none was
pub run_closed : {allows : Facts → Type 0} {tells : Type 0} {old new : Shown} {ended : Type 0} {steps : List Step} {pending : Option Step} → IsRunFor allows tells old new ended steps pending → tells
    → (facts : Facts) → facts.shape ≡ old.shape → allows facts → (units : List UnitModel) → IsSettled facts old.disk.state units → HasNoSlide facts.shape old.disk.state.contents
    → (image : Image) → new.disk.left_since old.disk.moment image → HasNoSlide facts.shape image
run_closed {allows} {tells} {old} {new} {ended} {steps} {pending} run told facts same allowed units settled closed =
    each_closed facts old.disk new.disk ended units steps pending settled (run.keeps told facts same allowed units settled) closed

-- ---- the journal is opened

-- behind a closed gate an opening writes nothing
none_opened : (old new : Shown) → is_open (old.disk.state.contents (journal_of old.shape) 1) ≡ false
    → Runs (of_opening (journal_of old.shape) old.disk.state.contents) old.disk new.disk → Runs none old.disk new.disk
none_opened old new gate run =
    let j = journal_of old.shape in
    let image = old.disk.state.contents in
    runs_then none (of_opening j image) none old.disk new.disk new.disk
    (λ u b apart. ap (λ (t : Bool). t && of_redo j (directory_in (image j 3)) u b) gate) (λ u b apart. refl) run (runs_start none new.disk)

pub run_opened : {allows : Facts → Type 0} {tells : Type 0} {old new : Shown} {ended : Type 0} {asked : List Serial} {room : ℕ} {control : Control} {fills : List Bool} → new.shape ≡ old.shape → old.faults ≤ new.faults
    → (tells → LeavesOnly old.disk new.disk (ReadsSame old.shape old.disk.state)) → ended
    → (tells → IsOpened old.shape old.disk.state asked room control fills new.disk.state)
    → (tells → Runs (of_opening (journal_of old.shape) old.disk.state.contents) old.disk new.disk) → IsRunFor allows tells old new ended [] None
run_opened {allows} {tells} {old} {new} {ended} {asked} {room} {control} {fills} shape later moments end opens runs = record {
  shape = shape;
  later = later;
  cause = λ not. absurd (not end);
  keeps = λ told facts same allowed units settled.
      opened facts asked room control fills old.disk new.disk ended units settled (at_shape (λ s. LeavesOnly old.disk new.disk (ReadsSame s old.disk.state)) same (moments told))
      (at_shape (λ s. IsOpened s old.disk.state asked room control fills new.disk.state) same (opens told));
  still = λ told over no_steps none_pending. none_opened old new over.gate (runs told);
}

pub run_refused : {allows : Facts → Type 0} {tells : Type 0} {old new : Shown} {ended : Type 0} → new.shape ≡ old.shape → old.faults ≤ new.faults
    → (tells → LeavesOnly old.disk new.disk (ReadsSame old.shape old.disk.state))
    → (¬ ended → Rose old.faults new.faults) → (tells → ended → Touches none old.disk.state new.disk.state)
    → (tells → Runs (of_opening (journal_of old.shape) old.disk.state.contents) old.disk new.disk) → IsRunFor allows tells old new ended [] None
run_refused {allows} {tells} {old} {new} {ended} shape later moments cause unwritten runs = record {
  shape = shape;
  later = later;
  cause = cause;
  keeps = λ told facts same allowed units settled.
      refused facts old.disk new.disk ended units settled (at_shape (λ s. LeavesOnly old.disk new.disk (ReadsSame s old.disk.state)) same (moments told)) (unwritten told);
  still = λ told over no_steps none_pending. none_opened old new over.gate (runs told);
}

-- ---- one commit makes a step

-- at rest with no slide open there is nothing to finish
pub finished_at_rest : {shape : Shape} {state : State} {room : ℕ} {control : Control} {fills : List Bool} → IsAtRest shape state room control fills → control ≡ Idle
    → IsFinished shape state.contents
finished_at_rest {shape} {state} rest idle = record {
  gate = rest.closed;
  control =
      ap control_in (sym (closed_overlay shape.block_size (journal_of shape) state.contents rest.closed (journal_of shape) 2)) ∙ sym rest.reads.obeys.control_is ∙ idle;
}

-- a journal at rest with no slide open
pub quiet_at_rest : {shape : Shape} {state : State} {room : ℕ} {control : Control} {fills : List Bool} → IsAtRest shape state room control fills → control ≡ Idle
    → IsQuiet shape state room fills
quiet_at_rest {shape} {state} {room} {control} {fills} rest idle = record { rest = subst (λ (c : Control). IsAtRest shape state room c fills) idle rest }

pub switch_done : {allows : Facts → Type 0} {tells : Type 0} {old new : Shown} {ended : Type 0} {step : Step} {room : ℕ} {fills : List Bool} {entries : List Entry} → new.shape ≡ old.shape → old.faults ≤ new.faults
    → (tells → IsQuiet old.shape old.disk.state room fills) → (tells → TakeUnitsFor allows old.shape room fills old.disk.state.contents step entries)
    → (tells → LeavesOnly old.disk new.disk (OldOrNew old.shape old.disk.state entries)) → ended
    → (tells → IsCommitted old.shape old.disk.state entries new.disk.state) → IsRunFor allows tells old new ended (step ∷ []) None
switch_done {allows} {tells} {old} {new} {ended} {step} {room} {fills} {entries} shape later idle takes moments end committed = record {
  shape = shape;
  later = later;
  cause = λ not. absurd (not end);
  keeps = λ told facts same allowed units settled.
      let made = takes told facts old.disk.state units same allowed (λ u b less. refl) (idle told) settled in
      commit_done facts old.disk new.disk (Some step) units made.0 settled
      entries (made.0, made.1, refl) made.2 made.3
      (at_shape (λ s. LeavesOnly old.disk new.disk (OldOrNew s old.disk.state entries)) same (moments told)) ended
      (at_shape (λ s. IsCommitted s old.disk.state entries new.disk.state) same (committed told));
  still = λ told over no_steps none_pending. absurd (some_steps [] step no_steps);
}

pub switch_failed : {allows : Facts → Type 0} {tells : Type 0} {old new : Shown} {ended : Type 0} {step : Step} {room : ℕ} {fills : List Bool} {entries : List Entry} → new.shape ≡ old.shape → old.faults ≤ new.faults
    → (tells → IsQuiet old.shape old.disk.state room fills) → (tells → TakeUnitsFor allows old.shape room fills old.disk.state.contents step entries)
    → (tells → LeavesOnly old.disk new.disk (OldOrNew old.shape old.disk.state entries)) → ¬ ended → Rose old.faults new.faults → IsRunFor allows tells old new ended [] (Some step)
switch_failed {allows} {tells} {old} {new} {ended} {step} {room} {fills} {entries} shape later idle takes moments never rose = record {
  shape = shape;
  later = later;
  cause = λ not. rose;
  keeps = λ told facts same allowed units settled.
      let made = takes told facts old.disk.state units same allowed (λ u b less. refl) (idle told) settled in
      commit_failed facts old.disk new.disk (Some step) units made.0 settled
      entries (made.0, made.1, refl) made.2 made.3
      (at_shape (λ s. LeavesOnly old.disk new.disk (OldOrNew s old.disk.state entries)) same (moments told)) ended never;
  still = λ told over no_steps none_pending. absurd (none-some step (sym none_pending));
}

-- ---- one commit keeps the units

pub commit_kept : {allows : Facts → Type 0} {tells : Type 0} {old new : Shown} {ended : Type 0} {entries : List Entry} → new.shape ≡ old.shape → old.faults ≤ new.faults
    → (tells → KeepUnits allows old.shape old.disk.state entries) → (tells → LeavesOnly old.disk new.disk (OldOrNew old.shape old.disk.state entries)) → ended
    → (tells → IsCommitted old.shape old.disk.state entries new.disk.state) → AreCallsFor allows tells old new ended [] None
commit_kept {allows} {tells} {old} {new} {ended} {entries} shape later keep moments end committed = record {
  shape = shape;
  later = later;
  cause = λ not. absurd (not end);
  keeps = λ told facts same allowed units settled.
      let made = keep told facts units same allowed settled in
      commit_done facts old.disk new.disk None units units settled entries refl made.0 made.1
      (at_shape (λ s. LeavesOnly old.disk new.disk (OldOrNew s old.disk.state entries)) same (moments told)) ended
      (at_shape (λ s. IsCommitted s old.disk.state entries new.disk.state) same (committed told));
}

pub commit_broken : {allows : Facts → Type 0} {tells : Type 0} {old new : Shown} {ended : Type 0} {entries : List Entry} → new.shape ≡ old.shape → old.faults ≤ new.faults
    → (tells → KeepUnits allows old.shape old.disk.state entries) → (tells → LeavesOnly old.disk new.disk (OldOrNew old.shape old.disk.state entries))
    → ¬ ended → Rose old.faults new.faults → AreCallsFor allows tells old new ended [] None
commit_broken {allows} {tells} {old} {new} {ended} {entries} shape later keep moments never rose = record {
  shape = shape;
  later = later;
  cause = λ not. rose;
  keeps = λ told facts same allowed units settled.
      let made = keep told facts units same allowed settled in
      commit_failed facts old.disk new.disk None units units settled entries refl made.0 made.1
      (at_shape (λ s. LeavesOnly old.disk new.disk (OldOrNew s old.disk.state entries)) same (moments told)) ended never;
}
