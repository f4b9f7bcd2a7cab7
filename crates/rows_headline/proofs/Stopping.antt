-- What a stop of a pool in memory leaves, by what the pool tells.
use Rattle.std.proofs.Common.{◌≡◌, ◌≢◌, inl, inr, ℕ, zero, suc, ◌<◌, ◌≤◌, List, [], length, take, Option, true, refl, sym, ap, subst, ◌∙◌, arith}
use Rattle.std.specs.Prelude.{min, slice_index_or}
use Rattle.std.proofs.lemmas.Bool.{cases_lt}
use Rattle.std.proofs.lemmas.List.{take_all}
use Rattle.dasd_pool.specs.declared.calls.Call.{Call}
use Rattle.dasd_pool.specs.declared.calls.Tear.{Tear}
use Rattle.dasd_pool.specs.declared.units.UnitText.{UnitText}
use Rattle.dasd_pool.specs.Disk.{Image, Shape, State, Disk, MayLeave}
use Rattle.dasd_pool.specs.Calls.{shape_of, texts_of, block_at, first_state, disk_after}
use Rattle.dasd_pool.specs.Memory.{MemoryView, fresh, disk_now, disk_by, disk_of, state_of, marked_state}
use Rattle.dasd_pool.specs.Tears.{torn_image, IsTornFrom}
use Rattle.dasd_pool.proofs.Tearing.{torn_left, torn_may_leave}
use Rattle.volume_model.specs.Unit.{UnitModel}
use Rattle.move_core.specs.declared.steps.Step.{Step}
use Rattle.move_core.specs.Facts.{Facts}
use Rattle.redo_core.specs.Faults.{HasNoSlide, MayOpen}
use Rattle.move_core.specs.Runs.{IsRun, KeepsUnits, moves_of, StandsAfter, StandsAfterMost}
use Rattle.move_core.proofs.Running.{run_stops, run_closed}
use Rattle.move_core.specs.Stands.{Stands, IsSettled}
use Rattle.move_core.proofs.Resuming.{synced_settled, standing_may_open}
use Rattle.move_core.proofs.SameBlocks.{stands_there, closed_there}
use Rattle.rows_headline.specs.Stopped.{StopStands}
use Rattle.rows_headline.specs.Again.{shown_of, IsReady, EachStopIsReady, RunsOn}
use Rattle.rows_headline.specs.declared.stopped.Ran.{Ran}

-- ---- a pool that keeps calls tells all of them

pub keeps_past : (keep : ℕ) (state : State) (kept : Disk) → (disk_by keep (disk_now state) kept).keeps_past → 0 < keep
keeps_past zero state kept told = absurd told
keeps_past (suc n) state kept told = omega arith

pub keeps_there : (keep : ℕ) (now kept : Disk) → 0 < keep → kept.keeps_past → (disk_by keep now kept).keeps_past
keeps_there zero now kept some told = absurd (omega (arith, some))
keeps_there (suc n) now kept some told = told

pub moment_there : (keep : ℕ) (now kept : Disk) → 0 < keep → (disk_by keep now kept).moment ≡ kept.moment
moment_there zero now kept some = absurd (omega (arith, some))
moment_there (suc n) now kept some = refl

pub left_there : (keep : ℕ) (now kept : Disk) (since : ℕ) (image : Image) → 0 < keep → kept.left_since since image → (disk_by keep now kept).left_since since image
left_there zero now kept since image some left = absurd (omega (arith, some))
left_there (suc n) now kept since image some left = left

pub may_there : (keep : ℕ) (now kept : Disk) (image : Image) → 0 < keep → MayLeave kept.state image → MayLeave (disk_by keep now kept).state image
may_there zero now kept image some left = absurd (omega (arith, some))
may_there (suc n) now kept image some left = left

-- ---- a stop

module _ (old new : MemoryView) (ended : Type 0) (steps : List Step) (pending : Option Step) (run : IsRun (Unit {0}) (shown_of old) (shown_of new) ended steps pending)
    (some : 0 < old.keep) (facts : Facts) (units : List UnitModel) (same : facts.shape ≡ shape_of old.units) (settled : IsSettled facts (state_of old) units) where
  abbrev kept_of : MemoryView → Disk
  kept_of pool = disk_after (first_state pool.units) pool.calls

  abbrev now_of : MemoryView → Disk
  now_of pool = disk_now (marked_state pool.units pool.texts pool.marks)

  keeps : KeepsUnits facts (disk_of old) (disk_of new) ended units steps pending
  keeps = run.keeps tt facts same (tt {0}) units settled

  pub some_kept : 0 < new.keep
  some_kept = keeps_past new.keep (marked_state new.units new.texts new.marks) (kept_of new) (keeps.any_moment.goes_on (keeps_there old.keep (now_of old) (kept_of old) some tt))

  old_moment : (disk_of old).moment ≡ length old.calls
  old_moment = moment_there old.keep (now_of old) (kept_of old) some

  new_moment : (disk_of new).moment ≡ length new.calls
  new_moment = moment_there new.keep (now_of new) (kept_of new) some_kept

  later : length old.calls ≤ length new.calls
  later = omega (arith, keeps.any_moment.later, old_moment, new_moment)

  pub stop_stands : (calls : ℕ) (tear : Tear) → StopStands facts units steps pending (length old.calls) new calls tear
  stop_stands calls tear = record {
    any_moment = λ from.
        let image : Image = torn_image tear new.units (take calls new.calls) in
        let within : (disk_of old).moment ≤ min calls (length new.calls) = omega (arith, old_moment, from, later) in
        run_stops run tt facts same (tt {0}) units settled image
        (left_there new.keep (now_of new) (kept_of new) (disk_of old).moment image some_kept (torn_left tear new.units new.calls calls (disk_of old).moment within));
    returned = λ all.
        let whole : take calls new.calls ≡ new.calls = take_all calls new.calls all in
        let P : List Call → Type 0 = λ list. StandsAfterMost facts units (moves_of steps pending) (length steps) (torn_image tear new.units list) in
        subst P (sym whole)
        (keeps.returned (torn_image tear new.units new.calls)
        (may_there new.keep (now_of new) (kept_of new) (torn_image tear new.units new.calls) some_kept (torn_may_leave tear new.units new.calls)));
  }

  -- no slide is open in what it leaves
  pub stop_closed : (calls : ℕ) (tear : Tear) → length old.calls ≤ calls → HasNoSlide facts.shape (state_of old).contents
      → HasNoSlide facts.shape (torn_image tear new.units (take calls new.calls))
  stop_closed calls tear from closed =
      let image : Image = torn_image tear new.units (take calls new.calls) in
      let within : (disk_of old).moment ≤ min calls (length new.calls) = omega (arith, old_moment, from, later) in
      run_closed run tt facts same (tt {0}) units settled closed image
      (left_there new.keep (now_of new) (kept_of new) (disk_of old).moment image some_kept (torn_left tear new.units new.calls calls (disk_of old).moment within))

-- ---- what a stop left, handed in again

module _ (tear : Tear) (units : List UnitText) (calls : List Call) (left : MemoryView) (torn : IsTornFrom tear units calls left.units)
    (shape : shape_of left.units ≡ shape_of units) (state : state_of left ≡ first_state left.units) where
  left_contents : (u b : ℕ) → u < length units → b < (shape_of units).blocks u → (state_of left).contents u b ≡ torn_image tear units calls u b
  left_contents u b less within =
      ap (λ (s : State). s.contents u b) state
      ∙ ap (λ (s : Shape). block_at (s.block_size u) (slice_index_or (texts_of left.units) u []) b) shape
      ∙ torn.blocks u b less within

  left_synced : (u b : ℕ) → (state_of left).synced u b ≡ true
  left_synced u b = ap (λ (s : State). s.synced u b) state

  left_same : (facts : Facts) → facts.shape ≡ shape_of units → (u b : ℕ) → u < facts.shape.units → b < facts.shape.blocks u → (state_of left).contents u b ≡ torn_image tear units calls u b
  left_same facts same u b less within =
      left_contents u b (subst (λ (s : Shape). u < s.units) same less) (subst (λ (s : Shape). b < s.blocks u) same within)

  pub left_opens : (facts : Facts) (found : List UnitModel) → facts.shape ≡ shape_of units → Stands facts (torn_image tear units calls) found
      → HasNoSlide facts.shape (torn_image tear units calls) → MayOpen facts.shape (state_of left).contents facts.names
  left_opens facts found same stands closed =
      standing_may_open facts (state_of left).contents found
      (stands_there facts (torn_image tear units calls) (state_of left).contents found stands (left_same facts same))
      (closed_there facts (torn_image tear units calls) (state_of left).contents found stands (left_same facts same) closed)

  pub left_settled : (facts : Facts) (found : List UnitModel) → facts.shape ≡ shape_of units → Stands facts (torn_image tear units calls) found → IsSettled facts (state_of left) found
  left_settled facts found same stands =
      synced_settled facts (state_of left) found left_synced
      (stands_there facts (torn_image tear units calls) (state_of left).contents found stands (left_same facts same))

module _ (old new left : MemoryView) (ended : Type 0) (steps : List Step) (pending : Option Step) (run : IsRun (Unit {0}) (shown_of old) (shown_of new) ended steps pending)
    (calls : ℕ) (tear : Tear) (torn : IsTornFrom tear new.units (take calls new.calls) left.units) (whole : left ≡ fresh left.units [] new.keep)
    (shape : shape_of left.units ≡ shape_of new.units) (state : state_of left ≡ first_state left.units) where
  -- what the stop leaves stands after a prefix of the moves, with all steps in it where the run had returned
  module _ (some : 0 < old.keep) (from : length old.calls ≤ calls) (facts : Facts) (units : List UnitModel) (same : facts.shape ≡ shape_of old.units)
      (settled : IsSettled facts (state_of old) units) where
    abbrev torn_now : Image
    torn_now = torn_image tear new.units (take calls new.calls)

    abbrev StandsThere : Type 0
    StandsThere = (count : ℕ) × (length new.calls ≤ calls → length steps ≤ count) × StandsAfter facts units (moves_of steps pending) count torn_now

    stop_leaves : StandsThere
    stop_leaves = elim (cases_lt calls (length new.calls)) [
      | inl less ↦
          let front = (stop_stands old new ended steps pending run some facts units same settled calls tear).any_moment from in
          (front.0, (λ returned. absurd (omega (arith, returned, less))), front.2)
      | inr not_less ↦
          let whole = (stop_stands old new ended steps pending run some facts units same settled calls tear).returned (omega (arith, not_less)) in
          (whole.0, (λ returned. whole.1), whole.2)
    ]

  pub stop_is_ready : EachStopIsReady old steps pending new calls left
  stop_is_ready some from facts units same settled =
      let kept = some_kept old new ended steps pending run some facts units same settled in
      let after = stop_leaves some from facts units same settled in
      let there : facts.shape ≡ shape_of new.units = same ∙ sym run.shape in
      record {
        keeps = omega (arith, kept, ap (λ (v : MemoryView). v.keep) whole);
        uncalled = ap (λ (v : MemoryView). v.calls) whole;
        shape = there ∙ sym shape;
        count = after.0;
        within = after.2.within;
        all = after.1;
        units = after.2.units;
        reached = after.2.reached;
        settled = left_settled tear new.units (take calls new.calls) left torn shape state facts after.2.units there after.2.stands;
        opens = λ closed.
            left_opens tear new.units (take calls new.calls) left torn shape state facts after.2.units there after.2.stands
            (stop_closed old new ended steps pending run some facts units same settled calls tear from closed);
      }

-- a run on it
pub runs_on : (left : MemoryView) (earlier later : Ran) → IsRun (Unit {0}) (shown_of left) (shown_of later.pool) (later.status ≢ 16) later.steps.items later.pending
    → (facts : Facts) (first : List UnitModel) (returned : Type 0) (before : Image) → IsReady facts first earlier.steps.items earlier.pending returned before left
    → RunsOn facts first earlier returned later
runs_on left earlier later run facts first returned before ready =
    let start : (disk_of left).moment ≡ 0 =
    moment_there left.keep (disk_now (marked_state left.units left.texts left.marks)) (disk_after (first_state left.units) left.calls) ready.keeps
    ∙ ap length ready.uncalled in
    record {
      count = ready.count;
      within = ready.within;
      all = ready.all;
      units = ready.units;
      reached = ready.reached;
      any_moment = λ image since.
          run_stops run tt facts ready.shape (tt {0}) ready.units ready.settled image
          (subst (λ (n : ℕ). (disk_of later.pool).left_since n image) (sym start) since);
      behind = (run.keeps tt facts ready.shape (tt {0}) ready.units ready.settled).returned;
      settled = (run.keeps tt facts ready.shape (tt {0}) ready.units ready.settled).settled;
    }
