-- What each call does to the state of a pool in memory.
use Rattle.std.proofs.Common.{◌≡◌, inl, inr, ℕ, zero, suc, ◌<◌, ◌≤◌, ◌^◌, List, [], ◌∷◌, ◌++◌, length, get_or, Bool, true, false, Vec, All, refl, sym, ◌∙◌, ap, subst, arith, length-append}
use Rattle.std.specs.Prelude.{◌==◌, ◌&&◌, not, nat_lt, nat_le, if◌then◌else◌, Result, is_err}
use Rattle.std.specs.declared.alloc.Global.{Global}
use Rattle.std.specs.List.{list_any}
use Rattle.std.proofs.lemmas.Bool.{cases_lt, lt-ltb, le-ltb, le-leb, lt-leb, and_from, and_right, false≢true, or_right}
use Rattle.std.proofs.lemmas.List.Elements.{All-push}
use Rattle.dasd_pool.specs.declared.calls.Call.{Call}
use Rattle.dasd_pool.specs.declared.calls.Call.TheVariants.{Read, Sync}
use Rattle.dasd_pool.specs.declared.units.UnitText.{UnitText}
use Rattle.dasd_pool.specs.declared.failures.Failures.{Failures}
use Rattle.dasd_pool.specs.Disk.{State, Image, Disk, MayLeave, Touches, is_at}
use Rattle.dasd_pool.specs.Calls.{size_of, texts_of, image_of, shape_of, first_state, step, after, disk_after, IsKept}
use Rattle.dasd_pool.specs.Kept.{KeptView, with_call, WithWrite}
use Rattle.dasd_pool.specs.Marks.{is_marked, first_marks}
use Rattle.dasd_pool.specs.Memory.{MemoryView, view_of, fresh, marked_state, disk_now, disk_by, disk_of, state_of, is_full, fails, write_step, sync_step, IsCall, Agree}
use Rattle.dasd_pool.specs.Failures.{one_more}
use Rattle.dasd_pool.proofs.Moments.{at_start, Elapses}
use Rattle.dasd_pool.proofs.OneMore.{after_push, elapses_push}
use Rattle.dasd_pool.proofs.Marking.{none_marked, line_length}
use Rattle.std.proofs.lemmas.List.{length-map}

-- the state where so many calls are kept
abbrev shown : ℕ → List UnitText → State → List Call → State
shown keep units marked calls = (disk_by keep (disk_now marked) (disk_after (first_state units) calls)).state

abbrev filled : ℕ → List Call → Bool
filled keep calls = nat_lt 0 keep && nat_le keep (length calls)

-- one call, as it is kept or as the marks have it
shown_call : (keep : ℕ) (units : List UnitText) (marked new : State) (calls : List Call) (call : Call) (effect : State → State) → (keep ≡ 0 → new ≡ effect marked)
    → (length calls < keep → (state : State) → step state call ≡ effect state)
    → shown keep units new (with_call keep calls call) ≡ (if filled keep calls then shown keep units marked calls else effect (shown keep units marked calls))
shown_call zero units marked new calls call effect goes does = goes refl
shown_call (suc n) units marked new calls call effect goes does = elim (cases_lt (length calls) (suc n)) [
  | inl less ↦
      ap (λ (t : Bool). after (first_state units) (if t then calls ++ call ∷ [] else calls)) (lt-ltb (length calls) (suc n) less)
      ∙ after_push (first_state units) calls call
      ∙ does less (after (first_state units) calls)
      ∙ sym (ap (λ (t : Bool). if t then after (first_state units) calls else effect (after (first_state units) calls)) (and_right (nat_lt 0 (suc n)) (nat_le (suc n) (length calls)) (lt-leb (suc n) (length calls) less)))
  | inr past ↦
      ap (λ (t : Bool). after (first_state units) (if t then calls ++ call ∷ [] else calls)) (le-ltb (length calls) (suc n) past)
      ∙ sym (ap (λ (t : Bool). if t then after (first_state units) calls else effect (after (first_state units) calls))
      (and_from (nat_lt 0 (suc n)) (nat_le (suc n) (length calls)) (lt-ltb 0 (suc n) (omega arith)) (le-leb (suc n) (length calls) past)))
]

-- a call of which the kept ones are known
shown_after : (keep now : ℕ) (units : List UnitText) (marked new : State) (calls later : List Call) (call : Call) (effect : State → State) → now ≡ keep → later ≡ with_call keep calls call
    → (keep ≡ 0 → new ≡ effect marked) → (length calls < keep → (state : State) → step state call ≡ effect state)
    → shown now units new later ≡ (if filled keep calls then shown keep units marked calls else effect (shown keep units marked calls))
shown_after keep now units marked new calls later call effect same more goes does =
    (λ i. shown (same i) units new (more i)) ∙ shown_call keep units marked new calls call effect goes does

either_same : (t : Bool) (state : State) → (if t then state else state) ≡ state
either_same true state = refl
either_same false state = refl

module _ (units : List UnitText) (texts : List (List ℕ)) (kept later : KeptView) (marks : List (List Bool)) (failures after_it : Failures) (same : later.keep ≡ kept.keep) where
  pub read_state : (unit block : ℕ) (failed : Bool) → later.calls ≡ with_call kept.keep kept.calls (Read unit block failed)
      → state_of (view_of units texts later marks after_it) ≡ state_of (view_of units texts kept marks failures)
  read_state unit block failed more =
      shown_after kept.keep later.keep units (marked_state units texts marks) (marked_state units texts marks) kept.calls later.calls (Read unit block failed) (λ state. state) same more (λ none. refl) (λ less state. refl)
      ∙ either_same (filled kept.keep kept.calls) (state_of (view_of units texts kept marks failures))

  pub write_state : (unit block : ℕ) (buf : List ℕ) (failed : Bool) (texts_new : List (List ℕ)) (marks_new : List (List Bool)) → WithWrite kept.keep kept.calls later.calls unit block buf failed
      → ((u b : ℕ) → image_of (size_of units) texts_new u b ≡ (if not failed && is_at unit block u b then buf else image_of (size_of units) texts u b))
      → (kept.keep ≡ 0 → (u b : ℕ) → is_marked marks_new u b ≡ (if is_at unit block u b then true else is_marked marks u b))
      → state_of (view_of units texts_new later marks_new after_it)
      ≡ (if is_full (view_of units texts kept marks failures) then state_of (view_of units texts kept marks failures)
      else write_step unit block buf failed (state_of (view_of units texts kept marks failures)))
  write_state unit block buf failed texts_new marks_new more goes marked =
      shown_after kept.keep later.keep units (marked_state units texts marks) (marked_state units texts_new marks_new) kept.calls later.calls more.0 (write_step unit block buf failed) same more.1
      (λ none i. record {
        contents = λ u b. goes u b i;
        synced = λ u b. (ap not (marked none u b) ∙ not_if (is_at unit block u b) (is_marked marks u b)) i;
      })
      (λ less state. ap (step state) (more.2 less).2 ∙ ap (λ (l : List ℕ). write_step unit block l failed state) (more.2 less).1)
    where
      not_if : (t m : Bool) → not (if t then true else m) ≡ (if t then false else not m)
      not_if true m = refl
      not_if false m = refl

  pub sync_state : (failed : Bool) (marks_new : List (List Bool)) → failed ≡ fails (view_of units texts kept marks failures) → later.calls ≡ with_call kept.keep kept.calls (Sync failed)
      → (failed ≡ true → marks_new ≡ marks) → (failed ≡ false → (u b : ℕ) → is_marked marks_new u b ≡ false)
      → state_of (view_of units texts later marks_new after_it)
      ≡ sync_step (fails (view_of units texts kept marks failures)) (state_of (view_of units texts kept marks failures))
  sync_state failed marks_new told more stays clear =
      shown_after kept.keep later.keep units (marked_state units texts marks) (marked_state units texts marks_new) kept.calls later.calls (Sync failed) (sync_step failed) same more (λ none. marked failed stays clear) (λ less state. refl)
      ∙ settle (filled kept.keep kept.calls) failed (state_of (view_of units texts kept marks failures)) full
      ∙ ap (λ (f : Bool). sync_step f (state_of (view_of units texts kept marks failures))) told
    where
      marked : (f : Bool) → (f ≡ true → marks_new ≡ marks) → (f ≡ false → (u b : ℕ) → is_marked marks_new u b ≡ false) → marked_state units texts marks_new ≡ sync_step f (marked_state units texts marks)
      marked true stays clear = ap (λ (m : List (List Bool)). marked_state units texts m) (stays refl)
      marked false stays clear = λ i. record { contents = image_of (size_of units) texts; synced = λ u b. not (clear refl u b i) }

      settle : (t f : Bool) (state : State) → (t ≡ true → f ≡ true) → (if t then state else sync_step f state) ≡ sync_step f state
      settle false f state implies = refl
      settle true f state implies = ap (λ (g : Bool). sync_step g state) (sym (implies refl))

      full : filled kept.keep kept.calls ≡ true → failed ≡ true
      full is = told ∙ or_right (list_any (λ n. n == failures.count) failures.told.items) (filled kept.keep kept.calls) is

-- a call that was counted
pub is_call : {T E : Type 0} (units : List UnitText) (texts texts_new : List (List ℕ)) (kept later : KeptView) (marks marks_new : List (List Bool)) (failures after_it : Failures) (seen : MemoryView) (result : Result T E) (failed : Bool)
    → view_of units texts kept marks failures ≡ seen → failed ≡ fails (view_of units texts kept marks failures) → is_err result ≡ failed → later.keep ≡ kept.keep → after_it.told ≡ failures.told → after_it.count ≡ one_more failures.count
    → after_it.faults ≡ (if failed then one_more failures.faults else failures.faults) → IsCall seen (view_of units texts_new later marks_new after_it) result
is_call units texts texts_new kept later marks marks_new failures after_it seen result failed shown told answer keep same count faults = subst (λ (v : MemoryView). IsCall v (view_of units texts_new later marks_new after_it) result) shown (record {
  answer = answer ∙ told;
  faults = faults ∙ ap (λ (f : Bool). if f then one_more failures.faults else failures.faults) told;
  count = count;
  units = refl;
  keep = keep;
  failing = ap (λ (v : Vec ℕ Global). v.items) same;
})

-- The parts of a pool still agree after a call.
module _ (units : List UnitText) (texts texts_new : List (List ℕ)) (kept later : KeptView) (marks marks_new : List (List Bool)) (failures after_it : Failures) where
  pub agree_call : (call : Call) → later.keep ≡ kept.keep → later.width ≡ kept.width → later.calls ≡ with_call kept.keep kept.calls call → (length kept.calls < kept.keep → IsKept units call)
      → length texts_new ≡ length texts → ((u : ℕ) → length (get_or texts_new u []) ≡ length (get_or texts u [])) → ((u : ℕ) → length (get_or marks_new u []) ≡ length (get_or marks u []))
      → ((u b : ℕ) → image_of (size_of units) texts_new u b ≡ (state_of (view_of units texts_new later marks_new after_it)).contents u b)
      → Agree (view_of units texts kept marks failures) kept.width → Agree (view_of units texts_new later marks_new after_it) later.width
  agree_call call same wide more fits count lengths lines current is = record {
    units_same = count ∙ is.units_same;
    lengths = λ u. lengths u ∙ is.lengths u;
    current = current;
    few = is.few;
    wide = λ u. omega (arith, wide, is.wide u);
    whole = whole;
    most = most;
    marked = λ none u. lines u ∙ is.marked (sym same ∙ none) u;
  }
    where
      whole : All (IsKept units) later.calls
      whole = elim (cases_lt (length kept.calls) kept.keep) [
        | inl less ↦ subst (λ (cs : List Call). All (IsKept units) cs) (sym (more ∙ ap (λ (t : Bool). if t then kept.calls ++ call ∷ [] else kept.calls) (lt-ltb (length kept.calls) kept.keep less)))
            (All-push (IsKept units) kept.calls call is.whole (fits less))
        | inr past ↦ subst (λ (cs : List Call). All (IsKept units) cs) (sym (more ∙ ap (λ (t : Bool). if t then kept.calls ++ call ∷ [] else kept.calls) (le-ltb (length kept.calls) kept.keep past))) is.whole
      ]

      most : length later.calls ≤ later.keep
      most = elim (cases_lt (length kept.calls) kept.keep) [
        | inl less ↦ omega (arith, same, less, ap length (more ∙ ap (λ (t : Bool). if t then kept.calls ++ call ∷ [] else kept.calls) (lt-ltb (length kept.calls) kept.keep less)), length-append kept.calls (call ∷ []))
        | inr past ↦ omega (arith, same, is.most, ap length (more ∙ ap (λ (t : Bool). if t then kept.calls ++ call ∷ [] else kept.calls) (le-ltb (length kept.calls) kept.keep past)))
      ]

-- the bytes after a write are those of the state after it
pub write_current : (state : State) (full failed : Bool) (unit block : ℕ) (buf : List ℕ) (image new : Image) → (full ≡ true → failed ≡ true) → ((u b : ℕ) → image u b ≡ state.contents u b)
    → ((u b : ℕ) → new u b ≡ (if not failed && is_at unit block u b then buf else image u b))
    → (u b : ℕ) → new u b ≡ (if full then state else write_step unit block buf failed state).contents u b
write_current state true true unit block buf image new implies held goes u b = goes u b ∙ held u b
write_current state true false unit block buf image new implies held goes u b = absurd (false≢true (implies refl))
write_current state false failed unit block buf image new implies held goes u b = goes u b ∙ (λ i. if not failed && is_at unit block u b then buf else held u b i)

-- a pool with no room fails
pub full_fails : (pool : MemoryView) → is_full pool ≡ true → fails pool ≡ true
full_fails pool is = or_right (list_any (λ n. n == pool.count) pool.failing) (is_full pool) is

-- The disk after a call.
elapses_by : (keep : ℕ) (units : List UnitText) (marked new : State) (calls : List Call) (call : Call)
    → Elapses (disk_by keep (disk_now marked) (disk_after (first_state units) calls)) (disk_by keep (disk_now new) (disk_after (first_state units) (with_call keep calls call)))
elapses_by zero units marked new calls call = record { later = omega arith; each = λ since image le left. inr left; goes_on = λ told. told; keeps = λ told. absurd told }
elapses_by (suc n) units marked new calls call =
    elim (nat_lt (length calls) (suc n)) as (λ t. Elapses (disk_after (first_state units) calls) (disk_after (first_state units) (if t then calls ++ call ∷ [] else calls))) [
      | true ↦ elapses_push (first_state units) calls call
      | false ↦ at_start (disk_after (first_state units) calls) (MayLeave (after (first_state units) calls))
    ]

pub elapses_call : (old new : MemoryView) (call : Call) → new.units ≡ old.units → new.keep ≡ old.keep → new.calls ≡ with_call old.keep old.calls call → Elapses (disk_of old) (disk_of new)
elapses_call old new call units keep more =
    subst (λ (d : Disk). Elapses (disk_of old) d)
    (λ i. disk_by (sym keep i) (disk_now (marked_state new.units new.texts new.marks)) (disk_after (first_state (sym units i)) (sym more i)))
    (elapses_by old.keep old.units (marked_state old.units old.texts old.marks) (marked_state new.units new.texts new.marks) old.calls call)

pub touches_same : (may : ℕ → ℕ → Bool) (one other : State) → other ≡ one → Touches may one other
touches_same may one other same = record { contents = λ u b apart. ap (λ (s : State). s.contents u b) same; synced = λ u b apart was. ap (λ (s : State). s.synced u b) same ∙ was }

-- a write leaves the other blocks, and what was synced of them
pub touches_write : (unit block : ℕ) (bytes : List ℕ) (full failed : Bool) (one other : State) → other ≡ (if full then one else write_step unit block bytes failed one) → Touches (is_at unit block) one other
touches_write unit block bytes true failed one other is = touches_same (is_at unit block) one other is
touches_write unit block bytes false failed one other is = subst (λ (s : State). Touches (is_at unit block) one s) (sym is) (record {
  contents = λ u b apart. ap (λ (t : Bool). if t then bytes else one.contents u b) (and_right (not failed) (is_at unit block u b) apart);
  synced = λ u b apart was. ap (λ (t : Bool). if t then false else one.synced u b) apart ∙ was;
})

pub touches_sync : (may : ℕ → ℕ → Bool) (failed : Bool) (one other : State) → other ≡ sync_step failed one → Touches may one other
touches_sync may true one other is = touches_same may one other is
touches_sync may false one other is = subst (λ (s : State). Touches may one s) (sym is) (record { contents = λ u b apart. refl; synced = λ u b apart was. refl })

-- the state of a pool that has had no calls
pub fresh_state : (keep : ℕ) (units : List UnitText) (failing : List ℕ) → state_of (fresh units failing keep) ≡ first_state units
fresh_state zero units failing = λ i. record { contents = image_of (size_of units) (texts_of units); synced = λ u b. not (none_marked 0 units u b i) }
fresh_state (suc n) units failing = refl

fresh_current : (keep : ℕ) (units : List UnitText) (failures : Failures) (width u b : ℕ) → image_of (size_of units) (texts_of units) u b
    ≡ (state_of (view_of units (texts_of units) (record { calls = []; keep = keep; width = width }) (first_marks keep units) failures)).contents u b
fresh_current zero units failures width u b = refl
fresh_current (suc n) units failures width u b = refl

-- and its parts agree
pub agree_fresh : (units : List UnitText) (texts : List (List ℕ)) (kept : KeptView) (marks : List (List Bool)) (failures : Failures) (keep width : ℕ) → texts ≡ texts_of units
    → kept ≡ record { calls = []; keep = keep; width = width } → marks ≡ first_marks keep units → length units < 2 ^ 32 → ((u : ℕ) → size_of units u ≤ width)
    → Agree (view_of units texts kept marks failures) kept.width
agree_fresh units texts kept marks failures keep width are_texts is_kept are_marks few wide =
    let goal : KeptView → Type 0 = λ k. Agree (view_of units texts k marks failures) k.width in
    subst goal (sym is_kept) (subst (λ (ts : List (List ℕ)). Agree (view_of units ts (record { calls = []; keep = keep; width = width }) marks failures) width) (sym are_texts)
    (subst (λ (ms : List (List Bool)). Agree (view_of units (texts_of units) (record { calls = []; keep = keep; width = width }) ms failures) width) (sym are_marks) (record {
      units_same = length-map units (λ (t : UnitText). t.blocks);
      lengths = λ u. refl;
      current = fresh_current keep units failures width;
      few = few;
      wide = wide;
      whole = λ k call none. absurd (omega arith);
      most = omega arith;
      marked = λ none u. subst (λ (k : ℕ). length (get_or (first_marks k units) u []) ≡ (shape_of units).blocks u) (sym none) (line_length units u);
    })))
