-- A torn block is one that the contents and what is synced allow.
use Rattle.std.proofs.Common.{◌≡◌, inl, inr, subst, get_or, ℕ, ◌+◌, ◌*◌, ◌<◌, ◌≤◌, ◌/◌, List, [], ◌∷◌, ◌++◌, length, take, drop, replicate, Bool, true, false, refl, sym, ◌∙◌, ap, arith}
use Rattle.std.specs.Prelude.{◌==◌, if◌then◌else◌}
use Rattle.std.proofs.lemmas.Bool.{cases_Bool, cases_eq, eq-eqb, ne_eqb, and_parts, eqb-true}
use Rattle.std.proofs.lemmas.List.Elements.{All-get_or, All-from_get_or}
use Rattle.std.specs.Prelude.{All, min}
use Rattle.std.proofs.lemmas.List.{take_min}
use Rattle.dasd_pool.specs.declared.calls.Call.{Call}
use Rattle.dasd_pool.specs.declared.calls.Call.TheVariants.{Read, Write, Sync}
use Rattle.dasd_pool.specs.declared.units.UnitText.{UnitText}
use Rattle.dasd_pool.specs.declared.calls.Tear.{Tear}
use Rattle.dasd_pool.specs.declared.calls.Tear.TheVariants.{Old, New, Zero, Half}
use Rattle.dasd_pool.specs.Disk.{State, MayLeave, is_at}
use Rattle.dasd_pool.specs.Calls.{step, after, first_state, LeftSince, written, block_at, size_in, size_of, texts_of, shape_of, IsKept}
use Rattle.dasd_pool.proofs.Bytes.{block_at-written}
use Rattle.dasd_pool.specs.Tears.{Trace, trace_step, trace_after, trace_first, torn, torn_image, IsSized, IsTornFrom}

-- the trace holds what the state does
pub record Agrees (u b : ℕ) (trace : Trace) (state : State) : Type 0 where
  pub held : trace.held ≡ state.contents u b
  pub synced : trace.synced ≡ state.synced u b

agrees_step : (u b : ℕ) (trace : Trace) (state : State) (call : Call) → Agrees u b trace state → Agrees u b (trace_step u b trace call) (step state call)
agrees_step u b trace state (Read unit block failed) is = is
agrees_step u b trace state (Write unit block bytes false) is = record {
  held = elim (is_at unit block u b) as
      (λ at. (if at then (let t : Trace = record { base = trace.base; held = bytes.items; last = bytes.items; synced = false } in t) else trace).held ≡ (if at then bytes.items else state.contents u b))
      [ true ↦ refl | false ↦ is.held ];
  synced = elim (is_at unit block u b) as
      (λ at. (if at then (let t : Trace = record { base = trace.base; held = bytes.items; last = bytes.items; synced = false } in t) else trace).synced ≡ (if at then false else state.synced u b))
      [ true ↦ refl | false ↦ is.synced ];
}
agrees_step u b trace state (Write unit block bytes true) is = record {
  held = elim (is_at unit block u b) as
      (λ at. (if at then (let t : Trace = record { base = trace.base; held = trace.held; last = bytes.items; synced = false } in t) else trace).held ≡ state.contents u b)
      [ true ↦ is.held | false ↦ is.held ];
  synced = elim (is_at unit block u b) as
      (λ at. (if at then (let t : Trace = record { base = trace.base; held = trace.held; last = bytes.items; synced = false } in t) else trace).synced ≡ (if at then false else state.synced u b))
      [ true ↦ refl | false ↦ is.synced ];
}
agrees_step u b trace state (Sync false) is = record { held = is.held; synced = refl }
agrees_step u b trace state (Sync true) is = record { held = is.held; synced = is.synced }

pub agrees_after : (u b : ℕ) (trace : Trace) (state : State) (calls : List Call) → Agrees u b trace state → Agrees u b (trace_after u b trace calls) (after state calls)
agrees_after u b trace state [] is = is
agrees_after u b trace state (call ∷ calls) is = agrees_after u b (trace_step u b trace call) (step state call) calls (agrees_step u b trace state call is)

torn_synced : (tear : Tear) (trace : Trace) → trace.synced ≡ true → torn tear trace ≡ trace.held
torn_synced Old trace is = ap (λ (t : Bool). if t then trace.held else trace.base) is
torn_synced New trace is = ap (λ (t : Bool). if t then trace.held else trace.last) is
torn_synced Zero trace is = ap (λ (t : Bool). if t then trace.held else replicate (length trace.base) 0) is
torn_synced Half trace is = ap (λ (t : Bool). if t then trace.held else take (length trace.base / 2) trace.last ++ drop (length trace.base / 2) trace.base) is

-- a crash after these calls may leave it
pub torn_may_leave : (tear : Tear) (units : List UnitText) (calls : List Call) → MayLeave (after (first_state units) calls) (torn_image tear units calls)
torn_may_leave tear units calls u b was =
    let same = agrees_after u b (trace_first ((first_state units).contents u b)) (first_state units) calls (record { held = refl; synced = refl }) in
    torn_synced tear (trace_after u b (trace_first ((first_state units).contents u b)) calls) (same.synced ∙ was) ∙ same.held

pub torn_left : (tear : Tear) (units : List UnitText) (calls : List Call) (n since : ℕ) → since ≤ min n (length calls) → LeftSince (first_state units) calls since (torn_image tear units (take n calls))
torn_left tear units calls n since le = (
  min n (length calls),
  le,
  omega arith,
  subst (λ (kept : List Call). MayLeave (after (first_state units) (take (min n (length calls)) calls)) (torn_image tear units kept)) (take_min n calls) (torn_may_leave tear units (take (min n (length calls)) calls)),
)

-- of no calls it is what was there at first
pub torn_first : (tear : Tear) (units new : List UnitText) (calls : List Call) → calls ≡ [] → IsTornFrom tear units calls new
    → (u b : ℕ) → u < length units → b < (shape_of units).blocks u → (first_state new).contents u b ≡ (first_state units).contents u b
torn_first tear units new calls none torn u b less within =
    (λ i. block_at (size_in (get_or (torn.heads i) u [])) (get_or (texts_of new) u []) b)
    ∙ torn.blocks u b less within
    ∙ ap (λ (cs : List Call). torn_image tear units cs u b) none
    ∙ torn_synced tear (trace_first ((first_state units).contents u b)) refl

pub trace_push : (u b : ℕ) (trace : Trace) (calls : List Call) (call : Call) → trace_after u b trace (calls ++ call ∷ []) ≡ trace_step u b (trace_after u b trace calls) call
trace_push u b trace [] call = refl
trace_push u b trace (first ∷ calls) call = trace_push u b (trace_step u b trace first) calls call

-- the three texts of a block have its size
pub record HasSize (n : ℕ) (trace : Trace) : Type 0 where
  pub base : length trace.base ≡ n
  pub held : length trace.held ≡ n
  pub last : length trace.last ≡ n

pub size_step : (n u b : ℕ) (trace : Trace) (call : Call) → IsSized u n call → HasSize n trace → HasSize n (trace_step u b trace call)
size_step n u b trace (Read unit block failed) sized is = is
size_step n u b trace (Write unit block bytes failed) sized is = elim (cases_Bool (is_at unit block u b)) [
  | inl at ↦
      let same : unit ≡ u = sym (eqb-true u unit (and_parts (u == unit) (b == block) at).0) in
      subst (λ (a : Bool). HasSize n (if a then record { base = trace.base; held = if failed then trace.held else bytes.items; last = bytes.items; synced = false } else trace)) (sym at)
      (record { base = is.base; held = elim failed as (λ f. length (if f then trace.held else bytes.items) ≡ n) [ true ↦ is.held | false ↦ sized same ]; last = sized same })
  | inr apart ↦
      subst (λ (a : Bool). HasSize n (if a then record { base = trace.base; held = if failed then trace.held else bytes.items; last = bytes.items; synced = false } else trace)) (sym apart) is
]
size_step n u b trace (Sync failed) sized is =
    elim failed as (λ f. HasSize n (if f then trace else record { base = trace.held; held = trace.held; last = trace.last; synced = true })) [
      | true ↦ is
      | false ↦ record { base = is.held; held = is.held; last = is.last }
    ]

-- one block more of a unit
pub torn_more : (size block : ℕ) (old new out : List ℕ) (wanted : ℕ → List ℕ) → new ≡ written old (block * size) out → length out ≡ size → block * size + size ≤ length old → out ≡ wanted block
    → ((b : ℕ) → b < block → block_at size old b ≡ wanted b) → (b : ℕ) → b < block + 1 → block_at size new b ≡ wanted b
torn_more size block old new out wanted goes long fits is so_far b less =
    ap (λ (l : List ℕ). block_at size l b) goes ∙ block_at-written old out size block b long fits
    ∙ elim (cases_eq b block) [
      | inl same ↦ ap (λ (t : Bool). if t then out else block_at size old b) (eq-eqb b block same) ∙ is ∙ ap wanted (sym same)
      | inr apart ↦ ap (λ (t : Bool). if t then out else block_at size old b) (ne_eqb b block apart) ∙ so_far b (omega arith)
    ]

-- a write that is kept has the size of its unit's blocks
pub sized_from_kept : (units : List UnitText) (u size : ℕ) (calls : List Call) → size_of units u ≡ size → All (IsKept units) calls → All (IsSized u size) calls
sized_from_kept units u size calls is_size all =
    All-from_get_or (IsSized u size) calls (Sync false) (λ i less. one (get_or calls i (Sync false)) (All-get_or (IsKept units) calls i (Sync false) less all))
  where
    one : (call : Call) → IsKept units call → IsSized u size call
    one (Read unit block failed) kept = tt
    one (Write unit block bytes failed) kept = λ same. kept ∙ ap (λ (n : ℕ). size_of units n) same ∙ is_size
    one (Sync failed) kept = tt
