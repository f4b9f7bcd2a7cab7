-- Runs that hold a need.
use Rattle.std.proofs.Common.{◌≡◌, ℕ, zero, suc, ◌+◌, ◌*◌, ◌/◌, ◌%◌, ◌<◌, ◌≤◌, List, [], ◌∷◌, length, get_or, take, All, sym, ap, subst, ◌∙◌, inl, inr, arith, add-zero}
use Rattle.std.specs.List.{AllByRecursion}
use Rattle.std.proofs.lemmas.Bool.{cases_lt}
use Rattle.std.proofs.lemmas.Grind.{div_ceil_times}
use Rattle.std.proofs.lemmas.Nat.{le-div, mod-mul-add, div-add-mod'}
use Rattle.std.proofs.lemmas.List.Elements.{recursion_from_All}
use Rattle.std.proofs.Math.Nat.{mul-le-mul_right, div-mul-le_self}
use Rattle.ckd_image.specs.Device.{ceil_div}
use Rattle.free_map.specs.declared.run.Run.{Run}
use Rattle.free_map.specs.Runs.{InRuns, AreApart}
use Rattle.free_map.specs.Place.{rounded, aligned_part, IsPlace, IsLowestPlace}
use Rattle.free_map.proofs.Ceilings.{ceiling_is}
use Rattle.free_map.proofs.Apart.{from_le, Covers, OneCovers, one_covers, covered}

-- a number is no more than the next multiple, which is less than one step further
pub le_rounded : (n step : ℕ) → 1 ≤ step → (n ≤ rounded n step) × (rounded n step < n + step)
le_rounded n step some = subst (λ (q : ℕ). (n ≤ q * step) × (q * step < n + step)) (ceiling_is n step some) (div_ceil_times n step (omega arith))

pub rounded_multiple : (n step : ℕ) → 1 ≤ step → rounded n step % step ≡ 0
rounded_multiple n step some =
    let e = mod-mul-add (ceil_div n step) step 0 (omega arith) in
    ap (λ (m : ℕ). m % step) (sym (add-zero (rounded n step))) ∙ e

pub multiple_is : (n step : ℕ) → n % step ≡ 0 → n ≡ n / step * step
multiple_is n step h = let e = div-add-mod' n step in omega arith

-- multiples of one step are in the order of their quotients
mul_le : (a b step : ℕ) → a ≤ b → a * step ≤ b * step
mul_le a b step le = mul-le-mul_right step le

-- the next multiple is no more than any multiple that isn't less
pub rounded_le : (n m step : ℕ) → 1 ≤ step → m % step ≡ 0 → n ≤ m → rounded n step ≤ m
rounded_le n m step some h le =
    let e = multiple_is m step h in
    let near = le_rounded n step some in
    elim (cases_lt (m / step) (ceil_div n step)) [
      | inl lt ↦ (let more = mul_le (m / step + 1) (ceil_div n step) step (omega arith) in absurd (omega arith))
      | inr small ↦ (let less = mul_le (ceil_div n step) (m / step) step small in omega arith)
    ]

-- the last multiple up to an end is no less than any multiple up to there
pub le_last : (m end step : ℕ) → 1 ≤ step → m % step ≡ 0 → m ≤ end → m ≤ end / step * step
le_last m end step some h le =
    let e = multiple_is m step h in
    let q = le-div (m / step) end step (omega arith) (omega arith) in
    let less = mul_le (m / step) (end / step) step q in
    omega arith

-- a run's part on whole steps is too short for so many tracks
abbrev pub IsShort : ℕ → ℕ → Run → Type 0
IsShort step count run = (aligned_part step run).len < count

-- Where the part is long enough, the run holds the tracks from there on.
pub part_covers : (run : Run) (step count : ℕ) → 1 ≤ step → 1 ≤ count → count ≤ (aligned_part step run).len → Covers (rounded run.first step) count run
part_covers run step count some more le =
    let near = le_rounded run.first step some in
    let last = div-mul-le_self (run.first + run.len) step in
    (near.0, omega arith)

-- Where a run holds them from a multiple on, its part is long enough, and begins no later.
pub covers_part : (run : Run) (step count start : ℕ) → 1 ≤ step → start % step ≡ 0 → count % step ≡ 0 → Covers start count run
    → (rounded run.first step ≤ start) × (count ≤ (aligned_part step run).len)
covers_part run step count start some h g p =
    let low = rounded_le run.first start step some h p.0 in
    let e = multiple_is start step h in
    let f = multiple_is count step g in
    let sum : (start + count) % step ≡ 0 =
    ap (λ (m : ℕ). m % step) (omega arith) ∙ mod-mul-add (start / step + count / step) step 0 (omega arith) in
    let high = le_last (start + count) (run.first + run.len) step some sum p.1 in
    (low, omega arith)

-- no run holds them where each is too short
none_cover : (runs : List Run) (step count start : ℕ) → 1 ≤ step → start % step ≡ 0 → count % step ≡ 0 → AllByRecursion (IsShort step count) runs → ¬ OneCovers start count runs
none_cover [] step count start some h g short c = c
none_cover (run ∷ runs) step count start some h g short (inl p) = let q = covers_part run step count start some h g p in omega (arith, short.0, q.1)
none_cover (run ∷ runs) step count start some h g short (inr q) = none_cover runs step count start some h g short.1 q

-- The first run that is long enough begins the lowest of them.
lowest_cover : (from : ℕ) (runs : List Run) (i : ℕ) (d : Run) (step count start : ℕ) → AreApart from runs → i < length runs → 1 ≤ step → 1 ≤ count → start % step ≡ 0 → count % step ≡ 0
    → AllByRecursion (IsShort step count) (take i runs) → count ≤ (aligned_part step (get_or runs i d)).len → OneCovers start count runs → rounded (get_or runs i d).first step ≤ start
lowest_cover from [] i d step count start a lt some more h g short le c = absurd c
lowest_cover from (run ∷ runs) zero d step count start a lt some more h g short le (inl p) = (covers_part run step count start some h g p).0
lowest_cover from (run ∷ runs) zero d step count start a lt some more h g short le (inr q) =
    let p = part_covers run step count some more le in
    let behind = from_le (run.first + run.len + 1) runs start a.2 (covered start count runs q start (omega arith) (omega arith)) in
    omega (arith, p.1)
lowest_cover from (run ∷ runs) (suc i) d step count start a lt some more h g short le (inl p) =
    let q = covers_part run step count start some h g p in absurd (omega (arith, short.0, q.1))
lowest_cover from (run ∷ runs) (suc i) d step count start a lt some more h g short le (inr q) =
    lowest_cover (run.first + run.len + 1) runs i d step count start a.2 (omega arith) some more h g short.1 le q

-- one of the runs at a place holds them
at_covers : (runs : List Run) (i : ℕ) (d : Run) (start count : ℕ) → i < length runs → Covers start count (get_or runs i d) → OneCovers start count runs
at_covers [] i d start count lt p = absurd (omega arith)
at_covers (run ∷ runs) zero d start count lt p = inl p
at_covers (run ∷ runs) (suc i) d start count lt p = inr (at_covers runs i d start count (omega arith) p)

-- a place is in one run
pub place_covers : (runs : List Run) (need step start : ℕ) → AreApart 0 runs → 1 ≤ need → 1 ≤ step → IsPlace (InRuns runs) need step start → OneCovers start (rounded need step) runs
place_covers runs need step start a more some p =
    let near = le_rounded need step some in
    one_covers 0 runs start (rounded need step) a (omega (arith, near.0)) p.held

pub no_place : (runs : List Run) (need step : ℕ) → AreApart 0 runs → 1 ≤ need → 1 ≤ step → All (IsShort step (rounded need step)) runs
    → (start : ℕ) → ¬ IsPlace (InRuns runs) need step start
no_place runs need step a more some short start p =
    none_cover runs step (rounded need step) start some p.aligned (rounded_multiple need step some)
    (recursion_from_All (IsShort step (rounded need step)) runs short) (place_covers runs need step start a more some p)

pub lowest_place : (runs : List Run) (need step i : ℕ) (d : Run) → AreApart 0 runs → 1 ≤ need → 1 ≤ step → i < length runs
    → All (IsShort step (rounded need step)) (take i runs) → rounded need step ≤ (aligned_part step (get_or runs i d)).len
    → IsLowestPlace (InRuns runs) need step (rounded (get_or runs i d).first step)
lowest_place runs need step i d a more some lt short le =
    let run = get_or runs i d in
    let near = le_rounded need step some in
    let count : 1 ≤ rounded need step = omega (arith, near.0) in
    let whole = at_covers runs i d (rounded run.first step) (rounded need step) lt (part_covers run step (rounded need step) some count le) in
    record {
      place = record { aligned = rounded_multiple run.first step some; held = covered (rounded run.first step) (rounded need step) runs whole };
      lowest = λ other p. lowest_cover 0 runs i d step (rounded need step) other a lt some count p.aligned (rounded_multiple need step some)
          (recursion_from_All (IsShort step (rounded need step)) (take i runs) short) le (place_covers runs need step other a more some p);
    }

cover_fits : (top : ℕ) (runs : List Run) (start count : ℕ) → AllByRecursion (λ run. run.first + run.len ≤ top) runs → OneCovers start count runs → start + count ≤ top
cover_fits top [] start count e c = absurd c
cover_fits top (run ∷ runs) start count e (inl p) = omega (arith, p.1, e.0)
cover_fits top (run ∷ runs) start count e (inr q) = cover_fits top runs start count e.1 q

-- a place lies where runs do
pub place_fits : (top : ℕ) (runs : List Run) (need step start : ℕ) → AreApart 0 runs → All (λ run. run.first + run.len ≤ top) runs → 1 ≤ need → 1 ≤ step
    → IsPlace (InRuns runs) need step start → start + rounded need step ≤ top
place_fits top runs need step start a within more some p =
    cover_fits top runs start (rounded need step) (recursion_from_All (λ (run : Run). run.first + run.len ≤ top) runs within) (place_covers runs need step start a more some p)
