-- Units with rendered changes in place fit the fills that they fitted.
use Rattle.std.proofs.Common.{◌≡◌, ⊎_elim, inl, inr, ℕ, ◌<◌, Bool, false, List, [], ◌∷◌, length, All, Some, sym, subst, ◌∙◌, arith}
use Rattle.std.specs.Prelude.{slice_get, slice_set}
use Rattle.std.proofs.lemmas.Bool.{cases_eq}
use Rattle.std.proofs.lemmas.List.{length-set}
use Rattle.std.proofs.lemmas.List.Elements.{All-nil, All-cons, All-head, All-tail}
use Rattle.std.proofs.lemmas.Option.{same_Some, slice_get_cases, slice_get_within}
use Rattle.dasd_pool.proofs.Slices.{get_set, get_set_other}
use Rattle.redo_core.specs.Reading.{fills_of}
use Rattle.vtoc_core.specs.declared.volume.Volume.{Volume}
use Rattle.volume_change.specs.declared.change.Change.{Change}
use Rattle.unit_change.specs.vtoc_render.declared.change.Rendered.{Rendered}
use Rattle.unit_load.specs.declared.state.UnitState.{UnitState}
use Rattle.unit_load.specs.declared.state.UnitState.TheVariants.{Online}
use Rattle.unit_load.specs.State.{FitsFill}
use Rattle.unit_steps.specs.Laws.{SwitchedUnitsKeepFills}
use Rattle.unit_steps.specs.Loaded.{HaveFills}
use Rattle.unit_steps.specs.Rendering.{WereRendered, units_after}

-- no fill is open on the unit of a change
abbrev IsClosed : List Bool → ℕ × Change → Type 0
IsClosed fills change = fills_of fills change.0 ≡ false

-- an online volume stands on a unit on which no fill is open
set_fits : (fills : List Bool) (units : List UnitState) (unit : ℕ) (next : Volume) → fills_of fills unit ≡ false → HaveFills fills units
    → HaveFills fills (slice_set units unit (Online next))
set_fits fills units unit next closed fit u state there = elim (cases_eq u unit) [
  | inl same ↦
      let here : slice_get (slice_set units unit (Online next)) unit ≡ Some state =
      subst (λ (n : ℕ). slice_get (slice_set units unit (Online next)) n ≡ Some state) same there in
      let within : unit < length units =
      omega (arith, slice_get_within (slice_set units unit (Online next)) unit state here, length-set units unit (Online next)) in
      let old : (was : UnitState) × (slice_get units unit ≡ Some was) =
      ⊎_elim (λ inside. (inside.0, inside.2)) (λ past. absurd (omega (arith, within, past.0))) (slice_get_cases units unit).1 in
      let is : Online next ≡ state = same_Some (Online next) state (sym (get_set units unit (Online next) old.0 old.1) ∙ here) in
      subst (λ (n : ℕ). FitsFill (fills_of fills n) state) (sym same) (subst (FitsFill (fills_of fills unit)) is closed)
  | inr apart ↦ fit u state (sym (get_set_other units unit u (Online next) apart) ∙ there)
]

-- changes are rendered on online units alone
all_closed : (fills : List Bool) (units : List UnitState) (vtocs : List (List ℕ)) → HaveFills fills units → (changes : List (ℕ × Change)) (rendered : List Rendered)
    → WereRendered units vtocs changes rendered → All (IsClosed fills) changes
all_closed fills units vtocs fit [] [] were = All-nil (IsClosed fills)
all_closed fills units vtocs fit [] (one ∷ more) were = absurd were
all_closed fills units vtocs fit (change ∷ changes) [] were = absurd were
all_closed fills units vtocs fit (change ∷ changes) (one ∷ more) were =
    All-cons (IsClosed fills) change changes (fit change.0 (Online were.0.volume) were.0.loaded) (all_closed fills units vtocs fit changes more were.1)

after_fits : (fills : List Bool) (units : List UnitState) (changes : List (ℕ × Change)) (rendered : List Rendered) → HaveFills fills units → All (IsClosed fills) changes
    → HaveFills fills (units_after units changes rendered)
after_fits fills units [] [] fit closed = fit
after_fits fills units [] (one ∷ more) fit closed = fit
after_fits fills units (change ∷ changes) [] fit closed = fit
after_fits fills units (change ∷ changes) (one ∷ more) fit closed =
    after_fits fills (slice_set units change.0 (Online one.next)) changes more (set_fits fills units change.0 one.next (All-head (IsClosed fills) change changes closed) fit)
    (All-tail (IsClosed fills) change changes closed)

pub switched_keep_fills : SwitchedUnitsKeepFills
switched_keep_fills fills units vtocs changes rendered fit were = after_fits fills units changes rendered fit (all_closed fills units vtocs fit changes rendered were)
