-- What stands of the units of a session.
use Rattle.std.proofs.Common.{◌≡◌, ℕ, List, Some, false}
use Rattle.std.specs.Prelude.{slice_get}
use Rattle.unit_load.specs.declared.state.UnitState.{UnitState}
use Rattle.unit_load.specs.declared.state.UnitState.TheVariants.{Online}
use Rattle.unit_load.specs.Kept.{IsKept}
use Rattle.job_acts.specs.Acting.{AreSound}

pub are_sound : (head : ℕ → List ℕ) (blocks : ℕ → ℕ) (units : List UnitState)
    → ((unit : ℕ) (state : UnitState) → slice_get units unit ≡ Some state → (slots : List ℕ) × IsKept false (head unit) (blocks unit) state slots) → AreSound units
are_sound head blocks units kept unit volume loaded =
    let slots : (slots : List ℕ) × IsKept false (head unit) (blocks unit) (Online volume) slots = kept unit (Online volume) loaded in
    (head unit, blocks unit, slots.0, slots.1)
