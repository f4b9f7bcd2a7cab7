-- Words that say no value.
use Rattle.std.specs.Prelude.{ℕ, List}
use Rattle.sysin_values.specs.declared.fault.ValueFault.{ValueFault}
use Rattle.sysin_values.specs.declared.fault.ValueFault.TheVariants as faults
use Rattle.sysin_values.specs.Values.{SaysPattern}

abbrev pub SaysNone : {X : Type 0} → (List ℕ → X → Type 0) → List ℕ → Type 0
SaysNone {X} Says word = (value : X) → ¬ Says word value

-- why a pattern was not read
abbrev pub IsNoPattern : List ℕ → ValueFault → Type 0
IsNoPattern word faults.Value = SaysNone SaysPattern word
IsNoPattern word faults.NoMemory = Unit {0}
IsNoPattern word _ = ⊥
