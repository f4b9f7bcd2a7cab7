-- Who holds which data set: the list of the accepted holds in order.
use Rattle.std.specs.Prelude.{◌≡◌, ◌⊎◌, ◌∷◌, ◌++◌, [], Bool, IsTrue, List, Option, Some, None, All, AllPairs}
use Rattle.dsn_filter.specs.declared.dsn.Dsn.{Dsn}
use Rattle.dsn_filter.specs.Dsn.{IsDsn}
use Rattle.enq_table.specs.declared.holder.Holder.{Holder}
use Rattle.enq_table.specs.declared.hold.Mode.{Mode}
use Rattle.enq_table.specs.declared.hold.Mode.TheVariants.{Exclusive}
use Rattle.enq_table.specs.declared.hold.Hold.{Hold}
use Rattle.enq_table.specs.Holder.{IsHolder}

-- a hold of a name by a holder
abbrev pub IsHold : Hold → Type 0
IsHold hold = IsDsn hold.name × IsHolder hold.holder

-- a hold stands against another that is asked for: both are on one name, and they have one holder or one of them is exclusive
abbrev pub StandsAgainst : Hold → Hold → Type 0
StandsAgainst held asked = (held.name ≡ asked.name) × ((held.holder ≡ asked.holder) ⊎ (held.mode ≡ Exclusive) ⊎ (asked.mode ≡ Exclusive))

-- a hold of a name stands against a command: against a change always, against a read where it is exclusive
abbrev pub Conflicts : Dsn → Bool → Hold → Type 0
Conflicts name change held = (held.name ≡ name) × ((held.mode ≡ Exclusive) ⊎ IsTrue change)

-- a holder has the name
abbrev pub Has : Dsn → Holder → Hold → Type 0
Has name holder held = (held.name ≡ name) × (held.holder ≡ holder)

-- the holder of the first hold of which a fact holds, if there is one
abbrev pub IsFirstHolder : (Hold → Type 0) → List Hold → Option Holder → Type 0
IsFirstHolder Fact [] holder = holder ≡ None
IsFirstHolder Fact (held ∷ rest) holder = (Fact held × (holder ≡ Some held.holder)) ⊎ ((¬ Fact held) × IsFirstHolder Fact rest holder)

-- in a table are holds, none of which stands against a later one
pub record IsTable (table : List Hold) : Type 0 where
  pub each : All IsHold table
  pub apart : AllPairs (λ held later. ¬ StandsAgainst held later) table

-- the holder's hold of the name is taken out, and the others stay in order
pub record Releases (name : Dsn) (holder : Holder) (old new : List Hold) : Type 0 where
  pub mode : Mode
  pub front : List Hold
  pub behind : List Hold
  pub before : old ≡ front ++ (record { name = name; mode = mode; holder = holder } ∷ behind)
  pub after : new ≡ front ++ behind
