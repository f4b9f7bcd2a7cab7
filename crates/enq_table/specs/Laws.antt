-- What holds of tables and their texts whatever reads them.
use Rattle.std.specs.Prelude.{◌≡◌, ℕ, List, Option}
use Rattle.enq_table.specs.declared.holder.Holder.{Holder}
use Rattle.enq_table.specs.declared.hold.Hold.{Hold}
use Rattle.enq_table.specs.Table.{StandsAgainst, IsFirstHolder}
use Rattle.enq_table.specs.HeldText.{IsHoldLine, TakesAll, IsTextFault}

-- a line holds one thing
abbrev pub OneHold : Type 0
OneHold = (line : List ℕ) (left right : Hold) → IsHoldLine line left → IsHoldLine line right → left ≡ right

-- lines make one table
abbrev pub OneTable : Type 0
OneTable = (before : List Hold) (lines : List (List ℕ)) (left right : List Hold) → TakesAll before lines left → TakesAll before lines right → left ≡ right

-- lines that make a table have no fault
abbrev pub NoFault : Type 0
NoFault = (before : List Hold) (lines : List (List ℕ)) (after : List Hold) (number column : ℕ) → TakesAll before lines after → ¬ IsTextFault before lines number column

-- lines have one fault at most
abbrev pub OneFault : Type 0
OneFault = (before : List Hold) (lines : List (List ℕ)) (n c m d : ℕ) → IsTextFault before lines n c → IsTextFault before lines m d → (n ≡ m) × (c ≡ d)

-- one hold at most is the first that stands against another
abbrev pub OneAgainst : Type 0
OneAgainst = (table : List Hold) (asked : Hold) (left right : Option Holder) → IsFirstHolder (λ held. StandsAgainst held asked) table left → IsFirstHolder (λ held. StandsAgainst held asked) table right → left ≡ right
