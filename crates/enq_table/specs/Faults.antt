-- Why a hold, a release or a text is refused.
use Rattle.std.specs.Prelude.{◌≡◌, ℕ, List, [], All, Some, None}
use Rattle.dsn_filter.specs.declared.dsn.Dsn.{Dsn}
use Rattle.enq_table.specs.declared.fault.EnqFault.{EnqFault}
use Rattle.enq_table.specs.declared.fault.EnqFault.TheVariants.{AlreadyHeld, NotHeld, BadHeld, NoMemory}
use Rattle.enq_table.specs.declared.holder.Holder.{Holder}
use Rattle.enq_table.specs.declared.hold.Hold.{Hold}
use Rattle.enq_table.specs.Holder.{IsHolder}
use Rattle.enq_table.specs.Table.{StandsAgainst, Has, IsFirstHolder}
use Rattle.enq_table.specs.HeldText.{lines_of, IsTextFault, IsLineFault}

-- the first hold that stands against the one asked for is this holder's; or none does, and memory ran out
abbrev pub IsHoldFault : List Hold → Hold → EnqFault → Type 0
IsHoldFault table asked (AlreadyHeld holder) = IsFirstHolder (λ held. StandsAgainst held asked) table (Some holder)
IsHoldFault table asked NoMemory = IsFirstHolder (λ held. StandsAgainst held asked) table None
IsHoldFault table asked _ = ⊥

-- a holder that is told of is one
abbrev pub TellsHolder : EnqFault → Type 0
TellsHolder (AlreadyHeld holder) = IsHolder holder
TellsHolder _ = Unit {0}

-- the holder doesn't have the name
abbrev pub IsReleaseFault : List Hold → Dsn → Holder → EnqFault → Type 0
IsReleaseFault table name holder NotHeld = All (λ held. ¬ Has name holder held) table
IsReleaseFault table name holder _ = ⊥

-- a line of the text isn't taken, or memory ran out
abbrev pub IsHeldFault : List ℕ → EnqFault → Type 0
IsHeldFault text (BadHeld line column) = IsTextFault [] (lines_of text) line column
IsHeldFault text NoMemory = Unit {0}
IsHeldFault text _ = ⊥

-- this line isn't taken, or memory ran out
abbrev pub IsLineRefused : List Hold → ℕ → List ℕ → EnqFault → Type 0
IsLineRefused before number line (BadHeld at column) = (at ≡ number) × IsLineFault before line column
IsLineRefused before number line NoMemory = Unit {0}
IsLineRefused before number line _ = ⊥
