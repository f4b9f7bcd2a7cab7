-- The text of a table of holds: its lines, and what each of them holds.
use Rattle.std.specs.Prelude.{◌≡◌, ◌⊎◌, ◌==◌, ◌&&◌, if◌then◌else◌, ◌+◌, ℕ, List, [], ◌∷◌, ◌++◌, codes, Some, None}
use Rattle.dsn_filter.specs.Text.{capitals, onto_first, IsFirstWrong}
use Rattle.dsn_filter.specs.Dsn.{text_of}
use Rattle.enq_table.specs.declared.holder.Holder.{Holder}
use Rattle.enq_table.specs.declared.hold.Mode.{Mode}
use Rattle.enq_table.specs.declared.hold.Mode.TheVariants.{Shared, Exclusive}
use Rattle.enq_table.specs.declared.hold.Hold.{Hold}
use Rattle.enq_table.specs.Holder.{holder_text}
use Rattle.enq_table.specs.Table.{IsHold, StandsAgainst, IsFirstHolder}

-- a CR right before an LF belongs to the end of the line
abbrev pub without_returns : List ℕ → List ℕ
without_returns [] = []
without_returns (byte ∷ []) = byte ∷ []
without_returns (byte ∷ next ∷ rest) = if (byte == 13) && (next == 10) then without_returns (next ∷ rest) else byte ∷ without_returns (next ∷ rest)

-- what stands between the LFs of a text
abbrev pub between_feeds : List ℕ → List (List ℕ)
between_feeds [] = [] ∷ []
between_feeds (byte ∷ rest) = if byte == 10 then [] ∷ between_feeds rest else onto_first byte (between_feeds rest)

-- the lines of a text, the last of which is empty where the text ends with the end of a line
abbrev pub lines_of : List ℕ → List (List ℕ)
lines_of text = between_feeds (without_returns text)

-- how a mode is written
abbrev pub mode_text : Mode → List ℕ
mode_text Shared = codes "SHR"
mode_text Exclusive = codes "EXC"

-- how a hold is written: mode, name and holder, with one blank between each two
abbrev pub hold_text : Hold → List ℕ
hold_text hold = mode_text hold.mode ++ (32 ∷ (text_of hold.name ++ (32 ∷ holder_text hold.holder)))

-- a line holds this, where small letters are read as capitals
pub record IsHoldLine (line : List ℕ) (hold : Hold) : Type 0 where
  pub lawful : IsHold hold
  pub spells : capitals line ≡ hold_text hold

-- a line is right: it is empty, or holds something
abbrev pub IsLine : List ℕ → Type 0
IsLine line = (line ≡ []) ⊎ ((hold : Hold) × IsHoldLine line hold)

-- a line is taken: an empty one adds nothing to the table, and another its hold, where nothing stands against it
abbrev pub Takes : List Hold → List ℕ → List Hold → Type 0
Takes before line after =
    ((line ≡ []) × (after ≡ before))
    ⊎ ((hold : Hold) × IsHoldLine line hold × IsFirstHolder (λ held. StandsAgainst held hold) before None × (after ≡ before ++ (hold ∷ [])))

-- all lines are taken in order
abbrev pub TakesAll : List Hold → List (List ℕ) → List Hold → Type 0
TakesAll before [] after = after ≡ before
TakesAll before (line ∷ lines) after = (between : List Hold) × Takes before line between × TakesAll between lines after

-- a line isn't taken: it is wrong from a place on, whose column counts from 1, or something stands against its hold, which is told of the name's column
abbrev pub IsLineFault : List Hold → List ℕ → ℕ → Type 0
IsLineFault before line column =
    ((place : ℕ) × IsFirstWrong IsLine line place × (column ≡ place + 1))
    ⊎ ((hold : Hold) × (against : Holder) × IsHoldLine line hold × IsFirstHolder (λ held. StandsAgainst held hold) before (Some against) × (column ≡ 5))

-- the lines before it are taken, and this one, which counts from 1, isn't
abbrev pub IsTextFault : List Hold → List (List ℕ) → ℕ → ℕ → Type 0
IsTextFault before [] number column = ⊥
IsTextFault before (line ∷ lines) number column =
    ((number ≡ 1) × IsLineFault before line column)
    ⊎ ((between : List Hold) × (later : ℕ) × Takes before line between × IsTextFault between lines later column × (number ≡ later + 1))
