-- Who holds a data set: a word of the form of one qualifier.
use Rattle.std.specs.Prelude.{◌≡◌, ◌-◌, ℕ, List, ◌++◌, length, take, replicate}
use Rattle.dsn_filter.specs.Text.{capitals}
use Rattle.dsn_filter.specs.OneQualifier.{IsQualifierText}
use Rattle.enq_table.specs.declared.holder.Holder.{Holder}

-- the characters of a holder
abbrev pub holder_text : Holder → List ℕ
holder_text holder = take holder.len holder.text

-- what is kept of a text: its capitals, and zeros behind them
abbrev pub holder_of : List ℕ → Holder
holder_of text = record { len = length text; text = capitals text ++ replicate (8 - length text) 0 }

-- a holder is kept as its text is
abbrev pub IsHolder : Holder → Type 0
IsHolder holder = (text : List ℕ) × IsQualifierText text × (holder ≡ holder_of text)
