-- A word that has the form of one qualifier.
use Rattle.std.specs.Prelude.{◌-◌, ℕ, List, ◌++◌, ◌≡◌, length, take, replicate}
use Rattle.dsn_filter.specs.declared.qualifier.Qualifier.{Qualifier}
use Rattle.dsn_filter.specs.Text.{capitals}
use Rattle.dsn_filter.specs.Qualifier.{IsQualifier}

-- a text is such a word
abbrev pub IsQualifierText : List ℕ → Type 0
IsQualifierText text = IsQualifier (capitals text)

-- the characters of a word
abbrev pub word_of : Qualifier → List ℕ
word_of word = take word.len word.text

-- what is kept of a text: its capitals, and zeros behind them
abbrev pub qualifier_of : List ℕ → Qualifier
qualifier_of text = record { len = length text; text = capitals text ++ replicate (8 - length text) 0 }

-- a word is kept as its text is
abbrev pub IsOneQualifier : Qualifier → Type 0
IsOneQualifier word = (text : List ℕ) × IsQualifierText text × (word ≡ qualifier_of text)
