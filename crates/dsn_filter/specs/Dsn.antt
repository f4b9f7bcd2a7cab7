-- A data set name as it is kept.
use Rattle.std.specs.Prelude.{◌≡◌, ℕ, ◌-◌, List, ◌++◌, length, take, replicate}
use Rattle.dsn_filter.specs.declared.dsn.Dsn.{Dsn}
use Rattle.dsn_filter.specs.Text.{capitals, qualifiers, IsText}
use Rattle.dsn_filter.specs.Qualifier.{IsQualifier}

-- the characters of a name
abbrev pub text_of : Dsn → List ℕ
text_of name = take name.len name.text

-- its qualifiers
abbrev pub qualifiers_of : Dsn → List (List ℕ)
qualifiers_of name = qualifiers (text_of name)

-- what is kept of a text: its capitals, and zeros behind them
abbrev pub dsn_of : List ℕ → Dsn
dsn_of text = record { len = length text; text = capitals text ++ replicate (44 - length text) 0 }

-- a text is a data set name
abbrev pub IsNameText : List ℕ → Type 0
IsNameText text = IsText IsQualifier text

-- a name is kept as its text is
abbrev pub IsDsn : Dsn → Type 0
IsDsn name = (text : List ℕ) × IsNameText text × (name ≡ dsn_of text)
