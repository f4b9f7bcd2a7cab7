-- Why a text is refused.
use Rattle.std.specs.Prelude.{ℕ, List}
use Rattle.dsn_filter.specs.declared.fault.NameFault.{NameFault}
use Rattle.dsn_filter.specs.declared.fault.NameFault.TheVariants.{BadName, BadPattern, NoMemory}
use Rattle.dsn_filter.specs.Text.{IsText, IsFirstWrong}
use Rattle.dsn_filter.specs.Qualifier.{IsPatternPart}
use Rattle.dsn_filter.specs.Dsn.{IsNameText}
use Rattle.dsn_filter.specs.OneQualifier.{IsQualifierText}

-- a text is no name, from this place on
abbrev pub IsNameFault : List ℕ → NameFault → Type 0
IsNameFault text (BadName place) = IsFirstWrong IsNameText text place
IsNameFault text _ = ⊥

-- a text isn't one qualifier, from this place on
abbrev pub IsQualifierFault : List ℕ → NameFault → Type 0
IsQualifierFault text (BadName place) = IsFirstWrong IsQualifierText text place
IsQualifierFault text _ = ⊥

-- a text is no pattern, from this place on, or memory ran out
abbrev pub IsPatternFault : List ℕ → NameFault → Type 0
IsPatternFault text (BadPattern place) = IsFirstWrong (IsText IsPatternPart) text place
IsPatternFault text NoMemory = Unit {0}
IsPatternFault text _ = ⊥
