-- What holds of names and patterns whatever reads them.
use Rattle.std.specs.Prelude.{◌≡◌, ℕ, List}
use Rattle.dsn_filter.specs.declared.dsn.Dsn.{Dsn}
use Rattle.dsn_filter.specs.declared.rename.Rename.{Rename}
use Rattle.dsn_filter.specs.Text.{capitals, qualifiers, IsSpelled, IsText, IsFirstWrong}
use Rattle.dsn_filter.specs.Qualifier.{IsQualifier, IsPatternPart}
use Rattle.dsn_filter.specs.Dsn.{text_of, IsNameText, IsDsn}
use Rattle.dsn_filter.specs.Rename.{Renames}

-- the qualifiers that a name is spelled by are what stands between its dots
abbrev pub OneSpelling : Type 0
OneSpelling = (spelled : List (List ℕ)) (text : List ℕ) → IsSpelled IsQualifier spelled text → qualifiers (capitals text) ≡ spelled

-- so are those of a pattern
abbrev pub OnePattern : Type 0
OnePattern = (spelled : List (List ℕ)) (text : List ℕ) → IsSpelled IsPatternPart spelled text → qualifiers (capitals text) ≡ spelled

-- a name is told by its characters
abbrev pub OneName : Type 0
OneName = (left right : Dsn) → IsDsn left → IsDsn right → text_of left ≡ text_of right → left ≡ right

-- a text that is no name is so from one place on
abbrev pub OnePlace : Type 0
OnePlace = (text : List ℕ) (place other : ℕ) → IsFirstWrong IsNameText text place → IsFirstWrong IsNameText text other → place ≡ other

-- so is one that is no pattern
abbrev pub OnePatternPlace : Type 0
OnePatternPlace = (text : List ℕ) (place other : ℕ) → IsFirstWrong (IsText IsPatternPart) text place → IsFirstWrong (IsText IsPatternPart) text other → place ≡ other

-- a rename makes one new name of a name
abbrev pub OneRename : Type 0
OneRename = (rename : Rename) (name : Dsn) (left right : List ℕ) → Renames rename name left → Renames rename name right → left ≡ right
