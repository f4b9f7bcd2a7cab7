-- What words and brackets say as values.
use Rattle.std.specs.Prelude.{◌≡◌, ℕ, Bool, List, [], ◌∷◌, map, length, Some}
use Rattle.vol_label.specs.declared.serial.Serial.{Serial}
use Rattle.vol_label.specs.Serial.{IsSerialName, Spells}
use Rattle.dd_names.specs.declared.dd.DdName.{DdName}
use Rattle.dd_names.specs.DdName.{dd_name_of}
use Rattle.dsn_filter.specs.declared.dsn.Dsn.{Dsn}
use Rattle.dsn_filter.specs.declared.rename.Rename.{Rename}
use Rattle.dsn_filter.specs.declared.rename.Rename.TheVariants as renames
use Rattle.dsn_filter.specs.Text.{IsSpelled}
use Rattle.dsn_filter.specs.Qualifier.{IsPatternPart}
use Rattle.dsn_filter.specs.Dsn.{dsn_of, IsNameText}
use Rattle.dsn_filter.specs.OneQualifier.{IsQualifierText}
use Rattle.by_rules.specs.declared.criterion.Criterion.{Criterion}
use Rattle.by_rules.specs.Token as rules
use Rattle.by_rules.specs.Grammar.{IsSequence}
use Rattle.sysin_words.specs.Number.{number_between}
use Rattle.sysin_text.specs.declared.token.Token.{Token}
use Rattle.sysin_text.specs.declared.token.Token.TheVariants as tokens
use Rattle.sysin_values.specs.Series.{IsListOf, IsFew}

-- how many entries a list of patterns, criteria or pairs has at most, and how many outputs a dump
abbrev pub most_entries : ℕ
most_entries = 255

abbrev pub most_outputs : ℕ
most_outputs = 16

-- one word, which says a value
abbrev pub IsWordOf : {X : Type 0} → (List ℕ → X → Type 0) → X → List Token → Type 0
IsWordOf Says x text = (word : List ℕ) × (text ≡ tokens.Word word ∷ []) × Says word x

-- a volume's serial
abbrev pub SaysSerial : List ℕ → Serial → Type 0
SaysSerial word serial = IsSerialName word × Spells word serial.text

-- a DD name
abbrev pub SaysDdName : List ℕ → DdName → Type 0
SaysDdName word name = IsQualifierText word × (name ≡ dd_name_of word)

-- a pattern of data set names
abbrev pub SaysPattern : List ℕ → List (List ℕ) → Type 0
SaysPattern word pattern = IsSpelled IsPatternPart pattern word

-- a data set name
abbrev pub SaysName : List ℕ → Dsn → Type 0
SaysName word name = IsNameText word × (name ≡ dsn_of word)

-- one qualifier, as the first of new names
abbrev pub SaysPrefix : List ℕ → Dsn → Type 0
SaysPrefix word name = IsQualifierText word × (name ≡ dsn_of word)

-- a number within these limits
abbrev pub SaysNumber : ℕ → ℕ → List ℕ → ℕ → Type 0
SaysNumber least most word number = number_between least most word ≡ Some number

abbrev pub IsPatterns : Bool → List (List (List ℕ)) → List Token → Type 0
IsPatterns limited patterns text = IsListOf (IsWordOf SaysPattern) patterns text × IsFew limited most_entries patterns

abbrev pub IsOutputs : Bool → List DdName → List Token → Type 0
IsOutputs limited names text = IsListOf (IsWordOf SaysDdName) names text × IsFew limited most_outputs names

-- a token of criteria; a sign that they don't have is no token of theirs
abbrev pub rule_of : Token → rules.Symbol
rule_of tokens.Open = rules.Open
rule_of tokens.Close = rules.Close
rule_of tokens.Comma = rules.Comma
rule_of (tokens.Word word) = rules.Word word
rule_of (tokens.Other byte) = rules.Other byte
rule_of _ = rules.Other 61

abbrev pub IsCriteria : Bool → List Criterion → List Token → Type 0
IsCriteria limited criteria text = IsSequence criteria (map rule_of text) × IsFew limited most_entries criteria

-- (old,new)
abbrev pub IsPair : Dsn × Dsn → List Token → Type 0
IsPair pair text =
    (old : List ℕ) × (new : List ℕ) × (text ≡ tokens.Open ∷ tokens.Word old ∷ tokens.Comma ∷ tokens.Word new ∷ tokens.Close ∷ [])
    × SaysName old pair.0 × SaysName new pair.1

abbrev pub IsPairs : Bool → List (Dsn × Dsn) → List Token → Type 0
IsPairs limited pairs text = IsListOf IsPair pairs text × IsFew limited most_entries pairs

-- a prefix, or pairs
abbrev pub IsRename : Bool → Rename → List Token → Type 0
IsRename limited renames.Keep text = ⊥
IsRename limited (renames.Prefix prefix) text = IsWordOf SaysPrefix prefix text
IsRename limited (renames.Listed pairs) text = IsPairs limited pairs text

-- two numbers of 32 bits
abbrev pub IsWaiting : List Token → Type 0
IsWaiting text = (numbers : List ℕ) × (length numbers ≡ 2) × IsListOf (IsWordOf (SaysNumber 0 4294967295)) numbers text
