-- What stands behind a keyword.
use Rattle.std.specs.Prelude.{◌≡◌, ◌⊎◌, ℕ, Bool, List, [], ◌∷◌, ◌++◌, Option, Some, None, codes}
use Rattle.vol_label.specs.declared.serial.Serial.{Serial}
use Rattle.dd_names.specs.declared.dd.DdName.{DdName}
use Rattle.by_rules.specs.declared.criterion.Criterion.{Criterion}
use Rattle.dsn_filter.specs.declared.rename.Rename.{Rename}
use Rattle.sysin_text.specs.declared.token.Token.{Token}
use Rattle.sysin_text.specs.declared.token.Token.TheVariants as tokens
use Rattle.sysin_words.specs.declared.keyword.Keyword.{Keyword}
use Rattle.sysin_words.specs.declared.keyword.Keyword.TheVariants as keywords
use Rattle.sysin_words.specs.declared.lead.Verb.{Verb}
use Rattle.sysin_words.specs.declared.lead.Verb.TheVariants as verbs
use Rattle.sysin_words.specs.Keyword.{keyword_of}
use Rattle.sysin_forms.specs.declared.operand.Operand.{Operand}
use Rattle.sysin_forms.specs.declared.operand.Operand.TheVariants as operands
use Rattle.sysin_values.specs.Values.{SaysSerial, SaysDdName, SaysNumber, IsPatterns, IsOutputs, IsCriteria, IsRename, IsWaiting}
use Rattle.sysin_operands.specs.declared.bracket.Single.{Single}
use Rattle.sysin_operands.specs.declared.bracket.Single.TheVariants as singles
use Rattle.sysin_operands.specs.declared.bracket.Bracket.{Bracket}
use Rattle.sysin_operands.specs.declared.bracket.Bracket.TheVariants as brackets

-- ---- keywords

-- the operand that a keyword is alone
abbrev pub alone_of : Keyword → Option Operand
alone_of keywords.Vtoc = Some operands.Vtoc
alone_of keywords.Full = Some operands.Full
alone_of keywords.Delete = Some operands.Delete
alone_of keywords.Purge = Some operands.Purge
alone_of keywords.Reset = Some operands.Reset
alone_of keywords.Replace = Some operands.Replace
alone_of _ = None

-- what INDD names: a dump for RESTORE, and a volume for the others
abbrev pub input_of : Verb → Single
input_of verbs.Restore = singles.Input
input_of _ = singles.Unit

-- what OUTDD names: dumps for DUMP, and a volume for the others
abbrev pub output_of : Verb → Bracket
output_of verbs.Dump = brackets.Outputs
output_of _ = brackets.Single singles.Target

-- what stands in the brackets of a keyword; those of DATASET hold operands
abbrev pub bracket_of : Verb → Keyword → Option Bracket
bracket_of verb keywords.Input = Some (brackets.Single (input_of verb))
bracket_of verb keywords.LogicalInput = Some (brackets.Single singles.LogicalUnit)
bracket_of verb keywords.Output = Some (output_of verb)
bracket_of verb keywords.Include = Some brackets.Include
bracket_of verb keywords.Exclude = Some brackets.Exclude
bracket_of verb keywords.By = Some brackets.By
bracket_of verb keywords.Index = Some (brackets.Single singles.Index)
bracket_of verb keywords.Limit = Some (brackets.Single singles.Limit)
bracket_of verb keywords.Rename = Some brackets.Rename
bracket_of verb keywords.Tolerate = Some (brackets.Single singles.Tolerate)
bracket_of verb keywords.Wait = Some brackets.Wait
bracket_of verb keywords.Optimize = Some (brackets.Single singles.Optimize)
bracket_of verb _ = None

-- ---- what it says

-- what one word says
abbrev pub SaysSingle : Single → List ℕ → Operand → Type 0
SaysSingle singles.Unit word operand = (unit : Serial) × SaysSerial word unit × (operand ≡ operands.Unit unit)
SaysSingle singles.LogicalUnit word operand = (unit : Serial) × SaysSerial word unit × (operand ≡ operands.LogicalUnit unit)
SaysSingle singles.Input word operand = (input : DdName) × SaysDdName word input × (operand ≡ operands.Input input)
SaysSingle singles.Target word operand = (unit : Serial) × SaysSerial word unit × (operand ≡ operands.Target unit)
SaysSingle singles.Index word operand = (number : ℕ) × SaysNumber 1 999 word number × (operand ≡ operands.Index number)
SaysSingle singles.Limit word operand = (number : ℕ) × SaysNumber 1 65535 word number × (operand ≡ operands.Limit number)
SaysSingle singles.Tolerate word operand = (word ≡ codes "ENQF") × (operand ≡ operands.Tolerate)
SaysSingle singles.Optimize word operand = ((number : ℕ) × SaysNumber 1 4 word number) × (operand ≡ operands.Optimize)

-- what the tokens in brackets say
abbrev pub IsContent : Bracket → Bool → Operand → List Token → Type 0
IsContent (brackets.Single single) limited operand text = (word : List ℕ) × (text ≡ tokens.Word word ∷ []) × SaysSingle single word operand
IsContent brackets.Include limited operand text = (patterns : List (List (List ℕ))) × IsPatterns limited patterns text × (operand ≡ operands.Include patterns)
IsContent brackets.Exclude limited operand text = (patterns : List (List (List ℕ))) × IsPatterns limited patterns text × (operand ≡ operands.Exclude patterns)
IsContent brackets.By limited operand text = (criteria : List Criterion) × IsCriteria limited criteria text × (operand ≡ operands.By criteria)
IsContent brackets.Outputs limited operand text = (names : List DdName) × IsOutputs limited names text × (operand ≡ operands.Outputs names)
IsContent brackets.Rename limited operand text = (rename : Rename) × IsRename limited rename text × (operand ≡ operands.Rename rename)
IsContent brackets.Wait limited operand text = IsWaiting text × (operand ≡ operands.Wait)

-- ---- an operand

-- a keyword alone
abbrev pub IsAlone : Keyword → List Token → Type 0
IsAlone keyword text = (word : List ℕ) × (text ≡ tokens.Word word ∷ []) × (keyword_of word ≡ Some keyword)

-- a keyword with something in brackets behind it
pub record IsBracketed (keyword : Keyword) (Inside : List Token → Type 0) (text : List Token) : Type 0 where
  pub word : List ℕ
  pub content : List Token
  pub tokens : text ≡ tokens.Word word ∷ tokens.Open ∷ (content ++ tokens.Close ∷ [])
  pub spelled : keyword_of word ≡ Some keyword
  pub inside : Inside content

-- an operand of a command with this verb that isn't DATASET
abbrev pub IsPlainOperand : Verb → Bool → Operand → List Token → Type 0
IsPlainOperand verb limited operand text =
    ((keyword : Keyword) × (alone_of keyword ≡ Some operand) × IsAlone keyword text)
    ⊎ ((keyword : Keyword) × (bracket : Bracket) × (bracket_of verb keyword ≡ Some bracket) × IsBracketed keyword (IsContent bracket limited operand) text)
