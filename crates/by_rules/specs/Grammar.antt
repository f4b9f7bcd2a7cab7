-- Which tokens spell criteria.
use Rattle.std.specs.Prelude.{◌≡◌, ◌⊎◌, ℕ, ◌≤◌, Bool, true, false, ◌||◌, IsTrue, List, [], ◌∷◌, ◌++◌, length, Some, codes, ℤ, pos}
use Rattle.by_rules.specs.declared.criterion.Key.{Key}
use Rattle.by_rules.specs.declared.criterion.Key.TheVariants as keys
use Rattle.by_rules.specs.declared.criterion.Op.{Op}
use Rattle.by_rules.specs.declared.criterion.Op.TheVariants as ops
use Rattle.by_rules.specs.declared.criterion.When.TheVariants as dates
use Rattle.by_rules.specs.declared.criterion.Value.{Value}
use Rattle.by_rules.specs.declared.criterion.Value.TheVariants as values
use Rattle.by_rules.specs.declared.criterion.Criterion.{Criterion}
use Rattle.by_rules.specs.Token.{Symbol, Open, Close, Comma, Word}
use Rattle.by_rules.specs.Words.{key_of, op_of, value_of, shift_of}

abbrev pub is_date : Key → Bool
is_date keys.Created = true
is_date keys.Expires = true
is_date keys.Referred = true
is_date _ = false

abbrev pub is_count : Key → Bool
is_count keys.Extents = true
is_count keys.Tracks = true
is_count _ = false

abbrev pub is_equality : Op → Bool
is_equality ops.Equal = true
is_equality ops.NotEqual = true
is_equality _ = false

-- dates and counts are compared in each way, other facts by 'equal' and 'not equal' alone
abbrev pub is_allowed : Key → Op → Bool
is_allowed key op = is_date key || is_count key || is_equality op

-- the word of a date that says 'today'
abbrev pub star : List ℕ
star = codes "*"

-- a word that says the value
pub record IsWordOf (key : Key) (value : Value) (tokens : List Symbol) : Type 0 where
  pub word : List ℕ
  pub text : tokens ≡ Word word ∷ []
  pub says : value_of key word ≡ Some value

-- (*)
pub record IsTodayText (value : Value) (tokens : List Symbol) : Type 0 where
  pub text : tokens ≡ Open ∷ Word star ∷ Close ∷ []
  pub says : value ≡ values.Date (dates.FromToday (pos 0))

-- (*,n)
pub record IsFromTodayText (value : Value) (tokens : List Symbol) : Type 0 where
  pub word : List ℕ
  pub days : ℤ
  pub text : tokens ≡ Open ∷ Word star ∷ Comma ∷ Word word ∷ Close ∷ []
  pub says : shift_of word ≡ Some days
  pub date : value ≡ values.Date (dates.FromToday days)

-- one value of a key
abbrev pub IsValue : Key → Value → List Symbol → Type 0
IsValue key value tokens = IsWordOf key value tokens ⊎ (IsTrue (is_date key) × (IsTodayText value tokens ⊎ IsFromTodayText value tokens))

-- one or more values, with a comma between two
abbrev pub IsMembers : Key → List Value → List Symbol → Type 0
IsMembers key [] tokens = ⊥
IsMembers key (value ∷ []) tokens = IsValue key value tokens
IsMembers key (value ∷ next ∷ more) tokens =
    (first : List Symbol) × (rest : List Symbol) × (tokens ≡ first ++ Comma ∷ rest) × IsValue key value first × IsMembers key (next ∷ more) rest

-- one value alone
pub record IsAlone (key : Key) (list : List Value) (tokens : List Symbol) : Type 0 where
  pub value : Value
  pub one : list ≡ value ∷ []
  pub text : IsValue key value tokens

-- a list of values in brackets, which 'equal' and 'not equal' may have
pub record IsList (key : Key) (op : Op) (list : List Value) (tokens : List Symbol) : Type 0 where
  pub equality : IsTrue (is_equality op)
  pub members : List Symbol
  pub text : tokens ≡ Open ∷ (members ++ Close ∷ [])
  pub each : IsMembers key list members

abbrev pub IsOperand : Key → Op → List Value → List Symbol → Type 0
IsOperand key op list tokens = IsAlone key list tokens ⊎ IsList key op list tokens

-- (KEY,OP,VALUE)
pub record IsCriterion (criterion : Criterion) (tokens : List Symbol) : Type 0 where
  pub key_word : List ℕ
  pub op_word : List ℕ
  pub operand : List Symbol
  pub text : tokens ≡ Open ∷ Word key_word ∷ Comma ∷ Word op_word ∷ Comma ∷ (operand ++ Close ∷ [])
  pub key : key_of key_word ≡ Some criterion.key
  pub op : op_of op_word ≡ Some criterion.op
  pub allowed : IsTrue (is_allowed criterion.key criterion.op)
  pub compared : IsOperand criterion.key criterion.op criterion.values operand

-- one or more criteria, with a comma between two or none
abbrev pub IsSequence : List Criterion → List Symbol → Type 0
IsSequence [] tokens = ⊥
IsSequence (criterion ∷ []) tokens = IsCriterion criterion tokens
IsSequence (criterion ∷ next ∷ more) tokens =
    (first : List Symbol) × (rest : List Symbol) × ((tokens ≡ first ++ rest) ⊎ (tokens ≡ first ++ Comma ∷ rest))
    × IsCriterion criterion first × IsSequence (next ∷ more) rest

-- no more criteria than this
abbrev pub most_criteria : ℕ
most_criteria = 255

-- the tokens spell these criteria
pub record Spell (tokens : List Symbol) (criteria : List Criterion) : Type 0 where
  pub sequence : IsSequence criteria tokens
  pub few : length criteria ≤ most_criteria
