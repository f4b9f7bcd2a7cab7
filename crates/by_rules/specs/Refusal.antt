-- The place of the first token that is wrong, where a text spells no criteria.
use Rattle.std.specs.Prelude.{◌≡◌, ◌⊎◌, ℕ, List, [], ◌∷◌, ◌++◌, length}
use Rattle.by_rules.specs.declared.criterion.Criterion.{Criterion}
use Rattle.by_rules.specs.declared.fault.ByFault.{ByFault}
use Rattle.by_rules.specs.declared.fault.ByFault.TheVariants.{BadCriterion, NoMemory}
use Rattle.by_rules.specs.Token.{Symbol, Comma, tokens_of, text_of}
use Rattle.by_rules.specs.Grammar.{Spell}

-- with more behind them the tokens spell criteria
pub record CanGoOn (tokens : List Symbol) : Type 0 where
  pub criteria : List Criterion
  pub rest : List Symbol
  pub spelled : Spell (tokens ++ rest) criteria

-- criteria and a comma, which is right behind the last criterion that there may be too: one more is wrong at its bracket
pub record EndWithComma (tokens : List Symbol) : Type 0 where
  pub criteria : List Criterion
  pub front : List Symbol
  pub comma : tokens ≡ front ++ Comma ∷ []
  pub spelled : Spell front criteria

-- no token of these is wrong
abbrev pub Begin : List Symbol → Type 0
Begin tokens = CanGoOn tokens ⊎ EndWithComma tokens

-- the first token that is wrong stands here
pub record IsWrongAt (text : List ℕ) (place : ℕ) : Type 0 where
  pub front : List Symbol
  pub token : Symbol
  pub behind : List Symbol
  pub tokens : tokens_of text ≡ front ++ token ∷ behind
  pub place_is : place ≡ length (text_of front)
  pub right : Begin front
  pub wrong : ¬ Begin (front ++ token ∷ [])

-- no token is wrong, and the text ends before the criteria do
pub record EndsEarly (text : List ℕ) (place : ℕ) : Type 0 where
  pub place_is : place ≡ length text
  pub right : Begin (tokens_of text)
  pub early : (criteria : List Criterion) → ¬ Spell (tokens_of text) criteria

-- what a refusal says
abbrev pub IsRefusal : List ℕ → ByFault → Type 0
IsRefusal text (BadCriterion place) = IsWrongAt text place ⊎ EndsEarly text place
IsRefusal text NoMemory = Unit {0}
