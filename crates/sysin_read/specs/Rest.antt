-- What may stand behind the front of a text.
use Rattle.std.specs.Prelude.{◌≡◌, ◌⊎◌, ℕ, suc, ◌≤◌, Bool, true, false, List, [], ◌∷◌, ◌++◌}
use Rattle.sysin_text.specs.declared.token.Placed.{Placed}
use Rattle.sysin_lang.specs.Flow.{Plan, Done}
use Rattle.sysin_lang.specs.declared.script.Step.{Step}
use Rattle.sysin_lang.specs.Script.{plans_at}
use Rattle.sysin_read.specs.declared.outline.Frame.{Frame}
use Rattle.sysin_read.specs.declared.outline.Frame.TheVariants as frames
use Rattle.sysin_read.specs.Statement.{most_commands, StartsLine, IsElse, IsEnd, IsStatement, IsBlock}

-- what may run from steps on, and from behind each bracket that ends what they stand in, where so much may run behind them
abbrev pub plans_before : List Step → List Plan → List Plan
plans_before [] plans = plans
plans_before (step ∷ more) plans = plans_at step (plans_before more plans)

-- a statement, and more behind it
pub record IsStatementAnd (limited : Bool) (room count : ℕ) (plan next : Plan) (Behind : Bool → ℕ → List Placed → Type 0) (list : List Placed) : Type 0 where
  pub first : List Placed
  pub more : List Placed
  pub after : ℕ
  pub closed : Bool
  pub whole : list ≡ first ++ more
  pub statement : IsStatement limited room count after closed plan next first
  pub behind : Behind closed after more

-- statements that may stand so, END, and more behind it
pub record IsBlockAnd (May : List Placed → Type 0) (limited : Bool) (room count : ℕ) (plan next : Plan) (Behind : ℕ → List Placed → Type 0) (list : List Placed) : Type 0 where
  pub inner : List Placed
  pub end : Placed
  pub more : List Placed
  pub after : ℕ
  pub whole : list ≡ inner ++ end ∷ more
  pub may : May inner
  pub block : IsBlock limited room count after plan next inner
  pub ends : IsEnd end
  pub behind : Behind after more

-- ELSE, a statement, and more behind it
abbrev pub IsElseAnd : Bool → ℕ → ℕ → Plan → Plan → (Bool → ℕ → List Placed → Type 0) → List Placed → Type 0
IsElseAnd limited room count plan next Behind list =
    (else' : Placed) × (more : List Placed) × (list ≡ else' ∷ more) × IsElse else' × IsStatementAnd limited room count plan next Behind more

-- what may stand behind a statement within these IFs and DOs, the innermost first, where an ELSE may be of the innermost IF or may not, and
-- so many commands stand before it; with what may run from here on, and from behind each bracket that ends what is open
abbrev pub Rest : Bool → ℕ → List Frame → Bool → ℕ → List Plan → List Placed → Type 0
Rest limited room [] closed count plans list =
    (plan : Plan) × (after : ℕ) × (plans ≡ plan ∷ []) × StartsLine list × IsBlock limited room count after plan Done list × (after ≤ most_commands)
Rest limited room (frames.Then ∷ outer) closed count plans list =
    (plan : Plan) × (other : Plan) × (behind : List Plan) × (plans ≡ plan ∷ other ∷ plan ∷ behind)
    × (((other ≡ plan) × Rest limited (suc room) outer false count (plan ∷ behind) list)
    ⊎ ((closed ≡ true) × IsElseAnd limited room count other plan (λ shut after more. Rest limited (suc room) outer shut after (plan ∷ behind) more) list))
Rest limited room (frames.Else ∷ outer) closed count plans list =
    (plan : Plan) × (behind : List Plan) × (plans ≡ plan ∷ plan ∷ behind) × Rest limited (suc room) outer closed count (plan ∷ behind) list
Rest limited room (frames.Do ∷ outer) closed count plans list =
    (plan : Plan) × (next : Plan) × (behind : List Plan) × (plans ≡ plan ∷ behind)
    × IsBlockAnd StartsLine limited room count plan next (λ after more. Rest limited (suc room) outer true after (next ∷ behind) more) list

-- what may stand behind THEN and ELSE: a statement, and what may stand behind it
abbrev pub StatementRest : Bool → ℕ → List Frame → ℕ → List Plan → List Placed → Type 0
StatementRest limited room open' count plans list =
    (plan : Plan) × (next : Plan) × (behind : List Plan) × (plans ≡ plan ∷ behind)
    × IsStatementAnd limited room count plan next (λ closed after more. Rest limited room open' closed after (next ∷ behind) more) list

-- what may stand behind DO
abbrev pub BlockRest : Bool → ℕ → List Frame → ℕ → List Plan → List Placed → Type 0
BlockRest limited room [] count plans list = ⊥
BlockRest limited room (frame ∷ outer) count plans list =
    (plan : Plan) × (next : Plan) × (behind : List Plan) × (plans ≡ plan ∷ behind) × (frame ≡ frames.Do)
    × IsBlockAnd (λ inner. Unit {0}) limited room count plan next (λ after more. Rest limited (suc room) outer true after (next ∷ behind) more) list
