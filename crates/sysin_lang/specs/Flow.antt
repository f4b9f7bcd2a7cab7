-- Which commands run, and how the condition codes go.
use Rattle.std.specs.Prelude.{◌≡◌, ℕ, Bool, not, ◌==◌, nat_lt, nat_le, max, if◌then◌else◌, List, [], ◌∷◌}
use Rattle.by_rules.specs.declared.criterion.Op.{Op}
use Rattle.by_rules.specs.declared.criterion.Op.TheVariants as ops
use Rattle.sysin_lang.specs.declared.command.Statement.{Statement}
use Rattle.sysin_words.specs.declared.code.Which.{Which}
use Rattle.sysin_words.specs.declared.code.Which.TheVariants as whiches

-- the two condition codes
pub record Codes : Type 0 where
  pub lastcc : ℕ
  pub maxcc : ℕ

abbrev pub zero_codes : Codes
zero_codes = record { lastcc = 0; maxcc = 0 }

abbrev pub code_of : Which → Codes → ℕ
code_of whiches.Last codes = codes.lastcc
code_of whiches.Max codes = codes.maxcc

-- SET changes the named code alone
abbrev pub with_code : Which → ℕ → Codes → Codes
with_code whiches.Last code codes = record codes { lastcc = code }
with_code whiches.Max code codes = record codes { maxcc = code }

-- a command's code is the last one then, and the greater of it and the greatest so far the greatest
abbrev pub answered : ℕ → Codes → Codes
answered code codes = record { lastcc = code; maxcc = max codes.maxcc code }

abbrev pub compares : Op → ℕ → ℕ → Bool
compares ops.Equal a b = a == b
compares ops.NotEqual a b = not (a == b)
compares ops.Greater a b = nat_lt b a
compares ops.Less a b = nat_lt a b
compares ops.GreaterOrEqual a b = nat_le b a
compares ops.LessOrEqual a b = nat_le a b

-- what may run from a place on: nothing, a command and more, SET and more, or behind an IF one of two ways
pub data Plan : Type 0 where
  Done : Plan
  Run : Statement → Plan → Plan
  Set : Which → ℕ → Plan → Plan
  Choose : Which → Op → ℕ → Plan → Plan → Plan

-- the next command, with what may run behind it and the codes as they are then; or the codes at the end
pub data Next : Type 0 where
  Command : Statement → Plan → Codes → Next
  End : Codes → Next

abbrev pub next_of : Plan → Codes → Next
next_of Done codes = End codes
next_of (Run statement rest) codes = Command statement rest codes
next_of (Set which code rest) codes = next_of rest (with_code which code codes)
next_of (Choose which op code first second) codes = if compares op (code_of which codes) code then next_of first codes else next_of second codes

-- once these commands have run and answered these codes, this much may run yet
abbrev pub Leaves : Plan → Codes → List (Statement × ℕ) → Plan → Codes → Type 0
Leaves plan codes [] left after = (left ≡ plan) × (after ≡ codes)
Leaves plan codes (ran ∷ more) left after =
    (rest : Plan) × (then' : Codes) × (next_of plan codes ≡ Command ran.0 rest then') × Leaves rest (answered ran.1 then') more left after

-- a whole run: these commands, with the codes that they answered, and the codes at the end
abbrev pub IsRun : Plan → List (Statement × ℕ) → Codes → Type 0
IsRun plan ran end = (left : Plan) × (codes : Codes) × Leaves plan zero_codes ran left codes × (next_of left codes ≡ End end)
