-- Which tokens spell SET, and IF up to its THEN.
use Rattle.std.specs.Prelude.{◌≡◌, ℕ, Bool, true, List, [], ◌∷◌, Some}
use Rattle.by_rules.specs.declared.criterion.Op.{Op}
use Rattle.sysin_text.specs.declared.token.Token.{Token}
use Rattle.sysin_text.specs.declared.token.Token.TheVariants as tokens
use Rattle.sysin_words.specs.declared.code.Which.{Which}
use Rattle.sysin_words.specs.declared.lead.Lead.TheVariants as leads
use Rattle.sysin_words.specs.Lead.{lead_of, is_then}
use Rattle.sysin_words.specs.Code.{which_of, code_of, op_of}
use Rattle.sysin_heads.specs.declared.head.Head.{Head}
use Rattle.sysin_heads.specs.declared.head.Head.TheVariants as heads

-- SET which = code
abbrev pub IsSet : Which → ℕ → List Token → Type 0
IsSet which code text =
    (set : List ℕ) × (name : List ℕ) × (value : List ℕ) × (text ≡ tokens.Word set ∷ tokens.Word name ∷ tokens.Equal ∷ tokens.Word value ∷ [])
    × (lead_of set ≡ Some leads.Set) × (which_of name ≡ Some which) × (code_of value ≡ Some code)

-- IF which op code THEN
abbrev pub IsIf : Which → Op → ℕ → List Token → Type 0
IsIf which op code text =
    (if' : List ℕ) × (name : List ℕ) × (compared : Token) × (value : List ℕ) × (then' : List ℕ)
    × (text ≡ tokens.Word if' ∷ tokens.Word name ∷ compared ∷ tokens.Word value ∷ tokens.Word then' ∷ [])
    × (lead_of if' ≡ Some leads.If) × (which_of name ≡ Some which) × (op_of compared ≡ Some op) × (code_of value ≡ Some code) × (is_then then' ≡ true)

-- no list is in them that could have a limit
abbrev pub IsHead : Bool → Head → List Token → Type 0
IsHead limited (heads.Set which code) text = IsSet which code text
IsHead limited (heads.If which op code) text = IsIf which op code text
