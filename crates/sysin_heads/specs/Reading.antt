-- What is read of SET or IF so far.
use Rattle.std.specs.Prelude.{◌≡◌, ◌⊎◌, ℕ, true, List, [], ◌∷◌, Some}
use Rattle.by_rules.specs.declared.criterion.Op.{Op}
use Rattle.sysin_text.specs.declared.token.Token.{Token}
use Rattle.sysin_text.specs.declared.token.Token.TheVariants as tokens
use Rattle.sysin_words.specs.declared.code.Which.{Which}
use Rattle.sysin_words.specs.declared.lead.Lead.TheVariants as leads
use Rattle.sysin_words.specs.Lead.{lead_of, is_then}
use Rattle.sysin_words.specs.Code.{which_of, code_of, op_of}
use Rattle.sysin_values.specs.declared.fault.ValueFault.{ValueFault}
use Rattle.sysin_values.specs.declared.fault.ValueFault.TheVariants as faults
use Rattle.sysin_heads.specs.declared.head.Head.{Head}
use Rattle.sysin_heads.specs.declared.head.Head.TheVariants as heads
use Rattle.sysin_heads.specs.declared.head.HeadPlace.{HeadPlace}
use Rattle.sysin_heads.specs.declared.head.HeadPlace.TheVariants as places
use Rattle.sysin_heads.specs.Head.{IsHead}

-- a word for which this function has this value
abbrev pub IsWordFor : {X : Type 0} → (List ℕ → X) → X → Token → Type 0
IsWordFor says value token = (word : List ℕ) × (token ≡ tokens.Word word) × (says word ≡ value)

-- what is read with one more token, where it is right
abbrev pub Goes : HeadPlace → Token → HeadPlace → Type 0
Goes places.Start token new = (IsWordFor lead_of (Some leads.Set) token × (new ≡ places.Set)) ⊎ (IsWordFor lead_of (Some leads.If) token × (new ≡ places.If))
Goes places.Set token new = (which : Which) × IsWordFor which_of (Some which) token × (new ≡ places.SetName which)
Goes (places.SetName which) token new = (token ≡ tokens.Equal) × (new ≡ places.SetSign which)
Goes (places.SetSign which) token new = (code : ℕ) × IsWordFor code_of (Some code) token × (new ≡ places.Ended (heads.Set which code))
Goes places.If token new = (which : Which) × IsWordFor which_of (Some which) token × (new ≡ places.IfName which)
Goes (places.IfName which) token new = (op : Op) × (op_of token ≡ Some op) × (new ≡ places.IfOp which op)
Goes (places.IfOp which op) token new = (code : ℕ) × IsWordFor code_of (Some code) token × (new ≡ places.IfCode which op code)
Goes (places.IfCode which op code) token new = IsWordFor is_then true token × (new ≡ places.Ended (heads.If which op code))
Goes (places.Ended head) token new = ⊥

-- where a code stands
abbrev pub WantsCode : HeadPlace → Type 0
WantsCode (places.SetSign which) = Unit {0}
WantsCode (places.IfOp which op) = Unit {0}
WantsCode _ = ⊥

abbrev pub IsWordToken : Token → Type 0
IsWordToken token = (word : List ℕ) × (token ≡ tokens.Word word)

-- why a token is wrong: a word where a code stands that is none, or any other
abbrev pub Stops : HeadPlace → Token → ValueFault → Type 0
Stops old token faults.Value = ((new : HeadPlace) → ¬ Goes old token new) × WantsCode old × IsWordToken token
Stops old token faults.Word = ((new : HeadPlace) → ¬ Goes old token new) × ¬ (WantsCode old × IsWordToken token)
Stops old token _ = ⊥

-- what is said, where it ends
abbrev pub Gives : HeadPlace → Head → Type 0
Gives place head = place ≡ places.Ended head

-- the tokens that lead to this
abbrev pub Reads : HeadPlace → List Token → Type 0
Reads places.Start text = text ≡ []
Reads places.Set text = (set : List ℕ) × (text ≡ tokens.Word set ∷ []) × (lead_of set ≡ Some leads.Set)
Reads (places.SetName which) text =
    (set : List ℕ) × (name : List ℕ) × (text ≡ tokens.Word set ∷ tokens.Word name ∷ []) × (lead_of set ≡ Some leads.Set) × (which_of name ≡ Some which)
Reads (places.SetSign which) text =
    (set : List ℕ) × (name : List ℕ) × (text ≡ tokens.Word set ∷ tokens.Word name ∷ tokens.Equal ∷ []) × (lead_of set ≡ Some leads.Set) × (which_of name ≡ Some which)
Reads places.If text = (if' : List ℕ) × (text ≡ tokens.Word if' ∷ []) × (lead_of if' ≡ Some leads.If)
Reads (places.IfName which) text =
    (if' : List ℕ) × (name : List ℕ) × (text ≡ tokens.Word if' ∷ tokens.Word name ∷ []) × (lead_of if' ≡ Some leads.If) × (which_of name ≡ Some which)
Reads (places.IfOp which op) text =
    (if' : List ℕ) × (name : List ℕ) × (compared : Token) × (text ≡ tokens.Word if' ∷ tokens.Word name ∷ compared ∷ [])
    × (lead_of if' ≡ Some leads.If) × (which_of name ≡ Some which) × (op_of compared ≡ Some op)
Reads (places.IfCode which op code) text =
    (if' : List ℕ) × (name : List ℕ) × (compared : Token) × (value : List ℕ) × (text ≡ tokens.Word if' ∷ tokens.Word name ∷ compared ∷ tokens.Word value ∷ [])
    × (lead_of if' ≡ Some leads.If) × (which_of name ≡ Some which) × (op_of compared ≡ Some op) × (code_of value ≡ Some code)
Reads (places.Ended head) text = IsHead true head text
