-- Which tokens spell the statements of a text, and what may run of them.
use Rattle.std.specs.Prelude.{◌≡◌, ℕ, suc, ◌+◌, ◌≤◌, Bool, true, false, List, [], ◌∷◌, ◌++◌, map, All, Some}
use Rattle.by_rules.specs.declared.criterion.Op.{Op}
use Rattle.sysin_text.specs.declared.token.Token.{Token}
use Rattle.sysin_text.specs.declared.token.Token.TheVariants as tokens
use Rattle.sysin_text.specs.declared.token.Placed.{Placed}
use Rattle.sysin_words.specs.declared.code.Which.{Which}
use Rattle.sysin_words.specs.declared.lead.Verb.{Verb}
use Rattle.sysin_words.specs.declared.lead.Lead.{Lead}
use Rattle.sysin_words.specs.declared.lead.Lead.TheVariants as leads
use Rattle.sysin_words.specs.Lead.{lead_of, is_else, is_end}
use Rattle.sysin_lang.specs.declared.command.Command.{Command}
use Rattle.sysin_lang.specs.Flow.{Plan, Done, Run, Set, Choose}
use Rattle.sysin_heads.specs.Head.{IsSet, IsIf}
use Rattle.sysin_commands.specs.Command.{IsCommand}

-- IFs and DOs within one another, and commands of a text, at most
abbrev pub most_nested : ℕ
most_nested = 16

abbrev pub most_commands : ℕ
most_commands = 999

-- tokens without their places
abbrev pub tokens_of : List Placed → List Token
tokens_of list = map (λ placed. placed.token) list

-- none of these tokens starts a line
abbrev pub StartNone : List Placed → Type 0
StartNone list = All (λ placed. placed.starts ≡ false) list

-- these tokens are a line's: the first may start it, and no other does
abbrev pub IsLine : List Placed → List Token → Type 0
IsLine [] text = text ≡ []
IsLine (first ∷ rest) text = StartNone rest × (first.token ∷ tokens_of rest ≡ text)

-- the first of these tokens, if there is one, starts a line
abbrev pub StartsLine : List Placed → Type 0
StartsLine [] = Unit {0}
StartsLine (first ∷ rest) = first.starts ≡ true

-- a word with which a statement begins so
abbrev pub IsLead : Lead → Placed → Type 0
IsLead lead placed = (word : List ℕ) × (placed.token ≡ tokens.Word word) × (lead_of word ≡ Some lead)

abbrev pub IsElse : Placed → Type 0
IsElse placed = (word : List ℕ) × (placed.token ≡ tokens.Word word) × (is_else word ≡ true)

abbrev pub IsEnd : Placed → Type 0
IsEnd placed = (word : List ℕ) × (placed.token ≡ tokens.Word word) × (is_end word ≡ true)

-- a verb and the operands of a command, in one line
abbrev pub IsCommandLine : Bool → Command → List Placed → Type 0
IsCommandLine limited command list =
    (verb : Verb) × (first : Placed) × (rest : List Placed) × (list ≡ first ∷ rest) × IsLead (leads.Command verb) first × StartNone rest
    × IsCommand verb limited command (tokens_of rest)

mutual
  -- a statement within which so many IFs and DOs may stand in one another, before and through which there are so many commands; whether an
  -- ELSE behind it is of no IF in it; what may run from it on, and what behind it; and its tokens. Lists may have their limits
  pub data IsStatement (limited : Bool) : ℕ → ℕ → ℕ → Bool → Plan → Plan → List Placed → Type 0 where
    command : (room before : ℕ) (command : Command) (rest : Plan) (list : List Placed) → IsCommandLine limited command list
        → IsStatement limited room before (before + 1) true (Run (record { number = before + 1; command = command }) rest) rest list
    set : (room before : ℕ) (which : Which) (code : ℕ) (rest : Plan) (list : List Placed) (text : List Token) → IsLine list text → IsSet which code text
        → IsStatement limited room before before true (Set which code rest) rest list
    if_alone : (room before after : ℕ) (closed : Bool) (which : Which) (op : Op) (code : ℕ) (first rest : Plan) (head body : List Placed) (text : List Token)
        → IsLine head text → IsIf which op code text → IsStatement limited room before after closed first rest body
        → IsStatement limited (suc room) before after false (Choose which op code first rest) rest (head ++ body)
    if_else : (room before between after : ℕ) (closed : Bool) (which : Which) (op : Op) (code : ℕ) (first second rest : Plan) (head body other : List Placed) (else' : Placed) (text : List Token)
        → IsLine head text → IsIf which op code text → IsStatement limited room before between true first rest body → IsElse else' → IsStatement limited room between after closed second rest other
        → IsStatement limited (suc room) before after closed (Choose which op code first second) rest (head ++ (body ++ else' ∷ other))
    do_end : (room before after : ℕ) (plan rest : Plan) (do' end : Placed) (list : List Placed)
        → IsLead leads.Do do' → IsBlock limited room before after plan rest list → IsEnd end
        → IsStatement limited (suc room) before after true plan rest (do' ∷ (list ++ end ∷ []))

  -- statements, each of which but the first starts a line
  pub data IsBlock (limited : Bool) : ℕ → ℕ → ℕ → Plan → Plan → List Placed → Type 0 where
    none : (room before : ℕ) (rest : Plan) → IsBlock limited room before before rest rest []
    more : (room before between after : ℕ) (closed : Bool) (plan next rest : Plan) (first list : List Placed)
        → IsStatement limited room before between closed plan next first → StartsLine list → IsBlock limited room between after next rest list
        → IsBlock limited room before after plan rest (first ++ list)

-- the statements of a text
pub record IsText (limited : Bool) (plan : Plan) (list : List Placed) : Type 0 where
  pub count : ℕ
  pub block : IsBlock limited most_nested 0 count plan Done list
  pub few : count ≤ most_commands
