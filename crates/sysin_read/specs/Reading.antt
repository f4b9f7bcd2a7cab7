-- What is read of a text so far, and the tokens that lead to it.
use Rattle.std.specs.Prelude.{◌≡◌, ◌↔◌, ℕ, ◌+◌, ◌<◌, ◌≤◌, Bool, true, false, List, [], ◌∷◌, ◌++◌, length, reverse}
use Rattle.sysin_text.specs.declared.token.Placed.{Placed}
use Rattle.sysin_words.specs.declared.lead.Lead.TheVariants as leads
use Rattle.sysin_lang.specs.Flow.{Plan}
use Rattle.sysin_lang.specs.declared.script.Step.{Step}
use Rattle.sysin_lang.specs.Script.{first_plan}
use Rattle.sysin_heads.specs.declared.head.Head.{Head}
use Rattle.sysin_heads.specs.Reading.{Reads as HeadReads, Gives as HeadGives}
use Rattle.sysin_commands.specs.CommandProgress.{CommandReads}
use Rattle.sysin_read.specs.declared.outline.Frame.{Frame}
use Rattle.sysin_read.specs.declared.outline.Frame.TheVariants as frames
use Rattle.sysin_read.specs.declared.outline.Outline.{Outline}
use Rattle.sysin_read.specs.declared.text.TextPlace.{TextPlace}
use Rattle.sysin_read.specs.declared.text.TextPlace.TheVariants as places
use Rattle.sysin_read.specs.declared.text.TextReading.{TextReading}
use Rattle.sysin_read.specs.Statement.{most_nested, most_commands, tokens_of, StartNone, IsLead, IsText}
use Rattle.sysin_read.specs.Rest.{plans_before, Rest, StatementRest, BlockRest}

-- the IFs and DOs that aren't ended, the innermost first
abbrev pub open_in : Outline → List Frame
open_in outline = reverse outline.frames

-- so many IFs and DOs may stand in these yet, and there are no more commands than there may be
abbrev pub IsWithin : ℕ → Outline → Type 0
IsWithin room outline = (room + length (open_in outline) ≡ most_nested) × (outline.commands ≤ most_commands)

-- a text that begins with these tokens goes on with just such tokens as may stand here, and what runs of it is told by its steps so far; where
-- lists have no limit the same holds, whatever runs
abbrev pub GoesOn : List Step → List Placed → (Bool → List Plan → List Placed → Type 0) → List Placed → Type 0
GoesOn before front May list =
    ((plan : Plan) → IsText true plan (front ++ list) ↔ ((plans : List Plan) × May true plans list × (plan ≡ first_plan (plans_before before plans))))
    × (((plan : Plan) × IsText false plan (front ++ list)) ↔ ((plans : List Plan) × May false plans list))

-- behind these tokens stands what may stand behind a statement, as the one within what is open, or behind DO
abbrev pub LeavesRest : ℕ → Outline → List Placed → Type 0
LeavesRest room outline front =
    (list : List Placed) → GoesOn outline.steps front (λ limited plans rest. Rest limited room (open_in outline) true outline.commands plans rest) list

abbrev pub LeavesStatement : ℕ → Outline → List Placed → Type 0
LeavesStatement room outline front =
    (list : List Placed) → GoesOn outline.steps front (λ limited plans rest. StatementRest limited room (open_in outline) outline.commands plans rest) list

abbrev pub LeavesBlock : ℕ → Outline → List Placed → Type 0
LeavesBlock room outline front =
    (list : List Placed) → GoesOn outline.steps front (λ limited plans rest. BlockRest limited room (open_in outline) outline.commands plans rest) list

-- behind these tokens this one begins a statement within what is open
abbrev pub BeginsStatement : ℕ → Outline → List Placed → Placed → Type 0
BeginsStatement room outline front first =
    (list : List Placed) → GoesOn outline.steps front (λ limited plans rest. StatementRest limited room (open_in outline) outline.commands plans rest) (first ∷ list)

-- a statement is begun: what stands before it, its first token, and more of its line
pub record IsBegun (room : ℕ) (outline : Outline) (before : List Placed) (first : Placed) (more front : List Placed) : Type 0 where
  pub whole : front ≡ before ++ first ∷ more
  pub begins : BeginsStatement room outline before first
  pub line : StartNone more

-- nothing is read
abbrev pub IsFresh : Outline → Type 0
IsFresh outline = (outline.frames ≡ []) × (outline.steps ≡ []) × (outline.commands ≡ 0)

-- an IF has room for its statement
abbrev pub HasRoom : ℕ → Placed → Type 0
HasRoom room first = IsLead leads.If first → 0 < room

abbrev pub ReadsAt : TextPlace → ℕ → Outline → List Placed → Type 0
ReadsAt places.Text room outline front = IsFresh outline × (front ≡ [])
ReadsAt places.Block room outline front = ((outer : List Frame) × (open_in outline ≡ frames.Do ∷ outer)) × LeavesBlock room outline front
ReadsAt places.Part room outline front = LeavesStatement room outline front
ReadsAt places.Ended room outline front = LeavesRest room outline front
ReadsAt (places.Head head) room outline front =
    (before : List Placed) × (first : Placed) × (more : List Placed) × IsBegun room outline before first more front × HeadReads head (tokens_of (first ∷ more))
    × HasRoom room first × ((said : Head) → ¬ HeadGives head said)
ReadsAt (places.Command command) room outline front =
    (before : List Placed) × (first : Placed) × (more : List Placed) × IsBegun room outline before first more front × IsLead (leads.Command command.verb) first
    × CommandReads command (tokens_of more) × (outline.commands < most_commands)

-- these tokens lead to this
abbrev pub TextReads : TextReading → List Placed → Type 0
TextReads reading front = (room : ℕ) × IsWithin room reading.outline × ReadsAt reading.place room reading.outline front

abbrev pub TextIsRead : TextReading → Type 0
TextIsRead reading = (front : List Placed) × TextReads reading front
