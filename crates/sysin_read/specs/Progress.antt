-- What is read of a text with one token more, and what it gives at its end.
use Rattle.std.specs.Prelude.{◌≡◌, ◌⊎◌, ℕ, ◌+◌, ◌<◌, true, false, List, [], ◌∷◌, ◌++◌, length}
use Rattle.sysin_text.specs.declared.token.Placed.{Placed}
use Rattle.sysin_words.specs.declared.lead.Verb.{Verb}
use Rattle.sysin_words.specs.declared.lead.Lead.TheVariants as leads
use Rattle.sysin_lang.specs.declared.command.Command.{Command}
use Rattle.sysin_lang.specs.declared.script.Step.{Step}
use Rattle.sysin_lang.specs.declared.script.Step.TheVariants as steps
use Rattle.sysin_heads.specs.declared.head.Head.TheVariants as heads
use Rattle.sysin_heads.specs.declared.head.HeadPlace.{HeadPlace}
use Rattle.sysin_heads.specs.declared.head.HeadPlace.TheVariants as head_places
use Rattle.sysin_heads.specs.Reading.{Goes as HeadGoes}
use Rattle.sysin_commands.specs.declared.command.CommandReading.{CommandReading}
use Rattle.sysin_commands.specs.CommandProgress.{CommandGoes, CommandGives}
use Rattle.sysin_commands.specs.CommandLaws.{start_behind}
use Rattle.sysin_read.specs.declared.outline.Frame.{Frame}
use Rattle.sysin_read.specs.declared.outline.Frame.TheVariants as frames
use Rattle.sysin_read.specs.declared.outline.Outline.{Outline}
use Rattle.sysin_read.specs.declared.text.TextPlace.{TextPlace}
use Rattle.sysin_read.specs.declared.text.TextPlace.TheVariants as places
use Rattle.sysin_read.specs.declared.text.TextReading.{TextReading}
use Rattle.sysin_read.specs.Statement.{most_nested, most_commands, IsLead, IsElse, IsEnd}
use Rattle.sysin_read.specs.Reading.{open_in}
use Rattle.sysin_read.specs.Why.{around, wants_else, EndsCommand}

-- ---- brackets

-- the brackets that end the IFs within the innermost DO
abbrev pub closing : List Frame → List Step
closing [] = []
closing (frames.Then ∷ outer) = steps.Else ∷ steps.End ∷ closing outer
closing (frames.Else ∷ outer) = steps.End ∷ closing outer
closing (frames.Do ∷ outer) = []

-- the brackets up to that of an ELSE, which is of the innermost IF without one
abbrev pub closing_to_else : List Frame → List Step
closing_to_else [] = []
closing_to_else (frames.Then ∷ outer) = steps.Else ∷ []
closing_to_else (frames.Else ∷ outer) = steps.End ∷ closing_to_else outer
closing_to_else (frames.Do ∷ outer) = []

-- what is open around that IF
abbrev pub behind_then : List Frame → List Frame
behind_then [] = []
behind_then (frames.Then ∷ outer) = outer
behind_then (frames.Else ∷ outer) = behind_then outer
behind_then (frames.Do ∷ outer) = []

-- ---- one token more

-- an outline with just this
abbrev pub IsOutline : Outline → List Frame → List Step → ℕ → Type 0
IsOutline outline open' list count = (open_in outline ≡ open') × (outline.steps ≡ list) × (outline.commands ≡ count)

-- a statement begins
abbrev pub StartGoes : Outline → Placed → TextReading → Type 0
StartGoes outline placed new =
    (IsLead leads.Set placed × (new ≡ record { outline = outline; place = places.Head head_places.Set }))
    ⊎ ((IsLead leads.If placed × (length (open_in outline) < most_nested) × (new ≡ record { outline = outline; place = places.Head head_places.If }))
    ⊎ ((IsLead leads.Do placed × (length (open_in outline) < most_nested) × (new.place ≡ places.Block)
    × IsOutline new.outline (frames.Do ∷ open_in outline) outline.steps outline.commands)
    ⊎ ((verb : Verb) × IsLead (leads.Command verb) placed × (outline.commands < most_commands)
    × (new ≡ record { outline = outline; place = places.Command (start_behind verb) }))))

-- behind a statement: ELSE, END, or the first token of another statement
abbrev pub ElseGoes : Outline → Placed → TextReading → Type 0
ElseGoes outline placed new =
    IsElse placed × (wants_else (open_in outline) ≡ true) × (new.place ≡ places.Part)
    × IsOutline new.outline (frames.Else ∷ behind_then (open_in outline)) (outline.steps ++ closing_to_else (open_in outline)) outline.commands

abbrev pub EndGoes : Outline → Placed → TextReading → Type 0
EndGoes outline placed new =
    (outer : List Frame) × IsEnd placed × (around (open_in outline) ≡ frames.Do ∷ outer) × (new.place ≡ places.Ended)
    × IsOutline new.outline outer (outline.steps ++ closing (open_in outline)) outline.commands

abbrev pub NextGoes : Outline → Placed → TextReading → Type 0
NextGoes outline placed new =
    (closed : Outline) × (placed.starts ≡ true) × IsOutline closed (around (open_in outline)) (outline.steps ++ closing (open_in outline)) outline.commands
    × StartGoes closed placed new

abbrev pub EndedGoes : Outline → Placed → TextReading → Type 0
EndedGoes outline placed new = ElseGoes outline placed new ⊎ (EndGoes outline placed new ⊎ NextGoes outline placed new)

-- the front of SET or IF, or all of it
abbrev pub HeadLeads : Outline → HeadPlace → TextReading → Type 0
HeadLeads outline (head_places.Ended (heads.Set which code)) new =
    (new.place ≡ places.Ended) × IsOutline new.outline (open_in outline) (outline.steps ++ steps.Set which code ∷ []) outline.commands
HeadLeads outline (head_places.Ended (heads.If which op code)) new =
    (new.place ≡ places.Part) × IsOutline new.outline (frames.Then ∷ open_in outline) (outline.steps ++ steps.If which op code ∷ []) outline.commands
HeadLeads outline head new = new ≡ record { outline = outline; place = places.Head head }

-- with a command that has ended
abbrev pub IsWithCommand : Outline → Command → Outline → Type 0
IsWithCommand outline command new =
    IsOutline new (open_in outline) (outline.steps ++ steps.Run (record { number = outline.commands + 1; command = command }) ∷ []) (outline.commands + 1)

-- more of a command, or what stands behind it
abbrev pub WithinGoes : Outline → CommandReading → Placed → TextReading → Type 0
WithinGoes outline reading placed new =
    ((¬ EndsCommand reading placed) × ((next : CommandReading) × CommandGoes reading placed.token next × (new ≡ record { outline = outline; place = places.Command next })))
    ⊎ (EndsCommand reading placed × ((command : Command) × (ended : Outline) × CommandGives reading command × IsWithCommand outline command ended × EndedGoes ended placed new))

abbrev pub GoesAt : TextPlace → Outline → Placed → TextReading → Type 0
GoesAt places.Text outline placed new = StartGoes outline placed new
GoesAt places.Part outline placed new = StartGoes outline placed new
GoesAt places.Block outline placed new = EndGoes outline placed new ⊎ StartGoes outline placed new
GoesAt places.Ended outline placed new = EndedGoes outline placed new
GoesAt (places.Head head) outline placed new = (placed.starts ≡ false) × ((next : HeadPlace) × HeadGoes head placed.token next × HeadLeads outline next new)
GoesAt (places.Command reading) outline placed new = WithinGoes outline reading placed new

abbrev pub TextGoes : TextReading → Placed → TextReading → Type 0
TextGoes old placed new = GoesAt old.place old.outline placed new

-- ---- the end

-- no DO is open, and the IFs are ended
abbrev pub EndsWith : Outline → List Step → Type 0
EndsWith outline list = (around (open_in outline) ≡ []) × (list ≡ outline.steps ++ closing (open_in outline))

-- the steps of a text that ends here
abbrev pub GivesAt : TextPlace → Outline → List Step → Type 0
GivesAt places.Text outline list = list ≡ outline.steps
GivesAt places.Ended outline list = EndsWith outline list
GivesAt (places.Command reading) outline list = (command : Command) × (ended : Outline) × CommandGives reading command × IsWithCommand outline command ended × EndsWith ended list
GivesAt _ outline list = ⊥

abbrev pub TextGives : TextReading → List Step → Type 0
TextGives reading list = GivesAt reading.place reading.outline list
