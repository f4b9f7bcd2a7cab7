-- Why a token is wrong: the first cause that holds, by what is read before it.
use Rattle.std.specs.Prelude.{◌≡◌, ◌⊎◌, ℕ, ◌+◌, ◌≤◌, Bool, true, false, List, [], ◌∷◌, length}
use Rattle.sysin_text.specs.declared.token.Placed.{Placed}
use Rattle.sysin_words.specs.declared.lead.Verb.{Verb}
use Rattle.sysin_words.specs.declared.lead.Lead.{Lead}
use Rattle.sysin_words.specs.declared.lead.Lead.TheVariants as leads
use Rattle.sysin_lang.specs.declared.command.Command.{Command}
use Rattle.sysin_values.specs.declared.fault.ValueFault.{ValueFault}
use Rattle.sysin_values.specs.declared.fault.ValueFault.TheVariants as values
use Rattle.sysin_heads.specs.Reading.{Stops as HeadStops}
use Rattle.sysin_commands.specs.declared.fault.CommandFault.{CommandFault}
use Rattle.sysin_commands.specs.declared.fault.CommandFault.TheVariants as faults
use Rattle.sysin_commands.specs.declared.command.CommandPlace.{CommandPlace}
use Rattle.sysin_commands.specs.declared.command.CommandPlace.TheVariants as command_places
use Rattle.sysin_commands.specs.declared.command.CommandReading.{CommandReading}
use Rattle.sysin_commands.specs.CommandProgress.{CommandStops, CommandGives, Makes}
use Rattle.sysin_read.specs.declared.fault.Why.{Why}
use Rattle.sysin_read.specs.declared.fault.Why.TheVariants as whys
use Rattle.sysin_read.specs.declared.outline.Frame.{Frame}
use Rattle.sysin_read.specs.declared.outline.Frame.TheVariants as frames
use Rattle.sysin_read.specs.declared.text.TextPlace.{TextPlace}
use Rattle.sysin_read.specs.declared.text.TextPlace.TheVariants as places
use Rattle.sysin_read.specs.declared.text.TextReading.{TextReading}
use Rattle.sysin_read.specs.Statement.{most_nested, most_commands, IsLead, IsElse, IsEnd}
use Rattle.sysin_read.specs.Reading.{open_in}

-- ---- where a statement begins

-- an IF or DO within as many others as there may be
abbrev pub IsTooDeep : List Frame → Placed → Type 0
IsTooDeep open' placed = (IsLead leads.If placed ⊎ IsLead leads.Do placed) × (most_nested ≤ length open')

-- a verb, and there are as many commands before it as there may be
abbrev pub IsTooMany : ℕ → Placed → Type 0
IsTooMany count placed = ((verb : Verb) × IsLead (leads.Command verb) placed) × (most_commands ≤ count)

-- why no statement begins with a token
abbrev pub StartStops : List Frame → ℕ → Placed → Why → Type 0
StartStops open' count placed whys.Nesting = IsTooDeep open' placed
StartStops open' count placed whys.Count = IsTooMany count placed
StartStops open' count placed whys.Word = (lead : Lead) → ¬ IsLead lead placed
StartStops open' count placed _ = ⊥

-- ---- behind a statement

-- what is open around a statement that starts a line: the innermost DO and what is around that
abbrev pub around : List Frame → List Frame
around [] = []
around (frames.Then ∷ outer) = around outer
around (frames.Else ∷ outer) = around outer
around (frames.Do ∷ outer) = frames.Do ∷ outer

-- an IF within the innermost DO has no ELSE yet
abbrev pub wants_else : List Frame → Bool
wants_else [] = false
wants_else (frames.Then ∷ outer) = true
wants_else (frames.Else ∷ outer) = wants_else outer
wants_else (frames.Do ∷ outer) = false

-- why a token is wrong behind a statement: an ELSE that no IF wants, an END that no DO wants, no statement, or a second one in its line
abbrev pub EndedStops : List Frame → ℕ → Placed → Why → Type 0
EndedStops open' count placed why =
    (IsElse placed × (wants_else open' ≡ false) × (why ≡ whys.Word))
    ⊎ ((IsEnd placed × (around open' ≡ []) × (why ≡ whys.Word))
    ⊎ ((¬ IsElse placed) × (¬ IsEnd placed) × (((placed.starts ≡ true) × StartStops (around open') count placed why) ⊎ ((placed.starts ≡ false) × (why ≡ whys.Word)))))

-- ---- within a statement that isn't whole

-- a token that starts a line ends what is before it: where it begins a statement that is too deep, or one too many, that is told, and else what is known
abbrev pub EndsUnfinished : List Frame → ℕ → Placed → Why → Why → Type 0
EndsUnfinished open' count placed known why =
    ((placed.starts ≡ true) × IsTooDeep (around open') placed × (why ≡ whys.Nesting))
    ⊎ (((placed.starts ≡ true) × IsTooMany count placed × (why ≡ whys.Count))
    ⊎ ((placed.starts ≡ true → (¬ IsTooDeep (around open') placed) × (¬ IsTooMany count placed)) × (why ≡ known)))

-- as what a refusal below is told
abbrev pub IsToldAs : ValueFault → Why → Type 0
IsToldAs values.Count why = why ≡ whys.Count
IsToldAs values.Value why = why ≡ whys.Value
IsToldAs values.Word why = why ≡ whys.Word
IsToldAs values.NoMemory why = ⊥

abbrev pub CommandIsToldAs : CommandFault → Why → Type 0
CommandIsToldAs faults.Twice why = why ≡ whys.Twice
CommandIsToldAs faults.Missing why = why ≡ whys.Missing
CommandIsToldAs (faults.Value known) why = IsToldAs known why

-- no operand is begun
abbrev pub IsBetween : CommandPlace → Type 0
IsBetween (command_places.Inside place) = ⊥
IsBetween _ = Unit {0}

-- a token ends a command: it starts a line, or is ELSE or END where no operand is begun
abbrev pub EndsCommand : CommandReading → Placed → Type 0
EndsCommand reading placed = (placed.starts ≡ true) ⊎ ((IsElse placed ⊎ IsEnd placed) × IsBetween reading.place)

-- the operands make no command, or make one and something is begun behind them
abbrev pub IsUnfinished : CommandReading → Why → Type 0
IsUnfinished reading whys.Missing = (command : Command) → ¬ Makes reading.verb reading.operands command
IsUnfinished reading whys.Word = ((command : Command) × Makes reading.verb reading.operands command) × ((command : Command) → ¬ CommandGives reading command)
IsUnfinished reading _ = ⊥

-- why a token that ends a command is wrong, where the command is one of so many
abbrev pub BehindStops : List Frame → ℕ → CommandReading → Placed → Why → Type 0
BehindStops open' count reading placed why =
    (((command : Command) × CommandGives reading command) × EndedStops open' count placed why)
    ⊎ ((known : Why) × IsUnfinished reading known × EndsUnfinished open' count placed known why)

-- why a token is wrong within a command, or behind it
abbrev pub WithinStops : List Frame → ℕ → CommandReading → Placed → Why → Type 0
WithinStops open' count reading placed why =
    ((¬ EndsCommand reading placed) × ((fault : CommandFault) × CommandStops reading placed.token fault × CommandIsToldAs fault why))
    ⊎ (EndsCommand reading placed × BehindStops open' (count + 1) reading placed why)

-- ---- all places

abbrev pub StopsAt : TextPlace → List Frame → ℕ → Placed → Why → Type 0
StopsAt places.Text open' count placed why = StartStops open' count placed why
StopsAt places.Block open' count placed why = (¬ IsEnd placed) × StartStops open' count placed why
StopsAt places.Part open' count placed why = StartStops open' count placed why
StopsAt places.Ended open' count placed why = EndedStops open' count placed why
StopsAt (places.Head head) open' count placed why =
    ((placed.starts ≡ true) × EndsUnfinished open' count placed whys.Word why)
    ⊎ ((placed.starts ≡ false) × ((known : ValueFault) × HeadStops head placed.token known × IsToldAs known why))
StopsAt (places.Command reading) open' count placed why = WithinStops open' count reading placed why

-- why a token is wrong behind what is read
abbrev pub TextStops : TextReading → Placed → Why → Type 0
TextStops reading placed why = StopsAt reading.place (open_in reading.outline) reading.outline.commands placed why
