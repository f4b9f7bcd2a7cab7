-- What holds of commands whatever reads them.
use Rattle.std.specs.Prelude.{◌≡◌, []}
use Rattle.sysin_text.specs.declared.token.Token.{Token}
use Rattle.sysin_words.specs.declared.lead.Verb.{Verb}
use Rattle.sysin_values.specs.declared.fault.ValueFault.{ValueFault}
use Rattle.sysin_values.specs.Exact.{IsExact, OneValue}
use Rattle.sysin_commands.specs.declared.fault.CommandFault.{CommandFault}
use Rattle.sysin_commands.specs.declared.command.CommandPlace.TheVariants as places
use Rattle.sysin_commands.specs.declared.command.CommandReading.{CommandReading}
use Rattle.sysin_commands.specs.Command.{IsCommand}
use Rattle.sysin_commands.specs.CommandProgress.{CommandGoes, CommandStops, CommandGives, CommandReads, value_of}

-- nothing is read behind the verb
abbrev pub start_behind : Verb → CommandReading
start_behind verb = record { verb = verb; operands = []; place = places.First }

-- a refusal, by what is known of its token
abbrev pub StopsBy : CommandReading → Token → ValueFault → Type 0
StopsBy old token known = (fault : CommandFault) × (value_of fault ≡ known) × CommandStops old token fault

-- Commands are read exactly, token by token, behind their verb.
abbrev pub CommandsAreExact : Type 0
CommandsAreExact =
    (verb : Verb) → IsExact (IsCommand verb) (start_behind verb) CommandGoes StopsBy CommandGives (λ reading text. (reading.verb ≡ verb) × CommandReads reading text)

-- the same tokens say the same command
abbrev pub CommandsAreOne : Type 0
CommandsAreOne = (verb : Verb) → OneValue (IsCommand verb)
