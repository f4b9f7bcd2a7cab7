-- How grave messages are, and what condition code they give.
use Rattle.std.specs.Prelude.{ℕ, max, List, [], ◌∷◌}
use Rattle.job_lines.specs.declared.severity.Severity.{Severity}
use Rattle.job_lines.specs.declared.severity.Severity.TheVariants as severities
use Rattle.job_lines.specs.declared.message.Message.{Message}
use Rattle.job_lines.specs.declared.message.Message.TheVariants as messages

-- the condition code of a severity
abbrev pub code_of : Severity → ℕ
code_of severities.Information = 0
code_of severities.Warning = 4
code_of severities.Error = 8
code_of severities.Ending = 12

-- the letter behind a message's number
abbrev pub letter_of : Severity → ℕ
letter_of severities.Information = 73
letter_of severities.Warning = 87
letter_of severities.Error = 69
letter_of severities.Ending = 84

abbrev pub severity_in : Message → Severity
severity_in messages.NothingSelected = severities.Warning
severity_in (messages.Rebuilt serial) = severities.Warning
severity_in (messages.NotProcessed name reason severity) = severity
severity_in (messages.OutputLost name) = severities.Error
severity_in messages.NoOutputWhole = severities.Ending
severity_in (messages.Offline serial why) = severities.Ending
severity_in (messages.Indexed serial) = severities.Ending
severity_in (messages.VtocTooLong serial) = severities.Ending
severity_in (messages.UnknownName serial) = severities.Ending
severity_in (messages.UnknownFile name) = severities.Ending
severity_in (messages.OutputUsed name) = severities.Ending
severity_in (messages.InputIsOutput name) = severities.Ending
severity_in (messages.InputFailed name) = severities.Ending
severity_in (messages.BadDump name flaw) = severities.Ending
severity_in messages.UnlikeDevices = severities.Ending
severity_in _ = severities.Information

-- the condition code of a statement that said these: that of the gravest
abbrev pub greatest_code : List Message → ℕ
greatest_code [] = 0
greatest_code (message ∷ more) = max (code_of (severity_in message)) (greatest_code more)
