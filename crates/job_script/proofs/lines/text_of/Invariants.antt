use Rattle.std.proofs.Common.{◌≡◌, take}
use Rattle.job_script.specs.Runs.{lines_in}
use Rattle.job_script.proofs.lines.text_of.Given as goal

abbrev pub invariant-loop-message : goal.invariant-loop-message
invariant-loop-message l = record { text : l.text.items ≡ lines_in l.statement (take l.message-index l.messages) }
