use Rattle.std.proofs.Common.{◌≡◌, take}
use Rattle.job_lines.specs.Severity.{greatest_code}
use Rattle.job_ops.proofs.statement.greatest_code.Given as goal

-- the code of the messages so far
abbrev pub invariant-loop-message : goal.invariant-loop-message
invariant-loop-message l = l.code ≡ greatest_code (take l.message-index l.messages)
