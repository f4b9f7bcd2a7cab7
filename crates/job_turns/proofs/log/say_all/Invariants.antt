use Rattle.std.proofs.Common.{◌≡◌, ◌++◌, take}
use Rattle.job_turns.proofs.log.say_all.Given as goal

-- those so far were said
abbrev pub invariant-loop-message : goal.invariant-loop-message
invariant-loop-message g l = record {
  session : l.session ≡ l.fn.session;
  steps : l.log.steps ≡ l.fn.log.steps;
  said : l.log.messages.items ≡ l.fn.log.messages.items ++ take l.message-index l.messages;
}
