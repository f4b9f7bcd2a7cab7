use Rattle.std.proofs.Common.{◌≡◌, ◌++◌, take}
use Rattle.dump_sets.specs.job_turns.job_copies.step_plans.Plans.{extents_from}
use Rattle.job_ops.specs.Listing.{extent_messages}
use Rattle.job_ops.proofs.listing.push_extents.Given as goal

-- the messages of the extents so far
abbrev pub invariant-loop-place : goal.invariant-loop-place
invariant-loop-place l = l.messages.items ≡ l.fn.messages.items ++ extent_messages 1 (extents_from l.device (take l.place l.extents))
