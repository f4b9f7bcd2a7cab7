use Rattle.std.proofs.Common.{take, false}
use Rattle.desk_text.specs.Pieces.{Adds}
use Rattle.desk_text.proofs.Joined.{joined}
use Rattle.desk_text.proofs.bodies.jobs_body.Given as goal

abbrev pub invariant-loop-place : goal.invariant-loop-place
invariant-loop-place l = Adds l.initial.body l.body (joined false (take l.place l.jobs))
