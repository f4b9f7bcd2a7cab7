use Rattle.std.proofs.Common.{◌≡◌, take, None}
use Rattle.unit_steps.specs.Rendering.{entries_of}
use Rattle.unit_session.proofs.rendering.entries_for.Given as goal

abbrev pub invariant-loop-place : goal.invariant-loop-place
invariant-loop-place l = l.entries ≡ record { blocks = entries_of (take l.place l.changes) (take l.place l.rendered); control = None }
