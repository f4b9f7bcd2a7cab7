use Rattle.std.proofs.Common.{◌≡◌, take}
use Rattle.unit_session.specs.Copies.{moves_between}
use Rattle.unit_session.proofs.copies.moves_of.Given as goal

-- those of the first tracks
abbrev pub invariant-loop-place : goal.invariant-loop-place
invariant-loop-place l = l.moves.items ≡ moves_between l.one_unit (take l.place l.source) (take l.place l.target)
