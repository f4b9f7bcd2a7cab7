use Rattle.std.proofs.Common.{◌≡◌, ◌⊎◌, get_or}
use Rattle.dsn_filter.proofs.Rows.{IsSteppedTo}
use Rattle.dsn_filter.proofs.matching.step_byte.Given as goal

abbrev pub invariant-loop-place : goal.invariant-loop-place
invariant-loop-place l = IsSteppedTo (λ place. (l.wanted ≡ 37) ⊎ (l.wanted ≡ get_or l.part place 0)) l.place l.fn.row l.row
