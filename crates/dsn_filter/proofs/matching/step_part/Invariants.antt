use Rattle.std.proofs.Common.{◌≡◌, ◌≤◌, [], length, drop, get_or}
use Rattle.dsn_filter.specs.Text.{qualifiers}
use Rattle.dsn_filter.specs.Matching.{MatchesQualifier}
use Rattle.dsn_filter.specs.Rows.{qualifiers_behind}
use Rattle.dsn_filter.proofs.Rows.{IsSteppedTo}
use Rattle.dsn_filter.proofs.matching.step_part.Given as goal

abbrev pub invariant-loop-rest : goal.invariant-loop-rest
invariant-loop-rest l = (qualifiers_behind l.rest ≡ drop l.place (qualifiers l.name)) × (l.place ≤ length (qualifiers l.name))
    × IsSteppedTo (λ place. MatchesQualifier l.mask (get_or (qualifiers l.name) place [])) l.place l.fn.row l.row

abbrev pub decreases-loop-rest : goal.decreases-loop-rest
decreases-loop-rest l = length (qualifiers_behind l.rest)
