use Rattle.std.proofs.Common.{◌≡◌, ◌+◌, length}
use Rattle.dsn_filter.specs.Text.{qualifiers}
use Rattle.dsn_filter.specs.Rows.{qualifiers_behind}
use Rattle.dsn_filter.proofs.matching.count_parts.Given as goal

abbrev pub invariant-loop-rest : goal.invariant-loop-rest
invariant-loop-rest l = l.count + length (qualifiers_behind l.rest) ≡ length (qualifiers l.fn.text)

abbrev pub decreases-loop-rest : goal.decreases-loop-rest
decreases-loop-rest l = length (qualifiers_behind l.rest)
