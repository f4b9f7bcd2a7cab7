use Rattle.std.proofs.Common.{◌≡◌, ◌++◌, length}
use Rattle.dsn_filter.specs.Text.{qualifiers}
use Rattle.dsn_filter.specs.Rows.{qualifiers_behind}
use Rattle.dsn_filter.proofs.pattern.parts_of.Given as goal

abbrev pub invariant-loop-rest : goal.invariant-loop-rest
invariant-loop-rest l = qualifiers l.fn.text ≡ l.parts ++ qualifiers_behind l.rest

abbrev pub decreases-loop-rest : goal.decreases-loop-rest
decreases-loop-rest l = length (qualifiers_behind l.rest)
