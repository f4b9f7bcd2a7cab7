use Rattle.dsn_filter.proofs.Rows.{IsSpreadFrom}
use Rattle.dsn_filter.proofs.matching.spread.Given as goal

abbrev pub invariant-loop-place : goal.invariant-loop-place
invariant-loop-place l = IsSpreadFrom l.place l.fn.row l.row
