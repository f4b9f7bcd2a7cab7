use Rattle.std.proofs.Common.{take}
use Rattle.dsn_filter.proofs.Joins.{Dotless}
use Rattle.dsn_filter.proofs.matching.first_part.Given as goal

abbrev pub invariant-loop-place : goal.invariant-loop-place
invariant-loop-place l = Dotless (take l.place l.text)
