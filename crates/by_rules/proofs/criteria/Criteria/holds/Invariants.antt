use Rattle.std.proofs.Common.{All, take}
use Rattle.by_rules.specs.Criterion.{Holds}
use Rattle.by_rules.proofs.criteria.Criteria.holds.Given as goal

abbrev pub invariant-loop-criterion : goal.invariant-loop-criterion
invariant-loop-criterion l = All (λ criterion. Holds criterion l.fn.row l.fn.today) (take l.criterion-index l.criterion-items)
