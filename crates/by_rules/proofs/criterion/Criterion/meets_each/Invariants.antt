use Rattle.std.proofs.Common.{All, take}
use Rattle.by_rules.specs.Criterion.{Meets}
use Rattle.by_rules.proofs.criterion.Criterion.meets_each.Given as goal

abbrev pub invariant-loop-value : goal.invariant-loop-value
invariant-loop-value l = All (Meets l.fn.self l.fn.row l.fn.today) (take l.value-index l.value-items)
