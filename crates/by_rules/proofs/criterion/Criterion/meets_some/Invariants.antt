use Rattle.std.proofs.Common.{All, take}
use Rattle.by_rules.specs.Criterion.{Meets}
use Rattle.by_rules.proofs.criterion.Criterion.meets_some.Given as goal

abbrev pub invariant-loop-value : goal.invariant-loop-value
invariant-loop-value l = All (λ v. ¬ Meets l.fn.self l.fn.row l.fn.today v) (take l.value-index l.value-items)
