use Rattle.by_rules.specs.Token.{tokens_of}
use Rattle.by_rules.proofs.Shifts.{spelled_sound}
use Rattle.by_rules.proofs.criteria.Criteria.read.Goals as goal

pub invariant_of-result : goal.invariant_of-result
invariant_of-result c = spelled_sound (tokens_of c.args.text.now) c.in_ok-criteria.criteria c.in_ok-criteria.ensures.read
