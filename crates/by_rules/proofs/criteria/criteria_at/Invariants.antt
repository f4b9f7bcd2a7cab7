use Rattle.std.proofs.Common.{length}
use Rattle.by_rules.proofs.Reader.{IsRead}
use Rattle.by_rules.proofs.criteria.criteria_at.Given as goal

abbrev pub invariant-tokens : goal.invariant-tokens
invariant-tokens l = IsRead l.text l.rest l.reading

abbrev pub decreases-tokens : goal.decreases-tokens
decreases-tokens l = length l.rest
