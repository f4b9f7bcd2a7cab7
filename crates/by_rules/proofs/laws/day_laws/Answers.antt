use Rattle.by_rules.proofs.Calendar.{one_day, years_follow}
use Rattle.by_rules.proofs.laws.day_laws.Goals as goal

pub returns-clause-one : goal.returns-clause-one
returns-clause-one c = one_day

pub returns-clause-follow : goal.returns-clause-follow
returns-clause-follow c = years_follow
