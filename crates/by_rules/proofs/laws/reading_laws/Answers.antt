use Rattle.by_rules.proofs.Reader.{read_is_spelled, spelled_is_read}
use Rattle.by_rules.proofs.Refusing.{right, wrong}
use Rattle.by_rules.proofs.laws.reading_laws.Goals as goal

pub returns-clause-spelled : goal.returns-clause-spelled
returns-clause-spelled c = read_is_spelled

pub returns-clause-read : goal.returns-clause-read
returns-clause-read c = spelled_is_read

pub returns-clause-right : goal.returns-clause-right
returns-clause-right c = right

pub returns-clause-wrong : goal.returns-clause-wrong
returns-clause-wrong c = wrong
