use Rattle.by_rules.proofs.TokenLaws.{tokens_cover, each_token, words_apart}
use Rattle.by_rules.proofs.laws.token_laws.Goals as goal

pub returns-clause-cover : goal.returns-clause-cover
returns-clause-cover c = tokens_cover

pub returns-clause-each : goal.returns-clause-each
returns-clause-each c = each_token

pub returns-clause-apart : goal.returns-clause-apart
returns-clause-apart c = words_apart
