use Rattle.sysin_values.proofs.Said as said
use Rattle.sysin_values.proofs.laws.word_laws.Goals as goal

pub returns-clause-serial : goal.returns-clause-serial
returns-clause-serial c = said.one_serial

pub returns-clause-dd_name : goal.returns-clause-dd_name
returns-clause-dd_name c = said.one_dd_name

pub returns-clause-pattern : goal.returns-clause-pattern
returns-clause-pattern c = said.one_pattern

pub returns-clause-name : goal.returns-clause-name
returns-clause-name c = said.one_name

pub returns-clause-prefix : goal.returns-clause-prefix
returns-clause-prefix c = said.one_prefix

pub returns-clause-number : goal.returns-clause-number
returns-clause-number c = said.one_number
