use Rattle.dump_read.proofs.NothingWrong as nothing
use Rattle.dump_read.proofs.OneWrong as one
use Rattle.dump_read.proofs.laws.fault_laws.Goals as goal

pub returns-clause-none : goal.returns-clause-none
returns-clause-none c = nothing.nothing_is_wrong

pub returns-clause-one : goal.returns-clause-one
returns-clause-one c = one.one_is_wrong
