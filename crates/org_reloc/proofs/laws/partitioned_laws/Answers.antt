use Rattle.org_reloc.proofs.SameRefit as refits
use Rattle.org_reloc.proofs.OneRefit as causes
use Rattle.org_reloc.proofs.OneRefusal as refusals
use Rattle.org_reloc.proofs.laws.partitioned_laws.Goals as goal

pub returns-clause-one_refit : goal.returns-clause-one_refit
returns-clause-one_refit c = refits.same_partitioned

pub returns-clause-not_refused : goal.returns-clause-not_refused
returns-clause-not_refused c = λ device tracks refit refusal h few refused. causes.only_memory device tracks refusal refused refit h few

pub returns-clause-one_refusal : goal.returns-clause-one_refusal
returns-clause-one_refusal c = refusals.same_partitioned_refusal
