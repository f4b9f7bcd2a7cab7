use Rattle.org_reloc.proofs.SameRefit as refits
use Rattle.org_reloc.proofs.Unique as causes
use Rattle.org_reloc.proofs.OneRefusal as refusals
use Rattle.org_reloc.proofs.laws.sequential_laws.Goals as goal

pub returns-clause-one_refit : goal.returns-clause-one_refit
returns-clause-one_refit c = refits.same_sequential

pub returns-clause-not_refused : goal.returns-clause-not_refused
returns-clause-not_refused c = λ device tracks last refit refusal h few refused. causes.only_memory device tracks last refusal refused refit h few

pub returns-clause-one_refusal : goal.returns-clause-one_refusal
returns-clause-one_refusal c = refusals.same_sequential_refusal
