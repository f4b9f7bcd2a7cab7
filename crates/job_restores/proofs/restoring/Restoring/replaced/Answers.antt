use Rattle.std.proofs.lemmas.Option.{IfSome_then}
use Rattle.job_restores.proofs.Rows.{none_weaker}
use Rattle.job_restores.proofs.restoring.Restoring.replaced.Goals as goal

pub returns-clause-found : goal.returns-clause-found
returns-clause-found c = IfSome_then c.namesake.result c.namesake.ensures.found (λ row has. (c.if-not-self.false, has))

pub returns-clause-none : goal.returns-clause-none
returns-clause-none c = none_weaker c.namesake.result (λ none asked. none) c.namesake.ensures.none
