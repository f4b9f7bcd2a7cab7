use Rattle.std.proofs.Common.{sym, ◌∙◌}
use Rattle.std.proofs.lemmas.Bool.{false≢true}
use Rattle.std.proofs.lemmas.Option.{IfSome_then}
use Rattle.plan_core.proofs.Options.{none_weaker}
use Rattle.job_copies.proofs.copying.Copying.replaced.Goals.{then-not-self-via-then-not-self, then-not-self-via-else-not-self+then-is_own}
use Rattle.job_copies.proofs.copying.Copying.replaced.Goals as goal

pub returns-then-not-self-clause-none : goal.returns-then-not-self-clause-none
returns-then-not-self-clause-none c row is = elim c.then-not-self.branch [
  | then-not-self-via-then-not-self w ↦ false≢true (sym w.if-not-self.true ∙ is.asked)
  | then-not-self-via-else-not-self+then-is_own w ↦ is.another (w.is_own.ensures.0 w.if-is_own.true)
]

pub returns-clause-found : goal.returns-clause-found
returns-clause-found c =
    IfSome_then c.namesake.result c.namesake.ensures.found (λ row has. record {
      asked = c.if-not-self.false;
      another = λ own. false≢true (sym c.if-is_own.false ∙ c.is_own.ensures.1 own);
      row_is = has;
    })

pub returns-clause-none : goal.returns-clause-none
returns-clause-none c = none_weaker c.namesake.result (λ none row is. none row is.row_is) c.namesake.ensures.none
