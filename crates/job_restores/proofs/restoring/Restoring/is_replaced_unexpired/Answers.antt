use Rattle.std.proofs.Common.{ℕ, List, IsTrue, ◌↔◌, sym, subst}
use Rattle.set_facts.specs.Facts.{IsUnexpired}
use Rattle.job_restores.proofs.Replaced.{replaced_holds, none_holds}
use Rattle.job_restores.proofs.restoring.Restoring.is_replaced_unexpired.Goals as goal

pub returns-in-Some : goal.returns-in-Some
returns-in-Some c case are =
    replaced_holds c.requires.may are (λ other. IsUnexpired other.fields c.args.today) c.in-Some.row.now c.in-Some.ensures.found c.is_unexpired.result
    (λ set has. subst (λ (fields : List ℕ). IsTrue c.is_unexpired.result ↔ IsUnexpired fields c.args.today) (sym has.fields_are) c.is_unexpired.ensures)

pub returns-in-None : goal.returns-in-None
returns-in-None c case are = none_holds c.requires.may are (λ other. IsUnexpired other.fields c.args.today) c.in-None.ensures.none
