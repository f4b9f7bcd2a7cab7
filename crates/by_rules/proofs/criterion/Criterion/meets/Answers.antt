use Rattle.std.proofs.Common.{IsTrue, subst}
use Rattle.std.specs.Prelude.{◌↔◌}
use Rattle.by_rules.specs.declared.criterion.Fact.{Fact}
use Rattle.by_rules.specs.Criterion.{Compares}
use Rattle.by_rules.proofs.Comparing.{meets_by}
use Rattle.by_rules.proofs.criterion.Criterion.meets.Goals as goal

pub returns : goal.returns
returns c =
    let P : Fact → Type 0 = λ f. IsTrue c.compares.result ↔ Compares c.args.self.now.op f c.fact-fact.result in
    meets_by c.args.self.now c.args.row.now c.args.today c.args.value c.fact-fact.result c.compares.result c.fact-fact.ensures (subst P c.fact.ensures c.compares.ensures)
