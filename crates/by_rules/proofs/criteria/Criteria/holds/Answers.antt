use Rattle.std.proofs.Common.{◌∙◌, refl, subst}
use Rattle.std.proofs.lemmas.List.Elements.{All-more}
use Rattle.by_rules.specs.declared.criterion.Criterion.{Criterion}
use Rattle.by_rules.specs.Criterion.{Holds}
use Rattle.by_rules.proofs.Comparing.{each_done}
use Rattle.by_rules.proofs.criteria.Criteria.holds.Goals as goal

pub loop-criterion-preserved : goal.loop-criterion-preserved
loop-criterion-preserved c =
    let P : Criterion → Type 0 = λ criterion. Holds criterion c.args.row.now c.args.today in
    All-more P c.as_slice-criterion-items.result.now c.loop-criterion.criterion-index c.criterion-item.result c.loop-criterion-test.true c.loop-criterion.invariant
    (subst P c.criterion-item.is (c.if-not-holds.ensures.0 refl))

pub returns : goal.returns
returns c =
    let P : Criterion → Type 0 = λ criterion. Holds criterion c.args.row.now c.args.today in
    each_done P c.as_slice-criterion-items.result.now c.args.self.now c.loop-criterion.criterion-index (c.as_slice-criterion-items.ensures ∙ c.self.view_is) c.loop-criterion-test.false c.loop-criterion.invariant
