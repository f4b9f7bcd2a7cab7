use Rattle.std.proofs.Common.{List, refl, subst}
use Rattle.std.specs.Prelude.{All}
use Rattle.std.proofs.lemmas.List.{take_all}
use Rattle.std.proofs.lemmas.List.Elements.{All-more}
use Rattle.redo_core.specs.declared.target.Target.{Target}
use Rattle.redo_core.specs.Reading.{IsTarget}
use Rattle.redo_core.proofs.survey.are_there.Goals as goal

pub loop-target-preserved : goal.loop-target-preserved
loop-target-preserved g c =
    All-more (IsTarget (g.P.Pool.shape c.args.pool.now) c.args.journal) c.args.targets.now c.loop-target.target-index _ c.loop-target-test.true c.loop-target.invariant (c.if-not-is_there.ensures.0 refl)

pub returns : goal.returns
returns g c = (
  λ so. subst (λ (l : List Target). All (IsTarget (g.P.Pool.shape c.args.pool.now) c.args.journal) l) (take_all c.loop-target.target-index c.args.targets.now c.loop-target-test.false) c.loop-target.invariant,
  λ all. refl,
)
