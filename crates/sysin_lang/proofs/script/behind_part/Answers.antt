use Rattle.std.proofs.Common.{drop, get_or, arith}
use Rattle.sysin_lang.specs.Flow.{Done}
use Rattle.sysin_lang.specs.Script.{plans_of}
use Rattle.sysin_lang.proofs.Places.{few_ends, one_behind}
use Rattle.sysin_lang.proofs.script.behind_part.Goals as goal

pub ends-preserved : goal.ends-preserved
ends-preserved c =
    let step = c.index-steps-place.result in (
      omega arith,
      omega arith,
      omega (arith, few_ends step c.ends.ends, c.ends_behind-ends.ensures),
      rw c.ends_behind-ends.ensures (one_behind c.args.steps.now c.ends.place c.ends.ends step (get_or (plans_of (drop c.args.place c.args.steps.now)) 1 Done)
          c.ends-test.true c.if-place-steps.true c.index-steps-place.is c.ends.invariant.3),
    )
