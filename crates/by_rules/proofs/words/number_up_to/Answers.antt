use Rattle.std.proofs.Common.{arith, ◌+◌, ◌-◌, ◌*◌, sym}
use Rattle.std.proofs.lemmas.List.Sums.{fold_more}
use Rattle.by_rules.proofs.Numbers.{decimal-take, too_large}
use Rattle.by_rules.proofs.words.number_up_to.Goals as goal

pub returns-then-number-limit-clause-number : goal.returns-then-number-limit-clause-number
returns-then-number-limit-clause-number c =
    sym (too_large c.args.limit c.args.word.now (
    omega (
      arith,
      decimal-take c.args.word.now (c.loop-byte.byte-index + 1),
      fold_more (λ number digit. 10 * number + (digit - 48)) 0 c.args.word.now c.loop-byte.byte-index 0 c.loop-byte-test.true,
      c.loop-byte.invariant.0,
    )))
