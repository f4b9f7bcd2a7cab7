use Rattle.std.proofs.Common.{arith}
use Rattle.std.specs.Int.{bit_at}
use Rattle.std.proofs.lemmas.List.FromFn.{fill_by_all}
use Rattle.redo_core.proofs.control.bits.Goals as goal

pub returns : goal.returns
returns c =
    fill_by_all (bit_at c.args.filling) c.loop-unit.bytes 64 0 c.loop-unit.invariant.size
    (λ u less. c.loop-unit.invariant.each u (omega (arith, less, c.loop-unit-test.false)))
