use Rattle.std.proofs.Common.{arith}
use Rattle.free_map.specs.declared.run.Run.{Run}
use Rattle.free_map.proofs.Gives.{at_in}
use Rattle.rows_formats.proofs.free.covered.Goals as goal

pub returns-then-end : goal.returns-then-end
returns-then-end c = λ _ t h.
    let zero : Run = record { first = 0; len = 0 } in
    at_in c.args.runs.now c.loop-free.free-index zero t c.loop-free-test.true
    (omega (arith, h.0, c.if-free-run.true), omega (arith, h.1, c.if-end.true, c.end.ensures, c.end-then-free-run.ensures))
