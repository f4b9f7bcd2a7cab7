use Rattle.std.proofs.Common.{List, ℕ, subst, arith}
use Rattle.std.proofs.lemmas.List.{take_all}
use Rattle.enq_table.proofs.Marks.{Without}
use Rattle.enq_table.proofs.Feeds.{lines_at_feed, lines_last}
use Rattle.enq_table.proofs.line.first_line.Goals as goal

pub returns-then-byte-eq10-clause-lines : goal.returns-then-byte-eq10-clause-lines
returns-then-byte-eq10-clause-lines c =
    lines_at_feed c.args.text.now c.without_return.result.now c.tail.result.now c.loop-place.place c.loop-place-test.true c.loop-place.invariant c.if-byte-eq10.true c.tail.ensures c.without_return.ensures

pub returns-clause-lines : goal.returns-clause-lines
returns-clause-lines c = lines_last c.args.text.now (subst (λ (t : List ℕ). Without 10 t) (take_all c.loop-place.place c.args.text.now (omega arith)) c.loop-place.invariant)
