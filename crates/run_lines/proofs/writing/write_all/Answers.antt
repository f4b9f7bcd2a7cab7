use Rattle.std.proofs.Common.{arith, List, ℕ, drop, ap, subst, sym}
use Rattle.run_lines.proofs.Appending.{HasWritten, written_none, written_more, written_some, written_less, written_still, some_left, on_err}
use Rattle.run_lines.proofs.writing.write_all.Goals as goal

pub loop-rest-init : goal.loop-rest-init
loop-rest-init g c = record { later = omega arith; written = written_none (g.O.Sink.taken c.args.out.now) c.args.text.now }

pub loop-rest-preserved : goal.loop-rest-preserved
loop-rest-preserved g c = record {
  later = omega (arith, c.loop-rest.invariant.later, c.in_ok-count.ensures.cause.later);
  written =
      let P : List ℕ → Type 0 = λ t. HasWritten (g.O.Sink.taken c.args.out.now) (g.O.Sink.taken c.write.new.self) c.args.text.now t in
      subst P (sym c.tail-rest.ensures) (written_more _ _ _ _ _ _ c.loop-rest.invariant.written c.in_ok-count.ensures.taken);
}

pub returns-in_err-count-clause-some : goal.returns-in_err-count-clause-some
returns-in_err-count-clause-some g c =
    written_some _ _ _ c.loop-rest.rest.now (written_still _ (g.O.Sink.taken c.loop-rest.out) _ _ _ c.loop-rest.invariant.written c.in_err-count.ensures.err)

pub returns-then-count-eq0-clause-some : goal.returns-then-count-eq0-clause-some
returns-then-count-eq0-clause-some g c =
    written_some _ _ _ _ (written_more _ _ _ _ _ _ c.loop-rest.invariant.written c.in_ok-count.ensures.taken)

pub returns-in_err-count-clause-less : goal.returns-in_err-count-clause-less
returns-in_err-count-clause-less g c =
    on_err c.from_residual.result _
    (written_less _ _ _ c.loop-rest.rest.now (written_still _ (g.O.Sink.taken c.loop-rest.out) _ _ _ c.loop-rest.invariant.written c.in_err-count.ensures.err)
    (some_left c.loop-rest.rest.now c.is_empty.result c.is_empty.ensures c.loop-rest-test.true))

pub returns-then-count-eq0-clause-less : goal.returns-then-count-eq0-clause-less
returns-then-count-eq0-clause-less g c =
    written_less _ _ _ c.loop-rest.rest.now (let P : List ℕ → Type 0 = λ t. HasWritten (g.O.Sink.taken c.args.out.now) (g.O.Sink.taken c.write.new.self) c.args.text.now t in
    subst P (ap (λ (n : ℕ). drop n c.loop-rest.rest.now) c.if-count-eq0.true) (written_more _ _ _ _ _ _ c.loop-rest.invariant.written c.in_ok-count.ensures.taken))
    (some_left c.loop-rest.rest.now c.is_empty.result c.is_empty.ensures c.loop-rest-test.true)
