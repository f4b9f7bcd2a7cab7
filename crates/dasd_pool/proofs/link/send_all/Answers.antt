use Rattle.std.proofs.Common.{arith, List, ℕ, refl, subst, sym, ◌∙◌}
use Rattle.dasd_pool.proofs.Written.{HasWritten, written_none, written_more, written_some, written_still}
use Rattle.dasd_pool.proofs.link.send_all.Goals as goal

pub loop-rest-init : goal.loop-rest-init
loop-rest-init g c = record { later = omega arith; unread = refl; written = written_none (g.L.Link.taken c.args.link.now) c.args.text.now }

pub loop-rest-preserved : goal.loop-rest-preserved
loop-rest-preserved g c = record {
  later = omega (arith, c.loop-rest.invariant.later, c.in_ok-count.ensures.cause.later);
  unread = c.send.ensures.unread ∙ c.loop-rest.invariant.unread;
  written =
      let P : List ℕ → Type 0 = λ t. HasWritten (g.L.Link.taken c.args.link.now) (g.L.Link.taken c.send.new.self) c.args.text.now t in
      subst P (sym c.tail-rest.ensures) (written_more _ _ _ _ _ _ c.loop-rest.invariant.written c.in_ok-count.ensures.taken);
}

pub returns-in_err-count-clause-some : goal.returns-in_err-count-clause-some
returns-in_err-count-clause-some g c =
    written_some _ _ _ c.loop-rest.rest.now (written_still _ (g.L.Link.taken c.loop-rest.link) _ _ _ c.loop-rest.invariant.written c.in_err-count.ensures.err)

pub returns-then-count-eq0-clause-some : goal.returns-then-count-eq0-clause-some
returns-then-count-eq0-clause-some g c =
    written_some _ _ _ _ (written_more _ _ _ _ _ _ c.loop-rest.invariant.written c.in_ok-count.ensures.taken)
