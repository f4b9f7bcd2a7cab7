use Rattle.std.proofs.Common.{refl, arith}
use Rattle.adr_top.proofs.Named.{same_more, other_there, other_length, same_all}
use Rattle.adr_top.proofs.agreement.are_outs.Goals as goal

pub returns-then-outs-named : goal.returns-then-outs-named
returns-then-outs-named g c = (λ no. absurd (cc no), λ same. absurd (other_length _ _ c.args.outs.now c.args.named.now c.if-outs-named.true same))

pub returns-then-not-is_same : goal.returns-then-not-is_same
returns-then-not-is_same g c = (
  λ no. absurd (cc no),
  λ same. absurd (other_there _ _ c.args.outs.now c.args.named.now c.loop-place.place c.index-outs-place.result c.index-named-place.result c.loop-place-test.true
      (omega (arith, c.loop-place-test.true, c.if-outs-named.false)) (λ is. absurd (cc (c.if-not-is_same.true, c.is_same.ensures.1 is))) same),
)

pub loop-place-init : goal.loop-place-init
loop-place-init g c = refl

pub loop-place-preserved : goal.loop-place-preserved
loop-place-preserved g c =
    same_more _ _ c.args.outs.now c.args.named.now c.loop-place.place c.index-outs-place.result c.index-named-place.result c.loop-place-test.true
    (omega (arith, c.loop-place-test.true, c.if-outs-named.false)) (c.is_same.ensures.0 c.if-not-is_same.false) c.loop-place.invariant

pub returns : goal.returns
returns g c = (
  λ yes. same_all _ _ c.args.outs.now c.args.named.now c.loop-place.place (omega (arith, c.loop-place-test.false)) (omega (arith, c.loop-place-test.false, c.if-outs-named.false))
      c.loop-place.invariant,
  λ same. refl,
)
