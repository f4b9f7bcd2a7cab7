use Rattle.std.proofs.Common.{◌≡◌, true, false, Option, subst, sym, ◌∙◌}
use Rattle.enq_table.specs.declared.holder.Holder.{Holder}
use Rattle.enq_table.specs.declared.hold.Hold.{Hold}
use Rattle.enq_table.specs.Table.{StandsAgainst, IsFirstHolder}
use Rattle.enq_table.specs.Index.{IsOn, IsFirst}
use Rattle.enq_table.proofs.Indexing.{none_against, first_against, own_is_against, nothing_else_against}
use Rattle.enq_table.proofs.index.Index.against.Goals as goal

pub returns-in_err-first : goal.returns-in_err-first
returns-in_err-first c = λ table t h.
    subst (λ (r : Option Holder). IsFirstHolder (λ held. StandsAgainst held c.args.asked.now) table r) (sym c.from_residual.ensures)
    (none_against table c.args.asked.now (subst (λ (r : Option Hold). IsFirst (IsOn c.args.asked.now.name) table r) c.in_err-first.was (c.first.ensures table h)))

pub returns-then-stands_against : goal.returns-then-stands_against
returns-then-stands_against c = λ table t h.
    first_against table c.args.asked.now c.in_ok-first.first
    (subst (λ (r : Option Hold). IsFirst (IsOn c.args.asked.now.name) table r) c.in_ok-first.was (c.first.ensures table h)) (c.stands_against.ensures.0 c.if-stands_against.true)

pub returns-then-has : goal.returns-then-has
returns-then-has c = λ table t h.
    own_is_against table c.args.asked.now c.in_ok-first.first c.has.result t
    (subst (λ (r : Option Hold). IsFirst (IsOn c.args.asked.now.name) table r) c.in_ok-first.was (c.first.ensures table h))
    (λ against. let e : false ≡ true = sym c.if-stands_against.false ∙ c.stands_against.ensures.1 against in cc) (c.has.ensures table h) c.if-has.true

pub returns : goal.returns
returns c = λ table t h.
    nothing_else_against table c.args.asked.now c.in_ok-first.first c.has.result t
    (subst (λ (r : Option Hold). IsFirst (IsOn c.args.asked.now.name) table r) c.in_ok-first.was (c.first.ensures table h))
    (λ against. let e : false ≡ true = sym c.if-stands_against.false ∙ c.stands_against.ensures.1 against in cc) (c.has.ensures table h) c.if-has.false
