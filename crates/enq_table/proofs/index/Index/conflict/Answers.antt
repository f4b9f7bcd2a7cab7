use Rattle.std.proofs.Common.{◌≡◌, true, false, Option, subst, sym, ◌∙◌}
use Rattle.enq_table.specs.declared.holder.Holder.{Holder}
use Rattle.enq_table.specs.declared.hold.Hold.{Hold}
use Rattle.enq_table.specs.Table.{Conflicts, IsFirstHolder}
use Rattle.enq_table.specs.Index.{IsOn, IsFirst}
use Rattle.enq_table.proofs.Indexing.{none_conflicts, first_conflicts, nothing_conflicts}
use Rattle.enq_table.proofs.index.Index.conflict.Goals as goal

pub returns-in_err-first : goal.returns-in_err-first
returns-in_err-first c = λ table t h.
    subst (λ (r : Option Holder). IsFirstHolder (Conflicts c.args.name.now c.args.change) table r) (sym c.from_residual.ensures)
    (none_conflicts table c.args.name.now c.args.change (subst (λ (r : Option Hold). IsFirst (IsOn c.args.name.now) table r) c.in_err-first.was (c.first.ensures table h)))

pub returns-then-conflicts : goal.returns-then-conflicts
returns-then-conflicts c = λ table t h.
    first_conflicts table c.args.name.now c.args.change c.in_ok-first.first
    (subst (λ (r : Option Hold). IsFirst (IsOn c.args.name.now) table r) c.in_ok-first.was (c.first.ensures table h)) (c.conflicts.ensures.0 c.if-conflicts.true)

pub returns : goal.returns
returns c = λ table t h.
    nothing_conflicts table c.args.name.now c.args.change c.in_ok-first.first t
    (subst (λ (r : Option Hold). IsFirst (IsOn c.args.name.now) table r) c.in_ok-first.was (c.first.ensures table h)) (λ conflict. let e : false ≡ true = sym c.if-conflicts.false ∙ c.conflicts.ensures.1 conflict in cc)
