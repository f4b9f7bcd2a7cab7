use Rattle.std.proofs.Common.{ℕ, List, Option, sym, ap, subst, ◌∙◌}
use Rattle.std.specs.BTreeMap.{get}
use Rattle.enq_table.specs.declared.hold.Hold.{Hold}
use Rattle.enq_table.specs.Index.{name_order, IsOn, IsFirst}
use Rattle.enq_table.proofs.index.Index.first.Goals as goal

pub returns : goal.returns
returns c = λ table h.
    subst (λ (t : Option Hold). IsFirst (IsOn c.args.name.now) table t)
    (sym (c.copied.ensures ∙ c.get.ensures.value ∙ ap (λ (k : ℕ × List ℕ). get name_order c.args.self.now.firsts k) c.key_of_name.ensures)) (h.firsts c.args.name.now)
