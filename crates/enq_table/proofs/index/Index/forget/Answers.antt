use Rattle.std.proofs.Common.{◌≡◌, ℕ, List, Option, Some, None, true, false, sym, ap, subst, ◌∙◌}
use Rattle.std.specs.Prelude.{IsSome}
use Rattle.std.specs.Option.{option_copied_mut}
use Rattle.std.specs.BTreeMap as tree
use Rattle.std.specs.BTreeSet as sorted
use Rattle.enq_table.specs.declared.hold.Hold.{Hold}
use Rattle.enq_table.specs.Index.{name_order, hold_order, IsOn, IsFirst}
use Rattle.enq_table.proofs.Indexing.{forgotten, name_there}
use Rattle.enq_table.proofs.index.Index.forget.Goals as goal

pub returns-in_default : goal.returns-in_default
returns-in_default c = λ table later releases gone first h.
    forgotten c.args.name.now c.args.holder.now table later None c.args.self.now (record { firsts = c.remove-in_default.new.self; holders = c.remove.new.self }) releases gone
    (subst (λ (r : Option Hold). IsFirst (IsOn c.args.name.now) later r) c.in_default.is first) h
    (subst (λ (k : ℕ × List ℕ). tree.Updates name_order c.args.self.now.firsts c.remove-in_default.new.self k None) c.key_of_name-key.ensures c.remove-in_default.ensures.updates)
    (subst (λ (k : (ℕ × List ℕ) × (ℕ × List ℕ)). sorted.Updates hold_order c.args.self.now.holders c.remove.new.self k false) c.key_of_hold.ensures c.remove.ensures.updates)

pub returns-in-Some-get_mut : goal.returns-in-Some-get_mut
returns-in-Some-get_mut c = λ table later releases gone first h.
    let firsts = c.get_mut.follows.lender c.in-Some.first in
    forgotten c.args.name.now c.args.holder.now table later (Some c.in-Some.first) c.args.self.now (record { firsts = firsts; holders = c.remove.new.self }) releases gone
    (subst (λ (r : Option Hold). IsFirst (IsOn c.args.name.now) later r) c.in-Some.is first) h
    (subst (λ (k : ℕ × List ℕ). IsSome (tree.get name_order c.args.self.now.firsts k) → tree.Updates name_order c.args.self.now.firsts firsts k (Some c.in-Some.first)) c.key_of_name-key.ensures
    (c.get_mut.follows.holds c.in-Some.first).3 (name_there c.args.name.now c.args.holder.now table later c.args.self.now.firsts releases h.firsts))
    (subst (λ (k : (ℕ × List ℕ) × (ℕ × List ℕ)). sorted.Updates hold_order c.args.self.now.holders c.remove.new.self k false) c.key_of_hold.ensures c.remove.ensures.updates)

pub returns-in_default-get_mut : goal.returns-in_default-get_mut
returns-in_default-get_mut c = λ table later releases gone first h.
    let some = name_there c.args.name.now c.args.holder.now table later c.args.self.now.firsts releases h.firsts in
    let found = ap option_copied_mut (sym c.in_default-get_mut.is) ∙ c.get_mut.ensures.value ∙ ap (λ (k : ℕ × List ℕ). tree.get name_order c.args.self.now.firsts k) c.key_of_name-key.ensures in
    absurd (let e : false ≡ true = subst (λ (t : Option Hold). IsSome t) (sym found) some in cc)
