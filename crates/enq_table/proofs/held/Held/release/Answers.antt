use Rattle.std.proofs.Common.{◌<◌, List, All, length, subst, sym}
use Rattle.std.specs.List.{HoldsAt, remove}
use Rattle.enq_table.specs.declared.hold.Hold.{Hold}
use Rattle.enq_table.specs.Table.{Has, IsTable}
use Rattle.enq_table.specs.Index.{IsOn, IsFirst, IsIndexed}
use Rattle.enq_table.proofs.Holders.{table_remove, gone, released}
use Rattle.enq_table.proofs.held.Held.release.Goals as goal
use Rattle.enq_table.proofs.held.Held.release.Goals.{After-forget}

here : (c : After-forget) → c.in-Some.place < length c.self.inside.holds.items
here c = subst (λ (t : List Hold). c.in-Some.place < length t) c.as_slice.ensures.value c.in-Some.ensures.found.0

has : (c : After-forget) → HoldsAt (Has c.args.name.now c.args.holder.now) c.self.inside.holds.items c.in-Some.place
has c = subst (λ (t : List Hold). HoldsAt (Has c.args.name.now c.args.holder.now) t c.in-Some.place) c.as_slice.ensures.value c.in-Some.ensures.found.1

none : (c : After-forget) → All (λ (held : Hold). ¬ Has c.args.name.now c.args.holder.now held) (remove c.self.inside.holds.items c.in-Some.place)
none c = gone c.self.inside.holds.items c.in-Some.place c.args.name.now c.args.holder.now (here c) (has c) c.self.invariant.0

indexed : (c : After-forget) → IsIndexed (remove c.self.inside.holds.items c.in-Some.place) c.forget.new.self
indexed c =
    let items = c.self.inside.holds.items in
    let later = remove items c.in-Some.place in
    c.forget.ensures items later (released items c.in-Some.place c.args.name.now c.args.holder.now (here c) (has c)) (none c)
    (subst (λ (t : List Hold). IsFirst (IsOn c.args.name.now) t c.first_on-first.result) c.remove.ensures.items
    (subst (λ (t : List Hold). IsFirst (IsOn c.args.name.now) t c.first_on-first.result) c.as_slice-2.ensures.value c.first_on-first.ensures))
    c.self.invariant.1

pub invariant_of-self : goal.invariant_of-self
invariant_of-self c =
    subst (λ (t : List Hold). IsTable t × IsIndexed t c.forget.new.self) (sym c.remove.ensures.items)
    (table_remove c.self.inside.holds.items c.in-Some.place (here c) c.self.invariant.0, indexed c)

pub returns-clause-gone : goal.returns-clause-gone
returns-clause-gone c = subst (λ (t : List Hold). All (λ (held : Hold). ¬ Has c.args.name.now c.args.holder.now held) t) (sym c.remove.ensures.items) (none c)
