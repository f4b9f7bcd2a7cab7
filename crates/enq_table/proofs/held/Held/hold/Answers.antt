use Rattle.std.proofs.Common.{◌≡◌, ◌-◌, ℕ, List, take, Some, Option, sym, subst}
use Rattle.std.proofs.lemmas.Result.{err_from_is_err_and}
use Rattle.std.proofs.lemmas.List.Elements.{recursion_from_All}
use Rattle.enq_table.specs.declared.holder.Holder.{Holder}
use Rattle.enq_table.specs.declared.hold.Hold.{Hold}
use Rattle.enq_table.specs.Table.{IsHold, StandsAgainst, IsFirstHolder, IsTable}
use Rattle.enq_table.specs.Index.{IsIndexed}
use Rattle.enq_table.proofs.Holders.{table_push, popped, first_lawful}
use Rattle.enq_table.proofs.held.Held.hold.Goals as goal

pub returns-in-Some-clause-lawful : goal.returns-in-Some-clause-lawful
returns-in-Some-clause-lawful c =
    let asked : Hold = record { name = c.args.name; mode = c.args.mode; holder = c.args.holder } in
    let items = c.self.inside.holds.items in
    first_lawful (λ held. StandsAgainst held asked) items (Some c.in-Some.against) (recursion_from_All IsHold items c.self.invariant.0.each)
    (subst (λ (r : Option Holder). IsFirstHolder (λ held. StandsAgainst held asked) items r) c.in-Some.is (c.against.ensures items c.self.invariant.0 c.self.invariant.1))

pub returns-in_err-add-clause-refused : goal.returns-in_err-add-clause-refused
returns-in_err-add-clause-refused c =
    let asked : Hold = record { name = c.args.name; mode = c.args.mode; holder = c.args.holder } in
    let items = c.self.inside.holds.items in
    let p = err_from_is_err_and c.from_residual.result c.from_residual.ensures.1 in
    rw (p.1, p.2, ← c.self.view_is) (subst (λ (r : Option Holder). IsFirstHolder (λ held. StandsAgainst held asked) items r) c.in_default.is (c.against.ensures items c.self.invariant.0 c.self.invariant.1))

-- without the hold that was put at the end, the table is as it was
pub invariant_of-self-in-Err : goal.invariant_of-self-in-Err
invariant_of-self-in-Err c =
    let items = c.self.inside.holds.items in
    let asked : Hold = record { name = c.args.name; mode = c.args.mode; holder = c.args.holder } in
    let same : c.pop.new.self.items ≡ items = popped items asked c.add.new.holds.items c.pop.new.self.items c.in_ok-add.ensures.ok
    (subst (λ (n : ℕ). c.pop.new.self.items ≡ take (n - 1) c.add.new.holds.items) c.add.new.holds.ok.0 c.pop.ensures.rest) in
    subst (λ (t : List Hold). IsTable t × IsIndexed t c.add-2.new.self) (sym same) (c.self.invariant.0, c.in-Err.ensures.err items c.self.invariant.1)

pub invariant_of-self-in_default-add : goal.invariant_of-self-in_default-add
invariant_of-self-in_default-add c =
    let items = c.self.inside.holds.items in
    let asked : Hold = record { name = c.args.name; mode = c.args.mode; holder = c.args.holder } in
    let free = subst (λ (r : Option Holder). IsFirstHolder (λ held. StandsAgainst held asked) items r) c.in_default.is (c.against.ensures items c.self.invariant.0 c.self.invariant.1) in
    subst (λ (t : List Hold). IsTable t × IsIndexed t c.add-2.new.self) (sym c.in_ok-add.ensures.ok)
    (table_push items asked c.self.invariant.0 (c.requires.name, c.requires.holder) free, c.in_default-add.ensures.ok items c.self.invariant.1)
