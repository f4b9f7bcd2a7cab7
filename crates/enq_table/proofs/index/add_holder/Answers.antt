use Rattle.std.proofs.Common.{ℕ, List, true, subst}
use Rattle.std.specs.BTreeSet.{Updates}
use Rattle.enq_table.specs.Index.{hold_order}
use Rattle.enq_table.proofs.Indexing.{holders_added}
use Rattle.enq_table.proofs.index.add_holder.Goals as goal

pub returns-clause-ok : goal.returns-clause-ok
returns-clause-ok c = λ table h.
    holders_added table c.args.hold.now c.args.holders.now c.insert.new.self h
    (subst (λ (k : (ℕ × List ℕ) × (ℕ × List ℕ)). Updates hold_order c.args.holders.now c.insert.new.self k true) c.key_of_hold.ensures c.in_ok-insert.ensures.updates)
