use Rattle.std.proofs.Common.{ℕ, List, ap, ◌∙◌}
use Rattle.std.specs.BTreeSet.{contains}
use Rattle.enq_table.specs.Index.{hold_order}
use Rattle.enq_table.proofs.index.Index.has.Goals as goal

pub returns : goal.returns
returns c = λ table h.
    let was = h.holders c.args.name.now c.args.holder.now in
    (was.0, was.1, c.contains.ensures ∙ ap (λ (k : (ℕ × List ℕ) × (ℕ × List ℕ)). contains hold_order c.args.self.now.holders k) c.key_of_hold.ensures ∙ was.2)
