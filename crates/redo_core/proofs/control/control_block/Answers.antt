use Rattle.std.proofs.Common.{ℕ, zero, List, drop, ap, ◌∙◌}
use Rattle.std.proofs.lemmas.List.{drop-replicate}
use Rattle.redo_core.specs.Format.{wide}
use Rattle.redo_core.proofs.control.control_block.Goals as goal

pub put_status-requires-clause-behind : goal.put_status-requires-clause-behind
put_status-requires-clause-behind c = ap (λ (l : List ℕ). drop 128 l) c.in_ok-block.ensures ∙ drop-replicate 128 wide zero
