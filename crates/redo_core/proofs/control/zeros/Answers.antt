use Rattle.std.proofs.Common.{◌∙◌}
use Rattle.redo_core.proofs.control.zeros.Goals as goal

pub returns : goal.returns
returns c = c.from_vec.ensures ∙ c.in_ok-zeros.ensures.items_if_clones_equal (λ y is. is)
