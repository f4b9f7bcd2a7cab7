use Rattle.redo_core.proofs.Looking.{looks_then}
use Rattle.redo_core.proofs.format.is_in_use.Goals as goal

pub returns-clause-looks : goal.returns-clause-looks
returns-clause-looks g c =
    looks_then g.P.Pool _ _ _ (looks_then g.P.Pool _ _ _ c.read_or_zeros.ensures.looks c.read_or_zeros-2.ensures.looks) c.read_or_zeros-3.ensures.looks
