use Rattle.job_copies.proofs.copying.Copying.row.Goals as goal

pub unreachable-requires : goal.unreachable-requires
unreachable-requires c = c.in_default.ensures.none c.requires.may.row c.requires.may.row_is
