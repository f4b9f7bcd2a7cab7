use Rattle.unit_session.proofs.CopyingTexts.{few_cylinders}
use Rattle.unit_session.proofs.texts.has_text.Goals as goal

pub of-at-requires-clause-track : goal.of-at-requires-clause-track
of-at-requires-clause-track g c =
    few_cylinders c.args.device c.heads.result c.args.track ((g.P.Pool.shape c.args.journal.now.pool).blocks c.args.unit) c.heads.ensures c.requires.few c.requires.track
