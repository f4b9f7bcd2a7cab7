use Rattle.unit_session.proofs.CopyingTexts.{empty_is_target, target_below, few_cylinders}
use Rattle.unit_session.proofs.copying.empty_track.Goals as goal

pub of-at-requires-clause-track : goal.of-at-requires-clause-track
of-at-requires-clause-track g c =
    let copies = c.args.copies.now in
    let shape = g.P.Pool.shape c.args.journal.now.pool in
    few_cylinders copies.device c.heads.result c.args.track (shape.blocks copies.unit) c.heads.ensures c.requires.may.target_few
    (target_below shape copies c.requires.may c.args.track (empty_is_target copies c.args.track c.requires.there))

pub write-requires-clause-block : goal.write-requires-clause-block
write-requires-clause-block g c =
    let copies = c.args.copies.now in
    target_below (g.P.Pool.shape c.args.journal.now.pool) copies c.requires.may c.args.track (empty_is_target copies c.args.track c.requires.there)
