use Rattle.std.proofs.lemmas.Result.{on_ok_weaker}
use Rattle.unit_session.specs.Copies.{contents_of}
use Rattle.unit_session.proofs.CopyingTexts.{both_copied}
use Rattle.unit_session.proofs.copying.place_copies.Goals as goal

pub returns-clause-copied : goal.returns-clause-copied
returns-clause-copied g c = λ told.
    on_ok_weaker c.empty_tracks.result
    (both_copied c.args.copies.now c.requires.may.apart (contents_of g.P.Pool c.args.journal.now) (contents_of g.P.Pool c.copy_texts.new.journal) (contents_of g.P.Pool c.empty_tracks.new.journal)
    ((c.copy_texts.ensures.writes.runs told).touches.contents) ((c.empty_tracks.ensures.writes.runs told).touches.contents) (c.in_ok-copy_texts.ensures.copied told))
    (c.empty_tracks.ensures.emptied told)
