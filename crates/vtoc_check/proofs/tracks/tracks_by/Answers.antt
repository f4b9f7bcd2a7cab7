use Rattle.std.proofs.Common.{◌≡◌, Bool, Vec, Global, length, ◌∙◌}
use Rattle.std.proofs.lemmas.Result.{IfOk-weaker}
use Rattle.vtoc_check.specs.Tracks.{AreBeforeEnds, AreTracksOf}
use Rattle.vtoc_check.proofs.Ends.{all_marks}
use Rattle.vtoc_check.proofs.tracks.tracks_by.Goals as goal

pub returns : goal.returns
returns c =
    IfOk-weaker c.before_ends.result (λ (marks : Vec Bool Global). AreBeforeEnds c.note_ends.new.ends marks.items)
    (λ (marks : Vec Bool Global). (length marks.items ≡ length c.args.ends.now) × AreTracksOf c.args.runs.now marks.items)
    (λ marks h. (h.long ∙ c.note_ends.ensures.long, all_marks c.args.runs.now c.note_ends.new.ends marks.items (length c.args.ends.now) c.requires.within c.note_ends.ensures.long h.long c.note_ends.ensures.ends h.exact)) c.before_ends.ensures
