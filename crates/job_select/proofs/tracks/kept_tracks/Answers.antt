use Rattle.std.proofs.Common.{sym, ◌∙◌}
use Rattle.ckd_image.specs.Device.{heads_of}
use Rattle.volume_model.specs.Pinned.{used_tracks, whole_tracks}
use Rattle.job_select.proofs.tracks.kept_tracks.Goals as goal

pub returns : goal.returns
returns c set is =
    c.release_of.ensures
    ∙ (λ i. whole_tracks (heads_of c.args.device) (used_tracks (sym is.fields_are i)) (sym is.extents_are i))
