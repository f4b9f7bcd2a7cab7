use Rattle.std.proofs.Common.{◌≡◌, ◌∙◌, ◌≤◌, ℕ, length, subst, sym, arith}
use Rattle.ckd_image.specs.Device.{heads_of}
use Rattle.volume_model.specs.Unit.{tracks_of}
use Rattle.step_plans.specs.Plans.{extents_from}
use Rattle.plan_core.specs.Extents.{extents_at}
use Rattle.job_select.proofs.Counts.{row_tracks_few}
use Rattle.job_select.proofs.tracks.track_count.Goals as goal

pub count_tracks-requires : goal.count_tracks-requires
count_tracks-requires c =
    let same : length (tracks_of (extents_at (heads_of c.args.volume.now.device) c.as_slice.result.now)) ≡ length (tracks_of (extents_from c.args.volume.now.device c.args.row.now.extents)) =
    λ i. length (tracks_of (extents_at (heads_of c.args.volume.now.device) (c.as_slice.ensures i))) in
    omega (arith, same, row_tracks_few c.args.volume.now c.requires.sound c.args.row.now c.requires.there)

pub returns-clause-count : goal.returns-clause-count
returns-clause-count c = c.count_tracks.ensures ∙ (λ i. length (tracks_of (extents_at (heads_of c.args.volume.now.device) (c.as_slice.ensures i))))

pub returns-clause-few : goal.returns-clause-few
returns-clause-few c =
    let same : c.count_tracks.result ≡ length (tracks_of (extents_from c.args.volume.now.device c.args.row.now.extents)) =
    c.count_tracks.ensures ∙ (λ i. length (tracks_of (extents_at (heads_of c.args.volume.now.device) (c.as_slice.ensures i)))) in
    subst (λ (n : ℕ). n ≤ 65535) (sym same) (row_tracks_few c.args.volume.now c.requires.sound c.args.row.now c.requires.there)
