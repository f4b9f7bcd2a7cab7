use Rattle.std.proofs.Common.{List, map, ap, sym, ◌∙◌}
use Rattle.std.proofs.lemmas.List.{take_all}
use Rattle.ckd_image.specs.Device.{heads_of}
use Rattle.dscb_rec.specs.declared.field.Extent.{Extent}
use Rattle.volume_model.specs.Space.{run_of}
use Rattle.vtoc_core.specs.Loaded.{field_of}
use Rattle.volume_change.proofs.Tracks.{in_two_steps}
use Rattle.volume_change.proofs.space.extents_runs.Goals as goal

pub returns : goal.returns
returns c =
    c.loop-extent.invariant
    ∙ ap (λ (extents : List Extent). map (λ extent. run_of (heads_of c.args.device) (field_of extent)) extents) (take_all c.loop-extent.extent-index c.args.extents.now c.loop-extent-test.false)
    ∙ sym (in_two_steps (heads_of c.args.device) c.args.extents.now)
