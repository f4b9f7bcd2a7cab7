use Rattle.std.proofs.Common.{◌≡◌, map, take}
use Rattle.ckd_image.specs.Device.{heads_of}
use Rattle.volume_model.specs.Space.{run_of}
use Rattle.vtoc_core.specs.Loaded.{field_of}
use Rattle.volume_change.proofs.space.extents_runs.Given as goal

-- the runs so far
abbrev pub invariant-loop-extent : goal.invariant-loop-extent
invariant-loop-extent l = l.runs.items ≡ map (λ extent. run_of (heads_of l.device) (field_of extent)) (take l.extent-index l.extents)
