use Rattle.std.proofs.Common.{◌<◌, ◌-◌, ◌/◌, All, take}
use Rattle.vtoc_core.specs.declared.volume.Volume.{Volume}
use Rattle.unit_steps.specs.Plans.{IsLoadedAt}
use Rattle.unit_session.proofs.rendering.has_long.Given as goal

abbrev pub invariant-loop-unit : goal.invariant-loop-unit
invariant-loop-unit l = All (λ change. ¬ ((volume : Volume) × IsLoadedAt l.units change.0 volume × ((l.room - 1) / 2 < volume.vtoc.len))) (take l.unit-index l.changes)
