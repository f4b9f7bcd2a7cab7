use Rattle.std.proofs.Common.{◌≤◌, All, List, sym, subst}
use Rattle.ckd_image.specs.Device.{heads_of}
use Rattle.free_map.specs.declared.run.Run.{Run}
use Rattle.volume_model.specs.Space.{end_of}
use Rattle.vtoc_render.proofs.Below.{ends_below}
use Rattle.vtoc_render.proofs.space.runs_below.Goals as goal

pub returns-clause-below : goal.returns-clause-below
returns-clause-below c =
    subst (λ (runs : List Run). All (λ run. end_of run ≤ c.args.volume.now.usable) runs)
    (sym c.in_ok-runs.ensures)
    (ends_below (heads_of c.args.volume.now.device) c.args.volume.now.usable c.args.extents.now c.requires)
