use Rattle.ckd_image.specs.Device.{heads_of}
use Rattle.job_restores.proofs.Rows.{set_of_part, part_described}
use Rattle.job_restores.proofs.restoring.Restoring.is_part_pinned.Goals as goal

pub returns : goal.returns
returns c =
    let f1 = c.args.self.now.part.now.f1 in
    c.is_pinned.ensures (set_of_part f1)
    (part_described (heads_of c.args.self.now.target.now.device) c.row-row.result f1 c.row-row.ensures.name c.row-row.ensures.f1 c.row-row.ensures.extents c.row-row.ensures.threes)
