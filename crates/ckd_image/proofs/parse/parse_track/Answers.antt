use Rattle.std.proofs.Common.{arith}
use Rattle.ckd_image.proofs.OneText.{only_memory}
use Rattle.ckd_image.proofs.parse.parse_track.Goals as goal

pub returns-clause-only : goal.returns-clause-only
returns-clause-only c = only_memory c.args.at c.args.slot.now c.track_at.result (omega arith, omega arith) c.requires.short c.track_at.ensures.refused
