use Rattle.std.proofs.Common.{◌+◌}
use Rattle.ckd_image.specs.Device.{heads_of}
use Rattle.volume_model.specs.Space.{track_at}
use Rattle.volume_model.proofs.OneVtoc.{one_vtoc}
use Rattle.vtoc_rewrite.proofs.Rewritten.{rewritten_stands}
use Rattle.vtoc_rewrite.proofs.laws.rewrite_laws.Goals as goal

pub returns-clause-stands : goal.returns-clause-stands
returns-clause-stands c = rewritten_stands

pub returns-clause-one : goal.returns-clause-one
returns-clause-one c =
    λ head slots pointer sliding a b short one other.
    (one_vtoc head slots pointer sliding a b (short (track_at (heads_of head.device) pointer.at)) (λ k less. short (a.run.first + k)) one other).0
