use Rattle.std.proofs.Common.{◌+◌, get_or, arith}
use Rattle.std.proofs.lemmas.List.{take_more, length-take-le}
use Rattle.std.proofs.Common.{take}
use Rattle.redo_core.proofs.Redoing.{image_more}
use Rattle.redo_core.proofs.Faulting.{within_more}
use Rattle.redo_core.proofs.opening.image_of.Goals as goal

pub loop-target-preserved : goal.loop-target-preserved
loop-target-preserved c =
    let targets = c.args.targets.now in
    let i = c.loop-target.target-index in
    let inv = c.loop-target.invariant in
    record {
      at = omega (arith, inv.at);
      image = λ size journal image. image_more size journal image (take i targets) (take (i + 1) targets) (get_or targets i (record { unit = 0; block = 0 })) c.args.unit c.args.block c.loop-target.place c.loop-target.found c.later-found.result
          (take_more targets i (record { unit = 0; block = 0 }) c.loop-target-test.true) (omega (arith, inv.at, length-take-le i targets (omega (arith, c.loop-target-test.true)))) c.later-found.ensures (inv.image size journal image);
      within = within_more _ c.loop-target.found c.later-found.result c.loop-target.place (omega (arith, inv.at)) c.later-found.ensures inv.within;
    }
