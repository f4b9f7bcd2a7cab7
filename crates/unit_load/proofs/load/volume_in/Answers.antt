use Rattle.std.proofs.Common.{refl, sym, subst}
use Rattle.ckd_image.specs.Device.{slot_of}
use Rattle.volume_model.specs.Sound.{Slots, IsCheckFault}
use Rattle.vtoc_check.specs.Slots.{slot_in}
use Rattle.unit_load.specs.declared.stop.Stop.{Stop}
use Rattle.unit_load.specs.Stops.{IsVtocStop}
use Rattle.unit_load.proofs.Refusals.{of_check, check_stop}
use Rattle.unit_load.proofs.load.volume_in.Goals as goal

pub stop_of-requires : goal.stop_of-requires
stop_of-requires c =
    let unit : Slots = slot_in c.args.run (slot_of c.args.head.device) c.args.slots.now in
    of_check (IsCheckFault c.args.head unit c.args.label.now.vtoc c.args.sliding) c.in-Err.fault (c.in-Err.ensures.fault unit (λ k less. refl))

pub returns-in-Err-clause-stop : goal.returns-in-Err-clause-stop
returns-in-Err-clause-stop c = λ unit here.
    subst (λ (stop : Stop). IsVtocStop c.args.sliding c.args.head unit c.args.label.now stop) (sym c.stop_of.ensures.stop) (check_stop c.args.sliding c.args.head unit c.args.label.now c.in-Err.fault (c.in-Err.ensures.fault unit here))
