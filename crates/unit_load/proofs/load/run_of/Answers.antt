use Rattle.std.proofs.Common.{refl, sym, subst}
use Rattle.vtoc_check.specs.Front.{IsFrontBreach}
use Rattle.unit_load.specs.declared.stop.Stop.{Stop}
use Rattle.unit_load.specs.Stops.{IsVtocStop}
use Rattle.unit_load.proofs.Refusals.{of_check, front_stop}
use Rattle.unit_load.proofs.load.run_of.Goals as goal

pub stop_of-requires : goal.stop_of-requires
stop_of-requires c =
    of_check (IsFrontBreach c.args.head (λ _. c.args.slot.now) c.args.label.now.vtoc) c.in-Err.fault (c.in-Err.ensures.fault (λ _. c.args.slot.now) refl)

pub returns-in-Err-clause-stop : goal.returns-in-Err-clause-stop
returns-in-Err-clause-stop c = λ sliding slots here.
    subst (λ (stop : Stop). IsVtocStop sliding c.args.head slots c.args.label.now stop) (sym c.stop_of.ensures.stop) (front_stop sliding c.args.head slots c.args.label.now c.in-Err.fault (c.in-Err.ensures.fault slots here))
