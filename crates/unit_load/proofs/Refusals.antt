-- Refusals of the VTOC's check as they make a unit offline.
use Rattle.std.proofs.Common.{inl, Bool}
use Rattle.ckd_image.specs.declared.head.Head.{Head}
use Rattle.vol_label.specs.declared.label.Label.{Label}
use Rattle.volume_model.specs.declared.place.Breach.{Breach}
use Rattle.volume_model.specs.Sound.{Slots, IsCheckFault}
use Rattle.vtoc_check.specs.declared.fault.VtocFault.{VtocFault}
use Rattle.vtoc_check.specs.declared.fault.VtocFault.TheVariants.{BadVtoc, Indexed, VtocFull, NoMemory}
use Rattle.vtoc_check.specs.Faults.{IsToldFault}
use Rattle.vtoc_check.specs.Front.{IsFrontBreach}
use Rattle.unit_load.specs.Stops.{IsVtocStop, IsFaultOfCheck, stop_for}

pub of_check : (is : Breach → Type 0) (fault : VtocFault) → IsToldFault is fault → IsFaultOfCheck fault
of_check is (BadVtoc track number why) told = tt
of_check is Indexed told = told
of_check is (VtocFull need free) told = told
of_check is NoMemory told = tt

pub check_stop : (sliding : Bool) (head : Head) (slots : Slots) (label : Label) (fault : VtocFault) → IsToldFault (IsCheckFault head slots label.vtoc sliding) fault → IsVtocStop sliding head slots label (stop_for fault)
check_stop sliding head slots label (BadVtoc track number why) told = told
check_stop sliding head slots label Indexed told = tt
check_stop sliding head slots label (VtocFull need free) told = tt
check_stop sliding head slots label NoMemory told = tt

pub front_stop : (sliding : Bool) (head : Head) (slots : Slots) (label : Label) (fault : VtocFault) → IsToldFault (IsFrontBreach head slots label.vtoc) fault → IsVtocStop sliding head slots label (stop_for fault)
front_stop sliding head slots label (BadVtoc track number why) told = (told.0, inl told.1, told.2, told.3, told.4)
front_stop sliding head slots label Indexed told = tt
front_stop sliding head slots label (VtocFull need free) told = tt
front_stop sliding head slots label NoMemory told = tt
