-- Why no volume is found on a unit, step by step.
use Rattle.std.specs.Prelude.{◌≡◌, ◌⊎◌, ℕ, Bool, List}
use Rattle.ckd_image.specs.declared.fault.CkdFault.TheVariants.{BadHead}
use Rattle.ckd_image.specs.declared.head.Head.{Head}
use Rattle.ckd_image.specs.declared.track.Track.{Track}
use Rattle.ckd_image.specs.Address.{address_of}
use Rattle.ckd_image.specs.Device.{heads_of}
use Rattle.ckd_image.specs.Head.{IsHeadFault}
use Rattle.ckd_image.specs.Track.{IsTrackText}
use Rattle.vol_label.specs.declared.fault.LabelFault.TheVariants.{BadLabel}
use Rattle.vol_label.specs.declared.label.Label.{Label}
use Rattle.vol_label.specs.Label.{IsLabel, IsLabelFault}
use Rattle.volume_model.specs.declared.place.Breach.{Breach}
use Rattle.volume_model.specs.declared.why.Why.TheVariants as whys
use Rattle.volume_model.specs.Rules.{number_of}
use Rattle.volume_model.specs.Sound.{Slots, IsCheckFault}
use Rattle.vtoc_check.specs.declared.fault.VtocFault.{VtocFault}
use Rattle.vtoc_check.specs.declared.fault.VtocFault.TheVariants.{BadVtoc, Indexed, VtocFull}
use Rattle.unit_load.specs.declared.stop.UnitFault.{UnitFault}
use Rattle.unit_load.specs.declared.stop.UnitFault.TheVariants as faults
use Rattle.unit_load.specs.declared.stop.Stop.{Stop}
use Rattle.unit_load.specs.declared.stop.Stop.TheVariants as stops

-- the head fails
abbrev pub IsHeadStop : List ℕ → ℕ → Stop → Type 0
IsHeadStop head blocks (stops.Offline (whys.Head why)) = IsHeadFault head blocks (BadHead why)
IsHeadStop head blocks _ = ⊥

-- a label stands in the slot of track 0
pub record IsLabelIn (image : Head) (slot : List ℕ) (label : Label) : Type 0 where
  pub text : Track
  pub text_stands : IsTrackText (address_of (heads_of image.device) 0) slot text
  pub stands : IsLabel image text.recs label

-- none does: the slot says nothing, or a rule of labels is broken
abbrev pub IsLabelStop : Head → List ℕ → Stop → Type 0
IsLabelStop image slot (stops.Offline (whys.Label why)) =
    (((text : Track) → ¬ IsTrackText (address_of (heads_of image.device) 0) slot text) × (why ≡ 1))
    ⊎ ((text : Track) × IsTrackText (address_of (heads_of image.device) 0) slot text × IsLabelFault image text.recs (BadLabel why))
IsLabelStop image slot (stops.Offline _) = ⊥
IsLabelStop image slot (stops.Fault fault) = Unit {0}

-- the VTOC of a label is refused, with a slide open on its volume or not
abbrev pub IsVtocStop : Bool → Head → Slots → Label → Stop → Type 0
IsVtocStop sliding image slots label (stops.Offline (whys.Vtoc track number why)) =
    (told : Breach) × IsCheckFault image slots label.vtoc sliding told × (track ≡ told.place.track) × (number ≡ told.place.record_number) × (why ≡ number_of told.rule)
IsVtocStop sliding image slots label (stops.Offline _) = ⊥
IsVtocStop sliding image slots label (stops.Fault fault) = Unit {0}

-- ---- refusals of the VTOC's check

-- the check has no other
abbrev pub IsFaultOfCheck : VtocFault → Type 0
IsFaultOfCheck Indexed = ⊥
IsFaultOfCheck (VtocFull need free) = ⊥
IsFaultOfCheck _ = Unit {0}

abbrev pub stop_for : VtocFault → Stop
stop_for (BadVtoc track number why) = stops.Offline (whys.Vtoc track number why)
stop_for _ = stops.Fault faults.NoMemory

-- ---- faults

-- memory ran out
abbrev pub IsMemory : UnitFault → Type 0
IsMemory fault = fault ≡ faults.NoMemory

-- what is said of the fault, where it is one
abbrev pub StopsBy : (UnitFault → Type 0) → Stop → Type 0
StopsBy is (stops.Fault fault) = is fault
StopsBy is (stops.Offline why) = Unit {0}
