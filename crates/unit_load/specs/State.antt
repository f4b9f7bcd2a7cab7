-- What a unit is, as it is read.
use Rattle.std.specs.Prelude.{◌≡◌, ℕ, Bool, true, false, List}
use Rattle.ckd_image.specs.declared.fault.CkdFault.TheVariants.{BadHead}
use Rattle.ckd_image.specs.declared.head.Head.{Head}
use Rattle.ckd_image.specs.Head.{IsHeadFault}
use Rattle.vol_label.specs.declared.label.Label.{Label}
use Rattle.volume_model.specs.declared.why.Why.TheVariants as whys
use Rattle.volume_model.specs.Reads.{HasImage, HasLabelOf, HasBadLabel, HasBadVtoc}
use Rattle.volume_model.specs.Sound.{Slots}
use Rattle.vtoc_load.specs.LoadedVtoc.{IsLoadedVtoc}
use Rattle.unit_load.specs.declared.stop.Stop.{Stop}
use Rattle.unit_load.specs.declared.stop.Stop.TheVariants as stops
use Rattle.unit_load.specs.declared.state.UnderWay.{UnderWay}
use Rattle.unit_load.specs.declared.state.UnderWay.TheVariants as under_way
use Rattle.unit_load.specs.declared.state.UnitState.{UnitState}
use Rattle.unit_load.specs.declared.state.UnitState.TheVariants as states

-- Head and label pass, and the volume is what the VTOC says; or the first of them that fails tells why the unit is offline. With a fill open it is offline where its
-- head passes, whatever its tracks hold. With a slide open the indicator of an interrupted change counts as off.
abbrev pub IsStateOf : Bool → List ℕ → ℕ → Slots → UnitState → Type 0
IsStateOf sliding head blocks slots (states.Online volume) =
    (image : Head) × (label : Label) × HasLabelOf head blocks slots image label × IsLoadedVtoc image label slots sliding volume
IsStateOf sliding head blocks slots (states.Offline (whys.Head why)) = IsHeadFault head blocks (BadHead why)
IsStateOf sliding head blocks slots (states.Offline (whys.Label why)) = HasBadLabel head blocks slots why
IsStateOf sliding head blocks slots (states.Offline (whys.Vtoc track number why)) = HasBadVtoc sliding head blocks slots track number why
IsStateOf sliding head blocks slots (states.Offline whys.Filling) = (image : Head) × HasImage head blocks image

-- why no volume is found on it
abbrev pub IsStateStop : Bool → List ℕ → ℕ → Slots → Stop → Type 0
IsStateStop sliding head blocks slots (stops.Offline why) = IsStateOf sliding head blocks slots (states.Offline why)
IsStateStop sliding head blocks slots (stops.Fault fault) = Unit {0}

-- ---- what is under way on it

abbrev pub is_filling_now : UnderWay → Bool
is_filling_now under_way.Nothing = false
is_filling_now under_way.Fill = true
is_filling_now under_way.Slide = false

abbrev pub is_sliding_now : UnderWay → Bool
is_sliding_now under_way.Nothing = false
is_sliding_now under_way.Fill = false
is_sliding_now under_way.Slide = true

-- What a unit is fits whether a fill is open on it: a fill counts where the head passes, and before the label.
abbrev pub FitsFill : Bool → UnitState → Type 0
FitsFill filling (states.Online volume) = filling ≡ false
FitsFill filling (states.Offline (whys.Head why)) = Unit {0}
FitsFill filling (states.Offline (whys.Label why)) = filling ≡ false
FitsFill filling (states.Offline (whys.Vtoc track number why)) = filling ≡ false
FitsFill filling (states.Offline whys.Filling) = filling ≡ true

-- why no volume is found on it fits that too
abbrev pub FitsFillStop : Bool → Stop → Type 0
FitsFillStop filling (stops.Offline why) = FitsFill filling (states.Offline why)
FitsFillStop filling (stops.Fault fault) = Unit {0}
