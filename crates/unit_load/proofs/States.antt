-- What is found of a unit, step by step, and what the unit is.
use Rattle.std.proofs.Common.{◌≡◌, ℕ, List, Bool}
use Rattle.ckd_image.specs.declared.head.Head.{Head}
use Rattle.ckd_image.specs.Head.{IsHead}
use Rattle.vol_label.specs.declared.label.Label.{Label}
use Rattle.volume_model.specs.declared.why.Why.TheVariants as whys
use Rattle.volume_model.specs.Reads.{HasImage, HasLabelOf}
use Rattle.volume_model.specs.Sound.{Slots}
use Rattle.vtoc_core.specs.declared.volume.Volume.{Volume}
use Rattle.vtoc_load.specs.LoadedVtoc.{IsLoadedVtoc}
use Rattle.unit_load.specs.declared.state.UnitState.TheVariants as states
use Rattle.unit_load.specs.declared.stop.Stop.{Stop}
use Rattle.unit_load.specs.declared.stop.Stop.TheVariants as stops
use Rattle.unit_load.specs.State.{IsStateOf, IsStateStop}
use Rattle.unit_load.specs.Stops.{IsLabelIn, IsVtocStop}

labelled : (head : List ℕ) (blocks : ℕ) (slots : Slots) (image : Head) (label : Label) → HasImage head blocks image → IsLabelIn image (slots 0) label → HasLabelOf head blocks slots image label
labelled head blocks slots image label is found = record { head_stands = is; text = found.text; text_stands = found.text_stands; stands = found.stands }

pub online_state : (sliding : Bool) (head : List ℕ) (blocks : ℕ) (slots : Slots) (image : Head) (label : Label) (volume : Volume) → IsHead head blocks image.device × (image.tracks ≡ blocks)
    → IsLabelIn image (slots 0) label → IsLoadedVtoc image label slots sliding volume → IsStateOf sliding head blocks slots (states.Online volume)
online_state sliding head blocks slots image label volume is found loaded =
    (image, label, labelled head blocks slots image label (record { stands = is.0; tracks_are = is.1 }) found, loaded)

-- the VTOC fails
pub vtoc_state : (sliding : Bool) (head : List ℕ) (blocks : ℕ) (slots : Slots) (image : Head) (label : Label) (stop : Stop) → IsHead head blocks image.device × (image.tracks ≡ blocks)
    → IsLabelIn image (slots 0) label → IsVtocStop sliding image slots label stop → IsStateStop sliding head blocks slots stop
vtoc_state sliding head blocks slots image label (stops.Offline (whys.Vtoc track number why)) is found stopped = record {
  image = image;
  label = label;
  labelled = labelled head blocks slots image label (record { stands = is.0; tracks_are = is.1 }) found;
  told = stopped.0;
  fault = stopped.1;
  track_is = stopped.2;
  number_is = stopped.3;
  why_is = stopped.4;
}
vtoc_state sliding head blocks slots image label (stops.Offline (whys.Head why)) is found stopped = absurd stopped
vtoc_state sliding head blocks slots image label (stops.Offline (whys.Label why)) is found stopped = absurd stopped
vtoc_state sliding head blocks slots image label (stops.Offline whys.Filling) is found stopped = absurd stopped
vtoc_state sliding head blocks slots image label (stops.Fault fault) is found stopped = tt
