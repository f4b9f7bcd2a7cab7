-- What is loaded of a unit describes what it is.
use Rattle.std.proofs.Common.{◌≡◌, ℕ, suc, ◌<◌, ◌≤◌, List, [], ◌∷◌, length, Bool, false, Some, refl, sym, ap, subst, ◌∙◌, arith, true}
use Rattle.std.specs.Prelude.{slice_get}
use Rattle.std.proofs.lemmas.Bool.{false≢true}
use Rattle.std.proofs.lemmas.Option.{slice_get_within}
use Rattle.ckd_image.specs.declared.fault.CkdFault.TheVariants.{BadHead}
use Rattle.ckd_image.specs.declared.head.Head.{Head}
use Rattle.ckd_image.specs.Head.{IsHeadFault}
use Rattle.dasd_pool.specs.Disk.{Shape, State}
use Rattle.vol_label.specs.declared.label.Label.{Label}
use Rattle.redo_core.specs.declared.control.Control.{Control}
use Rattle.redo_core.specs.declared.control.Control.TheVariants.{Idle}
use Rattle.redo_core.specs.Phases.{IsAtRest}
use Rattle.redo_core.specs.Reading.{journal_of, fills_of}
use Rattle.ckd_image.proofs.OneHead.{one_head_fault}
use Rattle.volume_model.specs.declared.why.Why.TheVariants as whys
use Rattle.volume_model.specs.Reads.{IsUnit, IsOnline, HasImage, HasBadLabel, HasLabelOf}
use Rattle.volume_model.specs.Sound.{Slots}
use Rattle.volume_model.specs.Unit.{OnlineVolume, UnitModel, online, offline}
use Rattle.volume_model.proofs.OneLabelled.{no_image, labelled_of, no_bad_label, one_bad_label}
use Rattle.move_core.specs.Facts.{Facts}
use Rattle.move_core.specs.Stands.{IsSettled}
use Rattle.move_core.specs.Taking.{IsQuiet}
use Rattle.move_core.proofs.Running.{quiet_at_rest}
use Rattle.unit_steps.specs.unit_change.Described.{AreShort, own_place}
use Rattle.unit_steps.proofs.unit_change.LoadedUnits.{loaded_online, refused_offline}
use Rattle.unit_load.specs.declared.state.UnitState.{UnitState}
use Rattle.unit_load.specs.declared.state.UnitState.TheVariants as states
use Rattle.unit_load.specs.State.{IsStateOf, FitsFill}
use Rattle.unit_steps.specs.Loaded.{HaveFills, HaveStates, AreLoaded, IsModel, AreModels}
use Rattle.unit_steps.proofs.Quiet.{unit_stands, units_found}
use Rattle.unit_session.specs.Sessions.{HasOnlyFills}

-- ---- one unit

module _ (head : List ℕ) (blocks : ℕ) (slots : Slots) where
  -- ---- the head fails

  image_of : (volume : OnlineVolume) → IsOnline false own_place head blocks slots volume → (image : Head) × HasImage head blocks image
  image_of volume is = (is.stands.image, record { stands = is.stands.head_stands; tracks_are = is.stands.tracks_are })

  bad_head : (filling : Bool) (why : ℕ) → IsHeadFault head blocks (BadHead why) → (model : UnitModel) → IsUnit filling false own_place head blocks slots model
      → (kept : List (List ℕ)) × (model ≡ offline (whys.Head why) kept)
  bad_head filling why fault (online volume) is = let has = image_of volume is.1 in absurd (no_image head blocks why has.0 fault has.1)
  bad_head filling why fault (offline (whys.Head other) kept) is =
      let same : other ≡ why = one_head_fault head blocks other why is.0 fault in
      (kept, λ i. offline (whys.Head (same i)) kept)
  bad_head filling why fault (offline whys.Filling kept) is = absurd (no_image head blocks why is.1.0 fault is.1.1)
  bad_head filling why fault (offline (whys.Label other) kept) is = absurd (no_image head blocks why is.1.image fault is.1.head_stands)
  bad_head filling why fault (offline (whys.Vtoc track number other) kept) is = absurd (no_image head blocks why is.1.image fault is.1.labelled.head_stands)

  -- ---- the label fails

  module _ (short : AreShort blocks slots) where
    not_labelled : (why : ℕ) (image : Head) (label : Label) → HasBadLabel head blocks slots why → HasLabelOf head blocks slots image label → ⊥
    not_labelled why image label bad stands = no_bad_label head blocks slots image label stands why bad

    bad_label : (why : ℕ) → HasBadLabel head blocks slots why → (model : UnitModel) → IsUnit false false own_place head blocks slots model
        → (kept : List (List ℕ)) × (model ≡ offline (whys.Label why) kept)
    bad_label why bad (online volume) is = absurd (not_labelled why is.1.stands.image is.1.found.label bad (labelled_of head blocks slots volume is.1))
    bad_label why bad (offline (whys.Head other) kept) is = absurd (no_image head blocks other bad.image is.0 bad.head_stands)
    bad_label why bad (offline whys.Filling kept) is = absurd (false≢true is.0)
    bad_label why bad (offline (whys.Label other) kept) is =
        let same : other ≡ why = one_bad_label head blocks slots other why is.1 bad in
        (kept, λ i. offline (whys.Label (same i)) kept)
    bad_label why bad (offline (whys.Vtoc track number other) kept) is = absurd (not_labelled why is.1.image is.1.label bad is.1.labelled)

    -- ---- whatever was found

    few : (image : Head) → HasImage head blocks image → image.tracks ≤ 65535
    few image has = omega (arith, has.tracks_are, has.stands.cylinders.1)

    -- the head passes, and a fill is open
    filled : (image : Head) → HasImage head blocks image → (model : UnitModel) → IsUnit true false own_place head blocks slots model
        → (kept : List (List ℕ)) × (model ≡ offline whys.Filling kept)
    filled image has (online volume) is = absurd (false≢true (sym is.0))
    filled image has (offline (whys.Head why) kept) is = absurd (no_image head blocks why image is.0 has)
    filled image has (offline whys.Filling kept) is = (kept, refl)
    filled image has (offline (whys.Label why) kept) is = absurd (false≢true (sym is.0))
    filled image has (offline (whys.Vtoc track number why) kept) is = absurd (false≢true (sym is.0))

    abbrev Is : Bool → UnitModel → Type 0
    Is filling model = IsUnit filling false own_place head blocks slots model

    pub state_model : (filling : Bool) (state : UnitState) → FitsFill filling state → IsStateOf false head blocks slots state → (model : UnitModel)
        → IsUnit filling false own_place head blocks slots model → IsModel state model
    state_model filling (states.Online loaded) fit (image, label, labelled, is) model stands =
        let own : Is false model = subst (λ (f : Bool). Is f model) fit stands in
        let got = loaded_online head blocks slots image label loaded model (few image labelled.head_stands) short labelled is own in
        (got.0, got.1, got.3)
    state_model filling (states.Offline (whys.Head why)) fit fault model stands = bad_head filling why fault model stands
    state_model filling (states.Offline (whys.Label why)) fit bad model stands = bad_label why bad model (subst (λ (f : Bool). Is f model) fit stands)
    state_model filling (states.Offline (whys.Vtoc track number why)) fit bad model stands =
        let own : Is false model = subst (λ (f : Bool). Is f model) fit stands in
        let got = refused_offline head blocks slots bad.image bad.label bad.told model (few bad.image bad.labelled.head_stands) short bad.labelled bad.fault own in
        (got.0, got.1 ∙ (λ i. offline (whys.Vtoc (sym bad.track_is i) (sym bad.number_is i) (sym bad.why_is i)) got.0))
    state_model filling (states.Offline whys.Filling) fit (image, has) model stands = filled image has model (subst (λ (f : Bool). Is f model) fit stands)

-- ---- lists of them

all_models : (units : List UnitState) (models : List UnitModel) → length units ≡ length models
    → ((u : ℕ) (found : UnitState) (model : UnitModel) → slice_get units u ≡ Some found → slice_get models u ≡ Some model → IsModel found model) → AreModels units models
all_models [] [] long each = tt
all_models [] (model ∷ models) long each = absurd (omega (arith, long))
all_models (found ∷ units) [] long each = absurd (omega (arith, long))
all_models (found ∷ units) (model ∷ models) long each =
    (each 0 found model refl refl, all_models units models (omega (arith, long)) (λ u f m there at. each (suc u) f m there at))

-- ---- all units of a pool on which no slide is open

module _ (facts : Facts) (state : State) (room : ℕ) (fills : List Bool) (models : List UnitModel) (quiet : IsQuiet facts.shape state room fills) (settled : IsSettled facts state models) where
  abbrev shape : Shape
  shape = facts.shape

  models_are : models ≡ settled.stands.means.found
  models_are = units_found facts state models room fills quiet settled

  -- each is what its own blocks say, and whether a fill is open on it
  own_unit : (u : ℕ) (model : UnitModel) → u < journal_of shape → slice_get models u ≡ Some model
      → IsUnit (fills_of fills u) false own_place (shape.head u) (shape.blocks u) (state.contents u) model
  own_unit u model less at =
      unit_stands facts state models room fills quiet settled u model less (subst (λ (list : List UnitModel). slice_get list u ≡ Some model) models_are at)

  own_model : (units : List UnitState) → AreLoaded shape state.contents units → HaveFills fills units → (u : ℕ) (found : UnitState) (model : UnitModel) → u < journal_of shape
      → slice_get units u ≡ Some found → slice_get models u ≡ Some model → IsModel found model
  own_model units loaded fit u found model less there at =
      let own = loaded u found there in
      state_model (shape.head u) (shape.blocks u) (state.contents u) own.1 (fills_of fills u) found (fit u found there) own.0 model (own_unit u model less at)

  own_models : (units : List UnitState) → HaveStates shape units → AreLoaded shape state.contents units → HaveFills fills units → AreModels units models
  own_models units count loaded fit =
      all_models units models (count ∙ sym (ap (λ (list : List UnitModel). length list) models_are ∙ settled.stands.means.found_are.count))
      (λ u found model there at. own_model units loaded fit u found model (omega (arith, slice_get_within units u found there, count)) there at)

-- under a shape that is that of the facts
module _ {facts : Facts} {shape : Shape} {state : State} {room : ℕ} {control : Control} {fills : List Bool} {models : List UnitModel}
    (same : facts.shape ≡ shape) (settled : IsSettled facts state models) where
  pub model_at : (units : List UnitState) (u : ℕ) (found : UnitState) (model : UnitModel) → IsAtRest shape state room control fills → HasOnlyFills control fills units
      → AreLoaded shape state.contents units → u < journal_of shape → slice_get units u ≡ Some found → slice_get models u ≡ Some model → IsModel found model
  model_at units u found model rest free =
      let P : Shape → Type 0 = λ s. IsAtRest s state room control fills → AreLoaded s state.contents units → u < journal_of s
      → slice_get units u ≡ Some found → slice_get models u ≡ Some model → IsModel found model in
      subst P same (λ rests loaded less there at. own_model facts state room fills models (quiet_at_rest rests free.idle) settled units loaded free.fit u found model less there at) rest

  -- each is what its own blocks say, and whether a fill is open on it
  pub unit_at : (u : ℕ) (model : UnitModel) → IsAtRest shape state room control fills → control ≡ Idle → u < journal_of shape → slice_get models u ≡ Some model
      → IsUnit (fills_of fills u) false own_place (shape.head u) (shape.blocks u) (state.contents u) model
  unit_at u model rest idle =
      let P : Shape → Type 0 = λ s. IsAtRest s state room control fills → u < journal_of s → slice_get models u ≡ Some model
      → IsUnit (fills_of fills u) false own_place (s.head u) (s.blocks u) (state.contents u) model in
      subst P same (λ rests less at. own_unit facts state room fills models (quiet_at_rest rests idle) settled u model less at) rest

  pub models_at : (units : List UnitState) → IsAtRest shape state room control fills → HasOnlyFills control fills units → HaveStates shape units → AreLoaded shape state.contents units
      → AreModels units models
  models_at units rest free =
      let P : Shape → Type 0 = λ s. IsAtRest s state room control fills → HaveStates s units → AreLoaded s state.contents units → AreModels units models in
      subst P same (λ rests count loaded. own_models facts state room fills models (quiet_at_rest rests free.idle) settled units count loaded free.fit) rest
