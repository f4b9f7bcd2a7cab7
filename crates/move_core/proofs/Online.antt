-- A unit on which a loader finds a volume is online.
use Rattle.std.proofs.Common.{◌≡◌, ℕ, ◌≤◌, List, Bool, false, refl, sym, subst, ◌∙◌, arith}
use Rattle.std.proofs.lemmas.Bool.{false≢true}
use Rattle.ckd_image.specs.declared.head.Head.{Head}
use Rattle.ckd_image.specs.declared.fault.CkdFault.TheVariants.{BadHead}
use Rattle.ckd_image.specs.declared.track.Track.{Track}
use Rattle.ckd_image.specs.Device.{heads_of}
use Rattle.vol_label.specs.declared.label.Label.{Label}
use Rattle.ckd_image.proofs.OneHead.{no_head}
use Rattle.volume_model.specs.declared.why.Why.TheVariants as whys
use Rattle.volume_model.specs.declared.place.Breach.{Breach}
use Rattle.volume_model.specs.declared.place.Vtoc.{Vtoc}
use Rattle.volume_model.specs.Sound.{Slots, IsFormat4, IsVtoc, IsCheckFault, Volume, IsVolume}
use Rattle.volume_model.specs.Unit.{OnlineVolume, UnitModel, online, offline}
use Rattle.volume_model.specs.Reads.{IsOnline, HasImage, IsFirstText, HasBadLabel, HasLabelOf, HasBadVtoc, IsUnit}
use Rattle.volume_model.proofs.OneLabelled.{one_image, one_first, one_labelled, low_pointer}
use Rattle.volume_model.proofs.OneCheck.{none_told}
use Rattle.volume_model.proofs.OneLabelled as labels
use Rattle.move_core.proofs.OneVtoc.{one_format_4, one_vtoc}

module _ (sliding : Bool) (head : List ℕ) (blocks : ℕ) (slots : Slots) (found : Volume) (is : IsVolume head blocks slots sliding found) where
  -- ---- the head and the label

  own_image : HasImage head blocks is.image
  own_image = record { stands = is.head_stands; tracks_are = is.tracks_are }

  labelled : HasLabelOf head blocks slots is.image found.label
  labelled = record { head_stands = own_image; text = is.track_0; text_stands = is.track_0_stands; stands = is.label_stands }

  pub first_text : (text : Track) → IsFirstText is.image slots text → text ≡ is.track_0
  first_text text stands = one_first head blocks slots is.image text is.track_0 stands is.track_0_stands

  pub no_bad_label : (why : ℕ) → ¬ HasBadLabel head blocks slots why
  no_bad_label = labels.no_bad_label head blocks slots is.image found.label labelled

  pub same_label : (label : Label) → HasLabelOf head blocks slots is.image label → label ≡ found.label
  same_label label has = (one_labelled head blocks slots is.image is.image found.label label labelled has).1

  -- ---- the VTOC

  same_four : (a b : List ℕ) → IsFormat4 (heads_of is.image.device) slots found.label.vtoc a → IsFormat4 (heads_of is.image.device) slots found.label.vtoc b → a ≡ b
  same_four a b one other =
      one_format_4 (heads_of is.image.device) slots found.label.vtoc a b (low_pointer head blocks slots is.image found.label labelled) one other

  pub few_tracks : is.image.tracks ≤ 65535
  few_tracks = omega (arith, is.tracks_are, is.head_stands.cylinders.1)

  same_vtoc : (a b : Vtoc) → IsVtoc is.image slots found.label.vtoc sliding a → IsVtoc is.image slots found.label.vtoc sliding b → a ≡ b
  same_vtoc a b one other = sym (own a one) ∙ own b other
    where
      own : (v : Vtoc) → IsVtoc is.image slots found.label.vtoc sliding v → is.vtoc ≡ v
      own v stands = (one_vtoc is.image slots found.label.vtoc sliding is.vtoc v few_tracks is.vtoc_stands stands).0

  no_fault : (told : Breach) → ¬ IsCheckFault is.image slots found.label.vtoc sliding told
  no_fault = none_told is.image slots found.label.vtoc sliding same_four same_vtoc is.vtoc is.vtoc_stands is.sound

  pub no_bad_vtoc : (track number why : ℕ) → ¬ HasBadVtoc sliding head blocks slots track number why
  no_bad_vtoc track number why bad =
      let image : bad.image ≡ is.image = one_image head blocks bad.image is.image bad.labelled.head_stands own_image in
      let label : bad.label ≡ found.label = same_label bad.label (subst (λ (i : Head). HasLabelOf head blocks slots i bad.label) image bad.labelled) in
      let fault = subst (λ (i : Head). IsCheckFault i slots bad.label.vtoc sliding bad.told) image bad.fault in
      no_fault bad.told (subst (λ (l : Label). IsCheckFault is.image slots l.vtoc sliding bad.told) label fault)

  -- ---- the unit

  pub is_online : (place : ℕ → ℕ) (unit : UnitModel) → IsUnit false sliding place head blocks slots unit
      → (volume : OnlineVolume) × (unit ≡ online volume) × IsOnline sliding place head blocks slots volume
  is_online place (online volume) stands = (volume, refl, stands.1)
  is_online place (offline (whys.Head why) kept) stands = absurd (no_head head blocks (BadHead why) stands.0 is.image.device is.head_stands)
  is_online place (offline whys.Filling kept) stands = absurd (false≢true stands.0)
  is_online place (offline (whys.Label why) kept) stands = absurd (no_bad_label why stands.1)
  is_online place (offline (whys.Vtoc track number why) kept) stands = absurd (no_bad_vtoc track number why stands.1)

pub loaded_is_online : (head : List ℕ) (blocks : ℕ) (slots : Slots) (unit : UnitModel) (found : Volume) → (stands : IsVolume head blocks slots false found)
    → IsUnit false false (λ track. track) head blocks slots unit
    → (volume : OnlineVolume) × (unit ≡ online volume) × IsOnline false (λ track. track) head blocks slots volume
loaded_is_online head blocks slots unit found stands is = is_online false head blocks slots found stands (λ track. track) unit is
