-- A unit on which head and label pass is online, or offline for what its VTOC breaks.
use Rattle.std.proofs.Common.{◌≡◌, ℕ, List, [], false, refl, subst, ◌∙◌}
use Rattle.std.proofs.lemmas.Bool.{false≢true}
use Rattle.ckd_image.specs.declared.fault.CkdFault.TheVariants.{BadHead}
use Rattle.ckd_image.specs.declared.head.Head.{Head}
use Rattle.ckd_image.specs.declared.head.HeadRule.TheVariants as rules
use Rattle.ckd_image.specs.declared.track.Cchhr.{Cchhr}
use Rattle.vol_label.specs.declared.label.Label.{Label}
use Rattle.volume_model.specs.declared.place.Breach.{Breach}
use Rattle.volume_model.specs.declared.place.Vtoc.{Vtoc}
use Rattle.volume_model.specs.declared.why.Why.TheVariants as whys
use Rattle.volume_model.specs.Check.{breaches_of}
use Rattle.volume_model.specs.Reads.{IsOnline, IsUnit, HasBadLabel, HasLabelOf, HasBadVtoc}
use Rattle.volume_model.specs.Rules.{number_of}
use Rattle.volume_model.specs.Sound.{Slots, IsVtoc, IsCheckFault}
use Rattle.volume_model.specs.Unit.{OnlineVolume, UnitModel, online, offline}
use Rattle.volume_model.proofs.OneLabelled as labels
use Rattle.volume_model.proofs.OneLabelled.{labelled_of, one_labelled}
use Rattle.unit_change.specs.Described.{AreShort, own_place}
use Rattle.unit_change.proofs.OneVtoc.{none_told, one_check}
use Rattle.ckd_image.proofs.OneHead.{no_head}

-- ---- a unit whose label stands

module _ (head : List ℕ) (blocks : ℕ) (slots : Slots) (image : Head) (label : Label) (short : AreShort blocks slots) (labelled : HasLabelOf head blocks slots image label) where
  -- no other head and label stand there, and none is refused
  pub same_labelled : (i : Head) (l : Label) → HasLabelOf head blocks slots i l → (i ≡ image) × (l ≡ label)
  same_labelled i l has = one_labelled head blocks slots image i label l labelled has

  pub no_bad_label : (why : ℕ) → ¬ HasBadLabel head blocks slots why
  no_bad_label = labels.no_bad_label head blocks slots image label labelled

  pub same_fault : (track number why : ℕ) (bad : HasBadVtoc false head blocks slots track number why) → IsCheckFault image slots label.vtoc false bad.told
  same_fault track number why bad =
      let same = same_labelled bad.image bad.label bad.labelled in
      subst (λ (l : Label). IsCheckFault image slots l.vtoc false bad.told) same.1
      (subst (λ (i : Head). IsCheckFault i slots bad.label.vtoc false bad.told) same.0 bad.fault)

  pub same_vtoc : (volume : OnlineVolume) (is : IsOnline false own_place head blocks slots volume) → IsVtoc image slots label.vtoc false is.stands.vtoc
  same_vtoc volume is =
      let same = same_labelled is.stands.image is.found.label (labelled_of head blocks slots volume is) in
      subst (λ (l : Label). IsVtoc image slots l.vtoc false is.stands.vtoc) same.1
      (subst (λ (i : Head). IsVtoc i slots is.found.label.vtoc false is.stands.vtoc) same.0 is.stands.vtoc_stands)

  abbrev pointer : Cchhr
  pointer = label.vtoc

  -- where a VTOC stands that breaks no rule the unit is online
  pub is_online : (vtoc : Vtoc) → IsVtoc image slots label.vtoc false vtoc → breaches_of vtoc ≡ [] → (unit : UnitModel) → IsUnit false false own_place head blocks slots unit
      → (volume : OnlineVolume) × (unit ≡ online volume) × IsOnline false own_place head blocks slots volume
  is_online vtoc is sound (online volume) stands = (volume, refl, stands.1)
  is_online vtoc is sound (offline (whys.Head why) kept) stands = absurd (no_head head blocks (BadHead why) stands.0 image.device labelled.head_stands.stands)
  is_online vtoc is sound (offline whys.Filling kept) stands = absurd (false≢true stands.0)
  is_online vtoc is sound (offline (whys.Label why) kept) stands = absurd (no_bad_label why stands.1)
  is_online vtoc is sound (offline (whys.Vtoc track number why) kept) stands =
      absurd (none_told image blocks slots pointer false labelled.head_stands.tracks_are short labelled.stands.text.inside.1 vtoc is sound stands.1.told (same_fault track number why stands.1))

  -- where the VTOC is refused it is offline
  pub is_offline : (told : Breach) → IsCheckFault image slots label.vtoc false told → (unit : UnitModel) → IsUnit false false own_place head blocks slots unit
      → (kept : List (List ℕ)) × (unit ≡ offline (whys.Vtoc told.place.track told.place.record_number (number_of told.rule)) kept)
  is_offline told fault (online volume) stands =
      absurd (none_told image blocks slots pointer false labelled.head_stands.tracks_are short labelled.stands.text.inside.1 stands.1.stands.vtoc (same_vtoc volume stands.1) stands.1.stands.sound told fault)
  is_offline told fault (offline (whys.Head why) kept) stands = absurd (no_head head blocks (BadHead why) stands.0 image.device labelled.head_stands.stands)
  is_offline told fault (offline whys.Filling kept) stands = absurd (false≢true stands.0)
  is_offline told fault (offline (whys.Label why) kept) stands = absurd (no_bad_label why stands.1)
  is_offline told fault (offline (whys.Vtoc track number why) kept) stands =
      let bad = stands.1 in
      let alike =
      one_check image blocks slots pointer false labelled.head_stands.tracks_are short labelled.stands.text.inside.1 bad.told told (same_fault track number why bad) fault in
      let t : track ≡ told.place.track = bad.track_is ∙ alike.0 in
      let n : number ≡ told.place.record_number = bad.number_is ∙ alike.1 in
      let w : why ≡ number_of told.rule = bad.why_is ∙ alike.2 in
      (kept, λ i. offline (whys.Vtoc (t i) (n i) (w i)) kept)
