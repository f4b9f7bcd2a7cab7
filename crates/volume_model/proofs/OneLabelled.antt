-- The blocks of a unit say one head and one label, or what fails of it, however long the slot of track 0 is.
use Rattle.std.proofs.Common.{◌≡◌, ◌⊎◌, inl, inr, ℕ, ◌<◌, List, Bool, sym, subst, ◌∙◌, arith}
use Rattle.ckd_image.specs.declared.fault.CkdFault.TheVariants.{BadHead}
use Rattle.ckd_image.specs.declared.head.Head.{Head}
use Rattle.ckd_image.specs.declared.track.Track.{Track}
use Rattle.ckd_image.specs.Head.{IsHeadFault}
use Rattle.ckd_image.proofs.Devices.{one_device}
use Rattle.ckd_image.proofs.OneHead.{no_head}
use Rattle.vol_label.specs.declared.fault.LabelFault.TheVariants.{BadLabel}
use Rattle.vol_label.specs.declared.label.Label.{Label}
use Rattle.vol_label.specs.Label.{IsLabel, IsLabelFault}
use Rattle.vol_label.proofs.OneLabel.{one_label, no_label, one_label_fault}
use Rattle.volume_model.specs.Reads.{IsOnline, HasImage, IsFirstText, HasBadLabel, HasLabelOf}
use Rattle.volume_model.specs.Sound.{Slots}
use Rattle.volume_model.specs.Unit.{OnlineVolume}
use Rattle.volume_model.proofs.OneText.{few_heads, one_text_on}

module _ (head : List ℕ) (blocks : ℕ) where
  pub one_image : (a b : Head) → HasImage head blocks a → HasImage head blocks b → a ≡ b
  one_image a b one other =
      let device : a.device ≡ b.device = one_device head a.device b.device one.stands.named other.stands.named in
      let tracks : a.tracks ≡ b.tracks = one.tracks_are ∙ sym other.tracks_are in
      (λ i. record { device = device i; tracks = tracks i })

  -- no head stands there where a rule of heads is broken
  pub no_image : (why : ℕ) (image : Head) → IsHeadFault head blocks (BadHead why) → HasImage head blocks image → ⊥
  no_image why image fault has = no_head head blocks (BadHead why) fault image.device has.stands

  -- what an online volume says
  pub labelled_of : {sliding : Bool} {place : ℕ → ℕ} (slots : Slots) (volume : OnlineVolume) (is : IsOnline sliding place head blocks slots volume)
      → HasLabelOf head blocks slots is.stands.image is.found.label
  labelled_of slots volume is = record {
    head_stands = record { stands = is.stands.head_stands; tracks_are = is.stands.tracks_are };
    text = is.stands.track_0;
    text_stands = is.stands.track_0_stands;
    stands = is.stands.label_stands;
  }

  module _ (slots : Slots) where
    pub one_first : (image : Head) (a b : Track) → IsFirstText image slots a → IsFirstText image slots b → a ≡ b
    one_first image a b one other = one_text_on image.device 0 (slots 0) a b one other

    pub one_labelled : (image i : Head) (label l : Label) → HasLabelOf head blocks slots image label → HasLabelOf head blocks slots i l → (i ≡ image) × (l ≡ label)
    one_labelled image i label l one other =
        let same : i ≡ image = one_image i image other.head_stands one.head_stands in
        let moved : HasLabelOf head blocks slots image l = subst (λ (h : Head). HasLabelOf head blocks slots h l) same other in
        let text : moved.text ≡ one.text = one_first image moved.text one.text moved.text_stands one.text_stands in
        (same, one_label image one.text.recs l label (subst (λ (t : Track). IsLabel image t.recs l) text moved.stands) one.stands)

    -- the pointer of a label names a head of the device
    pub low_pointer : (image : Head) (label : Label) → HasLabelOf head blocks slots image label → label.vtoc.at.head < 65535
    low_pointer image label has = omega (arith, has.stands.text.inside.0, few_heads image.device)

    -- what fails of a label
    abbrev LabelFails : ℕ → Head → Type 0
    LabelFails why image =
        (((text : Track) → ¬ IsFirstText image slots text) × (why ≡ 1)) ⊎ ((text : Track) × IsFirstText image slots text × IsLabelFault image text.recs (BadLabel why))

    fails_as : (why : ℕ) (bad : HasBadLabel head blocks slots why) (image : Head) → HasImage head blocks image → LabelFails why image
    fails_as why bad image has = subst (LabelFails why) (one_image bad.image image bad.head_stands has) bad.fault

    pub no_bad_label : (image : Head) (label : Label) → HasLabelOf head blocks slots image label → (why : ℕ) → ¬ HasBadLabel head blocks slots why
    no_bad_label image label stands why bad = elim (fails_as why bad image stands.head_stands) [
      | inl none ↦ none.0 stands.text stands.text_stands
      | inr broken ↦
          no_label image stands.text.recs (BadLabel why)
          (subst (λ (t : Track). IsLabelFault image t.recs (BadLabel why)) (one_first image broken.0 stands.text broken.1 stands.text_stands) broken.2) label stands.stands
    ]

    pub one_bad_label : (a b : ℕ) → HasBadLabel head blocks slots a → HasBadLabel head blocks slots b → a ≡ b
    one_bad_label a b one other = by one.fault (fails_as b other one.image one.head_stands)
      where
        by : LabelFails a one.image → LabelFails b one.image → a ≡ b
        by (inl none) (inl neither) = none.1 ∙ sym neither.1
        by (inl none) (inr broken) = absurd (none.0 broken.0 broken.1)
        by (inr broken) (inl none) = absurd (none.0 broken.0 broken.1)
        by (inr p) (inr q) =
            one_label_fault one.image p.0.recs a b p.2 (subst (λ (t : Track). IsLabelFault one.image t.recs (BadLabel b)) (one_first one.image q.0 p.0 q.1 p.1) q.2)
