-- The blocks of a unit say one unit, however long they are.
use Rattle.std.proofs.Common.{◌≡◌, ℕ, ◌-◌, ◌<◌, List, [], ◌∷◌, length, not, Bool, true, false, refl, sym, ap, subst, ◌∙◌}
use Rattle.std.proofs.lemmas.Bool.{false≢true}
use Rattle.ckd_image.specs.declared.device.Device.{Device}
use Rattle.ckd_image.specs.declared.head.Head.{Head}
use Rattle.ckd_image.specs.declared.track.Cchhr.{Cchhr}
use Rattle.ckd_image.specs.Device.{heads_of}
use Rattle.vol_label.specs.declared.label.Label.{Label}
use Rattle.ckd_image.proofs.OneHead.{one_head_fault}
use Rattle.volume_model.specs.declared.why.Why.TheVariants as whys
use Rattle.volume_model.specs.declared.place.Vtoc.{Vtoc}
use Rattle.volume_model.specs.declared.place.Breach.{Breach}
use Rattle.volume_model.specs.Check.{records_of, fives_of, usable_in}
use Rattle.volume_model.specs.Directory.{DirectoryRow, AreInOrder, rows_of}
use Rattle.volume_model.specs.Sound.{Slots, IsFormat4, IsVtoc, IsCheckFault}
use Rattle.volume_model.specs.Unit.{Text, good, bad, Extent, DataSet, OnlineVolume, UnitModel, online, offline, tracks_of}
use Rattle.volume_model.specs.Reads.{IsTextAt, AreTexts, IsDataSet, AreDataSets, IsOnline, HasImage, IsFirstText, HasLabelOf, HasBadVtoc, IsUnit, fields_of_4, has_index, blocks_from}
use Rattle.volume_model.proofs.OneText.{one_text_on}
use Rattle.move_core.proofs.OneVtoc.{one_format_4, named_vtoc, one_vtoc}
use Rattle.volume_model.proofs.OneLabelled as labels
use Rattle.move_core.proofs.OneOrder.{one_order}
use Rattle.move_core.proofs.Online.{first_text, few_tracks, no_bad_label, no_bad_vtoc}
use Rattle.volume_model.proofs.OneLabelled.{no_image, labelled_of, one_labelled, one_bad_label, low_pointer}
use Rattle.volume_model.proofs.OneCheck as checks
use Rattle.volume_model.proofs.OneCheck.{AreAlike}

module _ (sliding : Bool) (place : ℕ → ℕ) (head : List ℕ) (blocks : ℕ) (slots : Slots) where
  -- ---- texts

  one_at : (device : Device) (track : ℕ) (a b : Text) → IsTextAt (heads_of device) (place track) (slots (place track)) a
      → IsTextAt (heads_of device) (place track) (slots (place track)) b → a ≡ b
  one_at device track (good a) (good b) one other = ap good (one_text_on device (place track) (slots (place track)) a b one other)
  one_at device track (good a) (bad b) one other = absurd (other.1 a one)
  one_at device track (bad a) (good b) one other = absurd (one.1 b other)
  one_at device track (bad a) (bad b) one other = ap bad (one.0 ∙ sym other.0)

  one_texts : (device : Device) (tracks : List ℕ) (a b : List Text) → AreTexts (heads_of device) place slots tracks a → AreTexts (heads_of device) place slots tracks b → a ≡ b
  one_texts device [] [] [] one other = refl
  one_texts device [] [] (y ∷ b) one other = absurd other
  one_texts device [] (x ∷ a) b one other = absurd one
  one_texts device (track ∷ tracks) [] b one other = absurd one
  one_texts device (track ∷ tracks) (x ∷ a) [] one other = absurd other
  one_texts device (track ∷ tracks) (x ∷ a) (y ∷ b) one other =
      let first : x ≡ y = one_at device track x y one.0 other.0 in
      let rest : a ≡ b = one_texts device tracks a b one.1 other.1 in
      (λ i. first i ∷ rest i)

  -- ---- data sets

  one_set : (device : Device) (row : DirectoryRow) (a b : DataSet) → IsDataSet (heads_of device) place slots row a → IsDataSet (heads_of device) place slots row b → a ≡ b
  one_set device row a b one other =
      let name : a.name ≡ b.name = one.name_is ∙ sym other.name_is in
      let fields : a.fields ≡ b.fields = one.fields_are ∙ sym other.fields_are in
      let extents : a.extents ≡ b.extents = one.extents_are ∙ sym other.extents_are in
      let A : List Extent → Type 0 = λ l. AreTexts (heads_of device) place slots (tracks_of l) b.texts in
      let texts : a.texts ≡ b.texts = one_texts device (tracks_of a.extents) a.texts b.texts one.texts_are (subst A (sym extents) other.texts_are) in
      let threes : a.threes ≡ b.threes = one.threes_are ∙ sym other.threes_are in
      (λ i. record { name = name i; fields = fields i; extents = extents i; texts = texts i; threes = threes i })

  one_sets : (device : Device) (rows : List DirectoryRow) (a b : List DataSet) → AreDataSets (heads_of device) place slots rows a → AreDataSets (heads_of device) place slots rows b → a ≡ b
  one_sets device [] [] [] one other = refl
  one_sets device [] [] (y ∷ b) one other = absurd other
  one_sets device [] (x ∷ a) b one other = absurd one
  one_sets device (row ∷ rows) [] b one other = absurd one
  one_sets device (row ∷ rows) (x ∷ a) [] one other = absurd other
  one_sets device (row ∷ rows) (x ∷ a) (y ∷ b) one other =
      let first : x ≡ y = one_set device row x y one.0 other.0 in
      let rest : a ≡ b = one_sets device rows a b one.1 other.1 in
      (λ i. first i ∷ rest i)

  -- ---- an online volume

  module _ (a b : OnlineVolume) (one : IsOnline sliding place head blocks slots a) (other : IsOnline sliding place head blocks slots b) where
    same_labelled : (other.stands.image ≡ one.stands.image) × (other.found.label ≡ one.found.label)
    same_labelled =
        one_labelled head blocks slots one.stands.image other.stands.image one.found.label other.found.label (labelled_of head blocks slots a one) (labelled_of head blocks slots b other)

    image_is : other.stands.image ≡ one.stands.image
    image_is = same_labelled.0

    label_is : other.found.label ≡ one.found.label
    label_is = same_labelled.1

    first_is : other.stands.track_0 ≡ one.stands.track_0
    first_is =
        first_text sliding head blocks slots one.found one.stands other.stands.track_0
        (subst (λ (i : Head). IsFirstText i slots other.stands.track_0) image_is other.stands.track_0_stands)

    vtoc_is : (one.stands.vtoc ≡ other.stands.vtoc) × (one.stands.vtoc_stands.bytes ≡ other.stands.vtoc_stands.bytes)
    vtoc_is =
        let s = one.stands in
        let P : Head → Type 0 = λ image.
        (v : IsVtoc image slots other.found.label.vtoc sliding other.stands.vtoc) → (s.vtoc ≡ other.stands.vtoc) × (s.vtoc_stands.bytes ≡ v.bytes) in
        let Q : Cchhr → Type 0 = λ pointer.
        (v : IsVtoc s.image slots pointer sliding other.stands.vtoc) → (s.vtoc ≡ other.stands.vtoc) × (s.vtoc_stands.bytes ≡ v.bytes) in
        let own : Q one.found.label.vtoc = λ v.
        one_vtoc s.image slots one.found.label.vtoc sliding s.vtoc other.stands.vtoc (few_tracks sliding head blocks slots one.found s) s.vtoc_stands v in
        subst P (sym image_is) (subst Q (sym (ap (λ (l : Label). l.vtoc) label_is)) own) other.stands.vtoc_stands

    device_is : one.found.device ≡ other.found.device
    device_is = one.stands.device_is ∙ sym (ap (λ (i : Head). i.device) image_is) ∙ sym other.stands.device_is

    rows_are : one.found.rows ≡ other.found.rows
    rows_are =
        one_order one.stands.vtoc one.stands.sound one.found.rows other.found.rows one.stands.rows_are
        (subst (λ (v : Vtoc). AreInOrder (rows_of v.heads (records_of v)) other.found.rows) (sym vtoc_is.0) other.stands.rows_are)

    sets_are : a.sets ≡ b.sets
    sets_are =
        one_sets one.found.device one.found.rows a.sets b.sets one.sets_are
        (subst (λ (d : Device). AreDataSets (heads_of d) place slots one.found.rows b.sets) (sym device_is)
        (subst (λ (rows : List DirectoryRow). AreDataSets (heads_of other.found.device) place slots rows b.sets) (sym rows_are) other.sets_are))

    pub one_online : a ≡ b
    one_online =
        let bytes = vtoc_is.1 in
        let serial : a.serial ≡ b.serial = one.serial_is ∙ sym (ap (λ (l : Label). l.serial) label_is) ∙ sym other.serial_is in
        let device : a.device ≡ b.device = one.device_is ∙ device_is ∙ sym other.device_is in
        let usable : a.usable ≡ b.usable =
        one.usable_is ∙ one.stands.usable_is ∙ ap usable_in vtoc_is.0 ∙ sym other.stands.usable_is ∙ sym other.usable_is in
        let vtoc : a.vtoc ≡ b.vtoc = one.vtoc_is ∙ ap (λ (v : Vtoc). v.run) vtoc_is.0 ∙ sym other.vtoc_is in
        let first : a.first ≡ b.first = one.first_is ∙ sym first_is ∙ sym other.first_is in
        let four : a.four ≡ b.four = one.four_is ∙ ap fields_of_4 bytes ∙ sym other.four_is in
        let repair : a.repair ≡ b.repair = one.repair_is ∙ ap (λ (v : Vtoc). not v.valid) vtoc_is.0 ∙ sym other.repair_is in
        let indexed : a.indexed ≡ b.indexed = one.indexed_is ∙ ap has_index bytes ∙ sym other.indexed_is in
        let dscbs : a.dscbs ≡ b.dscbs = one.dscbs_are ∙ ap (λ (v : Vtoc). length (records_of v)) vtoc_is.0 ∙ sym other.dscbs_are in
        let fives : a.fives ≡ b.fives = one.fives_are ∙ ap (λ (v : Vtoc). length (fives_of v)) vtoc_is.0 ∙ sym other.fives_are in
        let tail : a.tail ≡ b.tail = one.tail_is ∙ ap (λ (n : ℕ). blocks_from slots n (blocks - n)) usable ∙ sym other.tail_is in
        (λ i. record {
          serial = serial i;
          device = device i;
          usable = usable i;
          vtoc = vtoc i;
          first = first i;
          four = four i;
          sets = sets_are i;
          repair = repair i;
          indexed = indexed i;
          dscbs = dscbs i;
          fives = fives i;
          tail = tail i;
        })

  -- ---- the check of a VTOC

  module _ (image : Head) (label : Label) (has : HasLabelOf head blocks slots image label) where
    low : label.vtoc.at.head < 65535
    low = low_pointer head blocks slots image label has

    four_same : (a b : List ℕ) → IsFormat4 (heads_of image.device) slots label.vtoc a → IsFormat4 (heads_of image.device) slots label.vtoc b → a ≡ b
    four_same a b one other = one_format_4 (heads_of image.device) slots label.vtoc a b low one other

    same_vtoc : (a b : Vtoc) → IsVtoc image slots label.vtoc sliding a → IsVtoc image slots label.vtoc sliding b → a ≡ b
    same_vtoc a b one other = (named_vtoc image slots label.vtoc sliding a b low one other).0

    one_check : (a b : Breach) → IsCheckFault image slots label.vtoc sliding a → IsCheckFault image slots label.vtoc sliding b → AreAlike a b
    one_check = checks.one_check image slots label.vtoc sliding four_same same_vtoc

  one_bad_vtoc : (t n w u m v : ℕ) → HasBadVtoc sliding head blocks slots t n w → HasBadVtoc sliding head blocks slots u m v → (t ≡ u) × (n ≡ m) × (w ≡ v)
  one_bad_vtoc t n w u m v one other =
      let same = one_labelled head blocks slots one.image other.image one.label other.label one.labelled other.labelled in
      let image : other.image ≡ one.image = same.0 in
      let label : other.label ≡ one.label = same.1 in
      let at_image = subst (λ (i : Head). IsCheckFault i slots other.label.vtoc sliding other.told) image other.fault in
      let fault = subst (λ (l : Label). IsCheckFault one.image slots l.vtoc sliding other.told) label at_image in
      let alike = one_check one.image one.label one.labelled one.told other.told one.fault fault in
      (one.track_is ∙ alike.0 ∙ sym other.track_is, one.number_is ∙ alike.1 ∙ sym other.number_is, one.why_is ∙ alike.2 ∙ sym other.why_is)

  -- ---- a unit

  not_filling : (filling : Bool) → filling ≡ true → filling ≡ false → ⊥
  not_filling filling is not = false≢true (sym not ∙ is)

  -- what an online volume has of a head
  image_of : (volume : OnlineVolume) → IsOnline sliding place head blocks slots volume → (image : Head) × HasImage head blocks image
  image_of volume is = (is.stands.image, record { stands = is.stands.head_stands; tracks_are = is.stands.tracks_are })

  pub one_unit : (filling : Bool) (a b : UnitModel) → IsUnit filling sliding place head blocks slots a → IsUnit filling sliding place head blocks slots b → a ≡ b
  one_unit filling (online a) (online b) p q = ap online (one_online a b p.1 q.1)
  one_unit filling (online a) (offline (whys.Head why) kept) p q = absurd (no_image head blocks why (image_of a p.1).0 q.0 (image_of a p.1).1)
  one_unit filling (online a) (offline whys.Filling kept) p q = absurd (not_filling filling q.0 p.0)
  one_unit filling (online a) (offline (whys.Label why) kept) p q =
      absurd (no_bad_label sliding head blocks slots p.1.found p.1.stands why q.1)
  one_unit filling (online a) (offline (whys.Vtoc track number why) kept) p q =
      absurd (no_bad_vtoc sliding head blocks slots p.1.found p.1.stands track number why q.1)
  one_unit filling (offline (whys.Head why) kept) (online b) p q = absurd (no_image head blocks why (image_of b q.1).0 p.0 (image_of b q.1).1)
  one_unit filling (offline (whys.Head why) kept) (offline (whys.Head other) left) p q =
      let same : why ≡ other = one_head_fault head blocks why other p.0 q.0 in
      let bytes : kept ≡ left = p.1 ∙ sym q.1 in
      (λ i. offline (whys.Head (same i)) (bytes i))
  one_unit filling (offline (whys.Head why) kept) (offline whys.Filling left) p q = absurd (no_image head blocks why q.1.0 p.0 q.1.1)
  one_unit filling (offline (whys.Head why) kept) (offline (whys.Label other) left) p q = absurd (no_image head blocks why q.1.image p.0 q.1.head_stands)
  one_unit filling (offline (whys.Head why) kept) (offline (whys.Vtoc track number other) left) p q = absurd (no_image head blocks why q.1.image p.0 q.1.labelled.head_stands)
  one_unit filling (offline whys.Filling kept) (online b) p q = absurd (not_filling filling p.0 q.0)
  one_unit filling (offline whys.Filling kept) (offline (whys.Head other) left) p q = absurd (no_image head blocks other p.1.0 q.0 p.1.1)
  one_unit filling (offline whys.Filling kept) (offline whys.Filling left) p q = ap (offline whys.Filling) (p.2 ∙ sym q.2)
  one_unit filling (offline whys.Filling kept) (offline (whys.Label other) left) p q = absurd (not_filling filling p.0 q.0)
  one_unit filling (offline whys.Filling kept) (offline (whys.Vtoc track number other) left) p q = absurd (not_filling filling p.0 q.0)
  one_unit filling (offline (whys.Label why) kept) (online b) p q =
      absurd (no_bad_label sliding head blocks slots q.1.found q.1.stands why p.1)
  one_unit filling (offline (whys.Label why) kept) (offline (whys.Head other) left) p q = absurd (no_image head blocks other p.1.image q.0 p.1.head_stands)
  one_unit filling (offline (whys.Label why) kept) (offline whys.Filling left) p q = absurd (not_filling filling q.0 p.0)
  one_unit filling (offline (whys.Label why) kept) (offline (whys.Label other) left) p q =
      let same : why ≡ other = one_bad_label head blocks slots why other p.1 q.1 in
      let bytes : kept ≡ left = p.2 ∙ sym q.2 in
      (λ i. offline (whys.Label (same i)) (bytes i))
  one_unit filling (offline (whys.Label why) kept) (offline (whys.Vtoc track number other) left) p q = absurd (labels.no_bad_label head blocks slots q.1.image q.1.label q.1.labelled why p.1)
  one_unit filling (offline (whys.Vtoc track number why) kept) (online b) p q =
      absurd (no_bad_vtoc sliding head blocks slots q.1.found q.1.stands track number why p.1)
  one_unit filling (offline (whys.Vtoc track number why) kept) (offline (whys.Head other) left) p q = absurd (no_image head blocks other p.1.image q.0 p.1.labelled.head_stands)
  one_unit filling (offline (whys.Vtoc track number why) kept) (offline whys.Filling left) p q = absurd (not_filling filling q.0 p.0)
  one_unit filling (offline (whys.Vtoc track number why) kept) (offline (whys.Label other) left) p q = absurd (labels.no_bad_label head blocks slots p.1.image p.1.label p.1.labelled other q.1)
  one_unit filling (offline (whys.Vtoc t n w) kept) (offline (whys.Vtoc u m v) left) p q =
      let same = one_bad_vtoc t n w u m v p.1 q.1 in
      let bytes : kept ≡ left = p.2 ∙ sym q.2 in
      (λ i. offline (whys.Vtoc (same.0 i) (same.1 i) (same.2 i)) (bytes i))
