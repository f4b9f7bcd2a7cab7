-- A unit from which a volume was loaded is that volume.
use Rattle.std.proofs.Common.{◌≡◌, ℕ, ◌≤◌, List, length, map, false, sym, subst, ◌∙◌}
use Rattle.ckd_image.specs.declared.head.Head.{Head}
use Rattle.ckd_image.specs.declared.track.Cchhr.{Cchhr}
use Rattle.vol_label.specs.declared.label.Label.{Label}
use Rattle.volume_model.specs.declared.place.Vtoc.{Vtoc}
use Rattle.volume_model.specs.Check.{records_of}
use Rattle.volume_model.specs.Directory.{AreInOrder, rows_of}
use Rattle.volume_model.specs.Reads.{IsOnline, HasLabelOf}
use Rattle.volume_model.specs.Sound.{Slots, IsVtoc}
use Rattle.volume_model.specs.Unit.{OnlineVolume}
use Rattle.vtoc_core.specs.declared.volume.Volume.{Volume}
use Rattle.vtoc_core.specs.Loaded.{row_in}
use Rattle.vtoc_load.specs.LoadedVtoc.{IsLoadedVtoc}
use Rattle.unit_change.specs.Described.{own_place, AreShort, LoadedUnitsAreOnline, RefusedUnitsAreOffline}
use Rattle.unit_change.proofs.FormatFour.{home_of}
use Rattle.unit_change.proofs.OneVtoc.{home_short, one_vtoc}
use Rattle.volume_model.proofs.OneLabelled.{labelled_of}
use Rattle.unit_change.proofs.OneUnit.{same_labelled, is_online, is_offline}
use Rattle.unit_change.proofs.OneOrder.{one_order}
use Rattle.unit_change.proofs.LoadedTracks.{own_names}
use Rattle.unit_change.proofs.Describing.{IsFoundLoaded, describes}

module _ (head : List ℕ) (blocks : ℕ) (slots : Slots) (image : Head) (label : Label) (loaded : Volume) (small : image.tracks ≤ 65535) (short : AreShort blocks slots)
    (labelled : HasLabelOf head blocks slots image label) (is : IsLoadedVtoc image label slots false loaded) where
  pub pointer_short : length (slots (home_of image label.vtoc)) ≤ 65536
  pointer_short = home_short image blocks slots label.vtoc false labelled.head_stands.tracks_are short is.vtoc is.stands.stands

  pub found_loaded : (volume : OnlineVolume) (on : IsOnline false own_place head blocks slots volume) → IsFoundLoaded on is
  found_loaded volume on = record {
    image_is = same.0;
    label_is = same.1;
    vtoc_is = one.0;
    bytes_are = one.1 ∙ sym is.stands.four_is;
    rows_are =
        one_order (rows_of is.vtoc.heads (records_of is.vtoc)) on.found.rows (map row_in loaded.rows) (own_names is small pointer_short)
        (subst (λ (v : Vtoc). AreInOrder (rows_of v.heads (records_of v)) on.found.rows) one.0 on.stands.rows_are) is.volume.rows_are;
  }
    where
      same : (on.stands.image ≡ image) × (on.found.label ≡ label)
      same = same_labelled head blocks slots image label short labelled on.stands.image on.found.label (labelled_of head blocks slots volume on)

      Agrees : Head → Cchhr → Type 0
      Agrees i pointer = (v : IsVtoc i slots pointer false on.stands.vtoc) → (on.stands.vtoc ≡ is.vtoc) × (v.bytes ≡ is.stands.stands.bytes)

      own : Agrees image label.vtoc
      own v = one_vtoc image blocks slots label.vtoc false labelled.head_stands.tracks_are short on.stands.vtoc is.vtoc v is.stands.stands

      one : (on.stands.vtoc ≡ is.vtoc) × (on.stands.vtoc_stands.bytes ≡ is.stands.stands.bytes)
      one = subst (λ (i : Head). Agrees i on.found.label.vtoc) (sym same.0) (subst (λ (l : Label). Agrees image l.vtoc) (sym same.1) own) on.stands.vtoc_stands

pub loaded_online : LoadedUnitsAreOnline
loaded_online head blocks slots image label loaded unit small short labelled is stands =
    let got = is_online head blocks slots image label short labelled is.vtoc is.stands.stands is.sound unit stands in
    (got.0, got.1, got.2, describes (found_loaded head blocks slots image label loaded small short labelled is got.0 got.2) small (pointer_short head blocks slots image label loaded small short labelled is))

pub refused_offline : RefusedUnitsAreOffline
refused_offline head blocks slots image label told unit small short labelled fault stands =
    is_offline head blocks slots image label short labelled told fault unit stands
