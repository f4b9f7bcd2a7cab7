-- A loaded unit of a pool, and what it is before and after a rendered change is written.
use Rattle.std.proofs.Common.{◌≡◌, ◌≢◌, ℕ, ◌*◌, ◌≤◌, Bool, List, length, map, Contains, false, Some, sym, ap, subst, ◌∙◌}
use Rattle.std.specs.Prelude.{slice_get, slice_set}
use Rattle.std.proofs.lemmas.List.{length-set, set_at}
use Rattle.std.proofs.lemmas.List.Sorted.{IsPermutation-map}
use Rattle.ckd_image.specs.declared.head.Head.{Head}
use Rattle.ckd_image.specs.Device.{heads_of, slot_of}
use Rattle.dasd_pool.specs.Disk.{Image, Shape}
use Rattle.redo_core.specs.Reading.{journal_of, placed, fills_of}
use Rattle.vol_label.specs.declared.label.Label.{Label}
use Rattle.volume_model.specs.Changed.{ChangesSets}
use Rattle.volume_model.specs.Check.{records_of}
use Rattle.volume_model.specs.Directory.{rows_of}
use Rattle.volume_model.specs.Reads.{AreTexts, AreDataSets, IsOnline, IsUnit, fields_of_1}
use Rattle.volume_model.specs.Sound.{Slots}
use Rattle.volume_model.proofs.NameOrder.{online_by_name}
use Rattle.volume_model.specs.Unit.{Text, DataSet, AreByName, OnlineVolume, UnitModel, online, tracks_of}
use Rattle.vtoc_check.specs.Slots.{AreSlotsOf}
use Rattle.vtoc_core.specs.declared.volume.Row.{Row}
use Rattle.vtoc_core.specs.declared.volume.Volume.{Volume}
use Rattle.vtoc_core.specs.Loaded.{row_in}
use Rattle.vtoc_layout.specs.Layout.{AreDistinct}
use Rattle.vtoc_load.specs.LoadedVtoc.{IsLoadedVtoc}
use Rattle.volume_change.specs.declared.change.Change.{Change}
use Rattle.volume_change.specs.declared.change.Change.TheVariants.{Mark}
use Rattle.unit_change.specs.vtoc_render.declared.change.Rendered.{Rendered}
use Rattle.unit_change.specs.vtoc_render.Next.{MayChange}
use Rattle.unit_change.specs.Changed.{AreGone, AreTextsPut, sets_put, IsUnitOf, extents_of}
use Rattle.unit_change.specs.Described.{own_place, AreShort, Describes}
use Rattle.unit_change.proofs.Describing.{sets_found}
use Rattle.unit_change.proofs.LoadedTracks.{own_names}
use Rattle.unit_change.proofs.LoadedUnits.{pointer_short, loaded_online, found_loaded}
use Rattle.unit_change.proofs.OneOrder.{distinct_moved, name_in}
use Rattle.unit_change.proofs.RenderedUnits.{rendered_units}
use Rattle.unit_load.specs.declared.state.UnitState.TheVariants.{Online}
use Rattle.unit_load.specs.declared.state.UnitState.{UnitState}
use Rattle.unit_load.specs.Kept.{IsFromSlots}
use Rattle.unit_load.specs.State.{IsStateOf}
use Rattle.move_core.specs.Steps.{Replaces}
use Rattle.move_core.proofs.Replacing.{split_at}
use Rattle.unit_steps.specs.Rendering.{WasRendered, entry_for}
use Rattle.dasd_pool.proofs.Slices.{get_set_other}
use Rattle.unit_steps.proofs.Lists.{each_set}
use Rattle.unit_steps.proofs.Blocks.{AreBlocksOf}
use Rattle.unit_steps.proofs.Placing.{slots_with, after_blocks, placed_here, placed_there}
use Rattle.unit_steps.proofs.Switching.{blocks_are, short_after}
use Rattle.unit_load.proofs.Keeping.{few_tracks}

-- ---- the units of a pool on which no slide is open

-- each is what its blocks say, and whether a fill is open on it
pub record AreAlone (shape : Shape) (fills : List Bool) (contents : Image) (models : List UnitModel) : Type 0 where
  pub count : length models ≡ journal_of shape
  pub each : (u : ℕ) (model : UnitModel) → slice_get models u ≡ Some model
      → IsUnit (fills_of fills u) false own_place (shape.head u) (shape.blocks u) (contents u) model

-- ---- a loaded unit

-- a unit from which a volume was loaded: the volume on it, and its data sets beside the rows
pub record IsOnlineUnit (head : List ℕ) (blocks : ℕ) (slots : Slots) (volume : Volume) (model : UnitModel) : Type 0 where
  pub before : OnlineVolume
  pub model_is : model ≡ online before
  pub image : Head
  pub label : Label
  pub few : image.tracks ≤ 65535
  pub short : AreShort blocks slots
  pub online_is : IsOnline false own_place head blocks slots before
  pub image_is : image ≡ online_is.stands.image
  pub label_is : label ≡ online_is.found.label
  pub loaded_is : IsLoadedVtoc image label slots false volume
  pub describes : Describes volume before
  pub sets_are : AreDataSets (heads_of volume.device) own_place slots (map row_in volume.rows) before.sets
  pub distinct : AreDistinct (map name_in (map row_in volume.rows))

pub online_unit : (head : List ℕ) (blocks : ℕ) (slots : Slots) (volume : Volume) (model : UnitModel) → IsStateOf false head blocks slots (Online volume) → AreShort blocks slots
    → IsUnit false false own_place head blocks slots model → IsOnlineUnit head blocks slots volume model
online_unit head blocks slots volume model (image, label, labelled, is) short stands =
    let few = few_tracks head blocks image labelled.head_stands in
    let home = pointer_short head blocks slots image label volume few short labelled is in
    let got = loaded_online head blocks slots image label volume model few short labelled is stands in
    let found = found_loaded head blocks slots image label volume few short labelled is got.0 got.2 in
    let read = rows_of is.vtoc.heads (records_of is.vtoc) in
    record {
      before = got.0;
      model_is = got.1;
      image = image;
      label = label;
      few = few;
      short = short;
      online_is = got.2;
      image_is = sym found.image_is;
      label_is = sym found.label_is;
      loaded_is = is;
      describes = got.3;
      sets_are = sets_found found few home;
      distinct =
          distinct_moved (map name_in (map row_in volume.rows)) (map name_in read) (own_names is few home)
          (IsPermutation-map name_in read (map row_in volume.rows) is.volume.rows_are.same);
    }

-- ---- the data set of a row

pub record IsSetOf (heads : ℕ) (slots : Slots) (sets : List DataSet) (row : Row) (set : DataSet) : Type 0 where
  pub there : Contains sets set
  pub name_is : set.name ≡ row.name
  pub fields_are : set.fields ≡ fields_of_1 row.f1
  pub extents_are : set.extents ≡ extents_of heads row
  pub texts_are : AreTexts heads own_place slots (tracks_of (extents_of heads row)) set.texts

-- ---- a change of one unit

-- with the slots of its VTOC, it is a unit on which a change may be rendered
abbrev pub unit_of : {head : List ℕ} {blocks : ℕ} {slots : Slots} {volume : Volume} {model : UnitModel} (is : IsOnlineUnit head blocks slots volume model) (vtoc_slots : List ℕ)
    → AreSlotsOf volume.vtoc (slot_of volume.device) vtoc_slots slots → length vtoc_slots ≡ volume.vtoc.len * slot_of volume.device
    → IsUnitOf head blocks slots is.image is.label is.before volume vtoc_slots
unit_of is vtoc_slots are whole = record {
  few = is.few;
  short = is.short;
  online = is.online_is;
  image_is = is.image_is;
  label_is = is.label_is;
  loaded_is = is.loaded_is;
  slots_are = are;
  whole = whole;
}

-- another online volume on one unit of the pool
pub record IsReplaced (shape : Shape) (fills : List Bool) (unit : ℕ) (before after : OnlineVolume) (contents : Image) (models : List UnitModel) : Type 0 where
  pub models_after : List UnitModel
  pub replaces : Replaces unit (online before) (online after) models models_after
  pub others : (u : ℕ) → u ≢ unit → slice_get models_after u ≡ slice_get models u
  pub alone : AreAlone shape fills contents models_after

pub replaced : (shape : Shape) (fills : List Bool) (old new : Image) (models : List UnitModel) (unit : ℕ) (before after : OnlineVolume) → AreAlone shape fills old models
    → fills_of fills unit ≡ false → slice_get models unit ≡ Some (online before) → IsOnline false own_place (shape.head unit) (shape.blocks unit) (new unit) after
    → ((u : ℕ) → u ≢ unit → new u ≡ old u) → IsReplaced shape fills unit before after new models
replaced shape fills old new models unit before after alone closed at is same =
    let split = split_at models unit (online before) at in
    record {
      models_after = slice_set models unit (online after);
      replaces =
          record {
            front = split.front;
            back = split.back;
            long = split.long;
            before_is = split.is;
            after_is =
                ap (λ (list : List UnitModel). slice_set list unit (online after)) split.is ∙ set_at split.front (online before) split.back (online after) unit split.long;
          };
      others = λ u apart. get_set_other models unit u (online after) apart;
      alone =
          record {
            count = length-set models unit (online after) ∙ alone.count;
            each =
                each_set models unit (online after) (online before) (λ u model. IsUnit (fills_of fills u) false own_place (shape.head u) (shape.blocks u) (new u) model) at (closed, is)
                (λ u model apart got.
                subst (λ (slots : Slots). IsUnit (fills_of fills u) false own_place (shape.head u) (shape.blocks u) slots model) (sym (same u apart)) (alone.each u model got));
          };
    }

-- What a change makes of a unit, where these texts stand on the tracks of what it puts.
pub record IsTaken (shape : Shape) (fills : List Bool) (contents : Image) (unit : ℕ) (volume : Volume) (change : Change) (texts : List Text) (before : OnlineVolume)
    (models : List UnitModel) : Type 0 where
  pub after : OnlineVolume
  pub gone : List DataSet
  pub changes : ChangesSets before after gone (sets_put (heads_of volume.device) change texts)
  pub order : AreByName after.sets
  pub gone_are : AreGone change gone
  pub models_after : List UnitModel
  pub replaces : Replaces unit (online before) (online after) models models_after
  pub others : (u : ℕ) → u ≢ unit → slice_get models_after u ≡ slice_get models u
  pub alone : AreAlone shape fills contents models_after

module _ (shape : Shape) (units : List UnitState) (fills : List Bool) (vtocs : List (List ℕ)) (contents : Image) (models : List UnitModel) (alone : AreAlone shape fills contents models)
    (unit : ℕ) (closed : fills_of fills unit ≡ false) (change : Change) (rendered : Rendered) (was : WasRendered units vtocs unit change rendered)
    (from : IsFromSlots false (shape.head unit) (shape.blocks unit) was.volume was.slots)
    (slots_are : AreSlotsOf was.volume.vtoc (slot_of was.volume.device) was.slots (contents unit))
    (state : IsStateOf false (shape.head unit) (shape.blocks unit) (contents unit) (Online was.volume)) (short : AreShort (shape.blocks unit) (contents unit))
    (model : UnitModel) (at : slice_get models unit ≡ Some model) (is : IsOnlineUnit (shape.head unit) (shape.blocks unit) (contents unit) was.volume model)
    (may : MayChange was.volume change) (no_mark : change ≢ Mark) (texts : List Text) (put : AreTextsPut (heads_of was.volume.device) (contents unit) change texts) where
  abbrev then : Image
  then = placed contents (map (entry_for unit) rendered.blocks)

  abbrev are_blocks : AreBlocksOf was.volume.vtoc (slot_of was.volume.device) rendered.blocks
  are_blocks = blocks_are was from no_mark

  here : slots_with rendered.blocks (contents unit) ≡ then unit
  here = λ i track. sym (placed_here unit rendered.blocks contents are_blocks.ascending track) i

  stood : (after : OnlineVolume) × (gone : List DataSet) × IsOnline false own_place (shape.head unit) (shape.blocks unit) (slots_with rendered.blocks (contents unit)) after
      × Describes rendered.next after × ChangesSets is.before after gone (sets_put (heads_of was.volume.device) change texts) × AreGone change gone
  stood =
      rendered_units (shape.head unit) (shape.blocks unit) (contents unit) (slots_with rendered.blocks (contents unit)) is.image is.label is.before was.volume was.slots change rendered texts
      (unit_of is was.slots slots_are from.whole) may no_mark was.next was.loads was.written
      (after_blocks was.volume.vtoc (slot_of was.volume.device) rendered.blocks (contents unit) are_blocks) (short_after was from no_mark (contents unit) state short slots_are) put

  in_place : IsReplaced shape fills unit is.before stood.0 then models
  in_place =
      replaced shape fills contents then models unit is.before stood.0 alone closed (at ∙ ap Some is.model_is)
      (subst (λ (slots : Slots). IsOnline false own_place (shape.head unit) (shape.blocks unit) slots stood.0) here stood.2)
      (placed_there unit rendered.blocks contents)

  pub taken : IsTaken shape fills (placed contents (map (entry_for unit) rendered.blocks)) unit was.volume change texts is.before models
  taken = record {
    after = stood.0;
    gone = stood.1;
    changes = stood.4;
    order = online_by_name stood.2;
    gone_are = stood.5;
    models_after = in_place.models_after;
    replaces = in_place.replaces;
    others = in_place.others;
    alone = in_place.alone;
  }
