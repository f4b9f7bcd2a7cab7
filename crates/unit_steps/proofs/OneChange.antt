-- A plan of one change takes the units of its pool by what the change makes of its unit.
use Rattle.std.proofs.Common.{◌≡◌, ◌≢◌, ⊎_elim, ℕ, ◌<◌, Bool, List, [], ◌∷◌, length, map, None, Some, false, sym, ap, subst, ◌∙◌, arith}
use Rattle.std.specs.Prelude.{slice_get}
use Rattle.std.proofs.lemmas.List.{append-nil, length-map}
use Rattle.std.proofs.lemmas.Option.{same_Some, slice_get_cases, slice_get_within}
use Rattle.ckd_image.specs.Device.{heads_of, slot_of}
use Rattle.dasd_pool.specs.Disk.{Image, Shape}
use Rattle.redo_core.specs.declared.entries.Entry.{Entry}
use Rattle.redo_core.specs.Reading.{journal_of, placed, fills_of}
use Rattle.volume_model.specs.Changed.{threes_for, ChangesSets}
use Rattle.volume_model.specs.Reads.{IsUnit, fields_of_1, extent_in}
use Rattle.volume_model.specs.Unit.{Text, DataSet, OnlineVolume, UnitModel}
use Rattle.vtoc_check.specs.Slots.{AreSlotsOf}
use Rattle.vtoc_core.specs.declared.volume.Row.{Row}
use Rattle.vtoc_core.specs.declared.volume.Volume.{Volume}
use Rattle.vtoc_core.specs.Loaded.{field_of}
use Rattle.volume_change.specs.declared.change.Change.{Change}
use Rattle.volume_change.specs.declared.change.Change.TheVariants.{Mark}
use Rattle.unit_change.specs.vtoc_render.declared.change.Rendered.{Rendered}
use Rattle.unit_change.specs.vtoc_render.Change.{IsChangeWritten}
use Rattle.unit_change.specs.vtoc_render.Loads.{OfEachVtoc}
use Rattle.unit_change.specs.vtoc_render.Next.{MayChange, IsNext}
use Rattle.unit_change.specs.vtoc_render.Render.{LoadsAfter}
use Rattle.unit_change.specs.Changed.{AreTextsPut, sets_put, set_put, extents_of}
use Rattle.unit_change.specs.Described.{own_place, AreShort}
use Rattle.unit_load.specs.declared.state.UnitState.{UnitState}
use Rattle.unit_load.specs.declared.state.UnitState.TheVariants.{Online}
use Rattle.unit_load.specs.State.{IsStateOf}
use Rattle.move_core.specs.declared.steps.Step.{Step}
use Rattle.move_core.specs.Facts.{Facts, HasInputs}
use Rattle.move_core.specs.Steps.{ChangesUnit, IsStep}
use Rattle.unit_steps.specs.Loaded.{HaveStates, AreLoaded, HaveFills, KeepVtocs, AreVtocsOf}
use Rattle.unit_steps.specs.Plans.{IsLoadedAt}
use Rattle.unit_steps.specs.Rendering.{WasRendered, WereRendered, entry_for, entries_of}
use Rattle.unit_steps.proofs.Units.{AreAlone, IsOnlineUnit, online_unit, IsTaken, taken}

-- On each pool whose units are what these blocks and fills say, the entries make a step.
abbrev pub TakesModelsFor : (Facts → Type 0) → Shape → List Bool → Image → Step → List Entry → Type 0
TakesModelsFor allows shape fills contents step entries =
    (facts : Facts) → allows facts → (models : List UnitModel) → AreAlone shape fills contents models
    → (after : List UnitModel) × IsStep facts step models after × AreAlone shape fills (placed contents entries) after

abbrev pub TakesModels : Shape → List Bool → Image → Step → List Entry → Type 0
TakesModels shape fills contents step entries = TakesModelsFor (HasInputs None) shape fills contents step entries

-- ---- a loaded unit among those of a pool

pub record IsHere (shape : Shape) (contents : Image) (unit : ℕ) (volume : Volume) (models : List UnitModel) : Type 0 where
  pub model : UnitModel
  pub at : slice_get models unit ≡ Some model
  pub is : IsOnlineUnit (shape.head unit) (shape.blocks unit) (contents unit) volume model

pub unit_within : (shape : Shape) (units : List UnitState) (unit : ℕ) (volume : Volume) → HaveStates shape units → IsLoadedAt units unit volume → unit < journal_of shape
unit_within shape units unit volume have loaded = omega (arith, slice_get_within units unit (Online volume) loaded, have)

pub unit_here : (shape : Shape) (fills : List Bool) (contents : Image) (unit : ℕ) (volume : Volume) (models : List UnitModel)
    → IsStateOf false (shape.head unit) (shape.blocks unit) (contents unit) (Online volume) → AreShort (shape.blocks unit) (contents unit) → unit < journal_of shape
    → fills_of fills unit ≡ false → AreAlone shape fills contents models → IsHere shape contents unit volume models
unit_here shape fills contents unit volume models state short within closed alone =
    let at : (model : UnitModel) × (slice_get models unit ≡ Some model) =
    ⊎_elim (λ inside. (inside.0, inside.2)) (λ past. absurd (omega (arith, within, past.0, alone.count))) (slice_get_cases models unit).1 in
    record {
      model = at.0;
      at = at.1;
      is = online_unit (shape.head unit) (shape.blocks unit) (contents unit) volume at.0 state short
          (subst (λ (filling : Bool). IsUnit filling false own_place (shape.head unit) (shape.blocks unit) (contents unit) at.0) closed (alone.each unit at.0 at.1));
    }

-- ---- a change that was rendered on a volume

pub same_volume : (units : List UnitState) (unit : ℕ) (a b : Volume) → IsLoadedAt units unit a → IsLoadedAt units unit b → a ≡ b
same_volume units unit a b one other =
    let states : Online a ≡ Online b = same_Some (Online a) (Online b) (sym one ∙ other) in cc

abbrev pub rendered_on : {units : List UnitState} {vtocs : List (List ℕ)} {unit : ℕ} {change : Change} {rendered : Rendered} (was : WasRendered units vtocs unit change rendered)
    (volume : Volume) → IsLoadedAt units unit volume → WasRendered units vtocs unit change rendered
rendered_on {units} {vtocs} {unit} {change} {rendered} was volume loaded = record {
  volume = volume;
  slots = was.slots;
  loaded = loaded;
  kept = was.kept;
  next = subst (λ (v : Volume). IsNext v change rendered.next) (same_volume units unit was.volume volume was.loaded loaded) was.next;
  loads = subst (λ (v : Volume). LoadsAfter v was.slots change rendered) (same_volume units unit was.volume volume was.loaded loaded) was.loads;
  written =
      subst (λ (v : Volume). OfEachVtoc v was.slots (IsChangeWritten v was.slots change rendered)) (same_volume units unit was.volume volume was.loaded loaded) was.written;
}

-- ---- the step of a change

pub changes_to : {before after : OnlineVolume} {gone put : List DataSet} (gone_now put_now : List DataSet) → gone ≡ gone_now → put ≡ put_now → ChangesSets before after gone put
    → ChangesSets before after gone_now put_now
changes_to {before} {after} {gone} {put} gone_now put_now gone_is put_is changes =
    subst (λ (sets : List DataSet). ChangesSets before after sets put_now) gone_is (subst (λ (sets : List DataSet). ChangesSets before after gone sets) put_is changes)

abbrev pub to_unit : {shape : Shape} {fills : List Bool} {contents : Image} {unit : ℕ} {volume : Volume} {change : Change} {texts : List Text} {before : OnlineVolume}
    {models : List UnitModel} (t : IsTaken shape fills contents unit volume change texts before models) (gone put : List DataSet)
    → t.gone ≡ gone → sets_put (heads_of volume.device) change texts ≡ put → ChangesUnit unit models t.models_after gone put
to_unit {before} t gone put gone_is put_is = record {
  old = before;
  new = t.after;
  unit_is = t.replaces;
  changes = changes_to gone put gone_is put_is t.changes;
  order = t.order;
}

-- what is put is this data set
pub is_put : (heads : ℕ) (row : Row) (texts : List Text) (set : DataSet) → row.name ≡ set.name → fields_of_1 row.f1 ≡ set.fields → extents_of heads row ≡ set.extents → texts ≡ set.texts
    → threes_for (length set.extents) ≡ set.threes → set_put heads row texts ∷ [] ≡ set ∷ []
is_put heads row texts set name fields extents same threes =
    let long : length row.extents ≡ length set.extents = sym (length-map row.extents (λ extent. extent_in heads (field_of extent))) ∙ ap length extents in
    let count : threes_for (length row.extents) ≡ set.threes = ap threes_for long ∙ threes in
    (λ i. record { name = name i; fields = fields i; extents = extents i; texts = same i; threes = count i } ∷ [])

-- ---- a plan of one change

-- one more change, of a loaded unit
pub take_change : (shape : Shape) (units : List UnitState) (fills : List Bool) → HaveFills fills units → (vtocs : List (List ℕ)) (contents : Image) (models : List UnitModel)
    → AreAlone shape fills contents models → (unit : ℕ) (volume : Volume) → IsLoadedAt units unit volume → KeepVtocs shape units vtocs
    → (change : Change) (rendered : Rendered) (was : WasRendered units vtocs unit change rendered) → AreSlotsOf volume.vtoc (slot_of volume.device) was.slots (contents unit)
    → IsStateOf false (shape.head unit) (shape.blocks unit) (contents unit) (Online volume) → AreShort (shape.blocks unit) (contents unit) → MayChange volume change → change ≢ Mark
    → (here : IsHere shape contents unit volume models) (texts : List Text) → AreTextsPut (heads_of volume.device) (contents unit) change texts
    → IsTaken shape fills (placed contents (map (entry_for unit) rendered.blocks)) unit volume change texts here.is.before models
take_change shape units fills fit vtocs contents models alone unit volume loaded keep change rendered was slots_are state short may no_mark here texts put =
    taken shape units fills vtocs contents models alone unit (fit unit (Online volume) loaded) change rendered (rendered_on was volume loaded)
    (keep.each unit (Online volume) was.slots loaded was.kept) slots_are state short here.model here.at here.is may no_mark texts put

module _ (shape : Shape) (units : List UnitState) (fills : List Bool) (fit : HaveFills fills units) (vtocs : List (List ℕ)) (contents : Image) (have : HaveStates shape units)
    (are : AreLoaded shape contents units) (keep : KeepVtocs shape units vtocs) (vtocs_are : AreVtocsOf contents units vtocs) where
  pub here_loaded : (unit : ℕ) (volume : Volume) (models : List UnitModel) → IsLoadedAt units unit volume → AreAlone shape fills contents models → IsHere shape contents unit volume models
  here_loaded unit volume models loaded alone =
      unit_here shape fills contents unit volume models (are unit (Online volume) loaded).0 (are unit (Online volume) loaded).1 (unit_within shape units unit volume have loaded)
      (fit unit (Online volume) loaded) alone

  pub take_one : {allows : Facts → Type 0} (unit : ℕ) (volume : Volume) → IsLoadedAt units unit volume → (change : Change) → MayChange volume change → change ≢ Mark → (rendered : Rendered)
      → WasRendered units vtocs unit change rendered → (step : Step)
      → ((facts : Facts) → allows facts → (models : List UnitModel) → AreAlone shape fills contents models → (here : IsHere shape contents unit volume models)
      → (texts : List Text) × AreTextsPut (heads_of volume.device) (contents unit) change texts
      × ((t : IsTaken shape fills (placed contents (map (entry_for unit) rendered.blocks)) unit volume change texts here.is.before models) → IsStep facts step models t.models_after))
      → TakesModelsFor allows shape fills contents step (map (entry_for unit) rendered.blocks)
  take_one unit volume loaded change may no_mark rendered was step by facts allowed models alone =
      let here = here_loaded unit volume models loaded alone in
      let told = by facts allowed models alone here in
      let slots_are : AreSlotsOf volume.vtoc (slot_of volume.device) was.slots (contents unit) = vtocs_are unit (Online volume) was.slots loaded was.kept in
      let t =
      take_change shape units fills fit vtocs contents models alone unit volume loaded keep change rendered was slots_are (are unit (Online volume) loaded).0
      (are unit (Online volume) loaded).1 may no_mark here told.0 told.1 in
      (t.models_after, told.2 t, t.alone)

  -- changes that are one change
  pub from_one : {allows : Facts → Type 0} (step : Step) (unit : ℕ) (change : Change) (changes : List (ℕ × Change)) (rendered : List Rendered) → changes ≡ (unit, change) ∷ []
      → WereRendered units vtocs changes rendered
      → ((one : Rendered) → WasRendered units vtocs unit change one → TakesModelsFor allows shape fills contents step (map (entry_for unit) one.blocks))
      → TakesModelsFor allows shape fills contents step (entries_of changes rendered)
  from_one {allows} step unit change changes rendered is were by =
      subst (λ (list : List (ℕ × Change)). TakesModelsFor allows shape fills contents step (entries_of list rendered)) (sym is)
      (only rendered (subst (λ (list : List (ℕ × Change)). WereRendered units vtocs list rendered) is were))
    where
      only : (list : List Rendered) → WereRendered units vtocs ((unit, change) ∷ []) list → TakesModelsFor allows shape fills contents step (entries_of ((unit, change) ∷ []) list)
      only [] were = absurd were
      only (one ∷ []) were =
          subst (λ (entries : List Entry). TakesModelsFor allows shape fills contents step entries) (sym (append-nil (map (entry_for unit) one.blocks))) (by one were.0)
      only (one ∷ two ∷ more) were = absurd were.1
