-- Plans that put a copy of a data set.
use Rattle.std.proofs.Common.{◌≡◌, ◌≢◌, inl, ℕ, ◌-◌, Bool, true, false, List, [], ◌∷◌, ◌++◌, length, map, replicate, Some, refl, sym, ap, subst, ◌∙◌}
use Rattle.std.specs.Prelude.{AllPairs}
use Rattle.ckd_image.specs.declared.device.Device.{Device}
use Rattle.ckd_image.specs.Device.{heads_of}
use Rattle.dasd_pool.specs.Disk.{Image, Shape}
use Rattle.dsn_filter.specs.declared.dsn.Dsn.{Dsn}
use Rattle.free_map.specs.declared.run.Run.{Run}
use Rattle.volume_model.specs.Pinned.{IsNameOf}
use Rattle.volume_model.specs.Reads.{AreTexts}
use Rattle.volume_model.specs.Sound.{Slots}
use Rattle.volume_model.specs.Unit.{Text, Extent, DataSet, UnitModel, run_in, tracks_of}
use Rattle.vtoc_core.specs.declared.volume.Row.{Row}
use Rattle.vtoc_core.specs.declared.volume.Volume.{Volume}
use Rattle.volume_change.specs.declared.change.Change.{Change}
use Rattle.volume_change.specs.declared.change.Change.TheVariants.{Mark}
use Rattle.volume_change.specs.Runs.{runs_in}
use Rattle.unit_change.specs.vtoc_render.declared.change.Rendered.{Rendered}
use Rattle.unit_change.specs.vtoc_render.Next.{MayChange, MayPut}
use Rattle.unit_change.specs.Changed.{AreGone, AreTextsPut, extents_of, set_put, sets_put}
use Rattle.unit_change.specs.Described.{own_place}
use Rattle.unit_load.specs.declared.state.UnitState.{UnitState}
use Rattle.move_core.specs.declared.steps.Origin.TheVariants as origins
use Rattle.move_core.specs.declared.steps.Step.{Step}
use Rattle.move_core.specs.declared.steps.Step.TheVariants as steps
use Rattle.move_core.specs.Facts.{Facts, Original}
use Rattle.move_core.specs.Steps.{MayTake, IsNewKind, LieOnCylinders, IsRow, original_of, IsOriginal, fields_at, empty_text, tracks_for, IsCopy, Gives, Copies, Puts, IsStep}
use Rattle.unit_steps.specs.declared.plan.Tracks.TheVariants as texts
use Rattle.unit_steps.specs.Copied.{DifferOnFree, IsPutBy, AreHeld}
use Rattle.unit_steps.specs.Loaded.{HaveStates, AreLoaded, HaveFills, KeepVtocs, AreVtocsOf}
use Rattle.unit_steps.specs.Plans.{putting, PlansCopy, PlansPut}
use Rattle.unit_steps.specs.Rendering.{WereRendered, entries_of}
use Rattle.unit_steps.proofs.Cutting.{texts_long}
use Rattle.unit_steps.proofs.Moving.{texts_were}
use Rattle.unit_steps.proofs.OneChange.{TakesModels, IsHere, to_unit, here_loaded, take_one, from_one}
use Rattle.unit_steps.proofs.Rows.{AreSome, ShareNone, set_of, free_track, names_differ, put_runs, runs_on, runs_of_extents}
use Rattle.unit_steps.proofs.Small.{put_small}
use Rattle.unit_steps.proofs.Units.{IsSetOf, IsTaken}

-- ---- what a change puts, beside others or in a place

pub put_by : (replaced : Bool) (name : Dsn) (row : Row) → IsPutBy (putting replaced name row) row
put_by true name row = refl
put_by false name row = refl

pub put_sets : (heads : ℕ) (replaced : Bool) (name : Dsn) (row : Row) (texts : List Text) → sets_put heads (putting replaced name row) texts ≡ set_put heads row texts ∷ []
put_sets heads true name row texts = refl
put_sets heads false name row texts = refl

pub put_texts : (heads : ℕ) (slots : Slots) (replaced : Bool) (name : Dsn) (row : Row) (texts : List Text) → AreTexts heads own_place slots (tracks_of (extents_of heads row)) texts
    → AreTextsPut heads slots (putting replaced name row) texts
put_texts heads slots true name row texts are = are
put_texts heads slots false name row texts are = are

pub may_put : (volume : Volume) (replaced : Bool) (name : Dsn) (row : Row) → MayChange volume (putting replaced name row) → (gone : List Row) × MayPut volume gone row
may_put volume true name row may = (may.1.0 ∷ [], may.1.3)
may_put volume false name row may = ([], may.0)

-- ---- a copy

module _ {replaced : Bool} {units : List UnitState} {from : ℕ} {origin : Dsn} {unit : ℕ} {name : Dsn} {to : List Run} {change : Change}
    (plan : PlansCopy replaced units from origin unit name to change) {shape : Shape} {contents : Image} {models : List UnitModel}
    (source : IsHere shape contents from plan.source models) (here : IsHere shape contents unit plan.volume models) where
  abbrev heads : ℕ
  heads = heads_of plan.volume.device

  pub copied : (set : DataSet) × IsSetOf (heads_of plan.source.device) (contents from) source.is.before.sets plan.old set
  copied = set_of source.is plan.old plan.old_is.there

  abbrev set : DataSet
  set = copied.0

  abbrev pub tracks_from : List ℕ
  tracks_from = tracks_of (extents_of (heads_of plan.source.device) plan.old)

  abbrev pub tracks_to : List ℕ
  tracks_to = tracks_of (extents_of (heads_of plan.volume.device) plan.row)

  -- the texts of the copy
  abbrev pub copy_texts : List Text
  copy_texts = copied.0.texts ++ replicate (length tracks_to - length tracks_from) empty_text

  abbrev pub copy : DataSet
  copy = set_put (heads_of plan.volume.device) plan.row copy_texts

  pub copied_name : IsNameOf origin copied.0.name
  copied_name = subst (IsNameOf origin) (sym copied.1.name_is) plan.old_is.name_is

  -- what the copy is made of
  abbrev pub original : Original
  original = original_of source.is.before copied.0 plan.kind

  pub is_original : IsOriginal source.is.before copied.0 original
  is_original = record { kind_is = subst (λ (extents : List Extent). IsNewKind extents plan.kind) (sym copied.1.extents_are) plan.kind_is; original_is = refl }

  pub is_copy : IsCopy here.is.before original name to copy
  is_copy =
      let serial : here.is.before.serial ≡ plan.volume.serial = here.is.describes.serial_is in
      let long : length set.texts ≡ length tracks_from = texts_long (heads_of plan.source.device) own_place (contents from) tracks_from set.texts copied.1.texts_are in
      let device : here.is.before.device ≡ plan.volume.device = here.is.describes.device_is in
      record {
        like = device ∙ plan.like ∙ sym source.is.describes.device_is;
        lawful = plan.lawful;
        name_is = plan.named;
        fields_are = plan.row_is.fields_are ∙ (λ i. fields_at plan.row.name (sym serial i) (sym copied.1.fields_are i));
        whole = subst (λ (d : Device). LieOnCylinders (heads_of d) plan.kind to) (sym device) plan.whole;
        extents_are = plan.row_is.extents_are;
        size =
            ap (λ (extents : List Extent). length (tracks_of extents)) plan.row_is.extents_are ∙ plan.size
            ∙ (λ i. tracks_for (heads_of (sym device i)) plan.kind (sym long i));
        texts_are = ap (λ (n : ℕ). set.texts ++ replicate (length tracks_to - n) empty_text) (sym long);
      }

  pub copy_gives : (gone : List DataSet) → AreGone change gone → MayChange plan.volume change → Gives replaced here.is.before copy gone
  copy_gives gone are may =
      by replaced (subst (λ (c : Change). AreGone c gone) plan.change_is are) (subst (MayChange plan.volume) plan.change_is may)
    where
      by : (b : Bool) → AreGone (putting b name plan.row) gone → MayChange plan.volume (putting b name plan.row) → Gives b here.is.before copy gone
      by true are may = are
      by false are may = (are, names_differ heads plan.row.name plan.volume.rows here.is.before.sets here.is.describes.sets_are may.1)

  copy_runs : AreSome to × AllPairs ShareNone to
  copy_runs =
      let may = may_put plan.volume replaced name plan.row (subst (MayChange plan.volume) plan.change_is plan.may) in
      let to_is : to ≡ runs_in heads plan.row.extents =
      sym (runs_on plan.kind to) ∙ ap (map run_in) (sym plan.row_is.extents_are) ∙ runs_of_extents heads plan.row in
      put_runs plan.volume may.0 plan.row to may.1 to_is

  pub copy_place : MayTake here.is.before [] to
  copy_place = record { some = copy_runs.0; apart = copy_runs.1; tracks = λ track held. inl (free_track here.is track (plan.free track held)) }

  pub is_row : IsRow models from origin source.is.before copied.0
  is_row = record { at = source.at ∙ ap Some source.is.model_is; there = copied.1.there; name_is = copied_name }

  pub puts_it : sets_put (heads_of plan.volume.device) change copy_texts ≡ copy ∷ []
  puts_it = ap (λ (c : Change). sets_put heads c copy_texts) plan.change_is ∙ put_sets heads replaced name plan.row copy_texts

  -- the step
  abbrev pub copies : {fills : List Bool} {later : Image} (t : IsTaken shape fills later unit plan.volume change copy_texts here.is.before models)
      → Copies replaced original unit name to models t.models_after
  copies t = record {
    gone = t.gone;
    copy = copy;
    change = to_unit t t.gone (copy ∷ []) refl puts_it;
    copy_is = is_copy;
    gives = copy_gives t.gone t.gone_are plan.may;
    place = copy_place;
  }

  abbrev pub puts : (facts : Facts) {fills : List Bool} {later : Image} (t : IsTaken shape fills later unit plan.volume change copy_texts here.is.before models)
      → Puts facts replaced (origins.Row from origin) unit name to models t.models_after
  puts facts t = record { original = original; origin_is = (source.is.before, copied.0, is_row, is_original); copies = copies t }

  pub copy_no_mark : change ≢ Mark
  copy_no_mark = put_small replaced name plan.row change plan.change_is

  -- the texts stand there where the copy was made
  pub copy_stands : (old : Image) (rest : List (ℕ × Change)) → DifferOnFree units old contents → AreHeld units (texts.Rows from origin) ((unit, change) ∷ rest) old contents
      → AreTextsPut (heads_of plan.volume.device) (contents unit) change copy_texts
  copy_stands old rest differ held =
      let were = texts_were units old contents from plan.source differ plan.source_loaded source.is plan.old set copied.1 in
      let by : IsPutBy change plan.row = subst (λ (c : Change). IsPutBy c plan.row) (sym plan.change_is) (put_by replaced name plan.row) in
      let stand : AreTexts (heads_of plan.source.device) own_place (contents unit) tracks_to copy_texts =
      held plan.source plan.volume plan.old plan.row plan.source_loaded plan.old_is plan.loaded by set.texts were in
      let here_stand : AreTexts heads own_place (contents unit) tracks_to copy_texts =
      subst (λ (d : Device). AreTexts (heads_of d) own_place (contents unit) tracks_to copy_texts) (sym plan.like) stand in
      subst (λ (c : Change). AreTextsPut heads (contents unit) c copy_texts) (sym plan.change_is) (put_texts heads (contents unit) replaced name plan.row copy_texts here_stand)

-- ---- the step of a plan

module _ (shape : Shape) (units : List UnitState) (fills : List Bool) (fit : HaveFills fills units) (vtocs : List (List ℕ)) (old new : Image) (have : HaveStates shape units)
    (are : AreLoaded shape new units) (keep : KeepVtocs shape units vtocs) (vtocs_are : AreVtocsOf new units vtocs) (differ : DifferOnFree units old new)
    (changes : List (ℕ × Change)) (rendered : List Rendered) (were : WereRendered units vtocs changes rendered) where
  put_taken : (replaced : Bool) (from : ℕ) (origin : Dsn) (unit : ℕ) (name : Dsn) (to : List Run) (step : Step) → PlansPut replaced units from origin unit name to changes
      → AreHeld units (texts.Rows from origin) changes old new
      → ((facts : Facts) (before after : List UnitModel) → Puts facts replaced (origins.Row from origin) unit name to before after → IsStep facts step before after)
      → TakesModels shape fills new step (entries_of changes rendered)
  put_taken replaced from origin unit name to step plan held is_step =
      let copy = plan.copy in
      let one_held : AreHeld units (texts.Rows from origin) ((unit, plan.change) ∷ []) old new =
      subst (λ (list : List (ℕ × Change)). AreHeld units (texts.Rows from origin) list old new) plan.changes_are held in
      from_one shape units fills fit vtocs new have are keep vtocs_are step unit plan.change changes rendered plan.changes_are were
      (λ one was.
      take_one shape units fills fit vtocs new have are keep vtocs_are unit copy.volume copy.loaded plan.change copy.may
      (put_small replaced name copy.row plan.change copy.change_is) one was step
      (λ facts allowed models alone here.
      let source = here_loaded shape units fills fit vtocs new have are keep vtocs_are from copy.source models copy.source_loaded alone in (
        copy_texts copy source here,
        copy_stands copy source here old [] differ one_held,
        λ t. is_step facts models t.models_after (puts copy source here facts t),
      )))

  pub add_taken : (from : ℕ) (origin : Dsn) (unit : ℕ) (name : Dsn) (to : List Run) → PlansPut false units from origin unit name to changes → AreHeld units (texts.Rows from origin) changes old new
      → TakesModels shape fills new (steps.Add unit name to (origins.Row from origin)) (entries_of changes rendered)
  add_taken from origin unit name to plan held =
      put_taken false from origin unit name to (steps.Add unit name to (origins.Row from origin)) plan held (λ facts before after is. is)

  pub replace_taken : (from : ℕ) (origin : Dsn) (unit : ℕ) (name : Dsn) (to : List Run) → PlansPut true units from origin unit name to changes
      → AreHeld units (texts.Rows from origin) changes old new → TakesModels shape fills new (steps.Replace unit name to (origins.Row from origin)) (entries_of changes rendered)
  replace_taken from origin unit name to plan held =
      put_taken true from origin unit name to (steps.Replace unit name to (origins.Row from origin)) plan held (λ facts before after is. is)
