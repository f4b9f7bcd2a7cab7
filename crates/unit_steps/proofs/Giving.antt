-- Plans that put a part of a dump.
use Rattle.std.proofs.Common.{◌≡◌, inl, ℕ, ◌-◌, Bool, true, false, List, [], ◌∷◌, ◌++◌, length, map, replicate, refl, sym, ap, subst, ◌∙◌}
use Rattle.std.specs.Prelude.{AllPairs}
use Rattle.ckd_image.specs.declared.device.Device.{Device}
use Rattle.ckd_image.specs.Device.{heads_of}
use Rattle.dasd_pool.specs.Disk.{Image, Shape}
use Rattle.dd_names.specs.declared.dd.DdName.{DdName}
use Rattle.dsn_filter.specs.declared.dsn.Dsn.{Dsn}
use Rattle.free_map.specs.declared.run.Run.{Run}
use Rattle.volume_model.specs.Unit.{Text, DataSet, UnitModel, run_in, tracks_of}
use Rattle.volume_change.specs.declared.change.Change.{Change}
use Rattle.volume_change.specs.Runs.{runs_in}
use Rattle.unit_change.specs.vtoc_render.declared.change.Rendered.{Rendered}
use Rattle.unit_change.specs.vtoc_render.Next.{MayChange}
use Rattle.unit_change.specs.Changed.{AreGone, AreTextsPut, extents_of, set_put, sets_put}
use Rattle.unit_load.specs.declared.state.UnitState.{UnitState}
use Rattle.move_core.specs.declared.steps.Origin.TheVariants as origins
use Rattle.move_core.specs.declared.steps.Step.{Step}
use Rattle.move_core.specs.Facts.{Facts, Original}
use Rattle.move_core.specs.Steps.{MayTake, LieOnCylinders, fields_at, empty_text, tracks_for, IsCopy, Gives, Puts, IsStep}
use Rattle.unit_steps.specs.Loaded.{HaveStates, AreLoaded, HaveFills, KeepVtocs, AreVtocsOf}
use Rattle.unit_steps.specs.Parts.{HoldsPart, GivesPart}
use Rattle.unit_steps.specs.Plans.{PlansPart, putting}
use Rattle.unit_steps.specs.Rendering.{WereRendered, entries_of}
use Rattle.unit_steps.proofs.OneChange.{TakesModelsFor, IsHere, to_unit, take_one, from_one}
use Rattle.unit_steps.proofs.Putting.{put_sets, put_texts, may_put}
use Rattle.unit_steps.proofs.Rows.{AreSome, ShareNone, free_track, names_differ, put_runs, runs_on, runs_of_extents}
use Rattle.unit_steps.proofs.Small.{put_small}
use Rattle.unit_steps.proofs.Units.{IsTaken}

module _ {replaced : Bool} {units : List UnitState} {original : Original} {unit : ℕ} {name : Dsn} {to : List Run} {changes : List (ℕ × Change)}
    (plan : PlansPart replaced units original unit name to changes) {shape : Shape} {contents : Image} {models : List UnitModel}
    (here : IsHere shape contents unit plan.volume models) where
  abbrev heads : ℕ
  heads = heads_of plan.volume.device

  abbrev tracks_to : List ℕ
  tracks_to = tracks_of (extents_of heads plan.row)

  -- the texts of the copy
  abbrev pub given_texts : List Text
  given_texts = original.texts ++ replicate (length tracks_to - length original.texts) empty_text

  abbrev copy : DataSet
  copy = set_put heads plan.row given_texts

  is_copy : IsCopy here.is.before original name to copy
  is_copy =
      let serial : here.is.before.serial ≡ plan.volume.serial = here.is.describes.serial_is in
      let device : here.is.before.device ≡ plan.volume.device = here.is.describes.device_is in
      record {
        like = device ∙ plan.like;
        lawful = plan.lawful;
        name_is = plan.named;
        fields_are = plan.row_is.fields_are ∙ (λ i. fields_at plan.row.name (sym serial i) original.fields);
        whole = subst (λ (d : Device). LieOnCylinders (heads_of d) original.kind to) (sym device) plan.whole;
        extents_are = plan.row_is.extents_are;
        size =
            ap (λ extents. length (tracks_of extents)) plan.row_is.extents_are ∙ plan.size
            ∙ (λ i. tracks_for (heads_of (sym device i)) original.kind (length original.texts));
        texts_are = refl;
      }

  copy_gives : (gone : List DataSet) → AreGone plan.change gone → MayChange plan.volume plan.change → Gives replaced here.is.before copy gone
  copy_gives gone are may =
      by replaced (subst (λ (c : Change). AreGone c gone) plan.change_is are) (subst (MayChange plan.volume) plan.change_is may)
    where
      by : (b : Bool) → AreGone (putting b name plan.row) gone → MayChange plan.volume (putting b name plan.row) → Gives b here.is.before copy gone
      by true are may = are
      by false are may = (are, names_differ heads plan.row.name plan.volume.rows here.is.before.sets here.is.describes.sets_are may.1)

  copy_runs : AreSome to × AllPairs ShareNone to
  copy_runs =
      let may = may_put plan.volume replaced name plan.row (subst (MayChange plan.volume) plan.change_is plan.may) in
      let to_is : to ≡ runs_in heads plan.row.extents =
      sym (runs_on original.kind to) ∙ ap (map run_in) (sym plan.row_is.extents_are) ∙ runs_of_extents heads plan.row in
      put_runs plan.volume may.0 plan.row to may.1 to_is

  copy_place : MayTake here.is.before [] to
  copy_place = record { some = copy_runs.0; apart = copy_runs.1; tracks = λ track held. inl (free_track here.is track (plan.free track held)) }

  puts_it : sets_put heads plan.change given_texts ≡ copy ∷ []
  puts_it = ap (λ (c : Change). sets_put heads c given_texts) plan.change_is ∙ put_sets heads replaced name plan.row given_texts

  -- the step, where the input holds the part
  pub puts_part : (facts : Facts) (input : DdName) (number : ℕ) → HoldsPart input number original facts
      → {fills : List Bool} {later : Image} (t : IsTaken shape fills later unit plan.volume plan.change given_texts here.is.before models)
      → Puts facts replaced (origins.Part input number) unit name to models t.models_after
  puts_part facts input number holds t = record {
    original = original;
    origin_is = holds;
    copies =
        record {
          gone = t.gone;
          copy = copy;
          change = to_unit t t.gone (copy ∷ []) refl puts_it;
          copy_is = is_copy;
          gives = copy_gives t.gone t.gone_are plan.may;
          place = copy_place;
        };
  }

  pub given_stand : GivesPart plan contents → AreTextsPut heads (contents unit) plan.change given_texts
  given_stand gives = subst (λ (c : Change). AreTextsPut heads (contents unit) c given_texts) (sym plan.change_is) (put_texts heads (contents unit) replaced name plan.row given_texts gives)

-- ---- the step of a plan

module _ (shape : Shape) (units : List UnitState) (fills : List Bool) (fit : HaveFills fills units) (vtocs : List (List ℕ)) (new : Image) (have : HaveStates shape units)
    (are : AreLoaded shape new units) (keep : KeepVtocs shape units vtocs) (vtocs_are : AreVtocsOf new units vtocs) (changes : List (ℕ × Change)) (rendered : List Rendered)
    (were : WereRendered units vtocs changes rendered) where
  pub part_taken : (replaced : Bool) (original : Original) (input : DdName) (number : ℕ) (unit : ℕ) (name : Dsn) (to : List Run) (step : Step)
      → (plan : PlansPart replaced units original unit name to changes) → GivesPart plan new
      → ((facts : Facts) (before after : List UnitModel) → Puts facts replaced (origins.Part input number) unit name to before after → IsStep facts step before after)
      → TakesModelsFor (HoldsPart input number original) shape fills new step (entries_of changes rendered)
  part_taken replaced original input number unit name to step plan gives is_step =
      from_one shape units fills fit vtocs new have are keep vtocs_are step unit plan.change changes rendered plan.changes_are were
      (λ one was.
      take_one shape units fills fit vtocs new have are keep vtocs_are unit plan.volume plan.loaded plan.change plan.may
      (put_small replaced name plan.row plan.change plan.change_is) one was step
      (λ facts allowed models alone here. (
        given_texts plan here,
        given_stand plan here gives,
        λ t. is_step facts models t.models_after (puts_part plan here facts input number allowed t),
      )))
