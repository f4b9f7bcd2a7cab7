-- Plans that leave a data set's texts where they are, or take it out.
use Rattle.std.proofs.Common.{◌≡◌, ℕ, ◌<◌, Bool, List, [], ◌∷◌, length, take, refl, sym, ap, subst, ◌∙◌}
use Rattle.ckd_image.specs.Device.{heads_of}
use Rattle.dasd_pool.specs.Disk.{Image, Shape}
use Rattle.dsn_filter.specs.declared.dsn.Dsn.{Dsn}
use Rattle.volume_model.specs.Pinned.{IsNameOf}
use Rattle.volume_model.specs.Reads.{AreTexts}
use Rattle.volume_model.specs.Unit.{Text, Extent, DataSet, UnitModel, tracks_of}
use Rattle.volume_change.specs.declared.change.Change.{Change}
use Rattle.volume_change.specs.declared.change.Change.TheVariants.{Repair, Swap, Remove}
use Rattle.unit_change.specs.vtoc_render.declared.change.Rendered.{Rendered}
use Rattle.unit_change.specs.Changed.{extents_of}
use Rattle.unit_change.specs.Described.{own_place}
use Rattle.unit_load.specs.declared.state.UnitState.{UnitState}
use Rattle.move_core.specs.declared.steps.Step.TheVariants as steps
use Rattle.move_core.specs.Steps.{cut, shrunk, reset_fields, reset}
use Rattle.unit_steps.specs.Loaded.{HaveStates, AreLoaded, HaveFills, KeepVtocs, AreVtocsOf}
use Rattle.unit_steps.specs.Plans.{SwapsRow, PlansShrink, PlansReset, PlansDelete, PlansRepair}
use Rattle.unit_steps.specs.Rendering.{WereRendered, entries_of}
use Rattle.unit_steps.proofs.Cutting.{cut_tracks, texts_taken}
use Rattle.unit_steps.proofs.OneChange.{TakesModels, IsHere, to_unit, is_put, take_one, from_one}
use Rattle.unit_steps.proofs.Rows.{set_of, gone_set}
use Rattle.unit_steps.proofs.Small.{swap_no_mark, remove_no_mark, repair_no_mark}
use Rattle.unit_steps.proofs.Units.{IsSetOf, IsTaken}

-- ---- the data set of the row that is swapped

module _ {units : List UnitState} {unit : ℕ} {name : Dsn} {changes : List (ℕ × Change)} (swap : SwapsRow units unit name changes) {shape : Shape} {contents : Image} {models : List UnitModel}
    (here : IsHere shape contents unit swap.volume models) where
  pub swapped : (set : DataSet) × IsSetOf (heads_of swap.volume.device) (contents unit) here.is.before.sets swap.old set
  swapped = set_of here.is swap.old swap.old_is.there

  pub swapped_name : IsNameOf name swapped.0.name
  swapped_name = subst (IsNameOf name) (sym swapped.1.name_is) swap.old_is.name_is

  -- the one that goes
  pub swapped_gone : {fills : List Bool} {later : Image} {texts : List Text} (t : IsTaken shape fills later unit swap.volume (Swap name swap.row) texts here.is.before models)
      → swap.row.name ≡ swap.old.name
      → t.gone ≡ swapped.0 ∷ []
  swapped_gone t same =
      gone_set here.is swapped.0 t.gone_are.0 t.changes.front t.changes.back t.gone swapped.1.there t.gone_are.1 t.changes.sets_were (t.gone_are.2 ∙ same ∙ sym swapped.1.name_is)

module _ (shape : Shape) (units : List UnitState) (fills : List Bool) (fit : HaveFills fills units) (vtocs : List (List ℕ)) (contents : Image) (have : HaveStates shape units)
    (are : AreLoaded shape contents units) (keep : KeepVtocs shape units vtocs) (vtocs_are : AreVtocsOf contents units vtocs)
    (changes : List (ℕ × Change)) (rendered : List Rendered) (were : WereRendered units vtocs changes rendered) where
  pub delete_taken : (unit : ℕ) (name : Dsn) → PlansDelete units unit name changes → TakesModels shape fills contents (steps.Delete unit name) (entries_of changes rendered)
  delete_taken unit name plan =
      from_one shape units fills fit vtocs contents have are keep vtocs_are (steps.Delete unit name) unit (Remove name) changes rendered plan.changes_are were
      (λ one was.
      take_one shape units fills fit vtocs contents have are keep vtocs_are unit plan.volume plan.loaded (Remove name) plan.may (remove_no_mark name) one was (steps.Delete unit name)
      (λ facts allowed models alone here. (
        [],
        refl,
        λ t. record { set = t.gone_are.0; name_is = t.gone_are.2; change = to_unit t (t.gone_are.0 ∷ []) [] t.gone_are.1 refl },
      )))

  pub repair_taken : (unit : ℕ) → PlansRepair units unit changes → TakesModels shape fills contents (steps.Repair unit) (entries_of changes rendered)
  repair_taken unit plan =
      from_one shape units fills fit vtocs contents have are keep vtocs_are (steps.Repair unit) unit Repair changes rendered plan.changes_are were
      (λ one was.
      take_one shape units fills fit vtocs contents have are keep vtocs_are unit plan.volume plan.loaded Repair tt repair_no_mark one was (steps.Repair unit)
      (λ facts allowed models alone here. ([], refl, λ t. to_unit t [] [] t.gone_are refl)))

  pub reset_taken : (unit : ℕ) (name : Dsn) → PlansReset units unit name changes → TakesModels shape fills contents (steps.ResetFlag unit name) (entries_of changes rendered)
  reset_taken unit name plan =
      let swap = plan.swap in
      let heads = heads_of swap.volume.device in
      let row = swap.row in
      from_one shape units fills fit vtocs contents have are keep vtocs_are (steps.ResetFlag unit name) unit (Swap name swap.row) changes rendered swap.changes_are were
      (λ one was.
      take_one shape units fills fit vtocs contents have are keep vtocs_are unit swap.volume swap.loaded (Swap name swap.row) swap.may
      (swap_no_mark name swap.row) one was (steps.ResetFlag unit name)
      (λ facts allowed models alone here.
      let set = (swapped swap here).0 in
      let is = (swapped swap here).1 in (
        set.texts,
        subst (λ (extents : List Extent). AreTexts heads own_place (contents unit) (tracks_of extents) set.texts) (sym plan.row_is.extents_are) is.texts_are,
        λ t. record {
          set = set;
          name_is = swapped_name swap here;
          change =
              to_unit t (set ∷ []) (reset set ∷ []) (swapped_gone swap here t plan.row_is.name_is)
              (is_put heads row set.texts (reset set) (plan.row_is.name_is ∙ sym is.name_is) (plan.row_is.fields_are ∙ ap reset_fields (sym is.fields_are))
              (plan.row_is.extents_are ∙ sym is.extents_are) refl refl);
        },
      )))

  pub shrink_taken : (unit : ℕ) (name : Dsn) (kept : ℕ) → PlansShrink units unit name kept changes
      → TakesModels shape fills contents (steps.Shrink unit name kept) (entries_of changes rendered)
  shrink_taken unit name kept plan =
      let swap = plan.swap in
      let heads = heads_of swap.volume.device in
      let row = swap.row in
      let whole = extents_of heads swap.old in
      from_one shape units fills fit vtocs contents have are keep vtocs_are (steps.Shrink unit name kept) unit (Swap name swap.row) changes rendered swap.changes_are were
      (λ one was.
      take_one shape units fills fit vtocs contents have are keep vtocs_are unit swap.volume swap.loaded (Swap name swap.row) swap.may
      (swap_no_mark name swap.row) one was (steps.Shrink unit name kept)
      (λ facts allowed models alone here.
      let set = (swapped swap here).0 in
      let is = (swapped swap here).1 in
      let texts : List Text = take kept set.texts in
      let first : AreTexts heads own_place (contents unit) (take kept (tracks_of whole)) texts =
      texts_taken heads own_place (contents unit) kept (tracks_of whole) set.texts is.texts_are in
      let on_cut : AreTexts heads own_place (contents unit) (tracks_of (cut kept whole)) texts =
      subst (λ (tracks : List ℕ). AreTexts heads own_place (contents unit) tracks texts) (sym (cut_tracks kept whole)) first in (
        texts,
        subst (λ (extents : List Extent). AreTexts heads own_place (contents unit) (tracks_of extents) texts) (sym plan.row_is.extents_are) on_cut,
        λ t. record {
          set = set;
          name_is = swapped_name swap here;
          fewer = subst (λ (extents : List Extent). kept < length (tracks_of extents)) (sym is.extents_are) plan.fewer;
          change =
              to_unit t (set ∷ []) (shrunk kept set ∷ []) (swapped_gone swap here t plan.row_is.name_is)
              (is_put heads row texts (shrunk kept set) (plan.row_is.name_is ∙ sym is.name_is) (plan.row_is.fields_are ∙ sym is.fields_are)
              (plan.row_is.extents_are ∙ ap (cut kept) (sym is.extents_are)) refl refl);
        },
      )))
