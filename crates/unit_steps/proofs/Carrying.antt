-- Plans that carry a data set to another unit.
use Rattle.std.proofs.Common.{◌≡◌, ℕ, Bool, false, List, [], ◌∷◌, ◌++◌, map, Some, refl, sym, ap, subst, ◌∙◌}
use Rattle.std.proofs.lemmas.List.{append-nil}
use Rattle.std.proofs.lemmas.Option.{same_Some}
use Rattle.ckd_image.specs.Device.{slot_of}
use Rattle.dasd_pool.specs.Disk.{Image, Shape}
use Rattle.dsn_filter.specs.declared.dsn.Dsn.{Dsn}
use Rattle.free_map.specs.declared.run.Run.{Run}
use Rattle.redo_core.specs.declared.entries.Entry.{Entry}
use Rattle.redo_core.specs.Reading.{placed}
use Rattle.volume_model.specs.Sound.{Slots}
use Rattle.volume_model.specs.Unit.{OnlineVolume, UnitModel, online}
use Rattle.vtoc_check.specs.Slots.{AreSlotsOf}
use Rattle.volume_change.specs.declared.change.Change.{Change}
use Rattle.volume_change.specs.declared.change.Change.TheVariants.{Remove}
use Rattle.volume_change.proofs.Names.{one_text}
use Rattle.unit_change.specs.vtoc_render.declared.change.Rendered.{Rendered}
use Rattle.unit_change.specs.Described.{AreShort}
use Rattle.unit_load.specs.declared.state.UnitState.{UnitState}
use Rattle.unit_load.specs.declared.state.UnitState.TheVariants.{Online}
use Rattle.unit_load.specs.State.{IsStateOf}
use Rattle.move_core.specs.declared.steps.Step.TheVariants as steps
use Rattle.move_core.specs.Facts.{Facts}
use Rattle.move_core.specs.Steps.{IsStep}
use Rattle.unit_steps.specs.declared.plan.Tracks.TheVariants as texts
use Rattle.unit_steps.specs.Copied.{DifferOnFree, AreHeld}
use Rattle.unit_steps.specs.Loaded.{HaveStates, AreLoaded, HaveFills, KeepVtocs, AreVtocsOf}
use Rattle.unit_steps.specs.Plans.{PlansCarry}
use Rattle.unit_steps.specs.Rendering.{WasRendered, WereRendered, entry_for, entries_of}
use Rattle.unit_steps.proofs.OneChange.{TakesModels, IsHere, unit_within, unit_here, to_unit, take_change, here_loaded}
use Rattle.unit_steps.proofs.Placing.{placed_there, placed_both}
use Rattle.unit_steps.proofs.Putting.{copied, copied_name, copy_texts, copy_no_mark, copy_stands, is_row, original, is_original, copies}
use Rattle.unit_steps.proofs.Rows.{gone_set}
use Rattle.unit_steps.proofs.Small.{remove_no_mark}
use Rattle.unit_steps.proofs.Units.{AreAlone, IsTaken}

module _ (shape : Shape) (units : List UnitState) (fills : List Bool) (fit : HaveFills fills units) (vtocs : List (List ℕ)) (old new : Image) (have : HaveStates shape units)
    (are : AreLoaded shape new units) (keep : KeepVtocs shape units vtocs) (vtocs_are : AreVtocsOf new units vtocs) (differ : DifferOnFree units old new) where
  module _ {from : ℕ} {origin : Dsn} {unit : ℕ} {name : Dsn} {to : List Run} {replaced : Bool} {changes : List (ℕ × Change)}
      (plan : PlansCarry units from origin unit name to replaced changes) (one two : Rendered)
      (first : WasRendered units vtocs unit plan.change one) (second : WasRendered units vtocs from (Remove origin) two)
      (held : AreHeld units (texts.Rows from origin) ((unit, plan.change) ∷ (from, Remove origin) ∷ []) old new) (facts : Facts) (models : List UnitModel)
      (alone : AreAlone shape fills new models) where
    here : IsHere shape new unit plan.copy.volume models
    here = here_loaded shape units fills fit vtocs new have are keep vtocs_are unit plan.copy.volume models plan.copy.loaded alone

    source : IsHere shape new from plan.copy.source models
    source = here_loaded shape units fills fit vtocs new have are keep vtocs_are from plan.copy.source models plan.copy.source_loaded alone

    abbrev between : Image
    between = placed new (map (entry_for unit) one.blocks)

    -- the copy is put
    put : IsTaken shape fills between unit plan.copy.volume plan.change (copy_texts plan.copy source here) here.is.before models
    put =
        let loaded = plan.copy.loaded in
        take_change shape units fills fit vtocs new models alone unit plan.copy.volume loaded keep plan.change one first
        (vtocs_are unit (Online plan.copy.volume) first.slots loaded first.kept) (are unit (Online plan.copy.volume) loaded).0 (are unit (Online plan.copy.volume) loaded).1
        plan.copy.may (copy_no_mark plan.copy source here) here (copy_texts plan.copy source here) (copy_stands plan.copy source here old ((from, Remove origin) ∷ []) differ held)

    -- the other unit is as it was
    same_source : between from ≡ new from
    same_source = placed_there unit one.blocks new from plan.apart

    source_state : IsStateOf false (shape.head from) (shape.blocks from) (between from) (Online plan.copy.source)
    source_state =
        subst (λ (slots : Slots). IsStateOf false (shape.head from) (shape.blocks from) slots (Online plan.copy.source)) (sym same_source)
        (are from (Online plan.copy.source) plan.copy.source_loaded).0

    source_short : AreShort (shape.blocks from) (between from)
    source_short = subst (AreShort (shape.blocks from)) (sym same_source) (are from (Online plan.copy.source) plan.copy.source_loaded).1

    source_slots : AreSlotsOf plan.copy.source.vtoc (slot_of plan.copy.source.device) second.slots (between from)
    source_slots =
        subst (AreSlotsOf plan.copy.source.vtoc (slot_of plan.copy.source.device) second.slots) (sym same_source)
        (vtocs_are from (Online plan.copy.source) second.slots plan.copy.source_loaded second.kept)

    still : IsHere shape between from plan.copy.source put.models_after
    still =
        unit_here shape fills between from plan.copy.source put.models_after source_state source_short (unit_within shape units from plan.copy.source have plan.copy.source_loaded)
        (fit from (Online plan.copy.source) plan.copy.source_loaded) put.alone

    still_same : still.is.before ≡ source.is.before
    still_same =
        let models_same : Some (online still.is.before) ≡ Some (online source.is.before) =
        sym (still.at ∙ ap Some still.is.model_is) ∙ put.others from plan.apart ∙ (source.at ∙ ap Some source.is.model_is) in
        let units_same : online still.is.before ≡ online source.is.before = same_Some (online still.is.before) (online source.is.before) models_same in cc

    -- the data set goes there
    gone : IsTaken shape fills (placed between (map (entry_for from) two.blocks)) from plan.copy.source (Remove origin) [] still.is.before put.models_after
    gone =
        take_change shape units fills fit vtocs between put.models_after put.alone from plan.copy.source plan.copy.source_loaded keep (Remove origin) two second
        source_slots source_state source_short plan.may (remove_no_mark origin) still [] refl

    gone_is : gone.gone ≡ (copied plan.copy source here).0 ∷ []
    gone_is =
        let set = (copied plan.copy source here).0 in
        let other = gone.gone_are in
        let sets_were : source.is.before.sets ≡ gone.changes.front ++ (gone.gone ++ gone.changes.back) =
        sym (ap (λ (volume : OnlineVolume). volume.sets) still_same) ∙ gone.changes.sets_were in
        gone_set source.is set other.0 gone.changes.front gone.changes.back gone.gone (copied plan.copy source here).1.there other.1 sets_were
        (one_text origin other.0.name set.name other.2 (copied_name plan.copy source here))

    carried : (after : List UnitModel) × IsStep facts (steps.Carry from origin unit name to replaced) models after
        × AreAlone shape fills (placed (placed new (map (entry_for unit) one.blocks)) (map (entry_for from) two.blocks)) after
    carried = (
      gone.models_after,
      record {
        apart = plan.apart;
        volume = source.is.before;
        set = (copied plan.copy source here).0;
        row_is = is_row plan.copy source here;
        original = original plan.copy source here;
        original_is = is_original plan.copy source here;
        between = put.models_after;
        copies = copies plan.copy source here put;
        takes = to_unit gone ((copied plan.copy source here).0 ∷ []) [] gone_is refl;
      },
      gone.alone,
    )

  pub carry_taken : (from : ℕ) (origin : Dsn) (unit : ℕ) (name : Dsn) (to : List Run) (replaced : Bool) (changes : List (ℕ × Change)) (rendered : List Rendered)
      → WereRendered units vtocs changes rendered → PlansCarry units from origin unit name to replaced changes → AreHeld units (texts.Rows from origin) changes old new
      → TakesModels shape fills new (steps.Carry from origin unit name to replaced) (entries_of changes rendered)
  carry_taken from origin unit name to replaced changes rendered were plan held =
      let both : List (ℕ × Change) = (unit, plan.change) ∷ (from, Remove origin) ∷ [] in
      subst (λ (list : List (ℕ × Change)). TakesModels shape fills new (steps.Carry from origin unit name to replaced) (entries_of list rendered)) (sym plan.changes_are)
      (by rendered (subst (λ (list : List (ℕ × Change)). WereRendered units vtocs list rendered) plan.changes_are were)
      (subst (λ (list : List (ℕ × Change)). AreHeld units (texts.Rows from origin) list old new) plan.changes_are held))
    where
      by : (list : List Rendered) → WereRendered units vtocs ((unit, plan.change) ∷ (from, Remove origin) ∷ []) list
          → AreHeld units (texts.Rows from origin) ((unit, plan.change) ∷ (from, Remove origin) ∷ []) old new
          → TakesModels shape fills new (steps.Carry from origin unit name to replaced) (entries_of ((unit, plan.change) ∷ (from, Remove origin) ∷ []) list)
      by [] were held = absurd were
      by (one ∷ []) were held = absurd were.1
      by (one ∷ two ∷ three ∷ more) were held = absurd were.1.1
      by (one ∷ two ∷ []) were held = λ facts allowed models alone.
          let made = carried plan one two were.0 were.1.0 held facts models alone in
          let first = map (entry_for unit) one.blocks in
          let second = map (entry_for from) two.blocks in
          let same : placed (placed new first) second ≡ placed new (first ++ (second ++ [])) =
          ap (λ (entries : List Entry). placed (placed new first) entries) (sym (append-nil second)) ∙ sym (placed_both first (second ++ []) new) in
          (made.0, made.1, subst (λ (image : Image). AreAlone shape fills image made.0) same made.2)
