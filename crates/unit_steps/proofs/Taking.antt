-- The entries of a plan take the units by its step.
use Rattle.std.proofs.Common.{◌≡◌, ℕ, ◌<◌, ◌≤◌, Bool, List, [], ◌∷◌, map, All, true, false, refl, sym, ap, subst, ◌∙◌, arith}
use Rattle.std.specs.Prelude.{if◌then◌else◌}
use Rattle.std.proofs.lemmas.List.Elements.{All-nil, All-cons, All-append, All-head, All-map, All-tail, All-weaker}
use Rattle.std.proofs.lemmas.Option.{slice_get_within}
use Rattle.dasd_pool.specs.Disk.{Image, Shape, State}
use Rattle.dd_names.specs.declared.dd.DdName.{DdName}
use Rattle.dsn_filter.specs.declared.dsn.Dsn.{Dsn}
use Rattle.free_map.specs.declared.run.Run.{Run}
use Rattle.redo_core.specs.declared.control.Control.{Control}
use Rattle.redo_core.specs.declared.entries.Entry.{Entry}
use Rattle.redo_core.specs.Faults.{HasSerial, IsBusy}
use Rattle.redo_core.specs.Reading.{journal_of, placed, with_entries, set_block, fills_of, Reading}
use Rattle.redo_core.proofs.Controls.{with_volumes}
use Rattle.redo_core.proofs.Crash.{other_block, placed_agree}
use Rattle.volume_model.specs.Reads.{IsUnit}
use Rattle.volume_model.specs.Sound.{Slots}
use Rattle.volume_model.specs.Unit.{UnitModel}
use Rattle.vtoc_write.specs.declared.blocks.Block.{Block}
use Rattle.volume_change.specs.declared.change.Change.{Change}
use Rattle.unit_change.specs.vtoc_render.declared.change.Rendered.{Rendered}
use Rattle.unit_change.specs.Described.{own_place}
use Rattle.unit_change.proofs.FormatFour.{run_inside}
use Rattle.unit_load.specs.declared.state.UnitState.{UnitState}
use Rattle.unit_load.specs.declared.state.UnitState.TheVariants.{Online}
use Rattle.unit_load.specs.Kept.{IsFromSlots}
use Rattle.move_core.specs.declared.steps.Origin.TheVariants as origins
use Rattle.move_core.specs.declared.steps.Step.{Step}
use Rattle.move_core.specs.declared.steps.Step.TheVariants as steps
use Rattle.move_core.specs.Facts.{Facts}
use Rattle.move_core.specs.Laws.{WillStand, OpensNoSlide}
use Rattle.move_core.specs.Stands.{is_sliding, place_in, IsAfterSlide, Means, IsSettled}
use Rattle.move_core.specs.Steps.{Puts, IsStep}
use Rattle.move_core.specs.Taking.{IsQuiet, AreSame, TakeUnitsFor}
use Rattle.unit_steps.specs.declared.plan.Tracks.{Tracks}
use Rattle.unit_steps.specs.declared.plan.Tracks.TheVariants as texts
use Rattle.unit_steps.specs.Copied.{DifferOnFree, AreHeld}
use Rattle.unit_steps.specs.Laws.{PlansTakeUnits}
use Rattle.unit_steps.specs.Parts.{PartsTakeUnits, step_of_part}
use Rattle.unit_steps.proofs.Giving.{part_taken}
use Rattle.unit_steps.specs.Loaded.{HaveStates, AreLoaded, HaveFills, KeepVtocs, AreVtocsOf}
use Rattle.unit_steps.specs.Plans.{Plans, IsOfUnits}
use Rattle.unit_steps.specs.Rendering.{WasRendered, WereRendered, entry_for, entries_of}
use Rattle.unit_steps.proofs.Blocks.{rendered_blocks}
use Rattle.unit_steps.proofs.Carrying.{carry_taken}
use Rattle.unit_steps.proofs.Copying.{copied_load}
use Rattle.unit_steps.proofs.Quiet.{own_slots, control_idle, same_fills, units_found, unit_stands}
use Rattle.unit_steps.proofs.Moving.{move_taken}
use Rattle.unit_steps.proofs.OneChange.{TakesModelsFor, TakesModels}
use Rattle.unit_steps.proofs.Placing.{placed_both}
use Rattle.unit_steps.proofs.Putting.{add_taken, replace_taken}
use Rattle.unit_steps.proofs.Staying.{delete_taken, repair_taken, reset_taken, shrink_taken}
use Rattle.unit_steps.proofs.Units.{AreAlone}

-- ---- labels

-- no block of a rendered change is track 0
module _ (shape : Shape) (units : List UnitState) (vtocs : List (List ℕ)) (keep : KeepVtocs shape units vtocs) where
  first_track : (unit : ℕ) (change : Change) (rendered : Rendered) → WasRendered units vtocs unit change rendered → All (λ block. 1 ≤ block.track) rendered.blocks
  first_track unit change rendered was =
      let from : IsFromSlots false (shape.head unit) (shape.blocks unit) was.volume was.slots = keep.each unit (Online was.volume) was.slots was.loaded was.kept in
      let is = from.loaded in
      let some : 1 ≤ was.volume.vtoc.first =
      omega (arith, (run_inside from.image from.unit from.label.vtoc false is.vtoc is.stands.stands).0, ap (λ (run : Run). run.first) is.volume.vtoc_is) in
      All-weaker (λ (b : Block). was.volume.vtoc.first ≤ b.track) (λ (b : Block). 1 ≤ b.track) (λ b low. omega (arith, low, some)) rendered.blocks
      (rendered_blocks from change rendered was.written).above

  block_stays : (unit : ℕ) (blocks : List Block) (image : Image) (u : ℕ) → All (λ block. 1 ≤ block.track) blocks → placed image (map (entry_for unit) blocks) u 0 ≡ image u 0
  block_stays unit [] image u some = refl
  block_stays unit (block ∷ blocks) image u some =
      let later : 1 ≤ block.track = All-head (λ (b : Block). 1 ≤ b.track) block blocks some in
      block_stays unit blocks (set_block image unit block.track block.slot) u (All-tail (λ (b : Block). 1 ≤ b.track) block blocks some)
      ∙ ap (λ (here : Bool). if here then block.slot else image u 0) (other_block unit block.track u 0 (λ same. absurd (omega (arith, later, same))))

  firsts_stay : (changes : List (ℕ × Change)) (rendered : List Rendered) (image : Image) (u : ℕ) → WereRendered units vtocs changes rendered
      → placed image (entries_of changes rendered) u 0 ≡ image u 0
  firsts_stay [] [] image u were = refl
  firsts_stay [] (one ∷ more) image u were = absurd were
  firsts_stay (change ∷ changes) [] image u were = absurd were
  firsts_stay (change ∷ changes) (one ∷ more) image u were =
      (λ i. placed_both (map (entry_for change.0) one.blocks) (entries_of changes more) image i u 0)
      ∙ firsts_stay changes more (placed image (map (entry_for change.0) one.blocks)) u were.1
      ∙ block_stays change.0 one.blocks image u (first_track change.0 change.1 one were.0)

-- ---- entries of volumes alone

abbrev pub IsBelow : ℕ → Entry → Type 0
IsBelow journal entry = entry.unit < journal

blocks_below : (journal unit : ℕ) → unit < journal → (blocks : List Block) → All (λ block. IsBelow journal (entry_for unit block)) blocks
blocks_below journal unit below [] = All-nil (λ (block : Block). IsBelow journal (entry_for unit block))
blocks_below journal unit below (block ∷ blocks) =
    All-cons (λ (block : Block). IsBelow journal (entry_for unit block)) block blocks below (blocks_below journal unit below blocks)

-- the entries of rendered changes are
pub entries_below : (shape : Shape) (units : List UnitState) (vtocs : List (List ℕ)) → HaveStates shape units → (changes : List (ℕ × Change)) (rendered : List Rendered)
    → WereRendered units vtocs changes rendered → All (IsBelow (journal_of shape)) (entries_of changes rendered)
entries_below shape units vtocs have [] [] were = All-nil (IsBelow (journal_of shape))
entries_below shape units vtocs have [] (one ∷ more) were = absurd were
entries_below shape units vtocs have (change ∷ changes) [] were = absurd were
entries_below shape units vtocs have (change ∷ changes) (one ∷ more) were =
    let below : change.0 < journal_of shape = omega (arith, slice_get_within units change.0 (Online were.0.volume) were.0.loaded, have) in
    All-append (IsBelow (journal_of shape)) (map (entry_for change.0) one.blocks) (entries_of changes more)
    (All-map (IsBelow (journal_of shape)) (entry_for change.0) one.blocks (blocks_below (journal_of shape) change.0 below one.blocks))
    (entries_below shape units vtocs have changes more were.1)

-- ---- a quiet pool

module _ (facts : Facts) (state : State) (units : List UnitModel) (room : ℕ) (fills : List Bool) (quiet : IsQuiet facts.shape state room fills)
    (settled : IsSettled facts state units) where
  abbrev reading : Reading
  reading = settled.stands.reading

  models_alone : (contents : Image) → AreSame facts.shape state.contents contents → AreAlone facts.shape fills contents units
  models_alone contents same =
      subst (λ (models : List UnitModel). AreAlone facts.shape fills contents models) (sym (units_found facts state units room fills quiet settled)) (record {
        count = settled.stands.means.found_are.count;
        each = λ u model at.
            let less : u < journal_of facts.shape = omega (arith, slice_get_within settled.stands.means.found u model at, settled.stands.means.found_are.count) in
            subst (λ (slots : Slots). IsUnit (fills_of fills u) false own_place (facts.shape.head u) (facts.shape.blocks u) slots model) (λ i b. same u b less i)
            (unit_stands facts state units room fills quiet settled u model less at);
      })

  module _ (contents : Image) (same : AreSame facts.shape state.contents contents) (entries : List Entry) (after : List UnitModel)
      (alone : AreAlone facts.shape fills (placed contents entries) after)
      (below : All (IsBelow (journal_of facts.shape)) entries) (firsts : (u : ℕ) → placed settled.stands.reading.volumes entries u 0 ≡ settled.stands.reading.volumes u 0) where
    abbrev later : Image
    later = placed reading.volumes entries

    reads_same : (u : ℕ) → u < journal_of facts.shape → placed contents entries u ≡ later u
    reads_same u less = λ i b.
        placed_agree entries contents reading.volumes u b (λ none. sym (same u b less) ∙ (λ j. sym (own_slots facts state units room fills quiet settled u less) j b)) i

    -- a unit on which no slide is open is a unit of the reading
    reads_alone : (u : ℕ) (model : UnitModel) → u < journal_of facts.shape → IsUnit (fills_of fills u) false own_place (facts.shape.head u) (facts.shape.blocks u) (later u) model
        → IsUnit (reading.fills u) (is_sliding reading.control u) (place_in reading.control u) (facts.shape.head u) (facts.shape.blocks u) (later u) model
    reads_alone u model less is =
        subst (λ (filling : Bool). IsUnit filling (is_sliding reading.control u) (place_in reading.control u) (facts.shape.head u) (facts.shape.blocks u) (later u) model)
        (sym (same_fills facts state units room fills quiet settled u less))
        (subst (λ (control : Control). IsUnit (fills_of fills u) (is_sliding control u) (place_in control u) (facts.shape.head u) (facts.shape.blocks u) (later u) model)
        (sym (control_idle facts state units room fills quiet settled)) is)

    means : Means facts.shape (record reading { volumes = later }) after
    means = record {
      found = after;
      found_are =
          record {
            count = alone.count;
            each = λ u model at.
                let less : u < journal_of facts.shape = omega (arith, slice_get_within after u model at, alone.count) in
                reads_alone u model less
                (subst (λ (slots : Slots). IsUnit (fills_of fills u) false own_place (facts.shape.head u) (facts.shape.blocks u) slots model) (reads_same u less) (alone.each u model at));
          };
      after = subst (λ (control : Control). IsAfterSlide reading.room control after after) (sym (control_idle facts state units room fills quiet settled)) refl;
    }

    -- they leave the control as it is
    only_volumes : with_entries facts.shape reading entries ≡ record reading { volumes = later }
    only_volumes = with_volumes facts.shape entries below reading

    will_stand : WillStand facts settled.stands.reading entries after
    will_stand = record {
      labels = λ u serial within label.
          settled.stands.labels u serial within (record {
            device = label.device;
            head = label.head;
            label = subst (λ (bytes : List ℕ). HasSerial (record { device = label.device; tracks = facts.shape.blocks u }) bytes serial) (firsts u) label.label;
          });
      means = subst (λ (r : Reading). Means facts.shape r after) (sym only_volumes) means;
    }

    -- so they open no slide
    opens_none : OpensNoSlide facts.shape reading entries
    opens_none closed = subst (λ (r : Reading). ¬ IsBusy r) (sym only_volumes) closed

-- models that are taken are units that are taken
pub take_units : {allows : Facts → Type 0} (shape : Shape) (room : ℕ) (fills : List Bool) (contents : Image) (step : Step) (entries : List Entry)
    → TakesModelsFor allows shape fills contents step entries
    → All (IsBelow (journal_of shape)) entries → ((image : Image) (u : ℕ) → placed image entries u 0 ≡ image u 0) → TakeUnitsFor allows shape room fills contents step entries
take_units {allows} shape room fills contents step entries takes below firsts facts state units same_shape allowed same quiet settled =
    let own_takes : TakesModelsFor allows facts.shape fills contents step entries = subst (λ (s : Shape). TakesModelsFor allows s fills contents step entries) (sym same_shape) takes in
    let own_same : AreSame facts.shape state.contents contents = subst (λ (s : Shape). AreSame s state.contents contents) (sym same_shape) same in
    let own_below : All (IsBelow (journal_of facts.shape)) entries = subst (λ (s : Shape). All (IsBelow (journal_of s)) entries) (sym same_shape) below in
    let own_quiet : IsQuiet facts.shape state room fills = subst (λ (s : Shape). IsQuiet s state room fills) (sym same_shape) quiet in
    let made = own_takes facts allowed units (models_alone facts state units room fills own_quiet settled contents own_same) in (
      made.0,
      made.1,
      will_stand facts state units room fills own_quiet settled contents own_same entries made.0 made.2 own_below (firsts settled.stands.reading.volumes),
      opens_none facts state units room fills own_quiet settled contents own_same entries made.0 made.2 own_below (firsts settled.stands.reading.volumes),
    )

-- ---- plans

module _ (shape : Shape) (units : List UnitState) (fills : List Bool) (fit : HaveFills fills units) (vtocs : List (List ℕ)) (old new : Image) (have : HaveStates shape units)
    (are : AreLoaded shape new units) (keep : KeepVtocs shape units vtocs) (vtocs_are : AreVtocsOf new units vtocs) (differ : DifferOnFree units old new)
    (changes : List (ℕ × Change)) (rendered : List Rendered) (were : WereRendered units vtocs changes rendered) where
  rows_held : (from : ℕ) (name : _) (tracks : Tracks) → tracks ≡ texts.Rows from name → AreHeld units tracks changes old new → AreHeld units (texts.Rows from name) changes old new
  rows_held from name tracks is held = subst (λ (t : Tracks). AreHeld units t changes old new) is held

  planned_taken : (step : Step) (tracks : Tracks) → Plans units step tracks changes → IsOfUnits step → AreHeld units tracks changes old new → TakesModels shape fills new step (entries_of changes rendered)
  planned_taken (steps.Move unit name to) tracks is of held =
      move_taken shape units fills fit vtocs old new have are keep vtocs_are differ changes rendered were unit name to is.1 (rows_held unit name tracks is.0 held)
  planned_taken (steps.Shrink unit name kept) tracks is of held = shrink_taken shape units fills fit vtocs new have are keep vtocs_are changes rendered were unit name kept is.1
  planned_taken (steps.Add unit name to (origins.Row from origin)) tracks is of held =
      add_taken shape units fills fit vtocs old new have are keep vtocs_are differ changes rendered were from origin unit name to is.1 (rows_held from origin tracks is.0 held)
  planned_taken (steps.Add unit name to (origins.Part input number)) tracks is of held = absurd of
  planned_taken (steps.Replace unit name to (origins.Row from origin)) tracks is of held =
      replace_taken shape units fills fit vtocs old new have are keep vtocs_are differ changes rendered were from origin unit name to is.1 (rows_held from origin tracks is.0 held)
  planned_taken (steps.Replace unit name to (origins.Part input number)) tracks is of held = absurd of
  planned_taken (steps.Delete unit name) tracks is of held = delete_taken shape units fills fit vtocs new have are keep vtocs_are changes rendered were unit name is.1
  planned_taken (steps.Carry from origin unit name to replaced) tracks is of held =
      carry_taken shape units fills fit vtocs old new have are keep vtocs_are differ from origin unit name to replaced changes rendered were is.1 (rows_held from origin tracks is.0 held)
  planned_taken (steps.ResetFlag unit name) tracks is of held = reset_taken shape units fills fit vtocs new have are keep vtocs_are changes rendered were unit name is.1
  planned_taken (steps.Repair unit) tracks is of held = repair_taken shape units fills fit vtocs new have are keep vtocs_are changes rendered were unit is.1
  planned_taken (steps.FillStart unit input) tracks is of held = absurd is
  planned_taken (steps.FillEnd unit input) tracks is of held = absurd is

pub plans_take : PlansTakeUnits
plans_take shape room old new units vtocs plan rendered have are keep kept is of were differ short held fills fit =
    let now = copied_load shape old new units vtocs have are kept differ short in
    take_units shape room fills new plan.step (entries_of plan.changes rendered)
    (planned_taken shape units fills fit vtocs old new have now.0 keep now.1 differ plan.changes rendered were plan.step plan.tracks is of held)
    (entries_below shape units vtocs have plan.changes rendered were)
    (λ image u. firsts_stay shape units vtocs keep plan.changes rendered image u were)

-- the step of a part
puts_step : (replaced : Bool) (unit : ℕ) (name : Dsn) (to : List Run) (input : DdName) (number : ℕ) (facts : Facts) (before after : List UnitModel)
    → Puts facts replaced (origins.Part input number) unit name to before after → IsStep facts (step_of_part replaced unit name to input number) before after
puts_step false unit name to input number facts before after puts = puts
puts_step true unit name to input number facts before after puts = puts

pub parts_take : PartsTakeUnits
parts_take shape room old new units vtocs replaced original input number unit name to changes rendered have are keep kept plan were differ short gives fills fit =
    let now = copied_load shape old new units vtocs have are kept differ short in
    take_units shape room fills new (step_of_part replaced unit name to input number) (entries_of changes rendered)
    (part_taken shape units fills fit vtocs new have now.0 keep now.1 changes rendered were replaced original input number unit name to
    (step_of_part replaced unit name to input number) plan gives (puts_step replaced unit name to input number))
    (entries_below shape units vtocs have changes rendered were)
    (λ image u. firsts_stay shape units vtocs keep changes rendered image u were)
