-- Units on which rendered changes were written load as they were rendered, and the patched slots are those of their VTOCs.
use Rattle.std.proofs.Common.{◌≡◌, ◌≢◌, inl, ℕ, ◌+◌, ◌*◌, ◌≤◌, List, [], ◌∷◌, ◌++◌, length, map, All, Bool, Some, true, false, sym, ap, subst, ◌∙◌, arith}
use Rattle.std.specs.Prelude.{◌==◌, cond, slice_get, slice_set}
use Rattle.std.proofs.lemmas.List.{length-set}
use Rattle.std.proofs.lemmas.List.Elements.{All-head, All-tail}
use Rattle.std.proofs.lemmas.Option.{same_Some}
use Rattle.ckd_image.specs.declared.device.Device.{Device}
use Rattle.ckd_image.specs.Address.{address_of}
use Rattle.ckd_image.specs.Device.{heads_of, slot_of}
use Rattle.ckd_image.specs.Track.{IsTrackText}
use Rattle.dasd_pool.specs.Disk.{Image, Shape}
use Rattle.free_map.specs.declared.run.Run.{Run}
use Rattle.redo_core.specs.Reading.{placed}
use Rattle.volume_model.specs.Reads.{HasLabelOf}
use Rattle.volume_model.specs.Sound.{Slots}
use Rattle.vtoc_check.specs.Slots.{AreSlotsOf}
use Rattle.vtoc_core.specs.declared.volume.Volume.{Volume}
use Rattle.vtoc_load.specs.LoadedVtoc.{IsLoadedVtoc}
use Rattle.vtoc_write.specs.declared.blocks.Block.{Block}
use Rattle.vtoc_write.specs.Written.{block_of, slot_with}
use Rattle.volume_change.specs.declared.change.Change.{Change}
use Rattle.volume_change.specs.declared.change.Change.TheVariants.{Mark}
use Rattle.unit_change.specs.vtoc_render.declared.change.Rendered.{Rendered}
use Rattle.unit_change.specs.vtoc_render.Next.{IsChanged}
use Rattle.unit_change.specs.Described.{AreShort}
use Rattle.unit_change.proofs.ChangedRows.{is_changed}
use Rattle.unit_change.proofs.FormatFour.{run_inside}
use Rattle.unit_change.proofs.LoadedTracks.{four}
use Rattle.unit_load.specs.declared.state.UnitState.{UnitState}
use Rattle.unit_load.specs.declared.state.UnitState.TheVariants.{Online}
use Rattle.unit_load.specs.Kept.{IsFromSlots, IsKept, AreKeptOf}
use Rattle.unit_load.specs.State.{IsStateOf}
use Rattle.unit_steps.specs.Laws.{PatchedVtocsAreKept, SwitchedUnitsLoad}
use Rattle.unit_steps.specs.Loaded.{HaveStates, AreLoaded, KeepVtocs, AreVtocsOf}
use Rattle.unit_steps.specs.Plans.{IsLoadedAt}
use Rattle.unit_steps.specs.Rendering.{WasRendered, WereRendered, entry_for, entries_of, AreOfUnits, units_after, ArePatched, VtocsAfter}
use Rattle.dasd_pool.proofs.Slices.{get_set_other}
use Rattle.unit_steps.proofs.Lists.{each_set, both_set}
use Rattle.unit_steps.proofs.Blocks.{AreBlocksOf, few, home_short, from_slots, rendered_blocks}
use Rattle.unit_steps.proofs.Placing.{slots_with, after_blocks, placed_here, placed_there, placed_both}
use Rattle.unit_steps.proofs.Readying.{pairs_first, pairs_rest}
use Rattle.ckd_image.proofs.Devices.{short_slot}

-- ---- one unit

module _ {head : List ℕ} {blocks : ℕ} {units : List UnitState} {vtocs : List (List ℕ)} {unit : ℕ} {change : Change} {rendered : Rendered} (was : WasRendered units vtocs unit change rendered)
    (from : IsFromSlots false head blocks was.volume was.slots) (no_mark : change ≢ Mark) where
  changed : IsChanged was.volume change rendered.next
  changed = is_changed was.volume rendered.next change no_mark was.next

  pub blocks_are : AreBlocksOf was.volume.vtoc (slot_of was.volume.device) rendered.blocks
  blocks_are = rendered_blocks from change rendered was.written

  abbrev later : Slots
  later = slots_with rendered.blocks from.unit

  later_loads : IsLoadedVtoc from.image from.label (slots_with rendered.blocks from.unit) false rendered.next
  later_loads =
      was.loads from.image from.label from.unit later false false from.loaded.vtoc (four from.loaded (few from) (home_short from)) (from_slots from)
      (after_blocks was.volume.vtoc (slot_of was.volume.device) rendered.blocks from.unit blocks_are) (inl no_mark)

  -- the slots of a unit with these blocks in place are those that are patched
  patched_slots : (old : Slots) (slots : List ℕ) → AreSlotsOf was.volume.vtoc (slot_of was.volume.device) was.slots old
      → ArePatched was.volume.vtoc (slot_of was.volume.device) rendered.blocks was.slots slots
      → AreSlotsOf rendered.next.vtoc (slot_of rendered.next.device) slots (slots_with rendered.blocks old)
  patched_slots old slots are patched =
      subst (λ (d : Device). AreSlotsOf rendered.next.vtoc (slot_of d) slots (slots_with rendered.blocks old)) (sym changed.device_is)
      (subst (λ (r : Run). AreSlotsOf r (slot_of was.volume.device) slots (slots_with rendered.blocks old)) (sym changed.vtoc_is) by)
    where
      by : AreSlotsOf was.volume.vtoc (slot_of was.volume.device) slots (slots_with rendered.blocks old)
      by k less =
          let track = was.volume.vtoc.first + k in
          ap (λ (slot : List ℕ). slot_with slot (block_of rendered.blocks track)) (are k less) ∙ sym (patched.each k less)

  patched_kept : (slots : List ℕ) → ArePatched was.volume.vtoc (slot_of was.volume.device) rendered.blocks was.slots slots → IsFromSlots false head blocks rendered.next slots
  patched_kept slots patched = record {
    image = from.image;
    label = from.label;
    unit = later;
    image_is = from.image_is;
    loaded = later_loads;
    slots_are = patched_slots from.unit slots from.slots_are patched;
    whole = patched.long ∙ from.whole ∙ (λ i. (sym changed.vtoc_is i).len * slot_of (sym changed.device_is i));
  }

-- a slot with a block in place is no longer than a slot can be
short_slots : (blocks : List Block) (size track : ℕ) (slot : List ℕ) → size ≤ 65536 → length slot ≤ 65536 → All (λ block. length block.slot ≡ size) blocks
    → length (slot_with slot (block_of blocks track)) ≤ 65536
short_slots [] size track slot small short whole = short
short_slots (block ∷ blocks) size track slot small short whole =
    by (block.track == track) (short_slots blocks size track slot small short (All-tail (λ (b : Block). length b.slot ≡ size) block blocks whole))
  where
    by : (b : Bool) → length (slot_with slot (block_of blocks track)) ≤ 65536 → length (slot_with slot (cond b (Some block) (block_of blocks track))) ≤ 65536
    by true later = omega (arith, small, All-head (λ (b : Block). length b.slot ≡ size) block blocks whole)
    by false later = later

-- the slots of an online unit are ones from which its volume was loaded
abbrev pub from_state : {head : List ℕ} {blocks : ℕ} (old : Slots) {volume : Volume} {slots : List ℕ} → IsStateOf false head blocks old (Online volume)
    → AreSlotsOf volume.vtoc (slot_of volume.device) slots old → length slots ≡ volume.vtoc.len * slot_of volume.device → IsFromSlots false head blocks volume slots
from_state old is are whole = record { image = is.0; label = is.1; unit = old; image_is = is.2.head_stands; loaded = is.3; slots_are = are; whole = whole }

module _ {head : List ℕ} {blocks : ℕ} {units : List UnitState} {vtocs : List (List ℕ)} {unit : ℕ} {change : Change} {rendered : Rendered} (was : WasRendered units vtocs unit change rendered)
    (from : IsFromSlots false head blocks was.volume was.slots) (no_mark : change ≢ Mark) (old : Slots) (is : IsStateOf false head blocks old (Online was.volume))
    (short : AreShort blocks old)
    (slots_are : AreSlotsOf was.volume.vtoc (slot_of was.volume.device) was.slots old) where
  abbrev own : IsFromSlots false head blocks was.volume was.slots
  own = from_state old is slots_are from.whole

  first_same : slots_with rendered.blocks old 0 ≡ old 0
  first_same =
      let after = after_blocks was.volume.vtoc (slot_of was.volume.device) rendered.blocks old (blocks_are was from no_mark) in
      let loaded = is.3 in
      after.outside 0
      (λ low high. absurd (omega (
        arith,
        low,
        ap (λ (run : Run). run.first) loaded.volume.vtoc_is,
        (run_inside is.0 old is.1.vtoc false loaded.vtoc loaded.stands.stands).0,
      )))

  labelled : HasLabelOf head blocks (slots_with rendered.blocks old) is.0 is.1
  labelled = record {
    head_stands = is.2.head_stands;
    text = is.2.text;
    text_stands = subst (λ (slot : List ℕ). IsTrackText (address_of (heads_of is.0.device) 0) slot is.2.text) (sym first_same) is.2.text_stands;
    stands = is.2.stands;
  }

  state_after : IsStateOf false head blocks (slots_with rendered.blocks old) (Online rendered.next)
  state_after = (is.0, is.1, labelled, later_loads was own no_mark)

  pub short_after : AreShort blocks (slots_with rendered.blocks old)
  short_after track less =
      short_slots rendered.blocks (slot_of was.volume.device) track (old track) (short_slot was.volume.device) (short track less) (blocks_are was from no_mark).whole

-- ---- the changes that are left, once one was made

module _ (unit : ℕ) (state : UnitState) (slots : List ℕ) where
  abbrev IsOther : ℕ → Type 0
  IsOther other = unit ≢ other

  abbrev units_of : List (ℕ × Change) → List ℕ
  units_of changes = map (λ change. change.0) changes

  were_moved : (units : List UnitState) (vtocs : List (List ℕ)) (changes : List (ℕ × Change)) (rendered : List Rendered) → All IsOther (units_of changes)
      → WereRendered units vtocs changes rendered → WereRendered (slice_set units unit state) (slice_set vtocs unit slots) changes rendered
  were_moved units vtocs [] [] others were = tt
  were_moved units vtocs [] (one ∷ more) others were = absurd were
  were_moved units vtocs (change ∷ changes) [] others were = absurd were
  were_moved units vtocs (change ∷ changes) (one ∷ more) others were =
      let apart : change.0 ≢ unit = λ same. All-head IsOther change.0 (units_of changes) others (sym same) in
      let was = were.0 in (
        record {
          volume = was.volume;
          slots = was.slots;
          loaded = get_set_other units unit change.0 state apart ∙ was.loaded;
          kept = get_set_other vtocs unit change.0 slots apart ∙ was.kept;
          next = was.next;
          loads = was.loads;
          written = was.written;
        },
        were_moved units vtocs changes more (All-tail IsOther change.0 (units_of changes) others) were.1,
      )

  after_moved : (units : List UnitState) (vtocs new : List (List ℕ)) (changes : List (ℕ × Change)) (rendered : List Rendered) → All IsOther (units_of changes)
      → VtocsAfter units vtocs changes rendered new → VtocsAfter (slice_set units unit state) vtocs changes rendered new
  after_moved units vtocs new [] [] others after = after
  after_moved units vtocs new [] (one ∷ more) others after = after
  after_moved units vtocs new (change ∷ changes) [] others after = after
  after_moved units vtocs new (change ∷ changes) (one ∷ more) others (volume, before, behind, loaded, at, patched, rest) =
      let apart : change.0 ≢ unit = λ same. All-head IsOther change.0 (units_of changes) others (sym same) in (
        volume,
        before,
        behind,
        get_set_other units unit change.0 state apart ∙ loaded,
        at,
        patched,
        after_moved units (slice_set vtocs change.0 behind) new changes more (All-tail IsOther change.0 (units_of changes) others) rest,
      )

-- ---- one change of the pool's units

module _ (shape : Shape) (units : List UnitState) (old : List (List ℕ)) (have : HaveStates shape units) (keep : KeepVtocs shape units old) (change : ℕ × Change) (rendered : Rendered)
    (was : WasRendered units old change.0 change.1 rendered) (no_mark : change.1 ≢ Mark) (volume : Volume) (before after : List ℕ) (loaded : IsLoadedAt units change.0 volume)
    (at : slice_get old change.0 ≡ Some before) (patched : ArePatched volume.vtoc (slot_of volume.device) rendered.blocks before after) where
  abbrev unit : ℕ
  unit = change.0

  abbrev units_then : List UnitState
  units_then = slice_set units unit (Online rendered.next)

  abbrev vtocs_then : List (List ℕ)
  vtocs_then = slice_set old unit after

  from : IsFromSlots false (shape.head unit) (shape.blocks unit) was.volume was.slots
  from = keep.each unit (Online was.volume) was.slots was.loaded was.kept

  own_patched : ArePatched was.volume.vtoc (slot_of was.volume.device) rendered.blocks was.slots after
  own_patched =
      let states : Online volume ≡ Online was.volume = same_Some (Online volume) (Online was.volume) (sym loaded ∙ was.loaded) in
      let same : volume ≡ was.volume = cc in
      let slots : before ≡ was.slots = same_Some before was.slots (sym at ∙ was.kept) in
      subst (λ (v : Volume). ArePatched v.vtoc (slot_of v.device) rendered.blocks was.slots after) same
      (subst (λ (s : List ℕ). ArePatched volume.vtoc (slot_of volume.device) rendered.blocks s after) slots patched)

  have_then : HaveStates shape (slice_set units change.0 (Online rendered.next))
  have_then = length-set units unit (Online rendered.next) ∙ have

  keep_then : KeepVtocs shape (slice_set units change.0 (Online rendered.next)) (slice_set old change.0 after)
  keep_then = record {
    count = length-set old unit after ∙ keep.count;
    each =
        both_set units old unit (Online rendered.next) (Online was.volume) after was.slots (λ u state slots. IsKept false (shape.head u) (shape.blocks u) state slots) was.loaded was.kept
        (patched_kept was from no_mark after own_patched) (λ u state slots apart got got'. keep.each u state slots got got');
  }

  module _ (contents : Image) (are : AreLoaded shape contents units) (vtocs_are : AreVtocsOf contents units old) where
    abbrev then : Image
    then = placed contents (map (entry_for unit) rendered.blocks)

    here : then unit ≡ slots_with rendered.blocks (contents unit)
    here = λ i track. placed_here unit rendered.blocks contents (blocks_are was from no_mark).ascending track i

    there : (u : ℕ) → u ≢ unit → then u ≡ contents u
    there u apart = placed_there unit rendered.blocks contents u apart

    own_state : IsStateOf false (shape.head unit) (shape.blocks unit) (contents unit) (Online was.volume)
    own_state = (are unit (Online was.volume) was.loaded).0

    own_short : AreShort (shape.blocks unit) (contents unit)
    own_short = (are unit (Online was.volume) was.loaded).1

    own_slots : AreSlotsOf was.volume.vtoc (slot_of was.volume.device) was.slots (contents unit)
    own_slots = vtocs_are unit (Online was.volume) was.slots was.loaded was.kept

    abbrev IsLoadedUnit : ℕ → UnitState → Slots → Type 0
    IsLoadedUnit u state slots = IsStateOf false (shape.head u) (shape.blocks u) slots state × AreShort (shape.blocks u) slots

    loaded_then : AreLoaded shape (placed contents (map (entry_for change.0) rendered.blocks)) (slice_set units change.0 (Online rendered.next))
    loaded_then =
        each_set units unit (Online rendered.next) (Online was.volume) (λ u state. IsLoadedUnit u state (then u)) was.loaded
        (subst (IsLoadedUnit unit (Online rendered.next)) (sym here)
        (state_after was from no_mark (contents unit) own_state own_short own_slots, short_after was from no_mark (contents unit) own_state own_short own_slots))
        (λ u state apart got. subst (IsLoadedUnit u state) (sym (there u apart)) (are u state got))

    vtocs_then_are : AreVtocsOf (placed contents (map (entry_for change.0) rendered.blocks)) (slice_set units change.0 (Online rendered.next)) (slice_set old change.0 after)
    vtocs_then_are =
        both_set units old unit (Online rendered.next) (Online was.volume) after was.slots (λ u state slots. AreKeptOf (then u) state slots) was.loaded was.kept
        (subst (λ (s : Slots). AreKeptOf s (Online rendered.next) after) (sym here) (patched_slots was from no_mark (contents unit) after own_slots own_patched))
        (λ u state slots apart got got'. subst (λ (s : Slots). AreKeptOf s state slots) (sym (there u apart)) (vtocs_are u state slots got got'))

-- ---- all changes

abbrev NoMark : ℕ × Change → Type 0
NoMark change = change.1 ≢ Mark

abbrev Differ : ℕ → ℕ → Type 0
Differ one other = one ≢ other

module _ (shape : Shape) where
  patched_all : (units : List UnitState) (old new : List (List ℕ)) (changes : List (ℕ × Change)) (rendered : List Rendered) → HaveStates shape units → KeepVtocs shape units old
      → WereRendered units old changes rendered → AreOfUnits changes → VtocsAfter units old changes rendered new → All NoMark changes → KeepVtocs shape (units_after units changes rendered) new
  patched_all units old new [] [] have keep were apart after marks = subst (KeepVtocs shape units) (sym after) keep
  patched_all units old new [] (one ∷ more) have keep were apart after marks = absurd were
  patched_all units old new (change ∷ changes) [] have keep were apart after marks = absurd were
  patched_all units old new (change ∷ changes) (one ∷ more) have keep were apart (volume, before, behind, loaded, at, patched, rest) marks =
      let no_mark = All-head NoMark change changes marks in
      let others = pairs_first Differ change.0 (map (λ (c : ℕ × Change). c.0) changes) apart in
      patched_all (slice_set units change.0 (Online one.next)) (slice_set old change.0 behind) new changes more
      (have_then shape units old have keep change one were.0 no_mark volume before behind loaded at patched)
      (keep_then shape units old have keep change one were.0 no_mark volume before behind loaded at patched)
      (were_moved change.0 (Online one.next) behind units old changes more others were.1) (pairs_rest Differ change.0 (map (λ (c : ℕ × Change). c.0) changes) apart)
      (after_moved change.0 (Online one.next) behind units (slice_set old change.0 behind) new changes more others rest) (All-tail NoMark change changes marks)

  switched_all : (contents : Image) (units : List UnitState) (old new : List (List ℕ)) (changes : List (ℕ × Change)) (rendered : List Rendered) → HaveStates shape units
      → AreLoaded shape contents units → KeepVtocs shape units old → AreVtocsOf contents units old → WereRendered units old changes rendered → AreOfUnits changes → All NoMark changes
      → VtocsAfter units old changes rendered new
      → AreLoaded shape (placed contents (entries_of changes rendered)) (units_after units changes rendered)
      × AreVtocsOf (placed contents (entries_of changes rendered)) (units_after units changes rendered) new
  switched_all contents units old new [] [] have are keep vtocs were apart marks after = (are, subst (AreVtocsOf contents units) (sym after) vtocs)
  switched_all contents units old new [] (one ∷ more) have are keep vtocs were apart marks after = absurd were
  switched_all contents units old new (change ∷ changes) [] have are keep vtocs were apart marks after = absurd were
  switched_all contents units old new (change ∷ changes) (one ∷ more) have are keep vtocs were apart marks (volume, before, behind, loaded, at, patched, rest) =
      let no_mark = All-head NoMark change changes marks in
      let others = pairs_first Differ change.0 (map (λ (c : ℕ × Change). c.0) changes) apart in
      let units_then = slice_set units change.0 (Online one.next) in
      let then = placed contents (map (entry_for change.0) one.blocks) in
      let done =
      switched_all then units_then (slice_set old change.0 behind) new changes more
      (have_then shape units old have keep change one were.0 no_mark volume before behind loaded at patched)
      (loaded_then shape units old have keep change one were.0 no_mark volume before behind loaded at patched contents are vtocs)
      (keep_then shape units old have keep change one were.0 no_mark volume before behind loaded at patched)
      (vtocs_then_are shape units old have keep change one were.0 no_mark volume before behind loaded at patched contents are vtocs)
      (were_moved change.0 (Online one.next) behind units old changes more others were.1) (pairs_rest Differ change.0 (map (λ (c : ℕ × Change). c.0) changes) apart)
      (All-tail NoMark change changes marks) (after_moved change.0 (Online one.next) behind units (slice_set old change.0 behind) new changes more others rest) in
      let same : placed then (entries_of changes more) ≡ placed contents (map (entry_for change.0) one.blocks ++ entries_of changes more) =
      sym (placed_both (map (entry_for change.0) one.blocks) (entries_of changes more) contents) in (
        subst (λ (image : Image). AreLoaded shape image (units_after units_then changes more)) same done.0,
        subst (λ (image : Image). AreVtocsOf image (units_after units_then changes more) new) same done.1,
      )

pub patched_are_kept : PatchedVtocsAreKept
patched_are_kept shape units old new changes rendered have keep were apart after marks = patched_all shape units old new changes rendered have keep were apart after marks

pub switched_load : SwitchedUnitsLoad
switched_load shape contents units old new changes rendered have are keep vtocs were apart marks after =
    switched_all shape contents units old new changes rendered have are keep vtocs were apart marks after
