-- What a session is after its commit.
use Rattle.std.proofs.Common.{◌≡◌, ◌≢◌, ℕ, ◌<◌, List, [], ◌∷◌, length, All, Bool, refl, sym, subst, ◌∙◌, arith, false, Option, None, ap}
use Rattle.std.specs.Prelude.{slice_set}
use Rattle.std.proofs.lemmas.List.{length-set}
use Rattle.std.proofs.lemmas.List.Elements.{All-nil, All-cons}
use Rattle.std.proofs.lemmas.Option.{none-some, slice_get_within}
use Rattle.ckd_image.specs.Device.{slot_of}
use Rattle.dasd_pool.specs.Disk.{Image, Shape, State}
use Rattle.redo_core.specs.declared.control.Control.{Control}
use Rattle.redo_core.specs.declared.entries.Entry.{Entry}
use Rattle.redo_core.specs.Phases.{AreEntries, IsAtRest, IsCommitted, IsEntry}
use Rattle.redo_core.specs.Statuses.{EntriesView, entries_at, with_control}
use Rattle.redo_core.specs.Reading.{journal_of, placed}
use Rattle.volume_change.specs.declared.change.Change.{Change}
use Rattle.volume_change.specs.declared.change.Change.TheVariants.{Mark}
use Rattle.unit_steps.specs.vtoc_render.declared.change.Rendered.{Rendered}
use Rattle.move_core.specs.Taking.{AreSame}
use Rattle.unit_steps.specs.unit_change.Described.{AreShort}
use Rattle.unit_load.specs.declared.state.UnitState.{UnitState}
use Rattle.unit_load.specs.declared.state.UnitState.TheVariants.{Online}
use Rattle.unit_load.specs.Kept.{AreKeptOf}
use Rattle.unit_load.specs.State.{IsStateOf}
use Rattle.unit_steps.specs.Loaded.{HaveStates, AreLoaded, KeepVtocs, AreVtocsOf}
use Rattle.unit_steps.specs.Rendering.{WasRendered, WereRendered, AreOfUnits, entries_of, units_after, VtocsAfter}
use Rattle.unit_steps.proofs.Blocks.{AreBlocksOf, rendered_blocks}
use Rattle.unit_steps.proofs.Switching.{patched_are_kept, switched_load}
use Rattle.unit_session.specs.Planned.{MayPatchUnit, MayPatch}

-- ---- as many units

pub length_after : (units : List UnitState) (changes : List (ℕ × Change)) (rendered : List Rendered) → length (units_after units changes rendered) ≡ length units
length_after units [] rendered = refl
length_after units (change ∷ changes) [] = refl
length_after units (change ∷ changes) (one ∷ more) =
    length_after (slice_set units change.0 (Online one.next)) changes more ∙ length-set units change.0 (Online one.next)

pub are_there : (units : List UnitState) (vtocs : List (List ℕ)) (changes : List (ℕ × Change)) (rendered : List Rendered) → WereRendered units vtocs changes rendered
    → All (λ change. change.0 < length units) changes
are_there units vtocs [] rendered were = All-nil (λ change. change.0 < length units)
are_there units vtocs (change ∷ changes) [] were = absurd were
are_there units vtocs (change ∷ changes) (one ∷ more) were =
    All-cons (λ change. change.0 < length units) change changes (slice_get_within units change.0 (Online were.0.volume) were.0.loaded) (are_there units vtocs changes more were.1)

-- ---- entries of volumes alone

module _ (journal : ℕ) (entries : EntriesView) (alone : entries.control ≡ None) where
  pub only_blocks : entries_at journal entries ≡ entries.blocks
  only_blocks = ap (λ (control : Option (List ℕ)). with_control journal control entries.blocks) alone

pub are_entries : (shape : Shape) (entries : EntriesView) → entries.control ≡ None → All (IsEntry shape) entries.blocks → AreEntries shape entries
are_entries shape entries alone each = record { blocks = each; control = λ slot is. absurd (none-some slot (sym alone ∙ is)) }

-- ---- the rendered tracks are those of the VTOCs

blocks_are : {shape : Shape} (units : List UnitState) (vtocs : List (List ℕ)) (unit : ℕ) (change : Change) (one : Rendered) → KeepVtocs shape units vtocs
    → WasRendered units vtocs unit change one → MayPatchUnit units vtocs unit one
blocks_are {shape} units vtocs unit change one keep was =
    let from = keep.each unit (Online was.volume) was.slots was.loaded was.kept in
    let blocks : AreBlocksOf was.volume.vtoc (slot_of was.volume.device) one.blocks = rendered_blocks from change one was.written in
    record {
      volume = was.volume;
      slots = was.slots;
      loaded = was.loaded;
      kept = was.kept;
      whole = from.whole;
      blocks = record { held = λ k d less. (blocks.above k d less, blocks.below k d less); long = blocks.whole; ascending = blocks.ascending };
    }

pub may_patch : {shape : Shape} (units : List UnitState) (vtocs : List (List ℕ)) (changes : List (ℕ × Change)) (rendered : List Rendered) → KeepVtocs shape units vtocs
    → WereRendered units vtocs changes rendered → MayPatch units vtocs changes rendered
may_patch {shape} units vtocs [] rendered keep were = tt
may_patch {shape} units vtocs (change ∷ changes) [] keep were = tt
may_patch {shape} units vtocs (change ∷ changes) (one ∷ more) keep were =
    (blocks_are units vtocs change.0 change.1 one keep were.0, may_patch units vtocs changes more keep were.1)

-- ---- the volumes

-- after a commit the volumes hold its entries
pub committed_placed : (shape : Shape) (old new : State) (room later : ℕ) (control other : Control) (fills more : List Bool) (entries : List Entry)
    → IsAtRest shape old room control fills → IsCommitted shape old entries new → IsAtRest shape new later other more → AreSame shape new.contents (placed old.contents entries)
committed_placed shape old new room later control other fills more entries rest committed after u b less =
    after.reads.volumes_are u b less ∙ sym ((committed.reads _ rest.reads).volumes_are u b less)

same_slots : (shape : Shape) (one other : Image) (u : ℕ) → AreSame shape one other → u < journal_of shape → one u ≡ other u
same_slots shape one other u same less = λ i b. same u b less i

pub loaded_same : (shape : Shape) (one other : Image) (units : List UnitState) → AreSame shape one other → HaveStates shape units → AreLoaded shape other units → AreLoaded shape one units
loaded_same shape one other units same have loaded u state at =
    let less : u < journal_of shape = omega (arith, slice_get_within units u state at, have) in
    subst (λ (slots : ℕ → List ℕ). IsStateOf false (shape.head u) (shape.blocks u) slots state × AreShort (shape.blocks u) slots) (sym (same_slots shape one other u same less)) (loaded u state at)

pub vtocs_same : (shape : Shape) (one other : Image) (units : List UnitState) (vtocs : List (List ℕ)) → AreSame shape one other → HaveStates shape units → AreVtocsOf other units vtocs
    → AreVtocsOf one units vtocs
vtocs_same shape one other units vtocs same have are u state slots at there =
    let less : u < journal_of shape = omega (arith, slice_get_within units u state at, have) in
    subst (λ (tracks : ℕ → List ℕ). AreKeptOf tracks state slots) (sym (same_slots shape one other u same less)) (are u state slots at there)

-- ---- the session

module _ (shape now : Shape) (units later : List UnitState) (vtocs after : List (List ℕ)) (changes : List (ℕ × Change)) (rendered : List Rendered) (same : now ≡ shape)
    (is : later ≡ units_after units changes rendered) (have : HaveStates shape units) (keep : KeepVtocs shape units vtocs) (were : WereRendered units vtocs changes rendered)
    (apart : AreOfUnits changes) (marks : All (λ change. change.1 ≢ Mark) changes) (patched : VtocsAfter units vtocs changes rendered after) where
  have_after : HaveStates shape (units_after units changes rendered)
  have_after = length_after units changes rendered ∙ have

  pub session_after : HaveStates now later × KeepVtocs now later after
  session_after =
      let P : Shape → List UnitState → Type 0 = λ s l. HaveStates s l × KeepVtocs s l after in
      subst (λ (s : Shape). P s later) (sym same)
      (subst (λ (l : List UnitState). P shape l) (sym is) (have_after, patched_are_kept shape units vtocs after changes rendered have keep were apart patched marks))

  pub volumes_after : (old new : State) (entries : List Entry) → entries ≡ entries_of changes rendered → AreSame shape new.contents (placed old.contents entries)
      → AreLoaded shape old.contents units → AreVtocsOf old.contents units vtocs → AreLoaded now new.contents later × AreVtocsOf new.contents later after
  volumes_after old new entries entries_are put loaded are =
      let P : Shape → List UnitState → Type 0 = λ s l. AreLoaded s new.contents l × AreVtocsOf new.contents l after in
      let there : AreSame shape new.contents (placed old.contents (entries_of changes rendered)) =
      subst (λ (l : List Entry). AreSame shape new.contents (placed old.contents l)) entries_are put in
      let made = switched_load shape old.contents units vtocs after changes rendered have loaded keep are were apart marks patched in
      let contents : Image = placed old.contents (entries_of changes rendered) in
      subst (λ (s : Shape). P s later) (sym same)
      (subst (λ (l : List UnitState). P shape l) (sym is) (
        loaded_same shape new.contents contents (units_after units changes rendered) there have_after made.0,
        vtocs_same shape new.contents contents (units_after units changes rendered) after there have_after made.1,
      ))
