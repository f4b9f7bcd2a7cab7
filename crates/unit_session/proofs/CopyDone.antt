-- A session whose copies were made.
use Rattle.std.proofs.Common.{◌≡◌, ◌⊎◌, inl, inr, ◌==◌, ◌&&◌, ℕ, ◌<◌, ◌≤◌, List, [], ◌∷◌, length, Bool, true, false, Option, Some, None, refl, sym, ap, subst, arith}
use Rattle.std.specs.List.{list_any}
use Rattle.std.proofs.lemmas.Bool.{cases_Bool}
use Rattle.std.proofs.lemmas.Bool.Decides.{eqb_tells}
use Rattle.dasd_pool.specs.Disk.{Image, Shape, State}
use Rattle.dasd_pool.specs.declared.pool.Pool.{Ghosts}
use Rattle.redo_core.specs.declared.entries.Entry.{Entry}
use Rattle.redo_core.specs.Reading.{journal_of}
use Rattle.redo_core.specs.Stops.{JournalView}
use Rattle.volume_change.specs.declared.change.Change.{Change}
use Rattle.unit_steps.specs.vtoc_render.declared.change.Rendered.{Rendered}
use Rattle.unit_steps.specs.unit_change.Described.{AreShort}
use Rattle.unit_load.specs.declared.state.UnitState.{UnitState}
use Rattle.volume_model.specs.Unit.{UnitModel}
use Rattle.move_core.specs.Facts.{Facts, HasInputs}
use Rattle.move_core.specs.Stands.{AreUnused, IsSettled}
use Rattle.move_core.specs.Taking.{IsQuiet}
use Rattle.move_core.proofs.Running.{at_shape}
use Rattle.unit_steps.specs.declared.plan.Plan.{Plan}
use Rattle.unit_steps.specs.declared.plan.Tracks.{Tracks}
use Rattle.unit_steps.specs.declared.plan.Tracks.TheVariants as texts
use Rattle.unit_steps.specs.Copied.{AreHeld, AreShortOn, DifferOnFree}
use Rattle.unit_steps.specs.Loaded.{AreLoaded, AreVtocsOf, HaveFills, HaveStates, KeepVtocs, TakeLoaded}
use Rattle.unit_steps.specs.Plans.{IsOfUnits, IsPlan}
use Rattle.unit_steps.specs.Rendering.{AreReady, WereRendered, entries_of}
use Rattle.unit_steps.proofs.Copying.{copied_load}
use Rattle.unit_steps.proofs.Freeing.{may_be_written}
use Rattle.unit_steps.proofs.Taking.{plans_take}
use Rattle.unit_session.specs.declared.copies.Copies.{Copies}
use Rattle.unit_session.specs.Copies.{AreCopiesOf, CopiesLeave, HaveTexts, IsShortFor, OnCopies, OnlyWrites, contents_of, may_write_for, targets_of}
use Rattle.unit_session.proofs.CopyMay.{copies_hold, targets_free}
use Rattle.unit_session.proofs.CopyTargets.{get_there}

none_held : (units : List UnitState) (tracks : Tracks) (changes : List (ℕ × Change)) (old new : Image) → AreCopiesOf units tracks changes None → AreHeld units tracks changes old new
none_held units texts.None changes old new are = tt
none_held units texts.Given changes old new are = tt
none_held units (texts.Rows from name) [] old new are = tt
none_held units (texts.Rows from name) (change ∷ changes) old new are = absurd are

-- only blocks of the copies are others
abbrev Keeps : Option Copies → Image → Image → Type 0
Keeps copies old new = (u b : ℕ) → may_write_for copies u b ≡ false → new u b ≡ old u b

module _ {shape : Shape} (units : List UnitState) (vtocs : List (List ℕ)) (plan : Plan) (copies : Option Copies) (have : HaveStates shape units) (keep : KeepVtocs shape units vtocs)
    (is : IsPlan units plan) (are : AreCopiesOf units plan.tracks plan.changes copies) (old new : Image) (same : Keeps copies old new) where
  differ_on_free : DifferOnFree units old new
  differ_on_free u b none = elim (cases_Bool (may_write_for copies u b)) [
    | inl written ↦ absurd (none (targets_free units vtocs plan have keep is copies are u b written))
    | inr other ↦ same u b other
  ]

  was_short : AreLoaded shape old units → (u : ℕ) → u < journal_of shape → AreShort (shape.blocks u) (old u)
  was_short loaded u less = let found = get_there units u (omega (arith, less, have)) in (loaded u found.0 found.1).1

  still_short : AreLoaded shape old units → OnCopies (IsShortFor shape new) copies → AreShortOn shape new
  still_short loaded short u less track below = by copies same short
    where
      kept : new u track ≡ old u track → length (new u track) ≤ 65536
      kept alike = omega (arith, ap length alike, was_short loaded u less track below)

      by : (some : Option Copies) → Keeps some old new → OnCopies (IsShortFor shape new) some → length (new u track) ≤ 65536
      by None alike few = kept (alike u track refl)
      by (Some one) alike few = two (eqb_tells u one.unit)
        where
          two : ((u == one.unit) ≡ true) × (u ≡ one.unit) ⊎ ((u == one.unit) ≡ false) × ¬ (u ≡ one.unit) → length (new u track) ≤ 65536
          two (inl here) = subst (λ (n : ℕ). AreShort (shape.blocks n) (new n)) (sym here.1) few track below
          two (inr other) = kept (alike u track (ap (λ (x : Bool). x && list_any (λ t. t == track) (targets_of one)) other.0))

  held : OnCopies (HaveTexts old) copies → CopiesLeave old new copies → AreHeld units plan.tracks plan.changes old new
  held texts leave = by copies are texts leave
    where
      by : (some : Option Copies) → AreCopiesOf units plan.tracks plan.changes some → OnCopies (HaveTexts old) some → CopiesLeave old new some → AreHeld units plan.tracks plan.changes old new
      by None none texts leave = none_held units plan.tracks plan.changes old new none
      by (Some one) there texts leave = copies_hold units vtocs plan one old new have keep is there texts leave

  module _ (loaded : AreLoaded shape old units) (vtocs_are : AreVtocsOf old units vtocs) (short : OnCopies (IsShortFor shape new) copies) where
    copied_volumes : AreLoaded shape new units × AreVtocsOf new units vtocs
    copied_volumes = copied_load shape old new units vtocs have loaded vtocs_are differ_on_free (still_short loaded short)

    copied_takes : (room : ℕ) (rendered : List Rendered) → WereRendered units vtocs plan.changes rendered → OnCopies (HaveTexts old) copies → CopiesLeave old new copies
        → IsOfUnits plan.step → TakeLoaded (HasInputs None) shape room units new plan.step (entries_of plan.changes rendered)
    copied_takes room rendered were texts leave of =
        plans_take shape room old new units vtocs plan rendered have loaded keep vtocs_are is of were differ_on_free (still_short loaded short) (held texts leave)

-- ---- over a journal

module _ {P : Type 0} (pools : Ghosts P) (old new : JournalView P) (units : List UnitState) (vtocs : List (List ℕ)) (plan : Plan) (copies : Option Copies)
    (have : HaveStates (pools.shape old.pool) units) (keep : KeepVtocs (pools.shape old.pool) units vtocs) (is : IsPlan units plan)
    (are : AreCopiesOf units plan.tracks plan.changes copies) (writes : OnlyWrites pools (may_write_for copies) old new) where
  abbrev before : Image
  before = contents_of pools old

  abbrev after : Image
  after = contents_of pools new

  kept_blocks : pools.tells → Keeps copies (contents_of pools old) (contents_of pools new)
  kept_blocks told = (writes.runs told).touches.contents

  pub volumes_copied : pools.tells → AreLoaded (pools.shape old.pool) (contents_of pools old) units → AreVtocsOf (contents_of pools old) units vtocs
      → OnCopies (IsShortFor (pools.shape old.pool) (contents_of pools new)) copies
      → AreLoaded (pools.shape new.pool) (contents_of pools new) units × AreVtocsOf (contents_of pools new) units vtocs
  volumes_copied told loaded vtocs_are short =
      let made = copied_volumes units vtocs plan copies have keep is are before after (kept_blocks told) loaded vtocs_are short in
      (subst (λ (s : Shape). AreLoaded s after units) (sym writes.shape) made.0, made.1)

  pub entries_copied : (entries : List Entry) → AreReady (pools.shape old.pool) old.room entries → AreReady (pools.shape new.pool) new.room entries
  entries_copied entries ready =
      subst (λ (s : Shape). AreReady s new.room entries) (sym writes.shape) (subst (λ (room : ℕ). AreReady (pools.shape old.pool) room entries) (sym writes.status.room) ready)

  pub takes_copied : pools.tells → AreLoaded (pools.shape old.pool) (contents_of pools old) units → AreVtocsOf (contents_of pools old) units vtocs
      → OnCopies (IsShortFor (pools.shape old.pool) (contents_of pools new)) copies → (rendered : List Rendered) → WereRendered units vtocs plan.changes rendered
      → OnCopies (HaveTexts (contents_of pools old)) copies → CopiesLeave (contents_of pools old) (contents_of pools new) copies
      → (entries : List Entry) → entries ≡ entries_of plan.changes rendered → IsOfUnits plan.step → TakeLoaded (HasInputs None) (pools.shape new.pool) new.room units (contents_of pools new) plan.step entries
  takes_copied told loaded vtocs_are short rendered were texts leave entries entries_are of =
      subst (λ (s : Shape). TakeLoaded (HasInputs None) s new.room units after plan.step entries) (sym writes.shape)
      (subst (λ (l : List Entry). TakeLoaded (HasInputs None) (pools.shape old.pool) new.room units after plan.step l) (sym entries_are)
      (copied_takes units vtocs plan copies have keep is are before after (kept_blocks told) loaded vtocs_are short new.room rendered were texts leave of))

-- ---- no meaning rests on what is written

pub writes_unused : {tells : Type 0} {room : ℕ} {fills : List Bool} (shape : Shape) (state : State) (units : List UnitState) (vtocs : List (List ℕ)) (plan : Plan) (copies : Option Copies) → HaveStates shape units
    → KeepVtocs shape units vtocs → IsPlan units plan → AreCopiesOf units plan.tracks plan.changes copies → (tells → AreLoaded shape state.contents units) → HaveFills fills units
    → (tells → IsQuiet shape state room fills)
    → tells → (facts : Facts) (models : List UnitModel) → facts.shape ≡ shape → (settled : IsSettled facts state models)
    → AreUnused (may_write_for copies) facts.shape settled.stands.reading settled.stands.means.found
writes_unused {room = room} {fills = fills} shape state units vtocs plan copies have keep is are loaded fit quiet told facts models same settled =
    may_be_written facts state models units room fills (may_write_for copies) (at_shape (λ s. AreLoaded s state.contents units) same (loaded told)) fit
    (at_shape (λ s. IsQuiet s state room fills) same (quiet told)) settled (targets_free units vtocs plan have keep is copies are)
