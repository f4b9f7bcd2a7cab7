-- A session on whose volumes a given text was written, and the step of a part.
use Rattle.std.proofs.Common.{◌≡◌, ◌⊎◌, inl, inr, ◌==◌, ◌&&◌, ℕ, ◌<◌, ◌≤◌, List, length, Bool, true, false, Option, Some, None, refl, sym, ap, subst, arith}
use Rattle.std.proofs.lemmas.Bool.{cases_Bool}
use Rattle.std.proofs.lemmas.Bool.Decides.{eqb_tells}
use Rattle.dasd_pool.specs.Disk.{Image, Shape, State}
use Rattle.dasd_pool.specs.declared.pool.Pool.{Ghosts}
use Rattle.dd_names.specs.declared.dd.DdName.{DdName}
use Rattle.dsn_filter.specs.declared.dsn.Dsn.{Dsn}
use Rattle.free_map.specs.declared.run.Run.{Run}
use Rattle.redo_core.specs.declared.entries.Entry.{Entry}
use Rattle.redo_core.specs.Reading.{journal_of}
use Rattle.redo_core.specs.Stops.{JournalView}
use Rattle.volume_model.specs.Unit.{UnitModel}
use Rattle.volume_change.specs.declared.change.Change.{Change}
use Rattle.unit_steps.specs.unit_change.Described.{AreShort}
use Rattle.unit_steps.specs.vtoc_render.declared.change.Rendered.{Rendered}
use Rattle.unit_load.specs.declared.state.UnitState.{UnitState}
use Rattle.move_core.specs.Facts.{Facts, Original}
use Rattle.move_core.specs.Stands.{AreUnused, IsSettled}
use Rattle.move_core.specs.Taking.{IsQuiet}
use Rattle.move_core.specs.declared.steps.Step.{Step}
use Rattle.move_core.proofs.Running.{at_shape}
use Rattle.unit_steps.specs.declared.plan.Plan.{Plan}
use Rattle.unit_steps.specs.Copied.{AreShortOn, DifferOnFree}
use Rattle.unit_steps.specs.Loaded.{AreLoaded, AreVtocsOf, HaveFills, HaveStates, KeepVtocs, TakeLoaded}
use Rattle.unit_steps.specs.Parts.{GivesPart, step_of_part}
use Rattle.unit_steps.specs.Plans.{IsPlan, PlansPart}
use Rattle.unit_steps.specs.Rendering.{AreReady, WereRendered, entries_of}
use Rattle.unit_steps.proofs.Copying.{copied_load}
use Rattle.unit_steps.proofs.Freeing.{may_be_written}
use Rattle.unit_steps.proofs.Taking.{parts_take}
use Rattle.unit_session.specs.declared.copies.GivenTracks.{GivenTracks}
use Rattle.unit_session.specs.Copies.{OnlyWrites, contents_of}
use Rattle.unit_session.specs.Given.{AreGivenOf, GivesAt, IsShortGiven, OnGiven, is_given, track_at}
use Rattle.unit_session.specs.Planned.{CopiedView, HoldsOriginal, IsMadeOf}
use Rattle.unit_session.proofs.CopyTargets.{get_there}
use Rattle.unit_session.proofs.GivenPlans.{given_free}

-- ---- a text that was written

-- only the block of the given track is another
abbrev Keeps : Option GivenTracks → ℕ → Image → Image → Type 0
Keeps given index old new = (u b : ℕ) → is_given given index u b ≡ false → new u b ≡ old u b

was_short : (shape : Shape) (units : List UnitState) (old : Image) → HaveStates shape units → AreLoaded shape old units → (u : ℕ) → u < journal_of shape → AreShort (shape.blocks u) (old u)
was_short shape units old have loaded u less = let found = get_there units u (omega (arith, less, have)) in (loaded u found.0 found.1).1

still_short : (shape : Shape) (units : List UnitState) (given : Option GivenTracks) (index : ℕ) (old new : Image) → HaveStates shape units → Keeps given index old new → AreLoaded shape old units
    → OnGiven (IsShortGiven shape new) given → AreShortOn shape new
still_short shape units given index old new have same loaded short u less track below = by given same short
  where
    kept : new u track ≡ old u track → length (new u track) ≤ 65536
    kept alike = omega (arith, ap length alike, was_short shape units old have loaded u less track below)

    by : (some : Option GivenTracks) → Keeps some index old new → OnGiven (IsShortGiven shape new) some → length (new u track) ≤ 65536
    by None alike few = kept (alike u track refl)
    by (Some one) alike few = two (eqb_tells u one.unit)
      where
        two : ((u == one.unit) ≡ true) × (u ≡ one.unit) ⊎ ((u == one.unit) ≡ false) × ¬ (u ≡ one.unit) → length (new u track) ≤ 65536
        two (inl here) = subst (λ (n : ℕ). AreShort (shape.blocks n) (new n)) (sym here.1) few track below
        two (inr other) = kept (alike u track (ap (λ (x : Bool). x && (track == track_at one index)) other.0))

module _ {P : Type 0} (pools : Ghosts P) (old new : JournalView P) (units : List UnitState) (vtocs : List (List ℕ)) (plan : Plan) (given : Option GivenTracks) (index : ℕ)
    (have : HaveStates (pools.shape old.pool) units) (is : IsPlan units plan) (are : AreGivenOf units plan.tracks plan.changes given) (place : GivesAt given index)
    (writes : OnlyWrites pools (is_given given index) old new) where
  kept_blocks : pools.tells → Keeps given index (contents_of pools old) (contents_of pools new)
  kept_blocks told = (writes.runs told).touches.contents

  differ_on_free : pools.tells → DifferOnFree units (contents_of pools old) (contents_of pools new)
  differ_on_free told u b none = elim (cases_Bool (is_given given index u b)) [
    | inl written ↦ absurd (none (given_free units plan given index is are place u b written))
    | inr other ↦ kept_blocks told u b other
  ]

  pub volumes_given : pools.tells → AreLoaded (pools.shape old.pool) (contents_of pools old) units → AreVtocsOf (contents_of pools old) units vtocs
      → OnGiven (IsShortGiven (pools.shape old.pool) (contents_of pools new)) given
      → AreLoaded (pools.shape new.pool) (contents_of pools new) units × AreVtocsOf (contents_of pools new) units vtocs
  volumes_given told loaded vtocs_are short =
      let shape = pools.shape old.pool in
      let before = contents_of pools old in
      let after = contents_of pools new in
      let made =
      copied_load shape before after units vtocs have loaded vtocs_are (differ_on_free told) (still_short shape units given index before after have (kept_blocks told) loaded short) in
      (subst (λ (s : Shape). AreLoaded s after units) (sym writes.shape) made.0, made.1)

  pub entries_given : (entries : List Entry) → AreReady (pools.shape old.pool) old.room entries → AreReady (pools.shape new.pool) new.room entries
  entries_given entries ready =
      subst (λ (s : Shape). AreReady s new.room entries) (sym writes.shape) (subst (λ (room : ℕ). AreReady (pools.shape old.pool) room entries) (sym writes.status.room) ready)

-- no meaning rests on it
pub given_unused : {tells : Type 0} {room : ℕ} {fills : List Bool} (shape : Shape) (state : State) (units : List UnitState) (plan : Plan) (given : Option GivenTracks) (index : ℕ) → IsPlan units plan
    → AreGivenOf units plan.tracks plan.changes given → GivesAt given index → (tells → AreLoaded shape state.contents units) → HaveFills fills units → (tells → IsQuiet shape state room fills)
    → tells → (facts : Facts) (models : List UnitModel) → facts.shape ≡ shape → (settled : IsSettled facts state models)
    → AreUnused (is_given given index) facts.shape settled.stands.reading settled.stands.means.found
given_unused {room = room} {fills = fills} shape state units plan given index is are place loaded fit quiet told facts models same settled =
    may_be_written facts state models units room fills (is_given given index) (at_shape (λ s. AreLoaded s state.contents units) same (loaded told)) fit
    (at_shape (λ s. IsQuiet s state room fills) same (quiet told)) settled (given_free units plan given index is are place)

-- ---- the step of a part

part_takes : (shape : Shape) (room : ℕ) (contents : Image) (units : List UnitState) (vtocs : List (List ℕ)) (replaced : Bool) (original : Original) (input : DdName) (number unit : ℕ) (name : Dsn)
    (to : List Run) (changes : List (ℕ × Change)) (rendered : List Rendered) → HaveStates shape units → AreLoaded shape contents units → KeepVtocs shape units vtocs → AreVtocsOf contents units vtocs
    → (part : PlansPart replaced units original unit name to changes) → WereRendered units vtocs changes rendered → GivesPart part contents
    → TakeLoaded (HoldsOriginal (step_of_part replaced unit name to input number) original) shape room units contents (step_of_part replaced unit name to input number) (entries_of changes rendered)
part_takes shape room contents units vtocs false original input number unit name to changes rendered have loaded keep vtocs_are part were gives =
    parts_take shape room contents contents units vtocs false original input number unit name to changes rendered have loaded keep vtocs_are part were (λ u b none. refl)
    (was_short shape units contents have loaded) gives
part_takes shape room contents units vtocs true original input number unit name to changes rendered have loaded keep vtocs_are part were gives =
    parts_take shape room contents contents units vtocs true original input number unit name to changes rendered have loaded keep vtocs_are part were (λ u b none. refl)
    (was_short shape units contents have loaded) gives

-- of what was copied
pub made_takes : {P : Type 0} (pools : Ghosts P) (copied : CopiedView P) (original : Original) → HaveStates (pools.shape copied.session.pool) copied.session.units
    → KeepVtocs (pools.shape copied.session.pool) copied.session.units copied.session.vtocs → pools.tells
    → AreLoaded (pools.shape copied.session.pool) (pools.disk copied.session.pool).state.contents copied.session.units
    → AreVtocsOf (pools.disk copied.session.pool).state.contents copied.session.units copied.session.vtocs
    → WereRendered copied.session.units copied.session.vtocs copied.plan.changes copied.rendered → copied.entries ≡ entries_of copied.plan.changes copied.rendered → IsMadeOf pools copied original
    → TakeLoaded (HoldsOriginal copied.plan.step original) (pools.shape copied.session.pool) copied.session.room copied.session.units (pools.disk copied.session.pool).state.contents copied.plan.step copied.entries
made_takes pools copied original have keep told loaded vtocs_are were entries_are made =
    let shape = pools.shape copied.session.pool in
    let contents = (pools.disk copied.session.pool).state.contents in
    let takes =
    part_takes shape copied.session.room contents copied.session.units copied.session.vtocs made.replaced original made.input made.number made.unit made.name made.to copied.plan.changes copied.rendered
    have loaded keep vtocs_are made.part were (made.gives told) in
    subst (λ (l : List Entry). TakeLoaded (HoldsOriginal copied.plan.step original) shape copied.session.room copied.session.units contents copied.plan.step l) (sym entries_are)
    (subst (λ (s : Step). TakeLoaded (HoldsOriginal s original) shape copied.session.room copied.session.units contents s (entries_of copied.plan.changes copied.rendered)) (sym made.step_is) takes)
