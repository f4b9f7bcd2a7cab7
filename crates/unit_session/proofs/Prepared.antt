-- What is read for a plan, and when all that it needs is ready.
use Rattle.std.proofs.Common.{◌≡◌, inl, inr, get_or, ℕ, ◌<◌, ◌-◌, ◌/◌, ◌≤◌, List, length, All, Option, Some, None, sym, ap, subst, ◌∙◌, arith}
use Rattle.std.proofs.lemmas.List.{get_or_default}
use Rattle.std.proofs.lemmas.Bool.{cases_lt}
use Rattle.ckd_image.specs.Device.{slot_of}
use Rattle.dasd_pool.specs.Disk.{Shape, State}
use Rattle.dasd_pool.specs.declared.pool.Pool.{Ghosts}
use Rattle.redo_core.specs.declared.entries.Entry.{Entry}
use Rattle.redo_core.specs.Reading.{journal_of}
use Rattle.redo_core.specs.Stops.{JournalView}
use Rattle.vol_label.specs.declared.serial.Serial.{Serial}
use Rattle.vtoc_core.specs.declared.volume.Volume.{Volume}
use Rattle.unit_steps.specs.vtoc_render.declared.change.Rendered.{Rendered}
use Rattle.unit_steps.proofs.vtoc_render.Known.{rows_named}
use Rattle.volume_change.specs.declared.change.Change.{Change}
use Rattle.volume_change.specs.Spot.{AreNamed}
use Rattle.unit_load.specs.Reads.{OnlyReads}
use Rattle.unit_load.specs.declared.state.UnitState.{UnitState}
use Rattle.unit_steps.specs.declared.plan.Plan.{Plan}
use Rattle.unit_steps.specs.Laws.{AreSized}
use Rattle.unit_steps.specs.Loaded.{HaveStates, KeepVtocs}
use Rattle.unit_steps.specs.Plans.{IsLoadedAt, IsPlan}
use Rattle.unit_steps.specs.Rendering.{AreReady, WereRendered, entries_of}
use Rattle.unit_steps.proofs.Blocks.{from_slots}
use Rattle.unit_steps.proofs.Readying.{entries_ready}
use Rattle.unit_steps.proofs.Small.{plans_small}
use Rattle.unit_session.specs.declared.copies.Copies.{Copies}
use Rattle.unit_session.specs.declared.copies.GivenTracks.{GivenTracks}
use Rattle.unit_session.specs.Given.{AreGivenOf, MayGive, OnGiven}
use Rattle.unit_session.specs.declared.copies.Source.{Source}
use Rattle.unit_session.specs.declared.fault.PlanFault.{PlanFault}
use Rattle.unit_session.specs.declared.fault.PlanFault.TheVariants as faults
use Rattle.unit_session.specs.Copies.{AreCopiesOf, HaveTexts, IsLookFault, MayCopy, OnCopies, contents_of}
use Rattle.unit_session.specs.Planned.{AreRenderFault, HaveAllTexts, IsBar, IsLong, IsPlanFault, IsReady, MayBegin, MayWriteAll}
use Rattle.unit_session.specs.Sessions.{IsSession, SessionView}
use Rattle.unit_session.specs.Texts.{AreSeen}
use Rattle.unit_session.proofs.CopyMay.{may_copy}
use Rattle.unit_session.proofs.CopyPlaces.{kept_of}
use Rattle.unit_session.proofs.GivenPlans.{may_give}
use Rattle.unit_session.proofs.Loading.{still_free, still_kept, still_loaded, still_vtocs, still_seen}
use Rattle.unit_session.proofs.Switched.{are_there}

-- ---- volumes

pub rows_are_named : {shape : Shape} (units : List UnitState) (vtocs : List (List ℕ)) → HaveStates shape units → KeepVtocs shape units vtocs
    → (unit : ℕ) (volume : Volume) → IsLoadedAt units unit volume → AreNamed volume.rows
rows_are_named units vtocs have keep unit volume loaded = rows_named (from_slots (kept_of units vtocs have keep unit volume loaded).2)

-- the units of rendered changes are there, on a pool of the same shape
pub changes_there : {shape now : Shape} (units : List UnitState) (vtocs : List (List ℕ)) (changes : List (ℕ × Change)) (rendered : List Rendered) → now ≡ shape → HaveStates shape units
    → WereRendered units vtocs changes rendered → All (λ change. change.0 < journal_of now) changes
changes_there units vtocs changes rendered same have were =
    subst (λ (n : ℕ). All (λ change. change.0 < n) changes) (have ∙ ap (λ (s : Shape). journal_of s) (sym same)) (are_there units vtocs changes rendered were)

-- ---- faults

module _ {P : Type 0} (pools : Ghosts P) (session : SessionView P) (plan : Plan) (new : P) where
  pub bar_fault : (fault : PlanFault) → IsBar session.room session.units plan.changes fault → IsPlanFault pools session plan new fault
  bar_fault faults.Indexed bar = bar
  bar_fault faults.Long bar = bar
  bar_fault faults.Pool bar = absurd bar
  bar_fault (faults.Bad unit track) bar = absurd bar
  bar_fault (faults.Full need free) bar = absurd bar
  bar_fault faults.NoMemory bar = absurd bar

  pub look_fault : (copies : Copies) → MayBegin session.room session.units plan.changes → AreCopiesOf session.units plan.tracks plan.changes (Some copies)
      → (fault : PlanFault) → IsLookFault pools session.pool new copies fault → IsPlanFault pools session plan new fault
  look_fault copies may are faults.Pool bad = bad
  look_fault copies may are (faults.Bad unit track) bad = (may, (copies, are, bad))
  look_fault copies may are faults.Indexed bad = absurd bad
  look_fault copies may are faults.Long bad = absurd bad
  look_fault copies may are (faults.Full need free) bad = absurd bad
  look_fault copies may are faults.NoMemory bad = absurd bad

  pub render_fault : MayBegin session.room session.units plan.changes → HaveAllTexts pools session plan → (fault : PlanFault) → AreRenderFault session.units plan.changes fault → IsPlanFault pools session plan new fault
  render_fault may texts faults.Indexed bad = bad
  render_fault may texts (faults.Full need free) bad = ((may, texts), bad)
  render_fault may texts faults.NoMemory bad = bad
  render_fault may texts faults.Pool bad = absurd bad
  render_fault may texts faults.Long bad = absurd bad
  render_fault may texts (faults.Bad unit track) bad = absurd bad

-- ---- a session of which blocks were read

module _ {P : Type 0} (pools : Ghosts P) (old new : JournalView P) (names : List Serial) (units : List UnitState) (vtocs : List (List ℕ)) (reads : OnlyReads pools old new) where
  abbrev Stands : JournalView P → Option Source → Type 0
  Stands j seen = IsSession pools j names units vtocs seen

  -- and a data set was seen
  pub session_saw : (before seen : Option Source) → (pools.tells → AreSeen units (contents_of pools old) seen) → Stands old before → Stands new seen
  session_saw before seen saw was =
      let volumes = ap (λ (s : Shape). journal_of s) (sym reads.shape) in (
        still_free reads.status.control reads.status.fills was.0,
        was.1 ∙ volumes,
        was.2 ∙ volumes,
        still_kept units vtocs reads.shape was.3,
        λ told. still_loaded units reads.shape (reads.same told) (was.4 told),
        λ told. still_vtocs units vtocs (reads.same told) (was.5 told),
        λ told. still_seen units seen (reads.same told) (saw told),
      )

  pub session_read : (seen : Option Source) → Stands old seen → Stands new seen
  session_read seen was = session_saw seen seen was.6 was

-- ---- all is ready

few_long : (room : ℕ) (units : List UnitState) (changes : List (ℕ × Change)) → ¬ IsLong room units changes
    → All (λ change. (volume : Volume) → IsLoadedAt units change.0 volume → volume.vtoc.len ≤ (room - 1) / 2) changes
few_long room units changes none k change less volume loaded = elim (cases_lt ((room - 1) / 2) volume.vtoc.len) [
  | inl long ↦ let here = get_or changes k change in absurd (none (k, here, less, get_or_default changes k here change less, (volume, loaded, long)))
  | inr short ↦ omega (arith, short)
]

module _ {P : Type 0} (pools : Ghosts P) (old new : JournalView P) (names : List Serial) (units : List UnitState) (vtocs : List (List ℕ)) (reads : OnlyReads pools old new)
    (plan : Plan) (copies : Option Copies) (given : Option GivenTracks) (rendered : List Rendered) (entries : List Entry) (slot : List ℕ) (control : Option (List ℕ)) where
  pub all_ready : HaveStates (pools.shape old.pool) units → KeepVtocs (pools.shape old.pool) units vtocs → IsPlan units plan → AreSized (pools.shape old.pool)
      → MayBegin old.room units plan.changes → AreCopiesOf units plan.tracks plan.changes copies → OnCopies (λ some. length slot ≡ slot_of some.device) copies
      → (pools.tells → OnCopies (HaveTexts (contents_of pools old)) copies) → WereRendered units vtocs plan.changes rendered → entries ≡ entries_of plan.changes rendered
      → MayWriteAll (pools.shape new.pool) plan.changes → AreGivenOf units plan.tracks plan.changes given → OnGiven (λ some. length slot ≡ slot_of some.device) given → control ≡ None
      → IsReady pools (record { session = record { pool = new.pool; room = new.room; names = names; units = units; vtocs = vtocs }; plan = plan; copies = copies; given = given; rendered = rendered; entries = entries }) slot control
  all_ready have keep is sized may are size texts were entries_are writable given_are wide alone =
      let small = plans_small units plan is in
      let shape = pools.shape old.pool in
      let ready : AreReady shape old.room entries =
      subst (λ (l : List Entry). AreReady shape old.room l) (sym entries_are)
      (entries_ready shape old.room units vtocs plan.changes rendered sized have keep were small.0 small.1 (few_long old.room units plan.changes may.not_long)) in
      record {
        plan = is;
        copies = are;
        may = subst (λ (s : Shape). OnCopies (MayCopy s) copies) (sym reads.shape) (may_copy units vtocs plan have keep is copies sized are);
        size = size;
        texts = λ told. subst (λ (s : State). OnCopies (HaveTexts s.contents) copies) (sym (reads.same told)) (texts told);
        given = given_are;
        may_give = subst (λ (s : Shape). OnGiven (MayGive s) given) (sym reads.shape) (may_give units vtocs plan have keep is given sized given_are);
        room = wide;
        rendered = were;
        entries_are = entries_are;
        entries = subst (λ (s : Shape). AreReady s new.room entries) (sym reads.shape) (subst (λ (room : ℕ). AreReady shape room entries) (sym reads.status.room) ready);
        writable = writable;
        alone = alone;
      }
