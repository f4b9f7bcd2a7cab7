use Rattle.std.proofs.Common.{◌≡◌, ◌++◌, ◌<◌, ℕ, List, All, Option, Some, length, take, drop, sym, ap, subst, ◌∙◌, arith}
use Rattle.std.proofs.lemmas.List.{length-append, length-drop, length-take}
use Rattle.std.proofs.lemmas.Result.{err_from_is_err_and}
use Rattle.ckd_image.specs.Device.{slot_of}
use Rattle.unit_session.specs.declared.copies.Copies.{Copies}
use Rattle.dasd_pool.specs.Disk.{Shape}
use Rattle.redo_core.specs.Reading.{journal_of}
use Rattle.unit_steps.specs.Rendering.{WereRendered, entries_of}
use Rattle.move_core.proofs.Running.{run_idle, run_still}
use Rattle.vtoc_core.specs.declared.volume.Volume.{Volume}
use Rattle.volume_change.specs.declared.change.Change.{Change}
use Rattle.volume_change.specs.Spot.{AreNamed}
use Rattle.unit_load.specs.declared.state.UnitState.{UnitState}
use Rattle.unit_steps.specs.Plans.{IsLoadedAt, IsPlan}
use Rattle.unit_session.specs.Copies.{AreCopiesOf, IsLookFault, OnCopies}
use Rattle.unit_session.specs.Given.{AreGivenOf, OnGiven}
use Rattle.unit_session.specs.Planned.{AreRenderFault, HaveAllTexts, HaveVolumes, IsBar, IsPlanFault, MayBegin, MayWriteAll}
use Rattle.unit_session.specs.Sessions.{SessionView}
use Rattle.unit_session.proofs.CopyMay.{may_copy}
use Rattle.unit_session.proofs.GivenPlans.{not_both}
use Rattle.unit_session.proofs.PlanVolumes.{have_volumes}
use Rattle.redo_core.specs.Statuses.{EntriesView}
use Rattle.unit_load.proofs.Reading.{reads_then}
use Rattle.unit_session.proofs.Prepared.{changes_there, rows_are_named, bar_fault, look_fault, render_fault, session_read, all_ready}
use Rattle.unit_session.proofs.Seen.{texts_seen}
use Rattle.unit_session.proofs.session.Session.prepare.Goals as goal

pub returns-in-Some-clause-run : goal.returns-in-Some-clause-run
returns-in-Some-clause-run g c =
    run_idle tt

pub returns-in-Some-clause-fault : goal.returns-in-Some-clause-fault
returns-in-Some-clause-fault g c =
    let s = c.self.inside in
    let units : IsBar s.journal.room s.units.items c.args.plan.now.changes c.in-Some.fault =
    subst (λ (room : ℕ). IsBar room s.units.items c.args.plan.now.changes c.in-Some.fault) c.room.ensures.value
    (subst (λ (l : List UnitState). IsBar c.room.result l c.args.plan.now.changes c.in-Some.fault) c.deref.ensures.value
    (subst (λ (l : List (ℕ × Change)). IsBar c.room.result c.deref.result.now l c.in-Some.fault) c.as_slice-changes.ensures c.in-Some.ensures.barred)) in
    bar_fault g.P.Pool c.args.self.now c.args.plan.now c.args.self.now.pool c.in-Some.fault
    (subst (λ (v : SessionView _). IsBar v.room v.units c.args.plan.now.changes c.in-Some.fault) c.self.view_is units)

pub copies_of-requires-clause-named : goal.copies_of-requires-clause-named
copies_of-requires-clause-named g c =
    let s = c.self.inside in
    subst (λ (l : List UnitState). (unit : ℕ) (volume : Volume) → IsLoadedAt l unit volume → AreNamed volume.rows) (sym c.deref-2.ensures.value)
    (rows_are_named s.units.items s.vtocs.items c.self.invariant.2 c.self.invariant.3)

pub returns-in_err-copies-clause-run : goal.returns-in_err-copies-clause-run
returns-in_err-copies-clause-run g c =
    run_idle tt

pub returns-in_err-slot-clause-run : goal.returns-in_err-slot-clause-run
returns-in_err-slot-clause-run g c =
    run_idle tt

pub returns-in_err-given-clause-run : goal.returns-in_err-given-clause-run
returns-in_err-given-clause-run g c =
    run_idle tt

pub slot_for-requires : goal.slot_for-requires
slot_for-requires g c =
    let s = c.self.inside in
    let plan = c.args.plan.now in
    not_both s.units.items plan.tracks plan.changes c.in_ok-copies.copies c.in_ok-given.given
    (subst (λ (l : List UnitState). AreCopiesOf l plan.tracks plan.changes c.in_ok-copies.copies) c.deref-2.ensures.value c.in_ok-copies.ensures)
    (subst (λ (l : List UnitState). AreGivenOf l plan.tracks plan.changes c.in_ok-given.given) c.deref-3.ensures.value c.in_ok-given.ensures)

pub look_unless_seen-requires-clause-may : goal.look_unless_seen-requires-clause-may
look_unless_seen-requires-clause-may g c =
    let s = c.self.inside in
    let is : IsPlan s.units.items c.args.plan.now = subst (λ (v : SessionView _). IsPlan v.units c.args.plan.now) (sym c.self.view_is) c.requires in
    may_copy s.units.items s.vtocs.items c.args.plan.now c.self.invariant.2 c.self.invariant.3 is c.in_ok-copies.copies c.sizes.ensures.said
    (subst (λ (l : List UnitState). AreCopiesOf l c.args.plan.now.tracks c.args.plan.now.changes c.in_ok-copies.copies) c.deref-2.ensures.value c.in_ok-copies.ensures)

pub look_unless_seen-requires-clause-seen : goal.look_unless_seen-requires-clause-seen
look_unless_seen-requires-clause-seen g c told same =
    let s = c.self.inside in
    let is : IsPlan s.units.items c.args.plan.now = subst (λ (v : SessionView _). IsPlan v.units c.args.plan.now) (sym c.self.view_is) c.requires in
    texts_seen s.units.items s.vtocs.items c.args.plan.now (g.P.Pool.disk s.journal.pool).state.contents c.self.invariant.2 c.self.invariant.3 is s.seen c.in_ok-copies.copies
    (subst (λ (l : List UnitState). AreCopiesOf l c.args.plan.now.tracks c.args.plan.now.changes c.in_ok-copies.copies) c.deref-2.ensures.value c.in_ok-copies.ensures)
    (c.self.invariant.6 told) same

pub invariant_of-self : goal.invariant_of-self
invariant_of-self g c =
    let s = c.self.inside in
    session_read g.P.Pool s.journal c.look_unless_seen.new.journal s.names.items s.units.items s.vtocs.items c.look_unless_seen.ensures.reads s.seen c.self.invariant

pub returns-in_err-look_unless_seen-clause-run : goal.returns-in_err-look_unless_seen-clause-run
returns-in_err-look_unless_seen-clause-run g c =
    let reads = c.look_unless_seen.ensures.reads in
    rw (sym c.self.view_is) (run_still reads.shape reads.later (λ not. absurd (not tt)) reads.runs)

pub returns-in_err-look_unless_seen-clause-fault : goal.returns-in_err-look_unless_seen-clause-fault
returns-in_err-look_unless_seen-clause-fault g c =
    let s = c.self.inside in
    let here : MayBegin s.journal.room s.units.items c.args.plan.now.changes =
    subst (λ (room : ℕ). MayBegin room s.units.items c.args.plan.now.changes) c.room.ensures.value
    (subst (λ (l : List UnitState). MayBegin c.room.result l c.args.plan.now.changes) c.deref.ensures.value
    (subst (λ (l : List (ℕ × Change)). MayBegin c.room.result c.deref.result.now l) c.as_slice-changes.ensures c.in_default.ensures.free)) in
    let may : MayBegin c.args.self.now.room c.args.self.now.units c.args.plan.now.changes =
    subst (λ (v : SessionView _). MayBegin v.room v.units c.args.plan.now.changes) c.self.view_is here in
    let copied : AreCopiesOf s.units.items c.args.plan.now.tracks c.args.plan.now.changes c.in_ok-copies.copies =
    subst (λ (l : List UnitState). AreCopiesOf l c.args.plan.now.tracks c.args.plan.now.changes c.in_ok-copies.copies) c.deref-2.ensures.value c.in_ok-copies.ensures in
    let p = err_from_is_err_and c.from_residual-in_err-look_unless_seen.result c.from_residual-in_err-look_unless_seen.ensures.1 in
    let bad = c.in_err-look_unless_seen.ensures.fault in
    let some : AreCopiesOf c.args.self.now.units c.args.plan.now.tracks c.args.plan.now.changes (Some bad.0) =
    subst (λ (v : SessionView _). AreCopiesOf v.units c.args.plan.now.tracks c.args.plan.now.changes (Some bad.0)) c.self.view_is
    (subst (λ (o : Option Copies). AreCopiesOf s.units.items c.args.plan.now.tracks c.args.plan.now.changes o) bad.1 copied) in
    let told : IsPlanFault g.P.Pool c.args.self.now c.args.plan.now c.look_unless_seen.new.journal.pool c.in_err-look_unless_seen.field-0.0 =
    look_fault g.P.Pool c.args.self.now c.args.plan.now c.look_unless_seen.new.journal.pool bad.0 may some _
    (subst (λ (v : SessionView _). IsLookFault g.P.Pool v.pool c.look_unless_seen.new.journal.pool bad.0 c.in_err-look_unless_seen.field-0.0) c.self.view_is bad.2) in
    rw (p.1, p.2) told

pub render_all-requires : goal.render_all-requires
render_all-requires g c =
    let s = c.self.inside in
    let is : IsPlan s.units.items c.args.plan.now = subst (λ (v : SessionView _). IsPlan v.units c.args.plan.now) (sym c.self.view_is) c.requires in
    record {
      volumes =
          subst (λ (l : List UnitState). HaveVolumes l c.deref-5.result.now c.as_slice-changes.result.now) (sym c.deref-4.ensures.value)
          (subst (λ (l : List (List ℕ)). HaveVolumes s.units.items l c.as_slice-changes.result.now) (sym c.deref-5.ensures.value)
          (subst (λ (l : List (ℕ × Change)). HaveVolumes s.units.items s.vtocs.items l) (sym c.as_slice-changes.ensures)
          (have_volumes s.units.items s.vtocs.items c.args.plan.now c.self.invariant.2 c.self.invariant.3 is)));
    }

pub invariant_of-self-in_err-rendered : goal.invariant_of-self-in_err-rendered
invariant_of-self-in_err-rendered g c =
    let s = c.self.inside in
    session_read g.P.Pool s.journal c.look_unless_seen.new.journal s.names.items s.units.items s.vtocs.items c.look_unless_seen.ensures.reads s.seen c.self.invariant

pub returns-in_err-rendered-clause-run : goal.returns-in_err-rendered-clause-run
returns-in_err-rendered-clause-run g c =
    let reads = c.look_unless_seen.ensures.reads in
    rw (sym c.self.view_is) (run_still reads.shape reads.later (λ not. absurd (not tt)) reads.runs)

pub returns-in_err-rendered-clause-fault : goal.returns-in_err-rendered-clause-fault
returns-in_err-rendered-clause-fault g c =
    let s = c.self.inside in
    let here : MayBegin s.journal.room s.units.items c.args.plan.now.changes =
    subst (λ (room : ℕ). MayBegin room s.units.items c.args.plan.now.changes) c.room.ensures.value
    (subst (λ (l : List UnitState). MayBegin c.room.result l c.args.plan.now.changes) c.deref.ensures.value
    (subst (λ (l : List (ℕ × Change)). MayBegin c.room.result c.deref.result.now l) c.as_slice-changes.ensures c.in_default.ensures.free)) in
    let may : MayBegin c.args.self.now.room c.args.self.now.units c.args.plan.now.changes =
    subst (λ (v : SessionView _). MayBegin v.room v.units c.args.plan.now.changes) c.self.view_is here in
    let copied : AreCopiesOf s.units.items c.args.plan.now.tracks c.args.plan.now.changes c.in_ok-copies.copies =
    subst (λ (l : List UnitState). AreCopiesOf l c.args.plan.now.tracks c.args.plan.now.changes c.in_ok-copies.copies) c.deref-2.ensures.value c.in_ok-copies.ensures in
    let texts : HaveAllTexts g.P.Pool c.args.self.now c.args.plan.now =
    subst (λ (v : SessionView _). HaveAllTexts g.P.Pool v c.args.plan.now) c.self.view_is (c.in_ok-copies.copies, copied, c.in_ok-look_unless_seen.ensures.texts) in
    let p = err_from_is_err_and c.from_residual-in_err-rendered.result c.from_residual-in_err-rendered.ensures.1 in
    let bad : AreRenderFault s.units.items c.args.plan.now.changes c.in_err-rendered.field-0.0 =
    subst (λ (l : List UnitState). AreRenderFault l c.args.plan.now.changes c.in_err-rendered.field-0.0) c.deref-4.ensures.value
    (subst (λ (l : List (ℕ × Change)). AreRenderFault c.deref-4.result.now l c.in_err-rendered.field-0.0) c.as_slice-changes.ensures c.in_err-rendered.ensures.fault) in
    rw (p.1, p.2)
    (render_fault g.P.Pool c.args.self.now c.args.plan.now c.look_unless_seen.new.journal.pool may texts _
    (subst (λ (v : SessionView _). AreRenderFault v.units c.args.plan.now.changes c.in_err-rendered.field-0.0) c.self.view_is bad))

pub invariant_of-self-in_err-entries : goal.invariant_of-self-in_err-entries
invariant_of-self-in_err-entries g c =
    let s = c.self.inside in
    session_read g.P.Pool s.journal c.look_unless_seen.new.journal s.names.items s.units.items s.vtocs.items c.look_unless_seen.ensures.reads s.seen c.self.invariant

pub returns-in_err-entries-clause-run : goal.returns-in_err-entries-clause-run
returns-in_err-entries-clause-run g c =
    let reads = c.look_unless_seen.ensures.reads in
    rw (sym c.self.view_is) (run_still reads.shape reads.later (λ not. absurd (not tt)) reads.runs)

pub ask_units-requires : goal.ask_units-requires
ask_units-requires g c =
    let s = c.self.inside in
    let were : WereRendered s.units.items s.vtocs.items c.args.plan.now.changes c.in_ok-rendered.rendered.items =
    subst (λ (l : List UnitState). WereRendered l s.vtocs.items c.args.plan.now.changes c.in_ok-rendered.rendered.items) c.deref-4.ensures.value
    (subst (λ (l : List (List ℕ)). WereRendered c.deref-4.result.now l c.args.plan.now.changes c.in_ok-rendered.rendered.items) c.deref-5.ensures.value
    (subst (λ (l : List (ℕ × Change)). WereRendered c.deref-4.result.now c.deref-5.result.now l c.in_ok-rendered.rendered.items) c.as_slice-changes.ensures c.in_ok-rendered.ensures.rendered)) in
    subst (λ (l : List (ℕ × Change)). All (λ change. change.0 < journal_of (g.P.Pool.shape c.look_unless_seen.new.journal.pool)) l) (sym c.as_slice-changes.ensures)
    (changes_there s.units.items s.vtocs.items c.args.plan.now.changes c.in_ok-rendered.rendered.items c.look_unless_seen.ensures.reads.shape c.self.invariant.2 were)

pub invariant_of-self-in_err-ask_units : goal.invariant_of-self-in_err-ask_units
invariant_of-self-in_err-ask_units g c =
    let s = c.self.inside in
    let reads = reads_then g.P.Pool _ _ _ c.look_unless_seen.ensures.reads c.ask_units.ensures.reads in
    session_read g.P.Pool s.journal c.ask_units.new.journal s.names.items s.units.items s.vtocs.items reads s.seen c.self.invariant

pub returns-in_err-ask_units-clause-run : goal.returns-in_err-ask_units-clause-run
returns-in_err-ask_units-clause-run g c =
    let reads = reads_then g.P.Pool _ _ _ c.look_unless_seen.ensures.reads c.ask_units.ensures.reads in
    rw (sym c.self.view_is) (run_still reads.shape reads.later (λ not. absurd (not tt)) reads.runs)

pub returns-in_err-ask_units-clause-writes : goal.returns-in_err-ask_units-clause-writes
returns-in_err-ask_units-clause-writes g c =
    let reads = reads_then g.P.Pool _ _ _ c.look_unless_seen.ensures.reads c.ask_units.ensures.reads in
    rw (sym c.self.view_is) reads.runs

pub returns-clause-writes : goal.returns-clause-writes
returns-clause-writes g c =
    let reads = reads_then g.P.Pool _ _ _ c.look_unless_seen.ensures.reads c.ask_units.ensures.reads in
    rw (sym c.self.view_is) reads.runs

pub invariant_of-self-2 : goal.invariant_of-self-2
invariant_of-self-2 g c =
    let s = c.self.inside in
    let reads = reads_then g.P.Pool _ _ _ c.look_unless_seen.ensures.reads c.ask_units.ensures.reads in
    session_read g.P.Pool s.journal c.ask_units.new.journal s.names.items s.units.items s.vtocs.items reads s.seen c.self.invariant

pub returns-clause-run : goal.returns-clause-run
returns-clause-run g c =
    let reads = reads_then g.P.Pool _ _ _ c.look_unless_seen.ensures.reads c.ask_units.ensures.reads in
    rw (sym c.self.view_is) (run_still reads.shape reads.later (λ not. absurd (not tt)) reads.runs)

pub returns-clause-ready : goal.returns-clause-ready
returns-clause-ready g c =
    let s = c.self.inside in
    let is : IsPlan s.units.items c.args.plan.now = subst (λ (v : SessionView _). IsPlan v.units c.args.plan.now) (sym c.self.view_is) c.requires in
    let here : MayBegin s.journal.room s.units.items c.args.plan.now.changes =
    subst (λ (room : ℕ). MayBegin room s.units.items c.args.plan.now.changes) c.room.ensures.value
    (subst (λ (l : List UnitState). MayBegin c.room.result l c.args.plan.now.changes) c.deref.ensures.value
    (subst (λ (l : List (ℕ × Change)). MayBegin c.room.result c.deref.result.now l) c.as_slice-changes.ensures c.in_default.ensures.free)) in
    let copied : AreCopiesOf s.units.items c.args.plan.now.tracks c.args.plan.now.changes c.in_ok-copies.copies =
    subst (λ (l : List UnitState). AreCopiesOf l c.args.plan.now.tracks c.args.plan.now.changes c.in_ok-copies.copies) c.deref-2.ensures.value c.in_ok-copies.ensures in
    let given : AreGivenOf s.units.items c.args.plan.now.tracks c.args.plan.now.changes c.in_ok-given.given =
    subst (λ (l : List UnitState). AreGivenOf l c.args.plan.now.tracks c.args.plan.now.changes c.in_ok-given.given) c.deref-3.ensures.value c.in_ok-given.ensures in
    let slot = take c.in_ok-slot.slot.len (c.look_unless_seen.new.slot ++ drop (length c.look_unless_seen.new.slot) c.in_ok-slot.slot.items) in
    let wide : length slot ≡ length c.in_ok-slot.slot.items =
    omega (
      arith,
      c.in_ok-slot.slot.ok.0,
      c.look_unless_seen.ensures.size,
      ap length c.deref_mut.ensures.value,
      length-take c.in_ok-slot.slot.len (c.look_unless_seen.new.slot ++ drop (length c.look_unless_seen.new.slot) c.in_ok-slot.slot.items),
      length-append c.look_unless_seen.new.slot (drop (length c.look_unless_seen.new.slot) c.in_ok-slot.slot.items),
      length-drop (length c.look_unless_seen.new.slot) c.in_ok-slot.slot.items,
    ) in
    let were : WereRendered s.units.items s.vtocs.items c.args.plan.now.changes c.in_ok-rendered.rendered.items =
    subst (λ (l : List UnitState). WereRendered l s.vtocs.items c.args.plan.now.changes c.in_ok-rendered.rendered.items) c.deref-4.ensures.value
    (subst (λ (l : List (List ℕ)). WereRendered c.deref-4.result.now l c.args.plan.now.changes c.in_ok-rendered.rendered.items) c.deref-5.ensures.value
    (subst (λ (l : List (ℕ × Change)). WereRendered c.deref-4.result.now c.deref-5.result.now l c.in_ok-rendered.rendered.items) c.as_slice-changes.ensures c.in_ok-rendered.ensures.rendered)) in
    let reads = reads_then g.P.Pool _ _ _ c.look_unless_seen.ensures.reads c.ask_units.ensures.reads in
    let writable : MayWriteAll (g.P.Pool.shape c.ask_units.new.journal.pool) c.args.plan.now.changes =
    subst (λ (l : List (ℕ × Change)). MayWriteAll (g.P.Pool.shape c.ask_units.new.journal.pool) l) c.as_slice-changes.ensures
    (subst (λ (shape : Shape). MayWriteAll shape c.as_slice-changes.result.now) (sym c.ask_units.ensures.reads.shape) c.in_ok-ask_units.ensures.writable) in
    all_ready g.P.Pool s.journal c.ask_units.new.journal s.names.items s.units.items s.vtocs.items reads c.args.plan.now c.in_ok-copies.copies c.in_ok-given.given c.in_ok-rendered.rendered.items
    c.in_ok-entries.entries.blocks slot c.in_ok-entries.entries.control c.self.invariant.2 c.self.invariant.3 is c.sizes.ensures.said here copied
    (subst (λ (n : ℕ). OnCopies (λ some. n ≡ slot_of some.device) c.in_ok-copies.copies) (sym wide) c.in_ok-slot.ensures.size)
    c.in_ok-look_unless_seen.ensures.texts were
    (ap (λ (e : EntriesView). e.blocks) c.in_ok-entries.ensures ∙ (λ i. entries_of (c.as_slice-changes.ensures i) (c.deref-6.ensures.value i)))
    writable given
    (subst (λ (n : ℕ). OnGiven (λ some. n ≡ slot_of some.device) c.in_ok-given.given) (sym wide) c.in_ok-slot.ensures.given)
    (ap (λ (e : EntriesView). e.control) c.in_ok-entries.ensures)
