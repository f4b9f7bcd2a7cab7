use Rattle.std.proofs.Common.{◌≡◌, ℕ, ◌<◌, List, All, None, length, sym, ap, subst, ◌∙◌}
use Rattle.dasd_pool.specs.Disk.{Runs, Shape, IsSynced}
use Rattle.redo_core.specs.declared.entries.Entry.{Entry}
use Rattle.redo_core.specs.Phases.{IsCommitted, IsStatusAfter, of_commit}
use Rattle.redo_core.specs.Reading.{journal_of}
use Rattle.redo_core.specs.Statuses.{entries_at}
use Rattle.volume_change.specs.declared.change.Change.{Change}
use Rattle.unit_steps.specs.vtoc_render.declared.change.Rendered.{Rendered}
use Rattle.unit_load.specs.declared.state.UnitState.{UnitState}
use Rattle.move_core.specs.Facts.{HasInputs, Original}
use Rattle.move_core.proofs.Running.{quiet_at_rest, switch_done, switch_failed}
use Rattle.unit_steps.specs.Loaded.{AreLoaded, AreVtocsOf, HaveFills, TakeLoaded}
use Rattle.unit_steps.specs.Plans.{IsOfUnits, IsPlan}
use Rattle.unit_steps.specs.Rendering.{AreOfUnits, AreReady, WereRendered, VtocsAfter, units_after}
use Rattle.unit_steps.proofs.Fitting.{switched_keep_fills}
use Rattle.unit_steps.proofs.Small.{plans_small}
use Rattle.unit_steps.proofs.Taking.{entries_below}
use Rattle.unit_session.specs.Planned.{HoldsOriginal, IsMadeOf, MayPatch}
use Rattle.unit_session.specs.Sessions.{SessionView}
use Rattle.unit_session.proofs.Loading.{free_after}
use Rattle.unit_session.proofs.Sparing.{rendered_spared}
use Rattle.unit_session.proofs.Switched.{are_there, may_patch, committed_placed, only_blocks, session_after, volumes_after}
use Rattle.unit_session.proofs.planned.Copied.switch.Goals as goal

pub invariant_of-result : goal.invariant_of-result
invariant_of-result g c =
    let s = c.session.inside in
    let p = c.self.inside in
    let inv = c.session.invariant in
    let does = c.in-Ok.ensures in
    let next = c.in-Ok.journal in
    let shape = g.P.Pool.shape s.journal.pool in
    let were : WereRendered s.units.items s.vtocs.items p.plan.changes p.rendered.items =
    subst (λ (v : SessionView _). WereRendered v.units v.vtocs p.plan.changes p.rendered.items) (sym c.session.view_is) c.self.invariant.rendered in
    let plan : IsPlan s.units.items p.plan = subst (λ (v : SessionView _). IsPlan v.units p.plan) (sym c.session.view_is) c.self.invariant.plan in
    let small = plans_small s.units.items p.plan plan in
    let below : All (λ entry. entry.unit < journal_of shape) p.entries.blocks =
    subst (λ (l : List Entry). All (λ entry. entry.unit < journal_of shape) l) (sym c.self.invariant.entries_are)
    (entries_below shape s.units.items s.vtocs.items inv.2 p.plan.changes p.rendered.items were) in
    let after : VtocsAfter s.units.items s.vtocs.items p.plan.changes p.rendered.items c.patched-vtocs.result.items =
    subst (λ (l : List UnitState). VtocsAfter l s.vtocs.items p.plan.changes p.rendered.items c.patched-vtocs.result.items) c.deref.ensures.value
    (subst (λ (l : List (ℕ × Change)). VtocsAfter c.deref.result.now s.vtocs.items l p.rendered.items c.patched-vtocs.result.items) c.as_slice.ensures
    (subst (λ (l : List Rendered). VtocsAfter c.deref.result.now s.vtocs.items c.as_slice.result.now l c.patched-vtocs.result.items) c.deref-in-Ok.ensures.value c.patched-vtocs.ensures)) in
    let units : c.renewed-units.result.items ≡ units_after s.units.items p.plan.changes p.rendered.items =
    c.renewed-units.ensures ∙ ap (λ (l : List (ℕ × Change)). units_after s.units.items l p.rendered.items) c.as_slice-in-Ok.ensures in
    let parts = session_after shape (g.P.Pool.shape next.pool) s.units.items c.renewed-units.result.items s.vtocs.items c.patched-vtocs.result.items p.plan.changes p.rendered.items does.shape
    units inv.2 inv.3 were small.0 small.2 after in
    let volumes : g.P.Pool.tells → AreLoaded (g.P.Pool.shape next.pool) (g.P.Pool.disk next.pool).state.contents c.renewed-units.result.items
    × AreVtocsOf (g.P.Pool.disk next.pool).state.contents c.renewed-units.result.items c.patched-vtocs.result.items =
    λ told.
    volumes_after shape (g.P.Pool.shape next.pool) s.units.items c.renewed-units.result.items s.vtocs.items c.patched-vtocs.result.items p.plan.changes p.rendered.items does.shape
    units inv.2 inv.3 were small.0 small.2 after (g.P.Pool.disk s.journal.pool).state (g.P.Pool.disk next.pool).state p.entries.blocks c.self.invariant.entries_are
    (committed_placed shape (g.P.Pool.disk s.journal.pool).state (g.P.Pool.disk next.pool).state s.journal.room next.room s.journal.control next.control s.journal.fills next.fills p.entries.blocks
    (c.rests.ensures told)
    (subst (λ (l : List Entry). IsCommitted shape (g.P.Pool.disk s.journal.pool).state l (g.P.Pool.disk next.pool).state) (only_blocks (journal_of shape) p.entries c.self.invariant.alone) (does.committed told))
    (does.rest told)) (inv.4 told) (inv.5 told) in (
      free_after does.shape below
          (subst (λ (l : List Entry). IsStatusAfter shape l s.journal.control s.journal.fills next.control next.fills) (only_blocks (journal_of shape) p.entries c.self.invariant.alone) does.status)
          parts.0 inv.0.idle
          (subst (λ (l : List UnitState). HaveFills s.journal.fills l) (sym units) (switched_keep_fills s.journal.fills s.units.items s.vtocs.items p.plan.changes p.rendered.items inv.0.fit were)),
      inv.1 ∙ ap (λ (s : Shape). journal_of s) (sym does.shape),
      parts.0,
      parts.1,
      λ told. (volumes told).0,
      λ told. (volumes told).1,
      λ told. tt,
    )

pub returns-in-Ok-clause-run : goal.returns-in-Ok-clause-run
returns-in-Ok-clause-run g c =
    let s = c.session.inside in
    let p = c.self.inside in
    let does = c.in-Ok.ensures in
    let shape = g.P.Pool.shape s.journal.pool in
    let state = (g.P.Pool.disk s.journal.pool).state in
    let all = only_blocks (journal_of shape) p.entries c.self.invariant.alone in
    let takes : IsOfUnits p.plan.step → g.P.Pool.tells → TakeLoaded (HasInputs None) shape s.journal.room s.units.items state.contents p.plan.step (entries_at (journal_of shape) p.entries) =
    λ of told. subst (λ (l : List Entry). TakeLoaded (HasInputs None) shape s.journal.room s.units.items state.contents p.plan.step l) (sym all)
    (subst (λ (v : SessionView _). TakeLoaded (HasInputs None) (g.P.Pool.shape v.pool) v.room v.units (g.P.Pool.disk v.pool).state.contents p.plan.step p.entries.blocks) (sym c.session.view_is) (c.self.invariant.takes told of)) in
    rw (sym c.self.view_is)
    (rw (sym c.session.view_is)
    (λ of. switch_done does.shape does.faults (λ told. quiet_at_rest (c.rests.ensures told) c.session.invariant.0.idle) (λ told. takes of told s.journal.fills c.session.invariant.0.fit) does.any_moment (tt {0}) does.committed))

pub returns-in-Ok-clause-part : goal.returns-in-Ok-clause-part
returns-in-Ok-clause-part g c =
    let s = c.session.inside in
    let p = c.self.inside in
    let does = c.in-Ok.ensures in
    let shape = g.P.Pool.shape s.journal.pool in
    let state = (g.P.Pool.disk s.journal.pool).state in
    let all = only_blocks (journal_of shape) p.entries c.self.invariant.alone in
    let takes : (original : Original) → IsMadeOf g.P.Pool (record {
      session = record { pool = s.journal.pool; room = s.journal.room; names = s.names.items; units = s.units.items; vtocs = s.vtocs.items };
      plan = p.plan;
      rendered = p.rendered.items;
      entries = p.entries.blocks;
    }) original → g.P.Pool.tells → TakeLoaded (HoldsOriginal p.plan.step original) shape s.journal.room s.units.items state.contents p.plan.step (entries_at (journal_of shape) p.entries) =
    λ original made told. subst (λ (l : List Entry). TakeLoaded (HoldsOriginal p.plan.step original) shape s.journal.room s.units.items state.contents p.plan.step l) (sym all)
    (subst (λ (v : SessionView _). IsMadeOf g.P.Pool (record { session = v; plan = p.plan; rendered = p.rendered.items; entries = p.entries.blocks }) original
    → TakeLoaded (HoldsOriginal p.plan.step original) (g.P.Pool.shape v.pool) v.room v.units (g.P.Pool.disk v.pool).state.contents p.plan.step p.entries.blocks) (sym c.session.view_is)
    (c.self.invariant.part told original) made) in
    rw (sym c.self.view_is)
    (rw (sym c.session.view_is)
    (λ original made. switch_done does.shape does.faults (λ told. quiet_at_rest (c.rests.ensures told) c.session.invariant.0.idle) (λ told. takes original made told s.journal.fills c.session.invariant.0.fit) does.any_moment (tt {0}) does.committed))

pub returns-in-Err-clause-run : goal.returns-in-Err-clause-run
returns-in-Err-clause-run g c =
    let s = c.session.inside in
    let p = c.self.inside in
    let does = c.in-Err.ensures in
    let shape = g.P.Pool.shape s.journal.pool in
    let state = (g.P.Pool.disk s.journal.pool).state in
    let all = only_blocks (journal_of shape) p.entries c.self.invariant.alone in
    let takes : IsOfUnits p.plan.step → g.P.Pool.tells → TakeLoaded (HasInputs None) shape s.journal.room s.units.items state.contents p.plan.step (entries_at (journal_of shape) p.entries) =
    λ of told. subst (λ (l : List Entry). TakeLoaded (HasInputs None) shape s.journal.room s.units.items state.contents p.plan.step l) (sym all)
    (subst (λ (v : SessionView _). TakeLoaded (HasInputs None) (g.P.Pool.shape v.pool) v.room v.units (g.P.Pool.disk v.pool).state.contents p.plan.step p.entries.blocks) (sym c.session.view_is) (c.self.invariant.takes told of)) in
    rw (sym c.self.view_is)
    (rw (sym c.session.view_is)
    (λ of. switch_failed does.shape does.faults (λ told. quiet_at_rest (c.rests.ensures told) c.session.invariant.0.idle) (λ told. takes of told s.journal.fills c.session.invariant.0.fit) does.any_moment (λ never. never) does.cause.1))

pub returns-in-Err-clause-part : goal.returns-in-Err-clause-part
returns-in-Err-clause-part g c =
    let s = c.session.inside in
    let p = c.self.inside in
    let does = c.in-Err.ensures in
    let shape = g.P.Pool.shape s.journal.pool in
    let state = (g.P.Pool.disk s.journal.pool).state in
    let all = only_blocks (journal_of shape) p.entries c.self.invariant.alone in
    let takes : (original : Original) → IsMadeOf g.P.Pool (record {
      session = record { pool = s.journal.pool; room = s.journal.room; names = s.names.items; units = s.units.items; vtocs = s.vtocs.items };
      plan = p.plan;
      rendered = p.rendered.items;
      entries = p.entries.blocks;
    }) original → g.P.Pool.tells → TakeLoaded (HoldsOriginal p.plan.step original) shape s.journal.room s.units.items state.contents p.plan.step (entries_at (journal_of shape) p.entries) =
    λ original made told. subst (λ (l : List Entry). TakeLoaded (HoldsOriginal p.plan.step original) shape s.journal.room s.units.items state.contents p.plan.step l) (sym all)
    (subst (λ (v : SessionView _). IsMadeOf g.P.Pool (record { session = v; plan = p.plan; rendered = p.rendered.items; entries = p.entries.blocks }) original
    → TakeLoaded (HoldsOriginal p.plan.step original) (g.P.Pool.shape v.pool) v.room v.units (g.P.Pool.disk v.pool).state.contents p.plan.step p.entries.blocks) (sym c.session.view_is)
    (c.self.invariant.part told original) made) in
    rw (sym c.self.view_is)
    (rw (sym c.session.view_is)
    (λ original made. switch_failed does.shape does.faults (λ told. quiet_at_rest (c.rests.ensures told) c.session.invariant.0.idle) (λ told. takes original made told s.journal.fills c.session.invariant.0.fit) does.any_moment (λ never. never) does.cause.1))

pub patched-vtocs-requires-clause-may : goal.patched-vtocs-requires-clause-may
patched-vtocs-requires-clause-may g c =
    let s = c.session.inside in
    let p = c.self.inside in
    let were : WereRendered s.units.items s.vtocs.items p.plan.changes p.rendered.items =
    subst (λ (v : SessionView _). WereRendered v.units v.vtocs p.plan.changes p.rendered.items) (sym c.session.view_is) c.self.invariant.rendered in
    let may : MayPatch s.units.items s.vtocs.items p.plan.changes p.rendered.items =
    may_patch s.units.items s.vtocs.items p.plan.changes p.rendered.items c.session.invariant.3 were in
    subst (λ (l : List UnitState). MayPatch l s.vtocs.items c.as_slice.result.now c.deref-in-Ok.result.now) (sym c.deref.ensures.value)
    (subst (λ (l : List (ℕ × Change)). MayPatch s.units.items s.vtocs.items l c.deref-in-Ok.result.now) (sym c.as_slice.ensures)
    (subst (λ (l : List Rendered). MayPatch s.units.items s.vtocs.items p.plan.changes l) (sym c.deref-in-Ok.ensures.value) may))

pub patched-vtocs-requires-clause-apart : goal.patched-vtocs-requires-clause-apart
patched-vtocs-requires-clause-apart g c =
    let s = c.session.inside in
    let p = c.self.inside in
    let plan : IsPlan s.units.items p.plan = subst (λ (v : SessionView _). IsPlan v.units p.plan) (sym c.session.view_is) c.self.invariant.plan in
    subst (λ (l : List (ℕ × Change)). AreOfUnits l) (sym c.as_slice.ensures) (plans_small s.units.items p.plan plan).0

pub renewed-units-requires : goal.renewed-units-requires
renewed-units-requires g c =
    let s = c.session.inside in
    let p = c.self.inside in
    let were : WereRendered s.units.items s.vtocs.items p.plan.changes p.rendered.items =
    subst (λ (v : SessionView _). WereRendered v.units v.vtocs p.plan.changes p.rendered.items) (sym c.session.view_is) c.self.invariant.rendered in
    subst (λ (l : List (ℕ × Change)). All (λ change. change.0 < length s.units.items) l) (sym c.as_slice-in-Ok.ensures)
    (are_there s.units.items s.vtocs.items p.plan.changes p.rendered.items were)

pub returns-in-Ok-clause-writes : goal.returns-in-Ok-clause-writes
returns-in-Ok-clause-writes g c =
    let s = c.session.inside in
    let journal = journal_of (g.P.Pool.shape s.journal.pool) in
    rw (sym c.self.view_is)
    (rw (sym c.session.view_is)
    (subst (λ (l : List Entry). g.P.Pool.tells → Runs (of_commit journal l) (g.P.Pool.disk s.journal.pool) (g.P.Pool.disk c.in-Ok.journal.pool)) (only_blocks journal c.self.inside.entries c.self.invariant.alone)
    c.in-Ok.ensures.runs))

pub returns-in-Err-clause-writes : goal.returns-in-Err-clause-writes
returns-in-Err-clause-writes g c =
    let s = c.session.inside in
    let journal = journal_of (g.P.Pool.shape s.journal.pool) in
    rw (sym c.self.view_is)
    (rw (sym c.session.view_is)
    (subst (λ (l : List Entry). g.P.Pool.tells → Runs (of_commit journal l) (g.P.Pool.disk s.journal.pool) (g.P.Pool.disk c.in-Err.stop.pool)) (only_blocks journal c.self.inside.entries c.self.invariant.alone)
    c.in-Err.ensures.runs))

pub returns-in-Ok-clause-spared : goal.returns-in-Ok-clause-spared
returns-in-Ok-clause-spared g c =
    let s = c.session.inside in
    let p = c.self.inside in
    let inv = c.session.invariant in
    let synced : g.P.Pool.tells → IsSynced (g.P.Pool.disk s.journal.pool).state =
    λ told. subst (λ (v : SessionView _). IsSynced (g.P.Pool.disk v.pool).state) (sym c.session.view_is) (c.self.invariant.synced told) in
    let ready : AreReady (g.P.Pool.shape s.journal.pool) s.journal.room p.entries.blocks =
    subst (λ (v : SessionView _). AreReady (g.P.Pool.shape v.pool) v.room p.entries.blocks) (sym c.session.view_is) c.self.invariant.entries in
    let were : WereRendered s.units.items s.vtocs.items p.plan.changes p.rendered.items =
    subst (λ (v : SessionView _). WereRendered v.units v.vtocs p.plan.changes p.rendered.items) (sym c.session.view_is) c.self.invariant.rendered in
    rw (sym c.self.view_is)
    (rw (sym c.session.view_is)
    (λ told. rendered_spared (g.P.Pool.shape s.journal.pool) (g.P.Pool.disk s.journal.pool) (g.P.Pool.disk c.in-Ok.journal.pool) s.journal.room s.units.items s.vtocs.items p.plan.changes p.rendered.items p.entries.blocks
    inv.3 (inv.4 told) (inv.5 told) were c.self.invariant.entries_are ready (synced told)
    (subst (λ (l : List Entry). Runs (of_commit (journal_of (g.P.Pool.shape s.journal.pool)) l) (g.P.Pool.disk s.journal.pool) (g.P.Pool.disk c.in-Ok.journal.pool))
    (only_blocks (journal_of (g.P.Pool.shape s.journal.pool)) p.entries c.self.invariant.alone) (c.in-Ok.ensures.runs told))))

pub returns-in-Err-clause-spared : goal.returns-in-Err-clause-spared
returns-in-Err-clause-spared g c =
    let s = c.session.inside in
    let p = c.self.inside in
    let inv = c.session.invariant in
    let synced : g.P.Pool.tells → IsSynced (g.P.Pool.disk s.journal.pool).state =
    λ told. subst (λ (v : SessionView _). IsSynced (g.P.Pool.disk v.pool).state) (sym c.session.view_is) (c.self.invariant.synced told) in
    let ready : AreReady (g.P.Pool.shape s.journal.pool) s.journal.room p.entries.blocks =
    subst (λ (v : SessionView _). AreReady (g.P.Pool.shape v.pool) v.room p.entries.blocks) (sym c.session.view_is) c.self.invariant.entries in
    let were : WereRendered s.units.items s.vtocs.items p.plan.changes p.rendered.items =
    subst (λ (v : SessionView _). WereRendered v.units v.vtocs p.plan.changes p.rendered.items) (sym c.session.view_is) c.self.invariant.rendered in
    rw (sym c.self.view_is)
    (rw (sym c.session.view_is)
    (λ told. rendered_spared (g.P.Pool.shape s.journal.pool) (g.P.Pool.disk s.journal.pool) (g.P.Pool.disk c.in-Err.stop.pool) s.journal.room s.units.items s.vtocs.items p.plan.changes p.rendered.items p.entries.blocks
    inv.3 (inv.4 told) (inv.5 told) were c.self.invariant.entries_are ready (synced told)
    (subst (λ (l : List Entry). Runs (of_commit (journal_of (g.P.Pool.shape s.journal.pool)) l) (g.P.Pool.disk s.journal.pool) (g.P.Pool.disk c.in-Err.stop.pool))
    (only_blocks (journal_of (g.P.Pool.shape s.journal.pool)) p.entries c.self.invariant.alone) (c.in-Err.ensures.runs told))))
