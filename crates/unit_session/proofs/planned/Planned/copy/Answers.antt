use Rattle.std.proofs.Common.{refl, sym, ap, subst, ◌∙◌}
use Rattle.dasd_pool.specs.Disk.{Shape}
use Rattle.move_core.proofs.Running.{quiet_at_rest, run_quiet}
use Rattle.redo_core.specs.Reading.{journal_of}
use Rattle.unit_steps.specs.Loaded.{AreLoaded, AreVtocsOf}
use Rattle.unit_session.specs.Planned.{IsReady}
use Rattle.unit_session.specs.Sessions.{SessionView}
use Rattle.unit_session.proofs.GivenDone.{made_takes}
use Rattle.unit_session.proofs.CopyDone.{volumes_copied, entries_copied, takes_copied, writes_unused}
use Rattle.unit_session.proofs.Loading.{still_free, still_kept}
use Rattle.unit_session.proofs.planned.Planned.copy.Goals as goal

pub invariant_of-result : goal.invariant_of-result
invariant_of-result g c =
    let s = c.session.inside in
    let p = c.self.inside in
    let inv = c.session.invariant in
    let old = s.journal in
    let new = c.make_copies.new.journal in
    let does = c.make_copies.ensures in
    let ready : IsReady g.P.Pool (record {
      session = record { pool = s.journal.pool; room = s.journal.room; names = s.names.items; units = s.units.items; vtocs = s.vtocs.items };
      plan = p.plan;
      copies = p.work.copies;
      given = p.work.given;
      rendered = p.work.rendered.items;
      entries = p.work.entries.blocks;
    }) p.work.slot.items p.work.entries.control =
    subst (λ (v : SessionView _). IsReady g.P.Pool (record { session = v; plan = p.plan; copies = p.work.copies; given = p.work.given; rendered = p.work.rendered.items; entries = p.work.entries.blocks }) p.work.slot.items p.work.entries.control)
    (sym c.session.view_is) c.self.invariant in
    let volumes : g.P.Pool.tells → AreLoaded (g.P.Pool.shape new.pool) (g.P.Pool.disk new.pool).state.contents s.units.items × AreVtocsOf (g.P.Pool.disk new.pool).state.contents s.units.items s.vtocs.items =
    λ told.
    volumes_copied g.P.Pool old new s.units.items s.vtocs.items p.plan p.work.copies inv.2 inv.3 ready.plan ready.copies does.writes told (inv.4 told) (inv.5 told) (c.in-Ok.ensures.short told) in (
      still_free does.writes.status.control does.writes.status.fills inv.0,
      inv.1 ∙ ap (λ (shape : Shape). journal_of shape) (sym does.writes.shape),
      inv.2 ∙ ap (λ (shape : Shape). journal_of shape) (sym does.writes.shape),
      still_kept s.units.items s.vtocs.items does.writes.shape inv.3,
      λ told. (volumes told).0,
      λ told. (volumes told).1,
      λ told. tt,
    )

pub invariant_of-result-in-Ok : goal.invariant_of-result-in-Ok
invariant_of-result-in-Ok g c =
    let s = c.session.inside in
    let p = c.self.inside in
    let inv = c.session.invariant in
    let old = s.journal in
    let new = c.make_copies.new.journal in
    let does = c.make_copies.ensures in
    let ready : IsReady g.P.Pool (record {
      session = record { pool = s.journal.pool; room = s.journal.room; names = s.names.items; units = s.units.items; vtocs = s.vtocs.items };
      plan = p.plan;
      copies = p.work.copies;
      given = p.work.given;
      rendered = p.work.rendered.items;
      entries = p.work.entries.blocks;
    }) p.work.slot.items p.work.entries.control =
    subst (λ (v : SessionView _). IsReady g.P.Pool (record { session = v; plan = p.plan; copies = p.work.copies; given = p.work.given; rendered = p.work.rendered.items; entries = p.work.entries.blocks }) p.work.slot.items p.work.entries.control)
    (sym c.session.view_is) c.self.invariant in
    let volumes : g.P.Pool.tells → AreLoaded (g.P.Pool.shape new.pool) (g.P.Pool.disk new.pool).state.contents s.units.items × AreVtocsOf (g.P.Pool.disk new.pool).state.contents s.units.items s.vtocs.items =
    λ told.
    volumes_copied g.P.Pool old new s.units.items s.vtocs.items p.plan p.work.copies inv.2 inv.3 ready.plan ready.copies does.writes told (inv.4 told) (inv.5 told) (c.in-Ok.ensures.short told) in
    record {
      plan = ready.plan;
      rendered = ready.rendered;
      entries_are = ready.entries_are;
      entries = entries_copied g.P.Pool old new s.units.items s.vtocs.items p.plan p.work.copies inv.2 inv.3 ready.plan ready.copies does.writes p.work.entries.blocks ready.entries;
      alone = ready.alone;
      synced = c.in-Ok.ensures.synced;
      takes = λ told of.
          takes_copied g.P.Pool old new s.units.items s.vtocs.items p.plan p.work.copies inv.2 inv.3 ready.plan ready.copies does.writes told (inv.4 told) (inv.5 told)
          (c.in-Ok.ensures.short told) p.work.rendered.items ready.rendered (ready.texts told) (c.in-Ok.ensures.copied told) p.work.entries.blocks ready.entries_are of;
      part = λ told original made.
          made_takes g.P.Pool (record {
            session = record { pool = new.pool; room = new.room; names = s.names.items; units = s.units.items; vtocs = s.vtocs.items };
            plan = p.plan;
            rendered = p.work.rendered.items;
            entries = p.work.entries.blocks;
          }) original (inv.2 ∙ ap (λ (shape : Shape). journal_of shape) (sym does.writes.shape)) (still_kept s.units.items s.vtocs.items does.writes.shape inv.3) told
          (volumes told).0 (volumes told).1 ready.rendered ready.entries_are made;
    }

pub returns-in-Ok-clause-run : goal.returns-in-Ok-clause-run
returns-in-Ok-clause-run g c =
    let s = c.session.inside in
    let p = c.self.inside in
    let inv = c.session.invariant in
    let writes = c.make_copies.ensures.writes in
    let ready : IsReady g.P.Pool (record {
      session = record { pool = s.journal.pool; room = s.journal.room; names = s.names.items; units = s.units.items; vtocs = s.vtocs.items };
      plan = p.plan;
      copies = p.work.copies;
      given = p.work.given;
      rendered = p.work.rendered.items;
      entries = p.work.entries.blocks;
    }) p.work.slot.items p.work.entries.control =
    subst (λ (v : SessionView _). IsReady g.P.Pool (record { session = v; plan = p.plan; copies = p.work.copies; given = p.work.given; rendered = p.work.rendered.items; entries = p.work.entries.blocks }) p.work.slot.items p.work.entries.control)
    (sym c.session.view_is) c.self.invariant in
    rw (sym c.self.view_is)
    (rw (sym c.session.view_is)
    (run_quiet writes.shape writes.later (λ no. absurd (no (tt {0})))
    (writes_unused (g.P.Pool.shape s.journal.pool) (g.P.Pool.disk s.journal.pool).state s.units.items s.vtocs.items p.plan p.work.copies inv.2 inv.3 ready.plan ready.copies
    (λ told. inv.4 told) inv.0.fit (λ told. quiet_at_rest (c.rests.ensures told) inv.0.idle))
    writes.runs))

pub returns-in-Err-clause-run : goal.returns-in-Err-clause-run
returns-in-Err-clause-run g c =
    let s = c.session.inside in
    let p = c.self.inside in
    let inv = c.session.invariant in
    let writes = c.make_copies.ensures.writes in
    let ready : IsReady g.P.Pool (record {
      session = record { pool = s.journal.pool; room = s.journal.room; names = s.names.items; units = s.units.items; vtocs = s.vtocs.items };
      plan = p.plan;
      copies = p.work.copies;
      given = p.work.given;
      rendered = p.work.rendered.items;
      entries = p.work.entries.blocks;
    }) p.work.slot.items p.work.entries.control =
    subst (λ (v : SessionView _). IsReady g.P.Pool (record { session = v; plan = p.plan; copies = p.work.copies; given = p.work.given; rendered = p.work.rendered.items; entries = p.work.entries.blocks }) p.work.slot.items p.work.entries.control)
    (sym c.session.view_is) c.self.invariant in
    rw (sym c.self.view_is)
    (rw (sym c.session.view_is)
    (rw c.into_pool.ensures
    (run_quiet writes.shape writes.later (λ never. c.in-Err.ensures.cause refl)
    (writes_unused (g.P.Pool.shape s.journal.pool) (g.P.Pool.disk s.journal.pool).state s.units.items s.vtocs.items p.plan p.work.copies inv.2 inv.3 ready.plan ready.copies
    (λ told. inv.4 told) inv.0.fit (λ told. quiet_at_rest (c.rests.ensures told) inv.0.idle))
    writes.runs)))

pub returns-in-Ok-clause-writes : goal.returns-in-Ok-clause-writes
returns-in-Ok-clause-writes g c = rw (sym c.self.view_is) (rw (sym c.session.view_is) c.make_copies.ensures.writes.runs)

pub returns-in-Err-clause-writes : goal.returns-in-Err-clause-writes
returns-in-Err-clause-writes g c = rw (sym c.self.view_is) (rw (sym c.session.view_is) (rw c.into_pool.ensures c.make_copies.ensures.writes.runs))
