use Rattle.std.proofs.Common.{◌≡◌, ◌++◌, ℕ, length, take, drop, refl, sym, ap, subst, ◌∙◌, arith}
use Rattle.std.proofs.lemmas.List.{length-append, length-drop, length-take}
use Rattle.ckd_image.specs.Device.{slot_of}
use Rattle.dasd_pool.specs.Disk.{Shape}
use Rattle.move_core.proofs.Running.{quiet_at_rest, run_quiet}
use Rattle.redo_core.specs.Reading.{journal_of}
use Rattle.unit_steps.specs.Loaded.{AreLoaded, AreVtocsOf}
use Rattle.unit_session.specs.Copies.{HaveTexts, MayCopy, OnCopies}
use Rattle.unit_session.specs.Given.{GivesAt, MayGive, OnGiven}
use Rattle.unit_session.specs.Planned.{IsReady, MayWriteAll, PlannedView}
use Rattle.unit_session.specs.Sessions.{SessionView}
use Rattle.unit_session.proofs.GivenPlans.{none_copied}
use Rattle.unit_session.proofs.GivenDone.{entries_given, given_unused, volumes_given}
use Rattle.unit_session.proofs.Loading.{still_free, still_kept}
use Rattle.unit_session.proofs.planned.Planned.give.Goals as goal

pub invariant_of-result : goal.invariant_of-result
invariant_of-result g c =
    let s = c.session.inside in
    let p = c.self.inside in
    let inv = c.session.invariant in
    let old = s.journal in
    let new = c.write_given.new.journal in
    let writes = c.write_given.ensures.writes in
    let ready : IsReady g.P.Pool (record {
      session = record { pool = s.journal.pool; room = s.journal.room; names = s.names.items; units = s.units.items; vtocs = s.vtocs.items };
      plan = p.plan;
      copies = p.work.copies;
      given = p.work.given;
      rendered = p.work.rendered.items;
      entries = p.work.entries.blocks;
    }) p.work.slot.items p.work.entries.control =
    subst (λ (v : SessionView _). IsReady g.P.Pool (record { session = v; plan = p.plan; copies = p.work.copies; given = p.work.given; rendered = p.work.rendered.items; entries = p.work.entries.blocks })
    p.work.slot.items p.work.entries.control) (sym c.session.view_is) c.self.invariant in
    let place : GivesAt p.work.given c.args.index = subst (λ (v : PlannedView _). GivesAt v.given c.args.index) (sym c.self.view_is) c.requires.place in
    let volumes : g.P.Pool.tells → AreLoaded (g.P.Pool.shape new.pool) (g.P.Pool.disk new.pool).state.contents s.units.items × AreVtocsOf (g.P.Pool.disk new.pool).state.contents s.units.items s.vtocs.items =
    λ told.
    volumes_given g.P.Pool old new s.units.items s.vtocs.items p.plan p.work.given c.args.index inv.2 ready.plan ready.given place writes told (inv.4 told) (inv.5 told) (c.in-Ok.ensures.short told) in (
      still_free writes.status.control writes.status.fills inv.0,
      inv.1 ∙ ap (λ (shape : Shape). journal_of shape) (sym writes.shape),
      inv.2 ∙ ap (λ (shape : Shape). journal_of shape) (sym writes.shape),
      still_kept s.units.items s.vtocs.items writes.shape inv.3,
      λ told. (volumes told).0,
      λ told. (volumes told).1,
      λ told. tt,
    )

pub invariant_of-result-in-Ok : goal.invariant_of-result-in-Ok
invariant_of-result-in-Ok g c =
    let s = c.session.inside in
    let p = c.self.inside in
    let inv = c.session.invariant in
    let old = s.journal in
    let new = c.write_given.new.journal in
    let writes = c.write_given.ensures.writes in
    let ready : IsReady g.P.Pool (record {
      session = record { pool = s.journal.pool; room = s.journal.room; names = s.names.items; units = s.units.items; vtocs = s.vtocs.items };
      plan = p.plan;
      copies = p.work.copies;
      given = p.work.given;
      rendered = p.work.rendered.items;
      entries = p.work.entries.blocks;
    }) p.work.slot.items p.work.entries.control =
    subst (λ (v : SessionView _). IsReady g.P.Pool (record { session = v; plan = p.plan; copies = p.work.copies; given = p.work.given; rendered = p.work.rendered.items; entries = p.work.entries.blocks })
    p.work.slot.items p.work.entries.control) (sym c.session.view_is) c.self.invariant in
    let place : GivesAt p.work.given c.args.index = subst (λ (v : PlannedView _). GivesAt v.given c.args.index) (sym c.self.view_is) c.requires.place in
    let slot = take p.work.slot.len (c.write_given.new.slot ++ drop (length c.write_given.new.slot) p.work.slot.items) in
    let wide : length slot ≡ length p.work.slot.items =
    omega (
      arith,
      p.work.slot.ok.0,
      c.write_given.ensures.size,
      ap length c.deref_mut.ensures.value,
      length-take p.work.slot.len (c.write_given.new.slot ++ drop (length c.write_given.new.slot) p.work.slot.items),
      length-append c.write_given.new.slot (drop (length c.write_given.new.slot) p.work.slot.items),
      length-drop (length c.write_given.new.slot) p.work.slot.items,
    ) in
    record {
      plan = ready.plan;
      copies = ready.copies;
      may = subst (λ (shape : Shape). OnCopies (MayCopy shape) p.work.copies) (sym writes.shape) ready.may;
      size = subst (λ (n : ℕ). OnCopies (λ some. n ≡ slot_of some.device) p.work.copies) (sym wide) ready.size;
      texts = λ told. none_copied s.units.items p.plan.tracks p.plan.changes p.work.copies p.work.given c.args.index (HaveTexts (g.P.Pool.disk new.pool).state.contents) ready.copies ready.given place;
      given = ready.given;
      may_give = subst (λ (shape : Shape). OnGiven (MayGive shape) p.work.given) (sym writes.shape) ready.may_give;
      room = subst (λ (n : ℕ). OnGiven (λ some. n ≡ slot_of some.device) p.work.given) (sym wide) ready.room;
      rendered = ready.rendered;
      entries_are = ready.entries_are;
      entries = entries_given g.P.Pool old new s.units.items s.vtocs.items p.plan p.work.given c.args.index inv.2 ready.plan ready.given place writes p.work.entries.blocks ready.entries;
      writable = subst (λ (shape : Shape). MayWriteAll shape p.plan.changes) (sym writes.shape) ready.writable;
      alone = ready.alone;
    }

pub returns-in-Ok-clause-run : goal.returns-in-Ok-clause-run
returns-in-Ok-clause-run g c =
    let s = c.session.inside in
    let p = c.self.inside in
    let inv = c.session.invariant in
    let writes = c.write_given.ensures.writes in
    let ready : IsReady g.P.Pool (record {
      session = record { pool = s.journal.pool; room = s.journal.room; names = s.names.items; units = s.units.items; vtocs = s.vtocs.items };
      plan = p.plan;
      copies = p.work.copies;
      given = p.work.given;
      rendered = p.work.rendered.items;
      entries = p.work.entries.blocks;
    }) p.work.slot.items p.work.entries.control =
    subst (λ (v : SessionView _). IsReady g.P.Pool (record { session = v; plan = p.plan; copies = p.work.copies; given = p.work.given; rendered = p.work.rendered.items; entries = p.work.entries.blocks })
    p.work.slot.items p.work.entries.control) (sym c.session.view_is) c.self.invariant in
    let place : GivesAt p.work.given c.args.index = subst (λ (v : PlannedView _). GivesAt v.given c.args.index) (sym c.self.view_is) c.requires.place in
    rw (sym c.self.view_is)
    (rw (sym c.session.view_is)
    (run_quiet writes.shape writes.later (λ no. absurd (no (tt {0})))
    (given_unused (g.P.Pool.shape s.journal.pool) (g.P.Pool.disk s.journal.pool).state s.units.items p.plan p.work.given c.args.index ready.plan ready.given place
    (λ told. inv.4 told) inv.0.fit (λ told. quiet_at_rest (c.rests.ensures told) inv.0.idle))
    writes.runs))

pub returns-in-Err-clause-run : goal.returns-in-Err-clause-run
returns-in-Err-clause-run g c =
    let s = c.session.inside in
    let p = c.self.inside in
    let inv = c.session.invariant in
    let writes = c.write_given.ensures.writes in
    let ready : IsReady g.P.Pool (record {
      session = record { pool = s.journal.pool; room = s.journal.room; names = s.names.items; units = s.units.items; vtocs = s.vtocs.items };
      plan = p.plan;
      copies = p.work.copies;
      given = p.work.given;
      rendered = p.work.rendered.items;
      entries = p.work.entries.blocks;
    }) p.work.slot.items p.work.entries.control =
    subst (λ (v : SessionView _). IsReady g.P.Pool (record { session = v; plan = p.plan; copies = p.work.copies; given = p.work.given; rendered = p.work.rendered.items; entries = p.work.entries.blocks })
    p.work.slot.items p.work.entries.control) (sym c.session.view_is) c.self.invariant in
    let place : GivesAt p.work.given c.args.index = subst (λ (v : PlannedView _). GivesAt v.given c.args.index) (sym c.self.view_is) c.requires.place in
    rw (sym c.self.view_is)
    (rw (sym c.session.view_is)
    (rw c.into_pool.ensures
    (run_quiet writes.shape writes.later (λ never. c.in-Err.ensures.cause refl)
    (given_unused (g.P.Pool.shape s.journal.pool) (g.P.Pool.disk s.journal.pool).state s.units.items p.plan p.work.given c.args.index ready.plan ready.given place
    (λ told. inv.4 told) inv.0.fit (λ told. quiet_at_rest (c.rests.ensures told) inv.0.idle))
    writes.runs)))

pub returns-in-Ok-clause-writes : goal.returns-in-Ok-clause-writes
returns-in-Ok-clause-writes g c = rw (sym c.self.view_is) (rw (sym c.session.view_is) c.write_given.ensures.writes.runs)

pub returns-in-Err-clause-writes : goal.returns-in-Err-clause-writes
returns-in-Err-clause-writes g c = rw (sym c.self.view_is) (rw (sym c.session.view_is) (rw c.into_pool.ensures c.write_given.ensures.writes.runs))

pub returns-in-Ok-clause-text : goal.returns-in-Ok-clause-text
returns-in-Ok-clause-text g c = rw (sym c.self.view_is) c.in-Ok.ensures.text
