use Rattle.std.proofs.Common.{ℕ, Bool, List, All, Some, sym, ap, subst, ◌∙◌}
use Rattle.std.specs.Prelude.{IsTrue, ◌↔◌}
use Rattle.dasd_pool.specs.Disk.{none}
use Rattle.dasd_pool.proofs.Moments.{runs_start}
use Rattle.vtoc_core.specs.declared.volume.Volume.{Volume}
use Rattle.volume_change.specs.Spot.{AreNamed}
use Rattle.move_core.proofs.Running.{run_idle, run_still}
use Rattle.move_core.specs.Stands.{IsGood, IsSettled}
use Rattle.unit_load.specs.declared.state.UnitState.{UnitState}
use Rattle.unit_steps.specs.Plans.{IsLoadedAt}
use Rattle.unit_session.specs.Texts.{AreTracksAt}
use Rattle.unit_session.proofs.Prepared.{rows_are_named, session_read, session_saw}
use Rattle.unit_session.proofs.Seen.{texts_found}
use Rattle.unit_session.proofs.SetTexts.{texts_told, unit_there, tracks_few, tracks_below}
use Rattle.unit_session.proofs.session.Session.has_texts.Goals as goal

pub tracks_at-requires-clause-named : goal.tracks_at-requires-clause-named
tracks_at-requires-clause-named g c =
    let s = c.self.inside in
    subst (λ (l : List UnitState). (unit : ℕ) (volume : Volume) → IsLoadedAt l unit volume → AreNamed volume.rows) (sym c.deref.ensures.value)
    (rows_are_named s.units.items s.vtocs.items c.self.invariant.2 c.self.invariant.3)

pub returns-in_default-clause-writes : goal.returns-in_default-clause-writes
returns-in_default-clause-writes g c = λ told. runs_start none (g.P.Pool.disk c.args.self.now.pool)

pub returns-in_default-slot_of_size-clause-writes : goal.returns-in_default-slot_of_size-clause-writes
returns-in_default-slot_of_size-clause-writes g c = λ told. runs_start none (g.P.Pool.disk c.args.self.now.pool)

pub returns-in-Ok-true-clause-writes : goal.returns-in-Ok-true-clause-writes
returns-in-Ok-true-clause-writes g c = rw (sym c.self.view_is) c.have_texts.ensures.reads.runs

pub returns-in-Ok-false-clause-writes : goal.returns-in-Ok-false-clause-writes
returns-in-Ok-false-clause-writes g c = rw (sym c.self.view_is) c.have_texts.ensures.reads.runs

pub returns-clause-writes : goal.returns-clause-writes
returns-clause-writes g c = rw (sym c.self.view_is) c.have_texts.ensures.reads.runs

pub returns-in_default-clause-run : goal.returns-in_default-clause-run
returns-in_default-clause-run g c = run_idle tt

pub block_size-requires : goal.block_size-requires
block_size-requires g c =
    let s = c.self.inside in
    let set = c.in-Ok.set in
    let at : AreTracksAt s.units.items c.args.unit c.args.name.now set.device set.tracks.items =
    subst (λ (l : List UnitState). AreTracksAt l c.args.unit c.args.name.now set.device set.tracks.items) c.deref.ensures.value c.in-Ok.ensures in
    unit_there s.units.items s.vtocs.items c.args.unit c.args.name.now set.device set.tracks.items c.self.invariant.2 c.self.invariant.3 at

pub returns-in_default-slot_of_size-clause-run : goal.returns-in_default-slot_of_size-clause-run
returns-in_default-slot_of_size-clause-run g c = run_idle tt

pub have_texts-requires-clause-unit : goal.have_texts-requires-clause-unit
have_texts-requires-clause-unit g c =
    let s = c.self.inside in
    let set = c.in-Ok.set in
    let at : AreTracksAt s.units.items c.args.unit c.args.name.now set.device set.tracks.items =
    subst (λ (l : List UnitState). AreTracksAt l c.args.unit c.args.name.now set.device set.tracks.items) c.deref.ensures.value c.in-Ok.ensures in
    unit_there s.units.items s.vtocs.items c.args.unit c.args.name.now set.device set.tracks.items c.self.invariant.2 c.self.invariant.3 at

pub have_texts-requires-clause-tracks : goal.have_texts-requires-clause-tracks
have_texts-requires-clause-tracks g c =
    let s = c.self.inside in
    let set = c.in-Ok.set in
    let at : AreTracksAt s.units.items c.args.unit c.args.name.now set.device set.tracks.items =
    subst (λ (l : List UnitState). AreTracksAt l c.args.unit c.args.name.now set.device set.tracks.items) c.deref.ensures.value c.in-Ok.ensures in
    tracks_below s.units.items s.vtocs.items c.args.unit c.args.name.now set.device set.tracks.items c.self.invariant.2 c.self.invariant.3 at

pub have_texts-requires-clause-few : goal.have_texts-requires-clause-few
have_texts-requires-clause-few g c =
    let s = c.self.inside in
    let set = c.in-Ok.set in
    let at : AreTracksAt s.units.items c.args.unit c.args.name.now set.device set.tracks.items =
    subst (λ (l : List UnitState). AreTracksAt l c.args.unit c.args.name.now set.device set.tracks.items) c.deref.ensures.value c.in-Ok.ensures in
    tracks_few s.units.items s.vtocs.items c.args.unit c.args.name.now set.device set.tracks.items c.self.invariant.2 c.self.invariant.3 at

pub invariant_of-self : goal.invariant_of-self
invariant_of-self g c =
    let s = c.self.inside in
    let set = c.in-Ok.set in
    let inv = c.self.invariant in
    let at : AreTracksAt s.units.items c.args.unit c.args.name.now set.device set.tracks.items =
    subst (λ (l : List UnitState). AreTracksAt l c.args.unit c.args.name.now set.device set.tracks.items) c.deref.ensures.value c.in-Ok.ensures in
    session_saw g.P.Pool s.journal c.have_texts.new.journal s.names.items s.units.items s.vtocs.items c.have_texts.ensures.reads s.seen (Some (record { unit = c.args.unit; name = c.args.name.now }))
    (λ told.
    texts_found s.units.items s.vtocs.items c.args.unit c.args.name.now set.device set.tracks.items (g.P.Pool.disk s.journal.pool).state.contents inv.2 inv.3 at
    ((c.in-Ok-true.ensures.texts told).0 c.in-Ok-true.field-0-test)) inv

pub invariant_of-self-in-Ok-false : goal.invariant_of-self-in-Ok-false
invariant_of-self-in-Ok-false g c =
    let s = c.self.inside in
    session_read g.P.Pool s.journal c.have_texts.new.journal s.names.items s.units.items s.vtocs.items c.have_texts.ensures.reads s.seen c.self.invariant

pub invariant_of-self-in-Err : goal.invariant_of-self-in-Err
invariant_of-self-in-Err g c =
    let s = c.self.inside in
    session_read g.P.Pool s.journal c.have_texts.new.journal s.names.items s.units.items s.vtocs.items c.have_texts.ensures.reads s.seen c.self.invariant

pub returns-in-Ok-true-clause-texts : goal.returns-in-Ok-true-clause-texts
returns-in-Ok-true-clause-texts g c = λ told facts models volume set same settled there held named.
    let s = c.self.inside in
    let found = c.in-Ok.set in
    let was = c.self.invariant in
    let pool_is = ap (λ view. view.pool) c.self.view_is in
    let at : AreTracksAt s.units.items c.args.unit c.args.name.now found.device found.tracks.items =
    subst (λ (l : List UnitState). AreTracksAt l c.args.unit c.args.name.now found.device found.tracks.items) c.deref.ensures.value c.in-Ok.ensures in
    subst (λ (good : Bool). IsTrue good ↔ All IsGood set.texts) c.in-Ok-true.field-0-test
    (texts_told (same ∙ ap g.P.Pool.shape (sym pool_is)) (subst (λ pool. IsSettled facts (g.P.Pool.disk pool).state models) (sym pool_is) settled) s.units.items c.args.unit c.args.name.now found.device
    found.tracks.items (c.rests.ensures told) was.0 was.2 (was.4 told) at volume set there held named c.in-Ok-true.field-0 (c.in-Ok-true.ensures.texts told))

pub returns-in-Ok-false-clause-texts : goal.returns-in-Ok-false-clause-texts
returns-in-Ok-false-clause-texts g c = λ told facts models volume set same settled there held named.
    let s = c.self.inside in
    let found = c.in-Ok.set in
    let was = c.self.invariant in
    let pool_is = ap (λ view. view.pool) c.self.view_is in
    let at : AreTracksAt s.units.items c.args.unit c.args.name.now found.device found.tracks.items =
    subst (λ (l : List UnitState). AreTracksAt l c.args.unit c.args.name.now found.device found.tracks.items) c.deref.ensures.value c.in-Ok.ensures in
    subst (λ (good : Bool). IsTrue good ↔ All IsGood set.texts) c.in-Ok-false.field-0-test
    (texts_told (same ∙ ap g.P.Pool.shape (sym pool_is)) (subst (λ pool. IsSettled facts (g.P.Pool.disk pool).state models) (sym pool_is) settled) s.units.items c.args.unit c.args.name.now found.device
    found.tracks.items (c.rests.ensures told) was.0 was.2 (was.4 told) at volume set there held named c.in-Ok-false.field-0 (c.in-Ok-false.ensures.texts told))

pub returns-in-Ok-true-clause-run : goal.returns-in-Ok-true-clause-run
returns-in-Ok-true-clause-run g c =
    let reads = c.have_texts.ensures.reads in
    rw (sym c.self.view_is) (run_still reads.shape reads.later (λ not. absurd (not tt)) reads.runs)

pub returns-in-Ok-false-clause-run : goal.returns-in-Ok-false-clause-run
returns-in-Ok-false-clause-run g c =
    let reads = c.have_texts.ensures.reads in
    rw (sym c.self.view_is) (run_still reads.shape reads.later (λ not. absurd (not tt)) reads.runs)

pub returns-clause-run : goal.returns-clause-run
returns-clause-run g c =
    let reads = c.have_texts.ensures.reads in
    rw (sym c.self.view_is) (run_still reads.shape reads.later (λ not. absurd (not tt)) reads.runs)
