use Rattle.std.proofs.lemmas.Result.{err_from_is_err_and}
use Rattle.redo_core.specs.Reading.{journal_of}
use Rattle.job_turns.proofs.Standing.{unknown_refused, offline_refused, indexed_refused, long_refused, all_lets, is_unit_for}
use Rattle.job_turns.proofs.units.unit_for.Goals as goal

pub returns-in_err-unit-clause-refused : goal.returns-in_err-unit-clause-refused
returns-in_err-unit-clause-refused g c =
    let s = c.args.session.now in
    let p = err_from_is_err_and c.from_residual.result c.from_residual.ensures.1 in
    rw (p.1, p.2) (unknown_refused s.names s.room s.units c.args.named c.in_err-unit.field-0.0 c.in_err-unit.ensures.unknown)

pub returns-in_err-volume-clause-refused : goal.returns-in_err-volume-clause-refused
returns-in_err-volume-clause-refused g c =
    let s = c.args.session.now in
    let p = err_from_is_err_and c.from_residual-in_err-volume.result c.from_residual-in_err-volume.ensures.1 in
    rw (p.1, p.2)
    (offline_refused s.names s.room s.units c.args.named c.in_ok-unit.unit c.in_ok-unit.ensures.found c.in_err-volume.field-0.0
    c.in_err-volume.ensures.offline)

pub returns-in_err-has_no_index-clause-refused : goal.returns-in_err-has_no_index-clause-refused
returns-in_err-has_no_index-clause-refused g c =
    let s = c.args.session.now in
    let p = err_from_is_err_and c.from_residual-in_err-has_no_index.result c.from_residual-in_err-has_no_index.ensures.1 in
    rw (p.1, p.2)
    (indexed_refused s.names s.room s.units c.args.named c.in_ok-unit.unit c.in_ok-unit.ensures.found c.in_ok-volume.volume.now
    c.in_ok-volume.ensures.loaded c.in_err-has_no_index.field-0.0 c.in_err-has_no_index.ensures.indexed)

pub returns-in_err-has_short_vtoc-clause-refused : goal.returns-in_err-has_short_vtoc-clause-refused
returns-in_err-has_short_vtoc-clause-refused g c =
    let s = c.args.session.now in
    let p = err_from_is_err_and c.from_residual-in_err-has_short_vtoc.result c.from_residual-in_err-has_short_vtoc.ensures.1 in
    rw (p.1, p.2)
    (long_refused s.names s.room s.units c.args.named c.in_ok-unit.unit c.in_ok-unit.ensures.found c.in_ok-volume.volume.now
    c.in_ok-volume.ensures.loaded c.in_ok-has_no_index.ensures.plain c.in_err-has_short_vtoc.field-0.0
    (rw c.room.ensures.value at c.in_err-has_short_vtoc.ensures.long))

pub returns-clause-unit : goal.returns-clause-unit
returns-clause-unit g c =
    let s = c.args.session.now in
    is_unit_for s.names s.units c.args.named c.in_ok-unit.unit c.in_ok-unit.ensures.found c.in_ok-volume.volume.now c.in_ok-volume.ensures.loaded
    (journal_of (g.P.Pool.shape s.pool)) s.room c.in_ok-unit.ensures.there c.in_ok-has_no_index.ensures.plain
    (rw c.room.ensures.value at c.in_ok-has_short_vtoc.ensures.short)

pub returns-clause-lets : goal.returns-clause-lets
returns-clause-lets g c =
    let s = c.args.session.now in
    all_lets s.names s.room s.units c.args.named c.in_ok-unit.unit c.in_ok-unit.ensures.found c.in_ok-volume.volume.now c.in_ok-volume.ensures.loaded
    c.in_ok-has_no_index.ensures.plain (rw c.room.ensures.value at c.in_ok-has_short_vtoc.ensures.short)
