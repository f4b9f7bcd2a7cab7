use Rattle.std.proofs.lemmas.Result.{err_from_is_err_and}
use Rattle.redo_core.specs.Reading.{journal_of}
use Rattle.job_turns.proofs.Standing.{is_unit_for}
use Rattle.job_turns.proofs.TwoUnits.{first_unknown, second_unknown, first_offline, second_offline, first_indexed, second_indexed, first_long, second_long, both_let}
use Rattle.job_turns.proofs.units.units_for.Goals as goal

pub returns-in_err-from-clause-refused : goal.returns-in_err-from-clause-refused
returns-in_err-from-clause-refused g c =
    let s = c.args.session.now in
    let p = err_from_is_err_and c.from_residual.result c.from_residual.ensures.1 in
    rw (p.1, p.2) (first_unknown s.names s.room s.units c.args.one c.args.other c.in_err-from.field-0.0 c.in_err-from.ensures.unknown)

pub returns-in_err-to-clause-refused : goal.returns-in_err-to-clause-refused
returns-in_err-to-clause-refused g c =
    let s = c.args.session.now in
    let p = err_from_is_err_and c.from_residual-in_err-to.result c.from_residual-in_err-to.ensures.1 in
    rw (p.1, p.2)
    (second_unknown s.names s.room s.units c.args.one c.args.other c.in_ok-from.from c.in_ok-from.ensures.found c.in_err-to.field-0.0
    c.in_err-to.ensures.unknown)

pub returns-in_err-source-clause-refused : goal.returns-in_err-source-clause-refused
returns-in_err-source-clause-refused g c =
    let s = c.args.session.now in
    let p = err_from_is_err_and c.from_residual-in_err-source.result c.from_residual-in_err-source.ensures.1 in
    rw (p.1, p.2)
    (first_offline s.names s.room s.units c.args.one c.args.other c.in_ok-from.from c.in_ok-from.ensures.found c.in_ok-to.to c.in_ok-to.ensures.found
    c.in_err-source.field-0.0 c.in_err-source.ensures.offline)

pub returns-in_err-target-clause-refused : goal.returns-in_err-target-clause-refused
returns-in_err-target-clause-refused g c =
    let s = c.args.session.now in
    let p = err_from_is_err_and c.from_residual-in_err-target.result c.from_residual-in_err-target.ensures.1 in
    rw (p.1, p.2)
    (second_offline s.names s.room s.units c.args.one c.args.other c.in_ok-from.from c.in_ok-from.ensures.found c.in_ok-to.to c.in_ok-to.ensures.found
    c.in_ok-source.source.now c.in_ok-source.ensures.loaded c.in_err-target.field-0.0 c.in_err-target.ensures.offline)

pub returns-in_err-has_no_index-clause-refused : goal.returns-in_err-has_no_index-clause-refused
returns-in_err-has_no_index-clause-refused g c =
    let s = c.args.session.now in
    let p = err_from_is_err_and c.from_residual-in_err-has_no_index.result c.from_residual-in_err-has_no_index.ensures.1 in
    rw (p.1, p.2)
    (first_indexed s.names s.room s.units c.args.one c.args.other c.in_ok-from.from c.in_ok-from.ensures.found c.in_ok-to.to c.in_ok-to.ensures.found
    c.in_ok-source.source.now c.in_ok-source.ensures.loaded c.in_ok-target.target.now c.in_ok-target.ensures.loaded c.in_err-has_no_index.field-0.0
    c.in_err-has_no_index.ensures.indexed)

pub returns-in_err-has_no_index-2-clause-refused : goal.returns-in_err-has_no_index-2-clause-refused
returns-in_err-has_no_index-2-clause-refused g c =
    let s = c.args.session.now in
    let p = err_from_is_err_and c.from_residual-in_err-has_no_index-2.result c.from_residual-in_err-has_no_index-2.ensures.1 in
    rw (p.1, p.2)
    (second_indexed s.names s.room s.units c.args.one c.args.other c.in_ok-from.from c.in_ok-from.ensures.found c.in_ok-to.to c.in_ok-to.ensures.found
    c.in_ok-source.source.now c.in_ok-source.ensures.loaded c.in_ok-target.target.now c.in_ok-target.ensures.loaded c.in_ok-has_no_index.ensures.plain
    c.in_err-has_no_index-2.field-0.0 c.in_err-has_no_index-2.ensures.indexed)

pub returns-in_err-has_short_vtoc-clause-refused : goal.returns-in_err-has_short_vtoc-clause-refused
returns-in_err-has_short_vtoc-clause-refused g c =
    let s = c.args.session.now in
    let p = err_from_is_err_and c.from_residual-in_err-has_short_vtoc.result c.from_residual-in_err-has_short_vtoc.ensures.1 in
    rw (p.1, p.2)
    (first_long s.names s.room s.units c.args.one c.args.other c.in_ok-from.from c.in_ok-from.ensures.found c.in_ok-to.to c.in_ok-to.ensures.found
    c.in_ok-source.source.now c.in_ok-source.ensures.loaded c.in_ok-target.target.now c.in_ok-target.ensures.loaded c.in_ok-has_no_index.ensures.plain
    c.in_ok-has_no_index-2.ensures.plain c.in_err-has_short_vtoc.field-0.0 (rw c.room-room.ensures.value at c.in_err-has_short_vtoc.ensures.long))

pub returns-in_err-has_short_vtoc-2-clause-refused : goal.returns-in_err-has_short_vtoc-2-clause-refused
returns-in_err-has_short_vtoc-2-clause-refused g c =
    let s = c.args.session.now in
    let p = err_from_is_err_and c.from_residual-in_err-has_short_vtoc-2.result c.from_residual-in_err-has_short_vtoc-2.ensures.1 in
    rw (p.1, p.2)
    (second_long s.names s.room s.units c.args.one c.args.other c.in_ok-from.from c.in_ok-from.ensures.found c.in_ok-to.to c.in_ok-to.ensures.found
    c.in_ok-source.source.now c.in_ok-source.ensures.loaded c.in_ok-target.target.now c.in_ok-target.ensures.loaded c.in_ok-has_no_index.ensures.plain
    c.in_ok-has_no_index-2.ensures.plain (rw c.room-room.ensures.value at c.in_ok-has_short_vtoc.ensures.short) c.in_err-has_short_vtoc-2.field-0.0
    (rw c.room-room.ensures.value at c.in_err-has_short_vtoc-2.ensures.long))

pub returns-clause-first : goal.returns-clause-first
returns-clause-first g c =
    let s = c.args.session.now in
    is_unit_for s.names s.units c.args.one c.in_ok-from.from c.in_ok-from.ensures.found c.in_ok-source.source.now c.in_ok-source.ensures.loaded
    (journal_of (g.P.Pool.shape s.pool)) s.room c.in_ok-from.ensures.there c.in_ok-has_no_index.ensures.plain
    (rw c.room-room.ensures.value at c.in_ok-has_short_vtoc.ensures.short)

pub returns-clause-second : goal.returns-clause-second
returns-clause-second g c =
    let s = c.args.session.now in
    is_unit_for s.names s.units c.args.other c.in_ok-to.to c.in_ok-to.ensures.found c.in_ok-target.target.now c.in_ok-target.ensures.loaded
    (journal_of (g.P.Pool.shape s.pool)) s.room c.in_ok-to.ensures.there c.in_ok-has_no_index-2.ensures.plain
    (rw c.room-room.ensures.value at c.in_ok-has_short_vtoc-2.ensures.short)

pub returns-clause-lets : goal.returns-clause-lets
returns-clause-lets g c =
    let s = c.args.session.now in
    both_let s.names s.room s.units c.args.one c.args.other c.in_ok-from.from c.in_ok-from.ensures.found c.in_ok-to.to c.in_ok-to.ensures.found
    c.in_ok-source.source.now c.in_ok-source.ensures.loaded c.in_ok-target.target.now c.in_ok-target.ensures.loaded c.in_ok-has_no_index.ensures.plain
    c.in_ok-has_no_index-2.ensures.plain (rw c.room-room.ensures.value at c.in_ok-has_short_vtoc.ensures.short)
    (rw c.room-room.ensures.value at c.in_ok-has_short_vtoc-2.ensures.short)
