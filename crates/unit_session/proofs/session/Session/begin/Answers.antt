use Rattle.std.proofs.Common.{List, length, inl, refl, sym, ap, ◌∙◌}
use Rattle.dasd_pool.specs.Count.{Rose}
use Rattle.dasd_pool.specs.Disk.{Shape}
use Rattle.vol_label.specs.declared.serial.Serial.{Serial}
use Rattle.redo_core.specs.Reading.{journal_of}
use Rattle.move_core.proofs.Running.{finished_at_rest, run_less, run_opened, run_refused, run_still, run_then}
use Rattle.standing_units.proofs.Standing.{opened_stands, settled_at}
use Rattle.unit_session.specs.Sessions.{HasOnlyFills}
use Rattle.unit_session.proofs.Beginning.{pool_cause, opened_reads, stood_settled}
use Rattle.unit_session.proofs.Loading.{still_free, still_rest, still_loaded, still_kept, still_vtocs}
use Rattle.unit_session.proofs.Modelling.{models_at}
use Rattle.unit_session.proofs.Registered.{registered}
use Rattle.unit_session.proofs.session.Session.begin.Goals as goal
use Rattle.dasd_pool.proofs.Streams.{rose_since}

pub returns-in-Err-clause-run : goal.returns-in-Err-clause-run
returns-in-Err-clause-run g c =
    let stop = c.in-Err.stop in
    let does = c.in-Err.ensures in
    run_refused does.shape does.faults does.any_moment (pool_cause stop.cause (Rose (g.P.Pool.faults c.args.pool) (g.P.Pool.faults stop.pool)) does.cause)
    (λ told end. (does.unwritten told end).touches) does.runs

pub invariant_of-result : goal.invariant_of-result
invariant_of-result g c =
    let does = c.in-Ok.ensures in
    let reads = c.loaded.ensures.reads in
    let found = c.in-Ok-loaded.ensures in
    let volumes = ap (λ (s : Shape). journal_of s) (sym reads.shape) in
    let free : HasOnlyFills c.in-Ok.journal.control c.in-Ok.journal.fills c.in-Ok-loaded.found.units.items = record { idle = does.idle; fit = found.fills } in (
      still_free reads.status.control reads.status.fills free,
      ap (λ (l : List Serial). length l) found.names ∙ c.requires.each ∙ ap (λ (s : Shape). journal_of s) (sym does.shape) ∙ volumes,
      found.count ∙ volumes,
      still_kept c.in-Ok-loaded.found.units.items c.in-Ok-loaded.found.vtocs.items reads.shape found.kept,
      λ told. still_loaded c.in-Ok-loaded.found.units.items reads.shape (reads.same told) (found.loaded told),
      λ told. still_vtocs c.in-Ok-loaded.found.units.items c.in-Ok-loaded.found.vtocs.items (reads.same told) (found.slots told),
      λ told. tt,
    )

pub returns-in-Ok-loaded-clause-run : goal.returns-in-Ok-loaded-clause-run
returns-in-Ok-loaded-clause-run g c =
    let does = c.in-Ok.ensures in
    let reads = c.loaded.ensures.reads in
    run_then (run_opened does.shape does.faults does.any_moment (tt {0}) does.opened does.runs) (tt {0}) (run_still reads.shape reads.later (λ not. absurd (not tt)) reads.runs)

pub returns-in-Ok-loaded-clause-units : goal.returns-in-Ok-loaded-clause-units
returns-in-Ok-loaded-clause-units g c told facts models same settled =
    let does = c.in-Ok.ensures in
    let reads = c.loaded.ensures.reads in
    let found = c.in-Ok-loaded.ensures in
    let units = c.in-Ok-loaded.found.units.items in
    let free : HasOnlyFills c.in-Ok.journal.control c.in-Ok.journal.fills units = record { idle = does.idle; fit = found.fills } in
    models_at same settled units
    (still_rest reads.shape (reads.same told) (still_rest does.shape refl (does.rest told)))
    free
    (found.count ∙ ap (λ (s : Shape). journal_of s) (sym reads.shape))
    (still_loaded units reads.shape (reads.same told) (found.loaded told))

pub returns-in-Ok-loaded-clause-vtocs : goal.returns-in-Ok-loaded-clause-vtocs
returns-in-Ok-loaded-clause-vtocs g c told =
    still_vtocs c.in-Ok-loaded.found.units.items c.in-Ok-loaded.found.vtocs.items (c.loaded.ensures.reads.same told) (c.in-Ok-loaded.ensures.slots told)

pub returns-in-Ok-loaded-clause-facts : goal.returns-in-Ok-loaded-clause-facts
returns-in-Ok-loaded-clause-facts g c told facts models same settled =
    let does = c.in-Ok.ensures in
    let reads = c.loaded.ensures.reads in
    registered (does.opened told) (reads.shape ∙ does.shape) (reads.same told) c.in-Ok-loaded.ensures.names reads.status.room same settled

pub returns-in-Ok-loaded-clause-closed : goal.returns-in-Ok-loaded-clause-closed
returns-in-Ok-loaded-clause-closed g c told =
    let does = c.in-Ok.ensures in
    let reads = c.loaded.ensures.reads in
    finished_at_rest (still_rest reads.shape (reads.same told) (still_rest does.shape refl (does.rest told))) does.idle

pub returns-in-Ok-loaded-clause-runs : goal.returns-in-Ok-loaded-clause-runs
returns-in-Ok-loaded-clause-runs g c told = opened_reads (c.in-Ok.ensures.runs told) (c.loaded.ensures.reads.runs told)

pub returns-in-Err-loaded-clause-run : goal.returns-in-Err-loaded-clause-run
returns-in-Err-loaded-clause-run g c =
    let does = c.in-Ok.ensures in
    let reads = c.loaded.ensures.reads in
    let cause = c.in-Err-loaded.cause in
    let before = g.P.Pool.faults c.args.pool in
    let mid = g.P.Pool.faults c.in-Ok.journal.pool in
    let after = g.P.Pool.faults c.loaded.new.journal.pool in
    let opens = run_opened does.shape does.faults does.any_moment (tt {0}) does.opened does.runs in
    rw (c.into_pool.ensures)
    (run_less (λ other. tt)
    (pool_cause cause (Rose before after) (λ is. rose_since before mid after does.faults (c.in-Err-loaded.ensures.cause is)))
    (run_then opens (tt {0}) (run_still reads.shape reads.later (λ not. absurd (not (tt {0}))) reads.runs)))

pub returns-in-Err-loaded-clause-runs : goal.returns-in-Err-loaded-clause-runs
returns-in-Err-loaded-clause-runs g c told = rw (c.into_pool.ensures) (opened_reads (c.in-Ok.ensures.runs told) (c.loaded.ensures.reads.runs told))

pub returns-in-Err-loaded-clause-careful : goal.returns-in-Err-loaded-clause-careful
returns-in-Err-loaded-clause-careful g c told = inl (c.in-Ok.ensures.allowed told)

pub returns-in-Ok-loaded-clause-settled : goal.returns-in-Ok-loaded-clause-settled
returns-in-Ok-loaded-clause-settled g c told =
    let does = c.in-Ok.ensures in
    let reads = c.loaded.ensures.reads in
    settled_at (reads.shape ∙ does.shape) (reads.same told) (opened_stands _ _ _ _ _ _ _ (does.allowed told) (does.opened told))

pub returns-in-Ok-loaded-clause-stands : goal.returns-in-Ok-loaded-clause-stands
returns-in-Ok-loaded-clause-stands g c told facts models same stood = stood_settled same (c.loaded.ensures.reads.same told) (c.in-Ok.ensures.opened told) stood
