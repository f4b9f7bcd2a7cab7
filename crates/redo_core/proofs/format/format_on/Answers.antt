use Rattle.std.proofs.Common.{◌≡◌, refl, inl, inr, arith}
use Rattle.dasd_pool.specs.Disk.{Runs, none}
use Rattle.dasd_pool.proofs.Moments.{runs_start, runs_then}
use Rattle.redo_core.specs.Reading.{journal_of}
use Rattle.redo_core.specs.Steps.{of_making}
use Rattle.redo_core.proofs.Formatted.{is_formatted, volumes_spared}
use Rattle.redo_core.proofs.Making.{left_after}
use Rattle.redo_core.proofs.format.format_on.Goals as goal

pub returns-in-Ok-write_journal-clause-formatted : goal.returns-in-Ok-write_journal-clause-formatted
returns-in-Ok-write_journal-clause-formatted g c = λ told.
    let shape = g.P.Pool.shape c.args.pool.now in
    let all = of_making c.args.journal in
    let old = g.P.Pool.disk c.args.pool.now in
    let new = g.P.Pool.disk c.write_journal.new.pool in
    let unit : journal_of shape ≡ c.args.journal = omega (arith, c.requires.last) in
    let run : Runs all old new = runs_then all none all old (g.P.Pool.disk c.may_format.new.pool) new (λ u b apart. refl) (λ u b apart. apart) (c.may_format.ensures.looks.runs told) (c.write_journal.ensures.runs told) in
    let e = c.in-Ok-write_journal.ensures in
    is_formatted shape c.args.journal c.args.names.now c.args.room old new unit c.in-Ok.ensures.head c.requires.names c.requires.least c.requires.most c.in-Ok.ensures.long
    (e.registration told) (e.gate told) (e.control told) (e.synced told) run

pub returns-in-Ok-write_journal-clause-any_moment : goal.returns-in-Ok-write_journal-clause-any_moment
returns-in-Ok-write_journal-clause-any_moment g c = λ told.
    let shape = g.P.Pool.shape c.args.pool.now in
    let all = of_making c.args.journal in
    let old = g.P.Pool.disk c.args.pool.now in
    let new = g.P.Pool.disk c.write_journal.new.pool in
    volumes_spared shape c.args.journal old new (omega (arith, c.requires.last))
    (runs_then all none all old (g.P.Pool.disk c.may_format.new.pool) new (λ u b apart. refl) (λ u b apart. apart) (c.may_format.ensures.looks.runs told) (c.write_journal.ensures.runs told))

pub returns-in-Err-write_journal-clause-any_moment : goal.returns-in-Err-write_journal-clause-any_moment
returns-in-Err-write_journal-clause-any_moment g c = λ told.
    let shape = g.P.Pool.shape c.args.pool.now in
    let all = of_making c.args.journal in
    let old = g.P.Pool.disk c.args.pool.now in
    let new = g.P.Pool.disk c.write_journal.new.pool in
    volumes_spared shape c.args.journal old new (omega (arith, c.requires.last))
    (runs_then all none all old (g.P.Pool.disk c.may_format.new.pool) new (λ u b apart. refl) (λ u b apart. apart) (c.may_format.ensures.looks.runs told) (c.write_journal.ensures.runs told))

pub returns-in-Ok-write_journal-clause-left : goal.returns-in-Ok-write_journal-clause-left
returns-in-Ok-write_journal-clause-left g c = λ told.
    left_after (g.P.Pool.shape c.args.pool.now) (g.P.Pool.shape c.may_format.new.pool) (g.P.Pool.disk c.args.pool.now) (g.P.Pool.disk c.may_format.new.pool) (g.P.Pool.disk c.write_journal.new.pool)
    c.in-Ok.ensures.looks.shape (c.in-Ok.ensures.looks.same told) (c.may_format.ensures.looks.runs told) (c.write_journal.ensures.left told)

pub returns-in-Err-write_journal-clause-left : goal.returns-in-Err-write_journal-clause-left
returns-in-Err-write_journal-clause-left g c = λ told.
    left_after (g.P.Pool.shape c.args.pool.now) (g.P.Pool.shape c.may_format.new.pool) (g.P.Pool.disk c.args.pool.now) (g.P.Pool.disk c.may_format.new.pool) (g.P.Pool.disk c.write_journal.new.pool)
    c.in-Ok.ensures.looks.shape (c.in-Ok.ensures.looks.same told) (c.may_format.ensures.looks.runs told) (c.write_journal.ensures.left told)

pub returns-in-Ok-write_journal-clause-careful : goal.returns-in-Ok-write_journal-clause-careful
returns-in-Ok-write_journal-clause-careful g c = λ told. tt

pub returns-in-Err-write_journal-clause-careful : goal.returns-in-Err-write_journal-clause-careful
returns-in-Err-write_journal-clause-careful g c = λ told. inl (c.in-Ok.ensures.allowed told)

pub returns-in-Err-clause-careful : goal.returns-in-Err-clause-careful
returns-in-Err-clause-careful g c = λ told. inr (c.may_format.ensures.looks.runs told)

pub returns-in-Ok-write_journal-clause-runs : goal.returns-in-Ok-write_journal-clause-runs
returns-in-Ok-write_journal-clause-runs g c = λ told.
    let all = of_making c.args.journal in
    runs_then all none all (g.P.Pool.disk c.args.pool.now) (g.P.Pool.disk c.may_format.new.pool) (g.P.Pool.disk c.write_journal.new.pool) (λ u b apart. refl) (λ u b apart. apart)
    (c.may_format.ensures.looks.runs told) (c.write_journal.ensures.runs told)

pub returns-in-Err-write_journal-clause-runs : goal.returns-in-Err-write_journal-clause-runs
returns-in-Err-write_journal-clause-runs g c = λ told.
    let all = of_making c.args.journal in
    runs_then all none all (g.P.Pool.disk c.args.pool.now) (g.P.Pool.disk c.may_format.new.pool) (g.P.Pool.disk c.write_journal.new.pool) (λ u b apart. refl) (λ u b apart. apart)
    (c.may_format.ensures.looks.runs told) (c.write_journal.ensures.runs told)

pub returns-in-Err-clause-runs : goal.returns-in-Err-clause-runs
returns-in-Err-clause-runs g c = λ told.
    let all = of_making c.args.journal in
    let new = g.P.Pool.disk c.may_format.new.pool in
    runs_then all none all (g.P.Pool.disk c.args.pool.now) new new (λ u b apart. refl) (λ u b apart. apart) (c.may_format.ensures.looks.runs told) (runs_start all new)
