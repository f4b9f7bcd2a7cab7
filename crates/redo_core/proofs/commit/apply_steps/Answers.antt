use Rattle.std.proofs.Common.{ap, length}
use Rattle.dasd_pool.specs.Disk.{Runs, is_at}
use Rattle.dasd_pool.proofs.Moments.{runs_then}
use Rattle.redo_core.specs.Format.{is_open}
use Rattle.redo_core.specs.Reading.{among}
use Rattle.redo_core.specs.Phases.{targets, of_body, of_commit}
use Rattle.redo_core.proofs.CommitMoments.{unlisted, body_moments, body_ready, opened_moments, gate_ready, placed_moments, placed_ready, closed_moments, is_done, of_commit_parts}
use Rattle.redo_core.proofs.commit.apply_steps.Goals as goal

pub returns-in_err-set_gate-clause-any_moment : goal.returns-in_err-set_gate-clause-any_moment
returns-in_err-set_gate-clause-any_moment g c = λ told.
    let size = (g.P.Pool.shape c.args.pool.now).block_size in
    let journal = c.args.journal in
    let entries = c.args.entries.now in
    let old = g.P.Pool.disk c.args.pool.now in
    let staged = g.P.Pool.disk c.write_body.new.pool in
    let m1 = body_moments size journal entries old staged (c.requires.shut told) (c.write_body.ensures.runs told) in
    let r1 = body_ready size journal entries old staged c.requires.some (c.write_body.ensures.runs told) (c.in_ok-write_body.ensures.synced told) (c.in_ok-write_body.ensures.body told) in
    let opened = g.P.Pool.disk c.set_gate.new.pool in
    let m2 = opened_moments size journal entries old staged opened m1 r1 (c.set_gate.ensures.runs told) in
    m2

pub returns-in_err-place-clause-any_moment : goal.returns-in_err-place-clause-any_moment
returns-in_err-place-clause-any_moment g c = λ told.
    let size = (g.P.Pool.shape c.args.pool.now).block_size in
    let journal = c.args.journal in
    let entries = c.args.entries.now in
    let old = g.P.Pool.disk c.args.pool.now in
    let staged = g.P.Pool.disk c.write_body.new.pool in
    let m1 = body_moments size journal entries old staged (c.requires.shut told) (c.write_body.ensures.runs told) in
    let r1 = body_ready size journal entries old staged c.requires.some (c.write_body.ensures.runs told) (c.in_ok-write_body.ensures.synced told) (c.in_ok-write_body.ensures.body told) in
    let opened = g.P.Pool.disk c.set_gate.new.pool in
    let m2 = opened_moments size journal entries old staged opened m1 r1 (c.set_gate.ensures.runs told) in
    let r2 = gate_ready size journal entries old.state.contents old.state.contents staged opened r1 (c.set_gate.ensures.runs told) (c.in_ok-set_gate.ensures.synced told) in
    let apart = unlisted _ journal entries c.requires.entries in
    let done = g.P.Pool.disk c.place.new.pool in
    let m3 = placed_moments size journal entries old opened done m2 r2 (ap is_open (c.in_ok-set_gate.ensures.gate told)) apart (c.place.ensures.runs told) in
    m3

pub returns-in_err-place-clause-runs : goal.returns-in_err-place-clause-runs
returns-in_err-place-clause-runs g c = λ told.
    let all = of_commit c.args.journal c.args.entries.now in
    let old = g.P.Pool.disk c.args.pool.now in
    let staged = g.P.Pool.disk c.write_body.new.pool in
    let opened = g.P.Pool.disk c.set_gate.new.pool in
    let done = g.P.Pool.disk c.place.new.pool in
    let parts = of_commit_parts c.args.journal c.args.entries.now in
    let first : Runs all old opened = runs_then all (of_body c.args.journal (length c.args.entries.now)) (is_at c.args.journal 1) old staged opened (λ u b apart. (parts u b apart).0) (λ u b apart. (parts u b apart).1) (c.write_body.ensures.runs told) (c.set_gate.ensures.runs told) in
    let second : Runs all old done = runs_then all all (among (targets c.args.entries.now)) old opened done (λ u b apart. apart) (λ u b apart. (parts u b apart).2) first (c.place.ensures.runs told) in
    second

pub returns-in_err-set_gate-2-clause-any_moment : goal.returns-in_err-set_gate-2-clause-any_moment
returns-in_err-set_gate-2-clause-any_moment g c = λ told.
    let size = (g.P.Pool.shape c.args.pool.now).block_size in
    let journal = c.args.journal in
    let entries = c.args.entries.now in
    let old = g.P.Pool.disk c.args.pool.now in
    let staged = g.P.Pool.disk c.write_body.new.pool in
    let m1 = body_moments size journal entries old staged (c.requires.shut told) (c.write_body.ensures.runs told) in
    let r1 = body_ready size journal entries old staged c.requires.some (c.write_body.ensures.runs told) (c.in_ok-write_body.ensures.synced told) (c.in_ok-write_body.ensures.body told) in
    let opened = g.P.Pool.disk c.set_gate.new.pool in
    let m2 = opened_moments size journal entries old staged opened m1 r1 (c.set_gate.ensures.runs told) in
    let r2 = gate_ready size journal entries old.state.contents old.state.contents staged opened r1 (c.set_gate.ensures.runs told) (c.in_ok-set_gate.ensures.synced told) in
    let apart = unlisted _ journal entries c.requires.entries in
    let done = g.P.Pool.disk c.place.new.pool in
    let m3 = placed_moments size journal entries old opened done m2 r2 (ap is_open (c.in_ok-set_gate.ensures.gate told)) apart (c.place.ensures.runs told) in
    let r3 = placed_ready size journal entries old opened done r2 apart (c.place.ensures.runs told) (c.in_ok-place.ensures.placed told) (c.in_ok-place.ensures.synced told) in
    let closed = g.P.Pool.disk c.set_gate-2.new.pool in
    closed_moments size journal entries old done closed m3 r3 (c.set_gate-2.ensures.runs told)

pub returns-in_err-set_gate-2-clause-runs : goal.returns-in_err-set_gate-2-clause-runs
returns-in_err-set_gate-2-clause-runs g c = λ told.
    let all = of_commit c.args.journal c.args.entries.now in
    let old = g.P.Pool.disk c.args.pool.now in
    let staged = g.P.Pool.disk c.write_body.new.pool in
    let opened = g.P.Pool.disk c.set_gate.new.pool in
    let done = g.P.Pool.disk c.place.new.pool in
    let parts = of_commit_parts c.args.journal c.args.entries.now in
    let first : Runs all old opened = runs_then all (of_body c.args.journal (length c.args.entries.now)) (is_at c.args.journal 1) old staged opened (λ u b apart. (parts u b apart).0) (λ u b apart. (parts u b apart).1) (c.write_body.ensures.runs told) (c.set_gate.ensures.runs told) in
    let second : Runs all old done = runs_then all all (among (targets c.args.entries.now)) old opened done (λ u b apart. apart) (λ u b apart. (parts u b apart).2) first (c.place.ensures.runs told) in
    runs_then all all (is_at c.args.journal 1) old done (g.P.Pool.disk c.set_gate-2.new.pool) (λ u b apart. apart) (λ u b apart. (parts u b apart).1) second (c.set_gate-2.ensures.runs told)

pub returns-clause-any_moment : goal.returns-clause-any_moment
returns-clause-any_moment g c = λ told.
    let size = (g.P.Pool.shape c.args.pool.now).block_size in
    let journal = c.args.journal in
    let entries = c.args.entries.now in
    let old = g.P.Pool.disk c.args.pool.now in
    let staged = g.P.Pool.disk c.write_body.new.pool in
    let m1 = body_moments size journal entries old staged (c.requires.shut told) (c.write_body.ensures.runs told) in
    let r1 = body_ready size journal entries old staged c.requires.some (c.write_body.ensures.runs told) (c.in_ok-write_body.ensures.synced told) (c.in_ok-write_body.ensures.body told) in
    let opened = g.P.Pool.disk c.set_gate.new.pool in
    let m2 = opened_moments size journal entries old staged opened m1 r1 (c.set_gate.ensures.runs told) in
    let r2 = gate_ready size journal entries old.state.contents old.state.contents staged opened r1 (c.set_gate.ensures.runs told) (c.in_ok-set_gate.ensures.synced told) in
    let apart = unlisted _ journal entries c.requires.entries in
    let done = g.P.Pool.disk c.place.new.pool in
    let m3 = placed_moments size journal entries old opened done m2 r2 (ap is_open (c.in_ok-set_gate.ensures.gate told)) apart (c.place.ensures.runs told) in
    let r3 = placed_ready size journal entries old opened done r2 apart (c.place.ensures.runs told) (c.in_ok-place.ensures.placed told) (c.in_ok-place.ensures.synced told) in
    let closed = g.P.Pool.disk c.set_gate-2.new.pool in
    closed_moments size journal entries old done closed m3 r3 (c.set_gate-2.ensures.runs told)

pub returns-clause-runs : goal.returns-clause-runs
returns-clause-runs g c = λ told.
    let all = of_commit c.args.journal c.args.entries.now in
    let old = g.P.Pool.disk c.args.pool.now in
    let staged = g.P.Pool.disk c.write_body.new.pool in
    let opened = g.P.Pool.disk c.set_gate.new.pool in
    let done = g.P.Pool.disk c.place.new.pool in
    let parts = of_commit_parts c.args.journal c.args.entries.now in
    let first : Runs all old opened = runs_then all (of_body c.args.journal (length c.args.entries.now)) (is_at c.args.journal 1) old staged opened (λ u b apart. (parts u b apart).0) (λ u b apart. (parts u b apart).1) (c.write_body.ensures.runs told) (c.set_gate.ensures.runs told) in
    let second : Runs all old done = runs_then all all (among (targets c.args.entries.now)) old opened done (λ u b apart. apart) (λ u b apart. (parts u b apart).2) first (c.place.ensures.runs told) in
    runs_then all all (is_at c.args.journal 1) old done (g.P.Pool.disk c.set_gate-2.new.pool) (λ u b apart. apart) (λ u b apart. (parts u b apart).1) second (c.set_gate-2.ensures.runs told)

pub returns-clause-done : goal.returns-clause-done
returns-clause-done g c = λ told.
    let size = (g.P.Pool.shape c.args.pool.now).block_size in
    let journal = c.args.journal in
    let entries = c.args.entries.now in
    let old = g.P.Pool.disk c.args.pool.now in
    let staged = g.P.Pool.disk c.write_body.new.pool in
    let r1 = body_ready size journal entries old staged c.requires.some (c.write_body.ensures.runs told) (c.in_ok-write_body.ensures.synced told) (c.in_ok-write_body.ensures.body told) in
    let opened = g.P.Pool.disk c.set_gate.new.pool in
    let r2 = gate_ready size journal entries old.state.contents old.state.contents staged opened r1 (c.set_gate.ensures.runs told) (c.in_ok-set_gate.ensures.synced told) in
    let apart = unlisted _ journal entries c.requires.entries in
    let done = g.P.Pool.disk c.place.new.pool in
    let r3 = placed_ready size journal entries old opened done r2 apart (c.place.ensures.runs told) (c.in_ok-place.ensures.placed told) (c.in_ok-place.ensures.synced told) in
    let closed = g.P.Pool.disk c.set_gate-2.new.pool in
    let r4 = gate_ready size journal entries old.state.contents _ done closed r3 (c.set_gate-2.ensures.runs told) (c.in_ok-set_gate-2.ensures.synced told) in
    is_done size journal entries old closed _ r4 (c.in_ok-set_gate-2.ensures.gate told)
