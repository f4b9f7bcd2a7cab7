use Rattle.std.proofs.Common.{ℕ, ◌≡◌, ◌-◌, refl, ap, ◌∙◌, arith}
use Rattle.std.specs.Prelude.{replicate}
use Rattle.redo_core.specs.Format.{wide}
use Rattle.dasd_pool.specs.Disk.{Runs, is_at, none}
use Rattle.dasd_pool.proofs.Moments.{runs_then}
use Rattle.redo_core.specs.Steps.{of_status}
use Rattle.redo_core.proofs.Crash.{other_block}
use Rattle.redo_core.proofs.Making.{two_blocks}
use Rattle.redo_core.proofs.format.clear_status.Goals as goal

sized : {n : ℕ} → n ≡ wide → n - 0 ≡ wide
sized is = omega (arith, is)

pub returns-in_err-write-2-clause-runs : goal.returns-in_err-write-2-clause-runs
returns-in_err-write-2-clause-runs g c = λ told.
    let all = of_status c.args.journal in
    let old = g.P.Pool.disk c.args.pool.now in
    let mid = g.P.Pool.disk c.write.new.self in
    let next = g.P.Pool.disk c.write-2.new.self in
    let both : Runs all old next = runs_then all (is_at c.args.journal 1) (is_at c.args.journal 2) old mid next (λ u b apart. (two_blocks c.args.journal u b apart).0) (λ u b apart. (two_blocks c.args.journal u b apart).1) (c.write.ensures.runs told) (c.write-2.ensures.runs told) in
    both

pub returns-in_err-sync-clause-runs : goal.returns-in_err-sync-clause-runs
returns-in_err-sync-clause-runs g c = λ told.
    let all = of_status c.args.journal in
    let old = g.P.Pool.disk c.args.pool.now in
    let mid = g.P.Pool.disk c.write.new.self in
    let next = g.P.Pool.disk c.write-2.new.self in
    let both : Runs all old next = runs_then all (is_at c.args.journal 1) (is_at c.args.journal 2) old mid next (λ u b apart. (two_blocks c.args.journal u b apart).0) (λ u b apart. (two_blocks c.args.journal u b apart).1) (c.write.ensures.runs told) (c.write-2.ensures.runs told) in
    runs_then all all none old next (g.P.Pool.disk c.sync.new.self) (λ u b apart. apart) (λ u b apart. refl) both (c.sync.ensures.runs told)

pub returns-clause-runs : goal.returns-clause-runs
returns-clause-runs g c = λ told.
    let all = of_status c.args.journal in
    let old = g.P.Pool.disk c.args.pool.now in
    let mid = g.P.Pool.disk c.write.new.self in
    let next = g.P.Pool.disk c.write-2.new.self in
    let both : Runs all old next = runs_then all (is_at c.args.journal 1) (is_at c.args.journal 2) old mid next (λ u b apart. (two_blocks c.args.journal u b apart).0) (λ u b apart. (two_blocks c.args.journal u b apart).1) (c.write.ensures.runs told) (c.write-2.ensures.runs told) in
    runs_then all all none old next (g.P.Pool.disk c.sync.new.self) (λ u b apart. apart) (λ u b apart. refl) both (c.sync.ensures.runs told)

pub returns-clause-gate : goal.returns-clause-gate
returns-clause-gate g c = λ told.
    (c.sync.ensures.runs told).touches.contents c.args.journal 1 refl
    ∙ (c.write-2.ensures.runs told).touches.contents c.args.journal 1 (other_block c.args.journal 2 c.args.journal 1 (λ same. omega arith))
    ∙ c.in_ok-write.ensures.written told ∙ c.fill.ensures ∙ ap (λ (n : ℕ). replicate n 0) (sized c.requires.size)

pub returns-clause-control : goal.returns-clause-control
returns-clause-control g c = λ told. (c.sync.ensures.runs told).touches.contents c.args.journal 2 refl ∙ c.in_ok-write-2.ensures.written told ∙ c.fill.ensures ∙ ap (λ (n : ℕ). replicate n 0) (sized c.requires.size)
