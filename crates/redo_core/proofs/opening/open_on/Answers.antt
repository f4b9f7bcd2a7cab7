use Rattle.std.proofs.Common.{ℕ, ◌≡◌, List, length, inl, inr, refl, sym, ap, subst, arith}
use Rattle.std.specs.Prelude.{All}
use Rattle.dasd_pool.specs.Disk.{Image, Shape, LeavesOnly}
use Rattle.redo_core.specs.declared.target.Target.{Target}
use Rattle.redo_core.specs.Reading.{journal_of, IsTarget}
use Rattle.redo_core.specs.Opening.{ReadsSame}
use Rattle.redo_core.specs.Steps.{IsJournal, HasTargets, HoldsSame}
use Rattle.redo_core.proofs.Openings.{look_moments, open_moments, opened_well, rests_well, redone_at}
use Rattle.redo_core.proofs.Written.{opening_runs}
use Rattle.redo_core.proofs.opening.open_on.Goals as goal

pub finish-requires-clause-has : goal.finish-requires-clause-has
finish-requires-clause-has g c = λ told.
    let shape = g.P.Pool.shape c.args.pool.now in
    let old = g.P.Pool.disk c.args.pool.now in
    let mid = g.P.Pool.disk c.look.new.pool in
    let same : mid.state.contents ≡ old.state.contents = λ i u b. (c.look.ensures.runs told).touches.contents u b refl i in
    let unit : journal_of shape ≡ c.args.journal = omega (arith, c.requires.last) in
    let list = c.in-Ok.found.targets.items in
    subst (λ (l : List Target). HasTargets c.args.journal mid.state.contents l) (sym c.deref.ensures.value)
    (subst (λ (x : Image). HasTargets c.args.journal x list) (sym same) (subst (λ (j : ℕ). HasTargets j old.state.contents list) unit (c.in-Ok.ensures.targets told)))

pub finish-requires-clause-journal : goal.finish-requires-clause-journal
finish-requires-clause-journal g c =
    let is = c.in-Ok.ensures.journal in
    subst (λ (s : Shape). IsJournal s c.args.journal (length c.deref.result.now)) (sym c.in-Ok.ensures.shape) (record {
      last = is.last;
      volumes = is.volumes;
      width = is.width;
      blocks = omega (arith, is.blocks, c.in-Ok.ensures.few, ap length c.deref.ensures.value);
      few = omega (arith, is.few, c.in-Ok.ensures.few, ap length c.deref.ensures.value);
    })

pub finish-requires-clause-targets : goal.finish-requires-clause-targets
finish-requires-clause-targets g c =
    subst (λ (l : List Target). All (IsTarget (g.P.Pool.shape c.look.new.pool) c.args.journal) l) (sym c.deref.ensures.value)
    (subst (λ (s : Shape). All (IsTarget s c.args.journal) c.in-Ok.found.targets.items) (sym c.in-Ok.ensures.shape) c.in-Ok.ensures.there)

pub returns-in-Err-clause-any_moment : goal.returns-in-Err-clause-any_moment
returns-in-Err-clause-any_moment g c = λ told.
    let old = g.P.Pool.disk c.args.pool.now in
    look_moments old (g.P.Pool.disk c.look.new.pool) (ReadsSame (g.P.Pool.shape c.args.pool.now) old.state) (c.look.ensures.runs told)

pub returns-in-Ok-finish-clause-any_moment : goal.returns-in-Ok-finish-clause-any_moment
returns-in-Ok-finish-clause-any_moment g c = λ told.
    let shape = g.P.Pool.shape c.args.pool.now in
    let old = g.P.Pool.disk c.args.pool.now in
    let mid = g.P.Pool.disk c.look.new.pool in
    let same : mid.state.contents ≡ old.state.contents = λ i u b. (c.look.ensures.runs told).touches.contents u b refl i in
    let unit : journal_of shape ≡ c.args.journal = omega (arith, c.requires.last) in
    let new = g.P.Pool.disk c.finish.new.pool in
    open_moments shape c.args.journal old mid new unit (c.look.ensures.runs told)
    (subst (λ (s : Shape). LeavesOnly mid new (HoldsSame s.block_size c.args.journal mid.state.contents)) c.in-Ok.ensures.shape (c.finish.ensures.any_moment told))

pub returns-in-Err-finish-clause-any_moment : goal.returns-in-Err-finish-clause-any_moment
returns-in-Err-finish-clause-any_moment g c = λ told.
    let shape = g.P.Pool.shape c.args.pool.now in
    let old = g.P.Pool.disk c.args.pool.now in
    let mid = g.P.Pool.disk c.look.new.pool in
    let same : mid.state.contents ≡ old.state.contents = λ i u b. (c.look.ensures.runs told).touches.contents u b refl i in
    let unit : journal_of shape ≡ c.args.journal = omega (arith, c.requires.last) in
    let new = g.P.Pool.disk c.finish.new.pool in
    open_moments shape c.args.journal old mid new unit (c.look.ensures.runs told)
    (subst (λ (s : Shape). LeavesOnly mid new (HoldsSame s.block_size c.args.journal mid.state.contents)) c.in-Ok.ensures.shape (c.finish.ensures.any_moment told))

pub returns-in-Ok-finish-clause-rest : goal.returns-in-Ok-finish-clause-rest
returns-in-Ok-finish-clause-rest g c = λ told.
    let shape = g.P.Pool.shape c.args.pool.now in
    let old = g.P.Pool.disk c.args.pool.now in
    let mid = g.P.Pool.disk c.look.new.pool in
    let same : mid.state.contents ≡ old.state.contents = λ i u b. (c.look.ensures.runs told).touches.contents u b refl i in
    let unit : journal_of shape ≡ c.args.journal = omega (arith, c.requires.last) in
    let f = c.in-Ok.found in
    let new = (g.P.Pool.disk c.finish.new.pool).state in
    rests_well shape old.state new c.args.names.now f.room f.control f.fills (c.in-Ok.ensures.reads told)
    (redone_at shape (g.P.Pool.shape c.look.new.pool) c.args.journal mid.state.contents old.state.contents new c.in-Ok.ensures.shape unit same (c.in-Ok-finish.ensures.redone told))

pub returns-in-Ok-finish-clause-opened : goal.returns-in-Ok-finish-clause-opened
returns-in-Ok-finish-clause-opened g c = λ told.
    let shape = g.P.Pool.shape c.args.pool.now in
    let old = g.P.Pool.disk c.args.pool.now in
    let mid = g.P.Pool.disk c.look.new.pool in
    let same : mid.state.contents ≡ old.state.contents = λ i u b. (c.look.ensures.runs told).touches.contents u b refl i in
    let unit : journal_of shape ≡ c.args.journal = omega (arith, c.requires.last) in
    let f = c.in-Ok.found in
    let new = (g.P.Pool.disk c.finish.new.pool).state in
    opened_well shape old.state new c.args.names.now f.room f.control f.fills (c.in-Ok.ensures.reads told)
    (redone_at shape (g.P.Pool.shape c.look.new.pool) c.args.journal mid.state.contents old.state.contents new c.in-Ok.ensures.shape unit same (c.in-Ok-finish.ensures.redone told))

pub returns-in-Err-clause-unwritten : goal.returns-in-Err-clause-unwritten
returns-in-Err-clause-unwritten g c = λ told other. c.look.ensures.runs told

pub returns-in-Ok-finish-clause-runs : goal.returns-in-Ok-finish-clause-runs
returns-in-Ok-finish-clause-runs g c = λ told.
    opening_runs c.args.journal (g.P.Pool.disk c.args.pool.now) (g.P.Pool.disk c.look.new.pool) (g.P.Pool.disk c.finish.new.pool) (c.look.ensures.runs told) (c.finish.ensures.runs told)

pub returns-in-Err-finish-clause-runs : goal.returns-in-Err-finish-clause-runs
returns-in-Err-finish-clause-runs g c = λ told.
    opening_runs c.args.journal (g.P.Pool.disk c.args.pool.now) (g.P.Pool.disk c.look.new.pool) (g.P.Pool.disk c.finish.new.pool) (c.look.ensures.runs told) (c.finish.ensures.runs told)

pub returns-in-Err-clause-careful : goal.returns-in-Err-clause-careful
returns-in-Err-clause-careful g c = λ told. inr (c.look.ensures.runs told)

pub returns-in-Err-finish-clause-careful : goal.returns-in-Err-finish-clause-careful
returns-in-Err-finish-clause-careful g c = λ told. inl (c.in-Ok.ensures.allowed told)
