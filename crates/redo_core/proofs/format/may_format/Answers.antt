use Rattle.std.proofs.Common.{◌≡◌, ◌≤◌, ◌+◌, inl, refl, sym, ◌∙◌, subst, arith}
use Rattle.std.proofs.lemmas.Bool.{false≢true}
use Rattle.redo_core.specs.declared.fault.JournalFault.{JournalFault}
use Rattle.redo_core.specs.Reading.{journal_of}
use Rattle.redo_core.specs.Faults.{IsShort, IsFormatFault, MayFormat}
use Rattle.redo_core.proofs.Faulting.{err_weaker, ok_weaker}
use Rattle.redo_core.proofs.FormatFaults.{IsFree, labels_format, short_format, labels_fault_at, labels_are_at, short_at, long_at}
use Rattle.redo_core.proofs.Looking.{looks_then}
use Rattle.redo_core.proofs.format.may_format.Goals as goal

pub returns-then-not-has_head-clause-refused : goal.returns-then-not-has_head-clause-refused
returns-then-not-has_head-clause-refused g c = λ told.
    subst (λ (f : JournalFault). IsFormatFault (g.P.Pool.shape c.args.pool.now) (g.P.Pool.disk c.args.pool.now).state.contents c.args.names.now c.args.room f) (sym c.broken.ensures)
    (inl (refl, λ head. false≢true (c.if-not-has_head.ensures.1 head)))

pub returns-in-Ok-clause-refused : goal.returns-in-Ok-clause-refused
returns-in-Ok-clause-refused g c = λ told.
    let shape = g.P.Pool.shape c.args.pool.now in
    let state = (g.P.Pool.disk c.args.pool.now).state in
    let unit : journal_of shape ≡ c.args.journal = omega (arith, c.requires.last) in
    let free : IsFree shape state.contents = record { head = c.if-not-has_head.ensures.0 refl; free = λ used. false≢true (sym c.if-branch.false ∙ (c.in_ok-is_in_use.ensures.used told).1 used) } in
    let labels = labels_are_at shape (g.P.Pool.shape c.is_in_use.new.pool) state (g.P.Pool.disk c.is_in_use.new.pool).state c.args.names.now c.args.journal c.in_ok-is_in_use.ensures.looks.shape (c.in_ok-is_in_use.ensures.looks.same told) unit (c.in-Ok.ensures.labels told) in
    err_weaker (IsShort (4 + c.args.room) ((g.P.Pool.shape c.check_labels.new.pool).blocks c.args.journal)) (IsFormatFault shape state.contents c.args.names.now c.args.room)
    (λ f short. short_format shape state.contents c.args.names.now c.args.room free labels f
    (short_at shape (g.P.Pool.shape c.check_labels.new.pool) (4 + c.args.room) c.args.journal f (c.in-Ok.ensures.looks.shape ∙ c.in_ok-is_in_use.ensures.looks.shape) unit short))
    c.check_length.result c.check_length.ensures.short

pub returns-in-Err-clause-refused : goal.returns-in-Err-clause-refused
returns-in-Err-clause-refused g c = λ told.
    let shape = g.P.Pool.shape c.args.pool.now in
    let state = (g.P.Pool.disk c.args.pool.now).state in
    let free : IsFree shape state.contents = record { head = c.if-not-has_head.ensures.0 refl; free = λ used. false≢true (sym c.if-branch.false ∙ (c.in_ok-is_in_use.ensures.used told).1 used) } in
    labels_format shape state.contents c.args.names.now c.args.room free c.in-Err.fault
    (labels_fault_at shape (g.P.Pool.shape c.is_in_use.new.pool) state (g.P.Pool.disk c.is_in_use.new.pool).state c.args.names.now c.in-Err.fault c.in_ok-is_in_use.ensures.looks.shape (c.in_ok-is_in_use.ensures.looks.same told) (c.in-Err.ensures.refused told))

pub returns-in-Ok-clause-looks : goal.returns-in-Ok-clause-looks
returns-in-Ok-clause-looks g c = looks_then g.P.Pool _ _ _ c.is_in_use.ensures.looks c.check_labels.ensures.looks

pub returns-in-Err-clause-looks : goal.returns-in-Err-clause-looks
returns-in-Err-clause-looks g c = looks_then g.P.Pool _ _ _ c.is_in_use.ensures.looks c.check_labels.ensures.looks

pub returns-in-Ok-clause-allowed : goal.returns-in-Ok-clause-allowed
returns-in-Ok-clause-allowed g c = λ told.
    let shape = g.P.Pool.shape c.args.pool.now in
    let state = (g.P.Pool.disk c.args.pool.now).state in
    let unit : journal_of shape ≡ c.args.journal = omega (arith, c.requires.last) in
    ok_weaker (4 + c.args.room ≤ (g.P.Pool.shape c.check_labels.new.pool).blocks c.args.journal) (MayFormat shape state.contents c.args.names.now c.args.room) c.check_length.result
    (λ long. record {
      head = c.if-not-has_head.ensures.0 refl;
      unused = λ used. false≢true (sym c.if-branch.false ∙ (c.in_ok-is_in_use.ensures.used told).1 used);
      labels = labels_are_at shape (g.P.Pool.shape c.is_in_use.new.pool) state (g.P.Pool.disk c.is_in_use.new.pool).state c.args.names.now c.args.journal c.in_ok-is_in_use.ensures.looks.shape (c.in_ok-is_in_use.ensures.looks.same told) unit (c.in-Ok.ensures.labels told);
      long = long_at shape (g.P.Pool.shape c.check_labels.new.pool) (4 + c.args.room) c.args.journal (c.in-Ok.ensures.looks.shape ∙ c.in_ok-is_in_use.ensures.looks.shape) unit long;
    })
    c.check_length.ensures.long
