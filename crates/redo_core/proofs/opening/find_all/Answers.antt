use Rattle.std.proofs.Common.{◌∙◌, sym}
use Rattle.redo_core.specs.declared.fault.JournalRule.TheVariants as rules
use Rattle.redo_core.specs.Faults.{zeroed}
use Rattle.redo_core.proofs.Faulting.{fails_rule, body_at, control_at}
use Rattle.redo_core.proofs.Looking.{looks_then}
use Rattle.redo_core.proofs.opening.find_all.Goals as goal

pub returns-in-Err-find_body-clause-refused : goal.returns-in-Err-find_body-clause-refused
returns-in-Err-find_body-clause-refused g c = λ told.
    let shape = g.P.Pool.shape c.args.pool.now in
    let state = (g.P.Pool.disk c.args.pool.now).state in
    let first = c.in-Ok.ensures in
    fails_rule shape (zeroed shape state.contents) rules.Body _
    (λ broken. (
      c.in-Ok.registration.room,
      record { head = first.head; names = c.in-Ok.registration.names.items; registration = first.found told },
      λ has. broken (body_at c.in-Ok.registration.room (g.P.Pool.shape c.find_registration.new.pool) shape (g.P.Pool.disk c.find_registration.new.pool).state state first.looks.shape (first.looks.same told) has),
    ))
    _ (c.in-Err-find_body.ensures.refused told)

pub returns-in-Ok-find_control-clause-looks : goal.returns-in-Ok-find_control-clause-looks
returns-in-Ok-find_control-clause-looks g c =
    looks_then g.P.Pool _ _ _ (looks_then g.P.Pool _ _ _ c.find_registration.ensures.looks c.find_body.ensures.looks) c.find_control.ensures.looks

pub returns-in-Err-find_control-clause-refused : goal.returns-in-Err-find_control-clause-refused
returns-in-Err-find_control-clause-refused g c = λ told.
    let shape = g.P.Pool.shape c.args.pool.now in
    let state = (g.P.Pool.disk c.args.pool.now).state in
    let first = c.in-Ok.ensures in
    let second = c.in-Ok-find_body.ensures in
    fails_rule shape (zeroed shape state.contents) rules.Control _
    (λ broken. (
      c.in-Ok.registration.room,
      record { head = first.head; names = c.in-Ok.registration.names.items; registration = first.found told },
      body_at c.in-Ok.registration.room shape (g.P.Pool.shape c.find_registration.new.pool) state (g.P.Pool.disk c.find_registration.new.pool).state (sym first.looks.shape) (sym (first.looks.same told)) (second.lawful told),
      λ has. broken (control_at (g.P.Pool.shape c.find_body.new.pool) shape (g.P.Pool.disk c.find_body.new.pool).state state (second.looks.shape ∙ first.looks.shape) (second.looks.same told ∙ first.looks.same told) has),
    ))
    _ (c.in-Err-find_control.ensures.refused told)
