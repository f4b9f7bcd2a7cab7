use Rattle.std.proofs.Common.{◌≡◌, refl, sym, ap, ◌∙◌, subst, arith}
use Rattle.std.proofs.lemmas.Bool.{false≢true}
use Rattle.dasd_pool.specs.Disk.{Shape}
use Rattle.redo_core.specs.declared.fault.JournalFault.{JournalFault}
use Rattle.redo_core.specs.declared.fault.JournalRule.TheVariants as rules
use Rattle.redo_core.specs.Reading.{journal_of, fills_of, Reading}
use Rattle.redo_core.specs.Faults.{IsOpenFault}
use Rattle.redo_core.proofs.Refusals.{rule_open}
use Rattle.redo_core.proofs.opening.find_idle.Goals as goal

pub returns-in-Err-clause-refused : goal.returns-in-Err-clause-refused
returns-in-Err-clause-refused g c = λ told names. rule_open (g.P.Pool.shape c.args.pool.now) (g.P.Pool.disk c.args.pool.now).state.contents names c.in-Err.fault (c.in-Err.ensures.refused told)

pub returns-then-is_busy-clause-refused : goal.returns-then-is_busy-clause-refused
returns-then-is_busy-clause-refused g c = λ told names.
    let shape = g.P.Pool.shape c.args.pool.now in
    let contents = (g.P.Pool.disk c.args.pool.now).state.contents in
    let found = c.in-Ok.found in
    let reading : Reading = record { volumes = contents; names = found.names.items; room = found.room; control = found.control; fills = fills_of found.fills } in
    subst (λ (f : JournalFault). IsOpenFault shape contents names f) (sym c.broken.ensures)
    (rules.Busy, refl, (reading, c.in-Ok.ensures.found told, c.if-is_busy.ensures.0 refl))

pub returns-then-have-need-clause-refused : goal.returns-then-have-need-clause-refused
returns-then-have-need-clause-refused g c = λ told names.
    let shape = g.P.Pool.shape c.args.pool.now in
    let contents = (g.P.Pool.disk c.args.pool.now).state.contents in
    let found = c.in-Ok.found in
    let reading : Reading = record { volumes = contents; names = found.names.items; room = found.room; control = found.control; fills = fills_of found.fills } in
    let unit : c.args.journal ≡ journal_of shape = omega (arith, c.requires.last) in (
      reading,
      record { obeys = c.in-Ok.ensures.found told; idle = λ busy. false≢true (c.if-is_busy.ensures.1 busy) },
      refl,
      c.blocks-have.ensures ∙ ap (λ (s : Shape). s.blocks c.args.journal) c.in-Ok.ensures.looks.shape ∙ ap shape.blocks unit,
      c.if-have-need.true,
    )

pub returns-clause-idle : goal.returns-clause-idle
returns-clause-idle g c = λ told.
    let shape = g.P.Pool.shape c.args.pool.now in
    let contents = (g.P.Pool.disk c.args.pool.now).state.contents in
    let found = c.in-Ok.found in
    let reading : Reading = record { volumes = contents; names = found.names.items; room = found.room; control = found.control; fills = fills_of found.fills } in
    record { obeys = c.in-Ok.ensures.found told; idle = λ busy. false≢true (c.if-is_busy.ensures.1 busy) }
