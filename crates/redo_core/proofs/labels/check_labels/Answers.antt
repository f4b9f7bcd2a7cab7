use Rattle.std.proofs.Common.{[], subst, arith}
use Rattle.std.specs.Prelude.{Option, IfSome}
use Rattle.std.proofs.lemmas.Option.{slice_get-get_or}
use Rattle.vol_label.specs.declared.serial.Serial.{Serial}
use Rattle.redo_core.specs.Faults.{HasLabel}
use Rattle.redo_core.proofs.Heads.{labelled, only_at, found_at, labels_more}
use Rattle.redo_core.proofs.Looking.{looks_then}
use Rattle.redo_core.proofs.labels.check_labels.Goals as goal

pub loop-unit-preserved : goal.loop-unit-preserved
loop-unit-preserved g c =
    let inv = c.loop-unit.invariant in
    let shape = g.P.Pool.shape c.args.pool.now in
    let state = (g.P.Pool.disk c.args.pool.now).state in
    record {
      looks = looks_then g.P.Pool _ _ _ inv.looks c.unit_label.ensures.looks;
      labels = λ told. labels_more shape (labelled shape state c.args.journal c.args.targets.now) c.args.names.now c.loop-unit.unit _ c.in-Ok.found (inv.labels told)
          (slice_get-get_or c.args.names.now c.loop-unit.unit (record { text = [] }) (omega (arith, c.loop-unit-test.true, c.requires.names)))
          (only_at shape (g.P.Pool.shape c.loop-unit.pool) state (g.P.Pool.disk c.loop-unit.pool).state c.args.journal c.loop-unit.unit c.args.targets.now c.in-Ok.found inv.looks.shape (inv.looks.same told) (c.in-Ok.ensures.only told))
          c.in_default.ensures.none;
    }

pub returns-in-Some-clause-refused : goal.returns-in-Some-clause-refused
returns-in-Some-clause-refused g c = λ told.
    let inv = c.loop-unit.invariant in
    let shape = g.P.Pool.shape c.args.pool.now in
    let state = (g.P.Pool.disk c.args.pool.now).state in
    record {
      within = omega (arith, c.loop-unit-test.true, c.requires.last);
      before = inv.labels told;
      kept_is = slice_get-get_or c.args.names.now c.loop-unit.unit (record { text = [] }) (omega (arith, c.loop-unit-test.true, c.requires.names));
      found_is = found_at shape (g.P.Pool.shape c.loop-unit.pool) state (g.P.Pool.disk c.loop-unit.pool).state c.args.journal c.loop-unit.unit c.args.targets.now c.in-Some.serial inv.looks.shape (inv.looks.same told)
          (subst (λ (o : Option Serial). IfSome o (HasLabel (g.P.Pool.shape c.loop-unit.pool) (labelled (g.P.Pool.shape c.loop-unit.pool) (g.P.Pool.disk c.loop-unit.pool).state c.args.journal c.args.targets.now) c.loop-unit.unit)) c.in-Some.ensures.found.0 (c.in-Ok.ensures.found told));
      other = c.in-Some.ensures.found.1;
    }

pub returns-in-Some-clause-looks : goal.returns-in-Some-clause-looks
returns-in-Some-clause-looks g c = looks_then g.P.Pool _ _ _ c.loop-unit.invariant.looks c.unit_label.ensures.looks

pub returns-clause-labels : goal.returns-clause-labels
returns-clause-labels g c = λ told u serial less has. c.loop-unit.invariant.labels told u serial (omega (arith, less, c.loop-unit-test.false)) has
