use Rattle.std.proofs.Common.{List, sym, ◌∙◌, subst}
use Rattle.vol_label.specs.declared.serial.Serial.{Serial}
use Rattle.redo_core.specs.declared.target.Target.{Target}
use Rattle.redo_core.specs.Faults.{IsNameFault, IsLabelsFault, LabelsAre}
use Rattle.redo_core.proofs.Heads.{labelled}
use Rattle.redo_core.proofs.Refusals.{who_names, who_labels, names_cause}
use Rattle.redo_core.proofs.opening.check_who.Goals as goal

pub returns-in-Err-clause-refused : goal.returns-in-Err-clause-refused
returns-in-Err-clause-refused g c = λ told.
    who_names (g.P.Pool.shape c.args.pool.now) (labelled (g.P.Pool.shape c.args.pool.now) (g.P.Pool.disk c.args.pool.now).state c.args.journal c.args.found.now.targets.items) c.args.found.now.names.items c.args.names.now c.in-Err.fault
    (subst (λ (l : List Serial). IsNameFault l c.args.names.now c.in-Err.fault) c.deref.ensures.value c.in-Err.ensures.refused)

pub returns-in-Err-clause-cause : goal.returns-in-Err-clause-cause
returns-in-Err-clause-cause g c = λ is. names_cause _ _ _ c.in-Err.fault c.in-Err.ensures.refused is

pub returns-in-Err-check_labels-clause-refused : goal.returns-in-Err-check_labels-clause-refused
returns-in-Err-check_labels-clause-refused g c = λ told.
    let shape = g.P.Pool.shape c.args.pool.now in
    let state = (g.P.Pool.disk c.args.pool.now).state in
    who_labels shape (labelled shape state c.args.journal c.args.found.now.targets.items) c.args.found.now.names.items c.args.names.now (sym c.deref.ensures.value ∙ c.in-Ok.ensures.same) c.in-Err-check_labels.fault
    (subst (λ (l : List Target). IsLabelsFault shape (labelled shape state c.args.journal l) c.args.names.now c.in-Err-check_labels.fault) c.deref-in-Ok.ensures.value (c.in-Err-check_labels.ensures.refused told))

pub returns-in-Ok-check_labels-clause-names : goal.returns-in-Ok-check_labels-clause-names
returns-in-Ok-check_labels-clause-names g c = sym c.deref.ensures.value ∙ c.in-Ok.ensures.same

pub returns-in-Ok-check_labels-clause-labels : goal.returns-in-Ok-check_labels-clause-labels
returns-in-Ok-check_labels-clause-labels g c = λ told.
    let shape = g.P.Pool.shape c.args.pool.now in
    let state = (g.P.Pool.disk c.args.pool.now).state in
    subst (λ (l : List Target). LabelsAre shape (labelled shape state c.args.journal l) c.args.names.now c.args.journal) c.deref-in-Ok.ensures.value (c.in-Ok-check_labels.ensures.labels told)
