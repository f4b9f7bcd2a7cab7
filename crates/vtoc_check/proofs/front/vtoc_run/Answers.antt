use Rattle.std.proofs.Common.{sym}
use Rattle.std.proofs.lemmas.Result.{err_from_is_err_and}
use Rattle.vtoc_check.specs.Front.{IsFrontBreach}
use Rattle.vtoc_check.proofs.FrontRules.{told_weaker, same_breach}
use Rattle.vtoc_check.proofs.front.vtoc_run.Goals as goal

pub returns-in_err-bytes-clause-fault : goal.returns-in_err-bytes-clause-fault
returns-in_err-bytes-clause-fault c =
    let p = err_from_is_err_and c.from_residual.result c.from_residual.ensures.1 in
    rw (p.1, p.2) (λ slots e.
    told_weaker (IsFrontBreach c.args.head (λ _. c.args.slot.now) c.args.label.now.vtoc) (IsFrontBreach c.args.head slots c.args.label.now.vtoc)
    (λ told h. same_breach c.args.head (λ _. c.args.slot.now) slots c.args.label.now.vtoc told (sym e) h) c.in_err-bytes.field-0.0 c.in_err-bytes.ensures.fault)
