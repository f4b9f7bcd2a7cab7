use Rattle.std.proofs.lemmas.Bool.{false≢true}
use Rattle.ckd_image.specs.Device.{heads_of}
use Rattle.job_select.proofs.Picks.{none_so, none_taken}
use Rattle.job_select.proofs.selection.name_taken.Goals as goal

pub returns-in_err-name-clause-none : goal.returns-in_err-name-clause-none
returns-in_err-name-clause-none c =
    none_so c.from_residual.result (none_taken (heads_of c.args.volume.now.device) c.args.row.now c.args.filter.now c.args.today c.in_err-name.ensures.none)

pub returns-then-not-takes-clause-none : goal.returns-then-not-takes-clause-none
returns-then-not-takes-clause-none c set is taken = false≢true ((c.if-not-takes.ensures set is).1 taken)

pub returns-clause-taken : goal.returns-clause-taken
returns-clause-taken c set is = (c.takes.ensures set is).0 c.if-not-takes.false
