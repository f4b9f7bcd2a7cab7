use Rattle.vol_label.proofs.OneLabel.{no_label}
use Rattle.dump_read.proofs.labelled.label_on.Goals as goal

pub returns-in-Err-clause-none : goal.returns-in-Err-clause-none
returns-in-Err-clause-none c = no_label c.args.head c.args.track.now.recs c.in-Err.field-0 c.in-Err.ensures.refused
