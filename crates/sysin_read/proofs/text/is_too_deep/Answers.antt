use Rattle.sysin_read.specs.Reading.{open_in}
use Rattle.sysin_read.specs.Why.{IsTooDeep}
use Rattle.sysin_read.proofs.Taking.{no_lead, not_too_deep, not_true}
use Rattle.sysin_read.proofs.text.is_too_deep.Goals as goal

pub returns-in_default-2 : goal.returns-in_default-2
returns-in_default-2 c = (
  not_true (IsTooDeep (open_in c.args.outline.now) c.args.placed.now),
  not_too_deep (open_in c.args.outline.now) c.args.placed.now (no_lead c.lead_in.result c.args.placed.now c.in_default.is c.lead_in.ensures.none),
)
