use Rattle.sysin_words.specs.declared.lead.Lead.TheVariants as leads
use Rattle.sysin_read.specs.Why.{IsTooMany}
use Rattle.sysin_read.proofs.Taking.{no_lead, not_true}
use Rattle.sysin_read.proofs.text.is_too_many.Goals as goal

pub returns-in_default-2 : goal.returns-in_default-2
returns-in_default-2 c = (
  not_true (IsTooMany c.args.commands c.args.placed.now),
  λ m. absurd (no_lead c.lead_in.result c.args.placed.now c.in_default.is c.lead_in.ensures.none (leads.Command m.0.0) m.0.1),
)
