use Rattle.vtoc_plan.proofs.Holding.{layouts_held}
use Rattle.vtoc_plan.proofs.laws.holding_laws.Goals as goal

pub returns : goal.returns
returns c = record { held = layouts_held }
