use Rattle.std.proofs.Common.{rules}
use Rattle.job_select.proofs.KeptFields.{managed_as}
use Rattle.job_select.proofs.judged.is_managed.Goals as goal

pub returns-then-f1-ne0 : goal.returns-then-f1-ne0
returns-then-f1-ne0 c = managed_as c.args.f1.now c.told-f1 (search rules)

pub returns-else-f1-ne0 : goal.returns-else-f1-ne0
returns-else-f1-ne0 c = managed_as c.args.f1.now c.told-f1 (search rules)
