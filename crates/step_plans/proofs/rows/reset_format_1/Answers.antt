use Rattle.std.proofs.Common.{arith}
use Rattle.std.proofs.lemmas.List.{take-set-le}
use Rattle.step_plans.proofs.Fields.{fields_reset}
use Rattle.step_plans.proofs.rows.reset_format_1.Goals as goal

pub returns-clause-front : goal.returns-clause-front
returns-clause-front c = take-set-le 59 c.args.f1.now 93 _ (omega arith)

pub returns-clause-fields : goal.returns-clause-fields
returns-clause-fields c = fields_reset c.args.f1.now c.told-f1
