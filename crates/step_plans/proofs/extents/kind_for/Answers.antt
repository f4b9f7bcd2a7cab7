use Rattle.std.proofs.Common.{refl}
use Rattle.std.proofs.lemmas.Bool.{false≢true}
use Rattle.step_plans.proofs.Places.{of_cylinders, of_tracks}
use Rattle.step_plans.proofs.extents.kind_for.Goals as goal

pub returns-then-is_by_cylinders : goal.returns-then-is_by_cylinders
returns-then-is_by_cylinders c device = of_cylinders device c.args.extents.now (c.if-is_by_cylinders.ensures.0 refl)

pub returns-else-is_by_cylinders : goal.returns-else-is_by_cylinders
returns-else-is_by_cylinders c device = of_tracks device c.args.extents.now (λ by. false≢true (c.if-is_by_cylinders.ensures.1 by))
