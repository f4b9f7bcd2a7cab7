use Rattle.std.proofs.Common.{ap, ◌*◌, ◌∙◌, ℕ}
use Rattle.free_map.proofs.Ceilings.{ceiling_is}
use Rattle.plan_core.proofs.release.in_cylinders.Goals as goal

pub returns : goal.returns
returns c = ap (λ (n : ℕ). n * c.args.heads) (c.div_ceil.ensures ∙ ceiling_is c.args.count c.args.heads c.requires.some)
