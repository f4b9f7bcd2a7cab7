use Rattle.std.proofs.Common.{◌≡◌, ℕ, ◌*◌, ◌-◌, ◌/◌, ap, ◌∙◌}
use Rattle.free_map.specs.Place.{rounded}
use Rattle.free_map.proofs.Ceilings.{ceiling_is}
use Rattle.free_map.proofs.places.aligned.Goals as goal

pub returns : goal.returns
returns c =
    let step : ℕ = c.args.step in
    let first : c.div_ceil.result * step ≡ rounded c.args.run.first step =
    ap (λ (n : ℕ). n * step) (c.div_ceil.ensures ∙ ceiling_is c.args.run.first step c.requires.some) in
    λ i. record { first = first i; len = (c.saturating_sub.ensures ∙ (λ j. c.end.ensures j / step * step - first j)) i }
