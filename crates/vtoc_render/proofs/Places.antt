-- Spots among rows.
use Rattle.std.proofs.Common.{◌≡◌, ℕ, ◌+◌, ◌≤◌, List, length, Bool, true, false, Option, Some, None, refl, arith}
use Rattle.std.specs.Prelude.{if◌then◌else◌}
use Rattle.vtoc_core.specs.declared.volume.Row.{Row}
use Rattle.volume_change.specs.declared.spot.Spot.{Spot}
use Rattle.volume_change.specs.Spot.{behind}
use Rattle.vtoc_render.specs.Steps.{IsSpotFor}

behind_by : (place count : ℕ) (goes : Bool) → place ≤ count → (goes ≡ true → place + 1 ≤ count) → (if goes then place + 1 else place) ≤ count
behind_by place count true within next = next refl
behind_by place count false within next = within

pub behind_within : (rows : List Row) (name : Option (List ℕ)) (spot : Spot) → IsSpotFor rows name spot → behind spot ≤ length rows
behind_within rows None spot is =
    behind_by spot.place (length rows) spot.goes (omega (arith, is.0)) (λ goes. absurd (off (spot.goes) goes is.1))
  where
    off : (b : Bool) → b ≡ true → b ≡ false → ⊥
    off true e f = cc
    off false e f = cc
behind_within rows (Some name) spot is = behind_by spot.place (length rows) spot.goes is.within (λ goes. omega (arith, (is.goes_is.0 goes).0))
