-- What records of any size take of a track.
use Rattle.std.proofs.Common.{ℕ, ◌<◌, ◌≤◌, inl, inr, arith}
use Rattle.std.proofs.lemmas.Bool.{cases_eq}
use Rattle.std.proofs.lemmas.Bool.Decides.{nat_tests}
use Rattle.ckd_image.specs.declared.device.Device.{Device}
use Rattle.ckd_image.specs.declared.device.Device.TheVariants.{D3390, D3380, D3350}
use Rattle.ckd_image.specs.Device.{cost_of}
use Rattle.org_reloc.specs.Filling.{least_cost, LeaveRoom}

-- no record takes less than the shortest
pub at_least : (device : Device) (k l : ℕ) → least_cost device ≤ cost_of device k l
at_least D3390 k l = elim (cases_eq k 0) [ inl e ↦ grind (arith, nat_tests) | inr e ↦ grind (arith, nat_tests) ]
at_least D3380 k l = elim (cases_eq k 0) [ inl e ↦ grind (arith, nat_tests) | inr e ↦ grind (arith, nat_tests) ]
at_least D3350 k l = elim (cases_eq k 0) [ inl e ↦ grind (arith, nat_tests) | inr e ↦ grind (arith, nat_tests) ]

-- a track has far fewer records than a byte can number
pub few_of : (device : Device) (n room : ℕ) → LeaveRoom device n room → n < 255
few_of D3390 n room h = omega (arith, h)
few_of D3380 n room h = omega (arith, h)
few_of D3350 n room h = omega (arith, h)
