-- What holds of each device.
use Rattle.std.proofs.Common.{◌≡◌, ℕ, ◌≤◌, List, refl, arith}
use Rattle.ckd_image.specs.declared.device.Device.{Device}
use Rattle.ckd_image.specs.declared.device.Device.TheVariants.{D3390, D3380, D3350}
use Rattle.ckd_image.specs.Address.{address_of, IsAddress}
use Rattle.ckd_image.specs.Device.{heads_of, slot_of}
use Rattle.ckd_image.specs.Head.{NamesDevice}

pub is_address : (device : Device) (track : ℕ) → track ≤ 65535 → IsAddress (address_of (heads_of device) track)
is_address D3390 track small = (omega (arith, small), omega (arith, small))
is_address D3380 track small = (omega (arith, small), omega (arith, small))
is_address D3350 track small = (omega (arith, small), omega (arith, small))

pub short_slot : (device : Device) → slot_of device ≤ 65536
short_slot D3390 = omega arith
short_slot D3380 = omega arith
short_slot D3350 = omega arith

pub shorter_slot : (device : Device) → slot_of device ≤ 65535
shorter_slot D3390 = omega arith
shorter_slot D3380 = omega arith
shorter_slot D3350 = omega arith

-- a head names one device
pub one_device : (head : List ℕ) (one other : Device) → NamesDevice one head → NamesDevice other head → one ≡ other
one_device head D3390 D3390 a b = refl
one_device head D3380 D3380 a b = refl
one_device head D3350 D3350 a b = refl
one_device head D3390 D3380 a b = absurd (omega (arith, a, b))
one_device head D3390 D3350 a b = absurd (omega (arith, a, b))
one_device head D3380 D3390 a b = absurd (omega (arith, a, b))
one_device head D3380 D3350 a b = absurd (omega (arith, a, b))
one_device head D3350 D3390 a b = absurd (omega (arith, a, b))
one_device head D3350 D3380 a b = absurd (omega (arith, a, b))
