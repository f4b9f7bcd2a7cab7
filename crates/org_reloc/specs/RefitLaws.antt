-- What holds of refits whatever makes them.
use Rattle.std.specs.Prelude.{◌≡◌, ◌≢◌, ℕ, ◌≤◌, List, length}
use Rattle.ckd_image.specs.declared.device.Device.{Device}
use Rattle.ckd_image.specs.declared.track.Track.{Track}
use Rattle.org_reloc.specs.declared.refit.Refit.{Refit}
use Rattle.org_reloc.specs.declared.fault.RelocFault.{RelocFault}
use Rattle.org_reloc.specs.declared.fault.RelocFault.TheVariants.{NoMemory}
use Rattle.org_reloc.specs.Sequential.{IsRefit, IsRefusal}
use Rattle.org_reloc.specs.Partitioned.{IsPartitionedRefit, IsPartitionedRefusal}

-- a sequential data set has one refit to a device at most
abbrev pub OneSequentialRefit : Type 0
OneSequentialRefit = (device : Device) (tracks : List Track) (last : List ℕ) (a b : Refit) → IsRefit device tracks last a → IsRefit device tracks last b → a ≡ b

-- where it has one of no more tracks than a data set may have, it is refused for want of memory alone
abbrev pub SequentialRefitIsNotRefused : Type 0
SequentialRefitIsNotRefused = (device : Device) (tracks : List Track) (last : List ℕ) (refit : Refit) (refusal : RelocFault) → IsRefit device tracks last refit → length refit.tracks ≤ 65535
    → IsRefusal device tracks last refusal → refusal ≡ NoMemory

-- it has one refusal at most for a cause of its own
abbrev pub OneSequentialRefusal : Type 0
OneSequentialRefusal = (device : Device) (tracks : List Track) (last : List ℕ) (a b : RelocFault) → a ≢ NoMemory → b ≢ NoMemory → IsRefusal device tracks last a → IsRefusal device tracks last b → a ≡ b

-- a partitioned data set has one refit to a device at most
abbrev pub OnePartitionedRefit : Type 0
OnePartitionedRefit = (device : Device) (tracks : List Track) (a b : Refit) → IsPartitionedRefit device tracks a → IsPartitionedRefit device tracks b → a ≡ b

-- where it has one of no more tracks than a data set may have, it is refused for want of memory alone
abbrev pub PartitionedRefitIsNotRefused : Type 0
PartitionedRefitIsNotRefused = (device : Device) (tracks : List Track) (refit : Refit) (refusal : RelocFault) → IsPartitionedRefit device tracks refit → length refit.tracks ≤ 65535
    → IsPartitionedRefusal device tracks refusal → refusal ≡ NoMemory

-- it has one refusal at most for a cause of its own
abbrev pub OnePartitionedRefusal : Type 0
OnePartitionedRefusal = (device : Device) (tracks : List Track) (a b : RelocFault) → a ≢ NoMemory → b ≢ NoMemory → IsPartitionedRefusal device tracks a → IsPartitionedRefusal device tracks b → a ≡ b
