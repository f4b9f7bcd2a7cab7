-- What holds of the faults of dumps, whoever finds them.
use Rattle.std.specs.Prelude.{◌≡◌, ◌≢◌, ◌⊎◌, ℕ, ◌≤◌, List, All, Some}
use Rattle.dump_fmt.specs.declared.fault.DumpFault.{DumpFault}
use Rattle.dump_fmt.specs.declared.fault.DumpFault.TheVariants.{Reel, NoMemory}
use Rattle.dump_fmt.specs.declared.piece.DumpHead.{DumpHead}
use Rattle.dump_fmt.specs.Front.{Front}
use Rattle.dump_fmt.specs.Text.{IsDumpText}
use Rattle.dump_read.specs.Faults.{IsDumpFault}

-- nothing is wrong with bytes that are a dump
abbrev pub NothingIsWrong : Type 0
NothingIsWrong = (whole : List ℕ) (head : DumpHead) (front : Front) (fault : DumpFault) → IsDumpText whole head front → All (λ b. b ≤ 255) whole → IsDumpFault (Some whole) fault → (fault ≡ Reel) ⊎ (fault ≡ NoMemory)

-- it says something of what the reel holds
abbrev pub IsOfBytes : DumpFault → Type 0
IsOfBytes fault = (fault ≢ Reel) × (fault ≢ NoMemory)

-- and with what is no dump, one thing
abbrev pub OneIsWrong : Type 0
OneIsWrong = (whole : List ℕ) (one other : DumpFault) → IsDumpFault (Some whole) one → IsDumpFault (Some whole) other → IsOfBytes one → IsOfBytes other → one ≡ other
