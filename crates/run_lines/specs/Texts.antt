-- Texts that are read whole, and lines that are written as far as they are taken.
use Rattle.std.specs.Prelude.{◌≡◌, ◌⊎◌, ℕ, ◌<◌, ◌≤◌, List, length, take, Option, IfSome}
use Rattle.dasd_pool.specs.Count.{Rose}
use Rattle.dasd_pool.specs.Stream.{Takes, Appends, AppendsSome}
use Rattle.run_lines.specs.declared.reading.TextFault.{TextFault}
use Rattle.run_lines.specs.declared.reading.TextFault.TheVariants as faults

-- the most bytes of a text
abbrev pub most_bytes : ℕ
most_bytes = 1048576

-- a source had this text to give, where it tells
abbrev pub IsTextOf : Option (List ℕ) → List ℕ → Type 0
IsTextOf left text = IfSome left (λ bytes. bytes ≡ text)

-- at most so many bytes were taken
abbrev pub TakesFew : ℕ → Option (List ℕ) → Option (List ℕ) → Type 0
TakesFew most old new = (bytes : List ℕ) × (length bytes ≤ most) × Takes old new bytes

-- Why a text wasn't read: its source failed, or had more to give than a text may have. Or memory ran out.
abbrev pub IsTextFault : Option (List ℕ) → ℕ → ℕ → TextFault → Type 0
IsTextFault left before now faults.Source = Rose before now
IsTextFault left before now faults.Long = IfSome left (λ bytes. most_bytes < length bytes)
IsTextFault left before now faults.NoMemory = Unit {0}

-- a front of these bytes stands behind what was there, and not all of them
abbrev pub AppendsLess : Option (List ℕ) → Option (List ℕ) → List ℕ → Type 0
AppendsLess before after bytes = (count : ℕ) × (count < length bytes) × Appends before after (take count bytes)

-- bytes were taken, all of them where the count of faults didn't rise
pub record Tells (before after : Option (List ℕ)) (faults_before faults_after : ℕ) (text : List ℕ) : Type 0 where
  pub some : AppendsSome before after text
  pub all : Appends before after text ⊎ Rose faults_before faults_after
