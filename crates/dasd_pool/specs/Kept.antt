-- The calls that are kept, up to a number of them.
use Rattle.std.specs.Prelude.{◌≡◌, ℕ, ◌<◌, ◌≤◌, ◌+◌, Bool, List, [], ◌∷◌, ◌++◌, length, nat_lt, if◌then◌else◌, Vec, vec_capacity, All}
use Rattle.std.specs.declared.alloc.Global.{Global}
use Rattle.dasd_pool.specs.declared.calls.Call.{Call}
use Rattle.dasd_pool.specs.declared.calls.Call.TheVariants.{Write}

-- the calls so far, how many are kept at most, and how many bytes a write may have
pub record KeptView : Type 0 where
  pub calls : List Call
  pub keep : ℕ
  pub width : ℕ

-- one call more is kept where there is room
abbrev pub with_call : ℕ → List Call → Call → List Call
with_call keep calls call = if nat_lt (length calls) keep then calls ++ call ∷ [] else calls

-- a call is such a write
abbrev pub IsWrite : ℕ → ℕ → List ℕ → Bool → Call → Type 0
IsWrite unit block bytes failed call = (kept : Vec ℕ Global) × (kept.items ≡ bytes) × (call ≡ Write unit block kept failed)

-- a write more is kept where there is room
abbrev pub WithWrite : ℕ → List Call → List Call → ℕ → ℕ → List ℕ → Bool → Type 0
WithWrite keep calls later unit block bytes failed =
    (call : Call) × (later ≡ with_call keep calls call) × (length calls < keep → IsWrite unit block bytes failed call)

-- an empty buffer for so many bytes
abbrev pub IsSpare : ℕ → Vec ℕ Global → Type 0
IsSpare width buffer = (buffer.items ≡ []) × (width ≤ vec_capacity buffer)

-- there is memory for each call that will be kept, and for the bytes of a write in it
pub record HasRoom (keep width : ℕ) (calls : Vec Call Global) (spare : Vec (Vec ℕ Global) Global) : Type 0 where
  pub room : keep ≤ vec_capacity calls
  pub most : length calls.items ≤ keep
  pub buffers : keep ≤ length calls.items + length spare.items
  pub ready : All (IsSpare width) spare.items
