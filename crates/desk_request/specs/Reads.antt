-- What an input asks: all the bytes that come, up to their end.
use Rattle.std.specs.Prelude.{◌≡◌, ◌⊎◌, ℕ, ◌<◌, ◌≤◌, List, [], ◌∷◌, ◌++◌, length, take, map, codes, nat_lt, Option, Some, None, Result, Ok, Err, IfSome}
use Rattle.dasd_pool.specs.Count.{Rose}
use Rattle.httparse.specs.Grammar.{RequestHead}
use Rattle.httparse.specs.Spans.{name_and_value}
use Rattle.desk_head.specs.declared.fault.RequestFault.{RequestFault}
use Rattle.desk_head.specs.declared.fault.RequestFault.TheVariants as faults
use Rattle.desk_head.specs.Head.{HasHead, HasNoHead, WantsHead}
use Rattle.desk_head.specs.Fields.{values_of, IsNumber, number}
use Rattle.desk_route.specs.Asks.{Wish, Judges, IsHeadStatus}
use Rattle.desk_body.specs.Wanted.{Makes}
use Rattle.desk_state.specs.declared.request.Request.{Request}

-- the length that the values of content-length say: none, or one number
abbrev pub IsSaid : List (List ℕ) → Option ℕ → Type 0
IsSaid [] said = said ≡ None
IsSaid (value ∷ []) said = IsNumber value × (said ≡ Some (number value))
IsSaid (value ∷ other ∷ more) said = ⊥

-- the values of a field
abbrev pub said_by : List ℕ → RequestHead → List (List ℕ)
said_by name head = values_of name (map name_and_value head.fields)

-- what a head asks and how long its body is, or the status that refuses it
abbrev pub HeadAsks : RequestHead → Result (Wish × ℕ) ℕ → Type 0
HeadAsks head answer =
    (((said : Option ℕ) → ¬ IsSaid (said_by (codes "content-length") head) said) × (answer ≡ Err 400))
    ⊎ ((said : Option ℕ) × IsSaid (said_by (codes "content-length") head) said
    × Judges head.target head.method said (nat_lt 0 (length (said_by (codes "transfer-encoding") head))) answer)

-- what a body of so many bytes makes of it, or the status 400
abbrev pub BodyAsks : Wish → ℕ → List ℕ → Result Request ℕ → Type 0
BodyAsks wish size rest (Ok request) = (size ≤ length rest) × Makes wish (take size rest) request
BodyAsks wish size rest (Err status) = (status ≡ 400) × ((length rest < size) ⊎ ((request : Request) → ¬ Makes wish (take size rest) request))

-- what is behind a head makes of what it asks
abbrev pub RestAsks : RequestHead → List ℕ → Result Request ℕ → Type 0
RestAsks head rest answer =
    ((status : ℕ) × HeadAsks head (Err status) × (answer ≡ Err status))
    ⊎ ((wish : Wish) × (size : ℕ) × HeadAsks head (Ok (wish, size)) × BodyAsks wish size rest answer)

-- The request that an input is, or the first status that refuses it.
abbrev pub Reads : List ℕ → Result Request ℕ → Type 0
Reads input answer =
    (HasNoHead input × (answer ≡ Err 400))
    ⊎ ((head : RequestHead) × (rest : List ℕ) × HasHead input head rest × RestAsks head rest answer)

-- no whole request stands at the front: its head may come still, or its head is there and its body isn't yet
abbrev pub WantsMore : List ℕ → Type 0
WantsMore input =
    WantsHead input
    ⊎ ((head : RequestHead) × (rest : List ℕ) × (wish : Wish) × (size : ℕ) × HasHead input head rest × HeadAsks head (Ok (wish, size)) × (length rest < size))

-- a request was read of what the other side gives, where the link tells
abbrev pub IsRead : Option (List ℕ) → Request → Type 0
IsRead left request = IfSome left (λ input. Reads input (Ok request))

-- why none was: what the other side gives is refused; the link's count rose; or memory ran out
abbrev pub IsReadFault : Option (List ℕ) → ℕ → ℕ → RequestFault → Type 0
IsReadFault left before now (faults.Status status) = IfSome left (λ input. Reads input (Err status))
IsReadFault left before now faults.Read = Rose before now
IsReadFault left before now faults.NoMemory = Unit {0}

-- a body wasn't received: it ends too early
abbrev pub IsBodyFault : Option (List ℕ) → ℕ → ℕ → List ℕ → ℕ → RequestFault → Type 0
IsBodyFault left before now came size (faults.Status status) = (status ≡ 400) × IfSome left (λ more. length (came ++ more) < size)
IsBodyFault left before now came size faults.Read = Rose before now
IsBodyFault left before now came size faults.NoMemory = Unit {0}

-- a head and a body make no request, or memory ran out
abbrev pub IsMadeFault : Wish → List ℕ → RequestFault → Type 0
IsMadeFault wish body (faults.Status status) = (status ≡ 400) × ((request : Request) → ¬ Makes wish body request)
IsMadeFault wish body faults.Read = ⊥
IsMadeFault wish body faults.NoMemory = Unit {0}

-- a refusal has one of the statuses of a head or a body
abbrev pub IsStatusFault : RequestFault → Type 0
IsStatusFault (faults.Status status) = IsHeadStatus status
IsStatusFault _ = Unit {0}
