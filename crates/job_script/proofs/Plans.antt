-- Plans whose commands are all built, and how long one may go on.
use Rattle.std.proofs.Common.{◌≡◌, ℕ, ◌+◌, ◌<◌, ◌≤◌, Bool, true, false, cond, Option, Some, None, sym, ap, subst, arith}
use Rattle.std.specs.Borrow.{Bor}
use Rattle.std.proofs.lemmas.Option.{none-some}
use Rattle.sysin_lang.specs.declared.command.Statement.{Statement}
use Rattle.sysin_lang.specs.Flow.{Codes, Plan, Done, Run, Set, Choose, Next, Command, End, code_of, with_code, compares, next_of}
use Rattle.sysin_lang.specs.Script.{Gives}
use Rattle.job_ops.specs.Meaning.{IsBuilt}
use Rattle.job_script.specs.Built.{AreBuilt}

-- the most commands on a way through a plan
abbrev pub most : Plan → ℕ
most Done = 0
most (Run statement rest) = 1 + most rest
most (Set which code rest) = most rest
most (Choose which op code first second) = most first + most second

-- what comes next is built and so is all behind it
abbrev pub IsBuiltNext : Next → Type 0
IsBuiltNext (Command statement rest codes) = IsBuilt statement.command × AreBuilt rest
IsBuiltNext (End codes) = Unit {0}

built_if : (b : Bool) (one other : Next) → IsBuiltNext one → IsBuiltNext other → IsBuiltNext (cond b one other)
built_if true one other p q = p
built_if false one other p q = q

built_next : (plan : Plan) (codes : Codes) → AreBuilt plan → IsBuiltNext (next_of plan codes)
built_next Done codes built = tt
built_next (Run statement rest) codes built = built
built_next (Set which code rest) codes built = built_next rest (with_code which code codes) built
built_next (Choose which op code first second) codes built =
    built_if (compares op (code_of which codes) code) (next_of first codes) (next_of second codes) (built_next first codes built.0) (built_next second codes built.1)

pub built_then : (plan : Plan) (codes : Codes) {rest : Plan} {then' : Codes} {statement : Statement} → AreBuilt plan → next_of plan codes ≡ Command statement rest then' → IsBuilt statement.command × AreBuilt rest
built_then plan codes {rest} {then'} {statement} built next = subst IsBuiltNext next (built_next plan codes built)

-- what is left behind the next command is shorter
abbrev pub IsShorter : ℕ → Next → Type 0
IsShorter long (Command statement rest codes) = most rest < long
IsShorter long (End codes) = Unit {0}

shorter_than : (small long : ℕ) (next : Next) → small ≤ long → IsShorter small next → IsShorter long next
shorter_than small long (Command statement rest codes) less shorter = omega (arith, less, shorter)
shorter_than small long (End codes) less shorter = tt

shorter_if : (b : Bool) (long : ℕ) (one other : Next) → IsShorter long one → IsShorter long other → IsShorter long (cond b one other)
shorter_if true long one other p q = p
shorter_if false long one other p q = q

shorter_next : (plan : Plan) (codes : Codes) → IsShorter (most plan) (next_of plan codes)
shorter_next Done codes = tt
shorter_next (Run statement rest) codes = omega arith
shorter_next (Set which code rest) codes = shorter_next rest (with_code which code codes)
shorter_next (Choose which op code first second) codes =
    shorter_if (compares op (code_of which codes) code) (most first + most second) (next_of first codes) (next_of second codes)
    (shorter_than (most first) (most first + most second) (next_of first codes) (omega arith) (shorter_next first codes))
    (shorter_than (most second) (most first + most second) (next_of second codes) (omega arith) (shorter_next second codes))

pub shorter_then : (plan : Plan) (codes : Codes) {rest : Plan} {then' : Codes} {statement : Statement} → next_of plan codes ≡ Command statement rest then' → most rest < most plan
shorter_then plan codes {rest} {then'} {statement} next = subst (λ (n : Next). IsShorter (most plan) n) next (shorter_next plan codes)

-- ---- what was given

from_some : Statement → Option Statement → Statement
from_some other None = other
from_some other (Some statement) = statement

pub gives_some : (next : Next) (given : Bor Statement) (plan : Plan) (codes : Codes) → Gives next (Some given) plan codes → next ≡ Command given.now plan codes
unfolding from_some
gives_some (Command statement left then') given plan codes gives =
    λ i. Command (sym (ap (λ (o : Option Statement). from_some statement o) gives.0) i) (sym gives.1 i) (sym gives.2 i)
gives_some (End then') given plan codes gives = absurd (none-some given (sym gives.0))

pub gives_none : (next : Next) (plan : Plan) (codes : Codes) → Gives next None plan codes → next ≡ End codes
gives_none (Command statement left then') plan codes gives = absurd (none-some statement gives.0)
gives_none (End then') plan codes gives = λ i. End (sym gives.2 i)
