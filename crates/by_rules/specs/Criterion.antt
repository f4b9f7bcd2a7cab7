-- What a criterion asks of a row.
use Rattle.std.specs.Prelude.{◌≡◌, ◌≢◌, ℕ, ◌<◌, All, Any, bit_and, nat_lt}
use Rattle.by_rules.specs.declared.day.Day.{Day}
use Rattle.by_rules.specs.declared.row.RowFacts.{RowFacts}
use Rattle.by_rules.specs.declared.criterion.Key.{Key}
use Rattle.by_rules.specs.declared.criterion.Key.TheVariants as keys
use Rattle.by_rules.specs.declared.criterion.Op.{Op}
use Rattle.by_rules.specs.declared.criterion.Op.TheVariants as ops
use Rattle.by_rules.specs.declared.criterion.Organization.{Organization}
use Rattle.by_rules.specs.declared.criterion.Organization.TheVariants as organizations
use Rattle.by_rules.specs.declared.criterion.When.TheVariants as dates
use Rattle.by_rules.specs.declared.criterion.Value.{Value}
use Rattle.by_rules.specs.declared.criterion.Value.TheVariants as values
use Rattle.by_rules.specs.declared.criterion.Fact.{Fact}
use Rattle.by_rules.specs.declared.criterion.Fact.TheVariants as facts
use Rattle.by_rules.specs.declared.criterion.Criterion.{Criterion}
use Rattle.by_rules.specs.Day.{IsEarlier, IsShift, IsDayAfter}

-- the bits of DSORG that name an organization
abbrev pub code_of : Organization → ℕ
code_of organizations.Sequential = 0x4000
code_of organizations.Direct = 0x2000
code_of organizations.Partitioned = 0x0200
code_of organizations.IndexedSequential = 0x8000
code_of organizations.Vsam = 0x0008

-- the fact of a row that a key names; of DSORG the bit X'0100', which says that a data set is unmovable, is left out
abbrev pub fact_of : Key → RowFacts → Fact
fact_of keys.Organization row = facts.Organization (bit_and row.dsorg 0xfeff)
fact_of keys.Created row = facts.Date row.created
fact_of keys.Expires row = facts.Date row.expires
fact_of keys.Referred row = facts.Date row.referred
fact_of keys.Extents row = facts.Number row.extents
fact_of keys.Tracks row = facts.Number row.tracks
fact_of keys.Changed row = facts.Flag row.changed
fact_of keys.Allocation row = facts.Allocation row.alloc_kind
fact_of keys.Multivolume row = facts.Flag (nat_lt 1 row.sequence)

-- the fact that a value stands for today
abbrev pub StandsFor : Day → Value → Fact → Type 0
StandsFor today (values.Organization organization) fact = fact ≡ facts.Organization (code_of organization)
StandsFor today (values.Date (dates.On date)) fact = fact ≡ facts.Date date
StandsFor today (values.Date (dates.FromToday days)) fact = (date : Day) × (fact ≡ facts.Date date) × IsDayAfter today days date
StandsFor today (values.Number number) fact = fact ≡ facts.Number number
StandsFor today (values.Flag flag) fact = fact ≡ facts.Flag flag
StandsFor today (values.Allocation kind) fact = fact ≡ facts.Allocation kind

-- numbers and dates have an order
abbrev pub IsBelow : Fact → Fact → Type 0
IsBelow (facts.Number a) (facts.Number b) = a < b
IsBelow (facts.Date a) (facts.Date b) = IsEarlier a b
IsBelow _ _ = ⊥

abbrev pub Compares : Op → Fact → Fact → Type 0
Compares ops.Equal a b = a ≡ b
Compares ops.NotEqual a b = a ≢ b
Compares ops.Greater a b = IsBelow b a
Compares ops.Less a b = IsBelow a b
Compares ops.GreaterOrEqual a b = ¬ IsBelow a b
Compares ops.LessOrEqual a b = ¬ IsBelow b a

-- the row's fact compares so with a value
abbrev pub Meets : Criterion → RowFacts → Day → Value → Type 0
Meets criterion row today value = (fact : Fact) × StandsFor today value fact × Compares criterion.op (fact_of criterion.key row) fact

-- a row satisfies a criterion by one of its values, and one that says 'not equal' by each of them
abbrev pub HoldsBy : Op → Criterion → RowFacts → Day → Type 0
HoldsBy ops.NotEqual criterion row today = All (Meets criterion row today) criterion.values
HoldsBy _ criterion row today = Any (Meets criterion row today) criterion.values

abbrev pub Holds : Criterion → RowFacts → Day → Type 0
Holds criterion row today = HoldsBy criterion.op criterion row today

-- a date from today on lies within its limits
abbrev pub IsSoundValue : Value → Type 0
IsSoundValue (values.Date (dates.FromToday days)) = IsShift days
IsSoundValue _ = Unit {0}

abbrev pub IsSound : Criterion → Type 0
IsSound criterion = All IsSoundValue criterion.values
