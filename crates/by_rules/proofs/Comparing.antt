-- Facts that values stand for.
use Rattle.std.proofs.Common.{◌≡◌, ℕ, ◌<◌, ◌≤◌, refl, sym, ap, subst, ◌∙◌, IsTrue, Bool, true, false, List, All, Any, take, length, get_or}
use Rattle.std.proofs.lemmas.List.{take_all}
use Rattle.std.specs.Prelude.{◌↔◌}
use Rattle.by_rules.specs.declared.day.Day.{Day}
use Rattle.by_rules.specs.declared.row.RowFacts.{RowFacts}
use Rattle.by_rules.specs.declared.criterion.When.TheVariants as dates
use Rattle.by_rules.specs.declared.criterion.Value.{Value}
use Rattle.by_rules.specs.declared.criterion.Value.TheVariants as values
use Rattle.by_rules.specs.declared.criterion.Fact.{Fact}
use Rattle.by_rules.specs.declared.criterion.Fact.TheVariants as facts
use Rattle.by_rules.specs.declared.criterion.Criterion.{Criterion}
use Rattle.by_rules.specs.Criterion.{StandsFor, Compares, Meets, fact_of}
use Rattle.by_rules.proofs.Calendar.{one_day_after}

-- a value stands for one fact
one_fact : (today : Day) (value : Value) (a b : Fact) → StandsFor today value a → StandsFor today value b → a ≡ b
one_fact today (values.Organization organization) a b p q = p ∙ sym q
one_fact today (values.Date (dates.On date)) a b p q = p ∙ sym q
one_fact today (values.Date (dates.FromToday days)) a b p q =
    p.1 ∙ ap facts.Date (one_day_after today days p.0 q.0 p.2 q.2) ∙ sym q.1
one_fact today (values.Number number) a b p q = p ∙ sym q
one_fact today (values.Flag flag) a b p q = p ∙ sym q
one_fact today (values.Allocation kind) a b p q = p ∙ sym q

-- so the comparison with that fact tells
pub meets_by : (criterion : Criterion) (row : RowFacts) (today : Day) (value : Value) (fact : Fact) (r : Bool)
    → StandsFor today value fact → IsTrue r ↔ Compares criterion.op (fact_of criterion.key row) fact → IsTrue r ↔ Meets criterion row today value
meets_by criterion row today value fact r stands compares =
    let P : Fact → Type 0 = λ f. Compares criterion.op (fact_of criterion.key row) f in
    (λ yes. (fact, stands, compares.0 yes), λ m. compares.1 (subst P (one_fact today value m.0 fact m.1 stands) m.2))

-- a loop that asks for all of them, or for one
pub each_done : {X : Type 0} (P : X → Type 0) (items values : List X) (i : ℕ) → items ≡ values → length items ≤ i → All P (take i items) → IsTrue true ↔ All P values
each_done {X} P items values i e past each =
    let Q : List X → Type 0 = λ t. All P t in
    (λ _. subst Q (take_all i items past ∙ e) each, λ _. refl)

pub each_stops : {X : Type 0} (P : X → Type 0) (items values : List X) (i : ℕ) (d : X) → items ≡ values → i < length items → ¬ P (get_or items i d) → IsTrue false ↔ All P values
each_stops {X} P items values i d e lt fails =
    let Q : List X → Type 0 = λ t. All P t in
    (λ f. cc, λ each. absurd (fails (subst Q (sym e) each i d lt)))

pub some_done : {X : Type 0} (P : X → Type 0) (items values : List X) (i : ℕ) → items ≡ values → length items ≤ i → All (λ x. ¬ P x) (take i items) → IsTrue false ↔ Any P values
some_done {X} P items values i e past none =
    let Q : List X → Type 0 = λ t. All (λ x. ¬ P x) t in
    let none_of = subst Q (take_all i items past ∙ e) none in
    (λ f. cc, λ some. absurd (none_of some.0 some.1 some.2 (subst P (sym some.3) some.4)))
