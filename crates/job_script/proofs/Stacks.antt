-- A stack of answers about plans, its last one first.
use Rattle.std.proofs.Common.{◌≡◌, ◌↔◌, Bool, true, false, IsTrue, List, [], ◌∷◌, ◌++◌, drop, get_or, reverse, refl, sym, ap, subst, ◌∙◌}
use Rattle.std.specs.List.{AllZip}
use Rattle.std.proofs.lemmas.List.{reverse-append}
use Rattle.sysin_lang.specs.Flow.{Plan, Done}
use Rattle.sysin_lang.specs.Script.{first_plan, later_plans}
use Rattle.job_script.specs.Built.{AreBuilt}

abbrev pub Tells : Bool → Plan → Type 0
Tells answer plan = IsTrue answer ↔ AreBuilt plan

-- beyond the last plan nothing may run
pub tells_done : Tells true Done
tells_done = (λ h. tt, λ h. refl)

pub tells_first : (answers : List Bool) (plans : List Plan) → AllZip Tells answers plans → Tells (get_or answers 0 true) (first_plan plans)
tells_first [] [] h = tells_done
tells_first [] (plan ∷ plans) h = absurd h
tells_first (answer ∷ answers) [] h = absurd h
tells_first (answer ∷ answers) (plan ∷ plans) h = h.0

pub tells_later : (answers : List Bool) (plans : List Plan) → AllZip Tells answers plans → AllZip Tells (drop 1 answers) (later_plans plans)
tells_later [] [] h = tt
tells_later [] (plan ∷ plans) h = absurd h
tells_later (answer ∷ answers) [] h = absurd h
tells_later (answer ∷ answers) (plan ∷ plans) h = h.1

pub tells_second : (answers : List Bool) (plans : List Plan) → AllZip Tells answers plans → Tells (get_or answers 1 true) (first_plan (later_plans plans))
tells_second [] [] h = tells_done
tells_second [] (plan ∷ plans) h = absurd h
tells_second (answer ∷ answers) [] h = absurd h
tells_second (answer ∷ answers) (plan ∷ plans) h = tells_first answers plans h.1

pub pushed : (answers new : List Bool) (answer : Bool) (plan : Plan) (plans : List Plan) → new ≡ answers ++ answer ∷ [] → Tells answer plan → AllZip Tells (reverse answers) plans
    → AllZip Tells (reverse new) (plan ∷ plans)
pushed answers new answer plan plans is tells others =
    let P : List Bool → Type 0 = λ list. AllZip Tells list (plan ∷ plans) in
    subst P (sym (ap (λ (list : List Bool). reverse list) is ∙ reverse-append answers (answer ∷ []))) (tells, others)

-- where the first of two holds, the second says whether both do
pub both_then : (first second : Bool) (A B : Type 0) → first ≡ true → IsTrue first ↔ A → IsTrue second ↔ B → IsTrue second ↔ (A × B)
both_then first second A B is p q = (λ s. (p.0 is, q.0 s), λ both. q.1 both.1)

pub both_else : (first : Bool) (A B : Type 0) → first ≡ false → IsTrue first ↔ A → IsTrue first ↔ (A × B)
both_else first A B is p = (λ s. let no : ⊥ = cc (s, is) in absurd no, λ both. p.1 both.0)

pub swapped : (answer : Bool) (A B : Type 0) → IsTrue answer ↔ (A × B) → IsTrue answer ↔ (B × A)
swapped answer A B p = (λ s. let both : A × B = p.0 s in (both.1, both.0), λ both. p.1 (both.1, both.0))
