-- Lists that are searched from the front.
use Rattle.std.proofs.Common.{ℕ, ◌≤◌, List, length, take, false, Any, All, IsTrue, ◌↔◌, sym, subst}
use Rattle.std.proofs.lemmas.List.{take_all}

pub none_found : {X : Type 0} (P : X → Type 0) (xs : List X) (i : ℕ) → length xs ≤ i → All (λ x. ¬ P x) (take i xs) → IsTrue false ↔ Any P xs
none_found {X} P xs i past none =
    let none_of = subst (λ (l : List X). All (λ x. ¬ P x) l) (take_all i xs past) none in
    (λ f. cc, λ some. absurd (none_of some.0 some.1 some.2 (subst P (sym some.3) some.4)))
