-- The statuses of the desk.
use Rattle.std.proofs.Common.{◌≡◌, ℕ, ◌≤◌, ◌==◌, Bool, true, false, List, [], ◌∷◌, length, subst, lit≤, lit<, refl}
use Rattle.std.specs.Prelude.{◌||◌, IsTrue}
use Rattle.std.specs.List.{list_any}
use Rattle.std.proofs.lemmas.Bool.{eqb-true, false≢true}
use Rattle.http.specs.StatusCode.{IsStatusCode}
use Rattle.desk_text.specs.Answers.{IsDeskStatus, phrase}

-- a fact of each status of a list holds of any that is in it
abbrev AllOf : (ℕ → Type 0) → List ℕ → Type 0
AllOf P [] = Unit {0}
AllOf P (s ∷ more) = P s × AllOf P more

either : (P : ℕ → Type 0) (s status : ℕ) (b rest : Bool) → (s == status) ≡ b → P s → IsTrue (b || rest) → (IsTrue rest → P status) → P status
either P s status true rest same here h there = subst P (eqb-true s status same) here
either P s status false rest same here h there = there h

of_one : (P : ℕ → Type 0) (list : List ℕ) (status : ℕ) → AllOf P list → IsTrue (list_any (λ s. s == status) list) → P status
of_one P [] status facts is = absurd (false≢true is)
of_one P (s ∷ more) status facts is = either P s status (s == status) (list_any (λ t. t == status) more) refl facts.0 is (λ h. of_one P more status facts.1 h)

pub phrase_short : (status : ℕ) → IsDeskStatus status → length (phrase status) ≤ 31
unfolding phrase
phrase_short status is =
    of_one (λ s. length (phrase s) ≤ 31) (200 ∷ 201 ∷ 204 ∷ 400 ∷ 404 ∷ 405 ∷ 409 ∷ 411 ∷ 413 ∷ 429 ∷ 500 ∷ 503 ∷ 507 ∷ []) status
    (lit≤ tt, (lit≤ tt, (lit≤ tt, (lit≤ tt, (lit≤ tt, (lit≤ tt, (lit≤ tt, (lit≤ tt, (lit≤ tt, (lit≤ tt, (lit≤ tt, (lit≤ tt, (lit≤ tt, tt))))))))))))) is

pub is_status_code : (status : ℕ) → IsDeskStatus status → IsStatusCode status
is_status_code status is =
    of_one IsStatusCode (200 ∷ 201 ∷ 204 ∷ 400 ∷ 404 ∷ 405 ∷ 409 ∷ 411 ∷ 413 ∷ 429 ∷ 500 ∷ 503 ∷ 507 ∷ []) status
    ((lit≤ tt, lit< tt), ((lit≤ tt, lit< tt), ((lit≤ tt, lit< tt), ((lit≤ tt, lit< tt), ((lit≤ tt, lit< tt), ((lit≤ tt, lit< tt), ((lit≤ tt, lit< tt), ((lit≤ tt, lit< tt), ((lit≤ tt, lit< tt), ((lit≤ tt, lit< tt), ((lit≤ tt, lit< tt), ((lit≤ tt, lit< tt), ((lit≤ tt, lit< tt), tt))))))))))))) is
