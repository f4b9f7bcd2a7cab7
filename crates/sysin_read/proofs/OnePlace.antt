-- A text that is refused is refused at one place.
use Rattle.std.proofs.Common.{◌≡◌, ◌⊎◌, inl, inr, ℕ, List, [], ◌∷◌, ◌++◌, refl, sym, ap, subst, ◌∙◌, true}
use Rattle.std.proofs.lemmas.List.{append-nil, append_assoc}
use Rattle.sysin_text.specs.declared.token.Placed.{Placed}
use Rattle.sysin_lang.specs.Flow.{Plan}
use Rattle.sysin_read.specs.declared.fault.Why.{Why}
use Rattle.sysin_read.specs.declared.fault.SysinFault.TheVariants as faults
use Rattle.sysin_read.specs.Statement.{IsText}
use Rattle.sysin_read.specs.Told.{IsWhy}
use Rattle.sysin_read.specs.Refusal.{CanGoOn, Begin, IsRefusal}
use Rattle.sysin_read.proofs.OneWhy.{one_why}

-- ---- fronts of one list

-- a front that isn't all but the last is one of the rest
shorter : {X : Type 0} (list : List X) (first : X) (behind front : List X) (last : X) → list ++ first ∷ behind ≡ front ++ last ∷ [] → (between : List X) × (front ≡ list ++ between)
shorter [] first behind front last e = (front, refl)
shorter (x ∷ list) first behind [] last e = let q : x ∷ (list ++ first ∷ behind) ≡ last ∷ [] = e in absurd (nothing list first behind cc)
  where
    nothing : {X : Type 0} (list : List X) (first : X) (behind : List X) → list ++ first ∷ behind ≡ [] → ⊥
    nothing [] first behind e = let q : first ∷ behind ≡ [] = e in cc
    nothing (x ∷ list) first behind e = let q : x ∷ (list ++ first ∷ behind) ≡ [] = e in cc
shorter {X} (x ∷ list) first behind (y ∷ front) last e =
    let q : x ∷ (list ++ first ∷ behind) ≡ y ∷ (front ++ last ∷ []) = e in
    let head : y ≡ x = cc in
    let tail : list ++ first ∷ behind ≡ front ++ last ∷ [] = cc in
    let found = shorter list first behind front last tail in
    (found.0, (λ i. head i ∷ found.1 i))

-- of two fronts one is the other, or ends within it
compare : {X : Type 0} (f g : List X) (s t : X) (a b : List X) → f ++ s ∷ a ≡ g ++ t ∷ b
    → ((f ≡ g) × (s ≡ t)) ⊎ (((m : List X) × (g ≡ (f ++ s ∷ []) ++ m)) ⊎ ((m : List X) × (f ≡ (g ++ t ∷ []) ++ m)))
compare [] [] s t a b e = let q : s ∷ a ≡ t ∷ b = e in let same : s ≡ t = cc in inl (refl, same)
compare [] (y ∷ g) s t a b e = let q : s ∷ a ≡ y ∷ (g ++ t ∷ b) = e in let same : y ≡ s = cc in inr (inl (g, (λ i. same i ∷ g)))
compare (x ∷ f) [] s t a b e = let q : x ∷ (f ++ s ∷ a) ≡ t ∷ b = e in let same : x ≡ t = cc in inr (inr (f, (λ i. same i ∷ f)))
compare {X} (x ∷ f) (y ∷ g) s t a b e =
    let q : x ∷ (f ++ s ∷ a) ≡ y ∷ (g ++ t ∷ b) = e in
    let head : x ≡ y = cc in
    let tail : f ++ s ∷ a ≡ g ++ t ∷ b = cc in
    elim (compare f g s t a b tail) [
      | inl same ↦ inl ((λ i. head i ∷ same.0 i), same.1)
      | inr apart ↦ elim apart [
        | inl left ↦ inr (inl (left.0, (λ i. sym head i ∷ left.1 i)))
        | inr right ↦ inr (inr (right.0, (λ i. head i ∷ right.1 i)))
      ]
    ]

-- ---- tokens that are right

-- so are those of each front
pub right_front : (list behind : List Placed) → Begin (list ++ behind) → Begin list
right_front list behind (inl (rest, plan, text)) = inl (behind ++ rest, plan, subst (IsText true plan) (append_assoc list behind rest) text)
right_front list [] (inr comma) = subst Begin (append-nil list) (inr comma)
right_front list (first ∷ behind) (inr comma) =
    let found = shorter list first behind comma.front comma.comma comma.whole in
    right_front_of found.0 found.1 comma.right
  where
    right_front_of : (between : List Placed) → comma.front ≡ list ++ between → CanGoOn true comma.front → Begin list
    right_front_of between e (rest, plan, text) =
        inl (between ++ rest, plan, subst (IsText true plan) ((λ i. e i ++ rest) ∙ append_assoc list between rest) text)

-- tokens that are wrong with one more are no front of right ones
no_front : (front : List Placed) (token : Placed) (behind list : List Placed) → ¬ Begin (front ++ token ∷ []) → Begin list → list ≡ front ++ token ∷ behind → ⊥
no_front front token behind list wrong right is =
    wrong (right_front (front ++ token ∷ []) behind (subst Begin (is ∙ sym (append_assoc front (token ∷ []) behind)) right))

-- ---- one refusal

pub never_refused : (plan : Plan) (list : List Placed) (line column : ℕ) (why : Why) → IsText true plan list → ¬ IsRefusal list (faults.BadStatement line column why)
never_refused plan list line column why text (inl wrong) =
    no_front wrong.front wrong.token wrong.behind list wrong.wrong (inl ([], plan, subst (IsText true plan) (sym (append-nil list)) text)) wrong.whole
never_refused plan list line column why text (inr (early, is)) = early.early plan text

pub one_refusal : (list : List Placed) (line column other_line other_column : ℕ) (why other : Why) → IsRefusal list (faults.BadStatement line column why)
    → IsRefusal list (faults.BadStatement other_line other_column other) → (line ≡ other_line) × (column ≡ other_column) × (why ≡ other)
one_refusal list line column other_line other_column why other (inl one) (inl two) =
    elim (compare one.front two.front one.token two.token one.behind two.behind (sym one.whole ∙ two.whole)) [
      | inl same ↦ (
        one.line_is ∙ ap (λ (t : Placed). t.line) same.1 ∙ sym two.line_is,
        one.column_is ∙ ap (λ (t : Placed). t.column) same.1 ∙ sym two.column_is,
        one_why two.front two.token why other
            (subst (λ (t : Placed). IsWhy two.front t why) same.1 (subst (λ (f : List Placed). IsWhy f one.token why) same.0 one.told)) two.told,
      )
      | inr apart ↦ elim apart [
        | inl left ↦ absurd (no_front one.front one.token left.0 two.front one.wrong two.right (left.1 ∙ append_assoc one.front (one.token ∷ []) left.0))
        | inr right ↦ absurd (no_front two.front two.token right.0 one.front two.wrong one.right (right.1 ∙ append_assoc two.front (two.token ∷ []) right.0))
      ]
    ]
one_refusal list line column other_line other_column why other (inl one) (inr (two, is)) = absurd (no_front one.front one.token one.behind list one.wrong two.right one.whole)
one_refusal list line column other_line other_column why other (inr (one, is)) (inl two) = absurd (no_front two.front two.token two.behind list two.wrong one.right two.whole)
one_refusal list line column other_line other_column why other (inr (one, is)) (inr (two, same)) =
    (one.line_is ∙ sym two.line_is, one.column_is ∙ sym two.column_is, is ∙ sym same)
