-- Lists of runs that are apart.
use Rattle.std.proofs.Common.{◌≡◌, ℕ, ◌+◌, ◌<◌, ◌≤◌, ◌↔◌, ◌⊎◌, List, [], ◌∷◌, refl, sym, ap, ◌∙◌, inl, inr, arith}
use Rattle.std.proofs.lemmas.Bool.{cases_lt}
use Rattle.free_map.specs.declared.run.Run.{Run}
use Rattle.free_map.specs.Runs.{InRuns, AreApart}

-- runs with the same fields are one
pub same_run : (a b : Run) → a.first ≡ b.first → a.len ≡ b.len → a ≡ b
same_run a b p q =
    let made : ℕ → ℕ → Run = λ first len. record { first = first; len = len } in
    ap (λ (n : ℕ). made n a.len) p ∙ ap (λ (n : ℕ). made b.first n) q

-- no track of theirs is lower than where they begin
pub from_le : (from : ℕ) (runs : List Run) (t : ℕ) → AreApart from runs → InRuns runs t → from ≤ t
from_le from [] t a h = absurd h
from_le from (run ∷ runs) t a (inl p) = omega arith
from_le from (run ∷ runs) t a (inr q) = let le = from_le (run.first + run.len + 1) runs t a.2 q in omega arith

-- they may begin lower
pub apart_lower : (low from : ℕ) (runs : List Run) → low ≤ from → AreApart from runs → AreApart low runs
apart_lower low from [] le a = tt
apart_lower low from (run ∷ runs) le a = (omega arith, a.1, a.2)

-- the first run is the first track
first_le : (run : Run) (runs : List Run) (from t : ℕ) → AreApart from (run ∷ runs) → InRuns (run ∷ runs) t → run.first ≤ t
first_le run runs from t a h = from_le run.first (run ∷ runs) t (omega arith, a.1, a.2) h

-- behind its end a run is followed by no track
gap_behind : (run : Run) (runs : List Run) (from : ℕ) → AreApart from (run ∷ runs) → ¬ InRuns (run ∷ runs) (run.first + run.len)
gap_behind run runs from a (inl p) = absurd (omega arith)
gap_behind run runs from a (inr q) = let le = from_le (run.first + run.len + 1) runs (run.first + run.len) a.2 q in absurd (omega arith)

abbrev HoldSame : List Run → List Run → Type 0
HoldSame a b = (t : ℕ) → InRuns a t ↔ InRuns b t

first_held : (run : Run) (runs : List Run) (from : ℕ) → AreApart from (run ∷ runs) → InRuns (run ∷ runs) run.first
first_held run runs from a = inl (omega arith, omega arith)

-- one end is not before the other
end_le : (a b : Run) (as' bs : List Run) (f g : ℕ) → AreApart f (a ∷ as') → AreApart g (b ∷ bs) → HoldSame (a ∷ as') (b ∷ bs) → a.first ≡ b.first → ¬ (a.first + a.len < b.first + b.len)
end_le a b as' bs f g p q h e lt = gap_behind a as' f p ((h (a.first + a.len)).1 (inl (omega arith, lt)))

-- a track of the rest is one of the other's rest
rest_held : (a b : Run) (as' bs : List Run) (f : ℕ) → AreApart f (a ∷ as') → a ≡ b → (t : ℕ) → InRuns as' t → InRuns (b ∷ bs) t → InRuns bs t
rest_held a b as' bs f p e t h (inl q) =
    let le = from_le (a.first + a.len + 1) as' t p.2 h in
    let same : a.first + a.len ≡ b.first + b.len = ap (λ (r : Run). r.first + r.len) e in
    absurd (omega arith)
rest_held a b as' bs f p e t h (inr q) = q

pub same_list : (f g : ℕ) (a b : List Run) → AreApart f a → AreApart g b → HoldSame a b → a ≡ b
same_list f g [] [] p q h = refl
same_list f g [] (b ∷ bs) p q h = absurd ((h b.first).1 (first_held b bs g q))
same_list f g (a ∷ as') [] p q h = absurd ((h a.first).0 (first_held a as' f p))
same_list f g (a ∷ as') (b ∷ bs) p q h =
    let back : HoldSame (b ∷ bs) (a ∷ as') = λ t. ((h t).1, (h t).0) in
    let up = first_le b bs g a.first q ((h a.first).0 (first_held a as' f p)) in
    let down = first_le a as' f b.first p ((h b.first).1 (first_held b bs g q)) in
    let first : a.first ≡ b.first = omega arith in
    let no_less = end_le a b as' bs f g p q h first in
    let no_more = end_le b a bs as' g f q p back (sym first) in
    let len : a.len ≡ b.len = omega (arith, no_less, no_more) in
    let head : a ≡ b = same_run a b first len in
    let tail : as' ≡ bs = same_list (a.first + a.len + 1) (b.first + b.len + 1) as' bs p.2 q.2 (λ t. (
      λ i. rest_held a b as' bs f p head t i ((h t).0 (inr i)),
      λ i. rest_held b a bs as' g q (sym head) t i ((h t).1 (inr i)),
    )) in
    cc

-- a run holds so many tracks from one on
abbrev pub Covers : ℕ → ℕ → Run → Type 0
Covers start count run = (run.first ≤ start) × (start + count ≤ run.first + run.len)

-- one of the runs does
abbrev pub OneCovers : ℕ → ℕ → List Run → Type 0
OneCovers start count [] = ⊥
OneCovers start count (run ∷ runs) = Covers start count run ⊎ OneCovers start count runs

-- Tracks that follow one another are in one run.
pub one_covers : (from : ℕ) (runs : List Run) (start count : ℕ) → AreApart from runs → 1 ≤ count → ((t : ℕ) → start ≤ t → t < start + count → InRuns runs t) → OneCovers start count runs
one_covers from [] start count a some h = h start (omega arith) (omega arith)
one_covers from (run ∷ runs) start count a some h = elim (h start (omega arith) (omega arith)) [
  | inl p ↦ (elim (cases_lt (run.first + run.len) (start + count)) [
    | inl lt ↦ absurd (gap_behind run runs from a (h (run.first + run.len) (omega arith) lt))
    | inr le ↦ inl (p.0, le)
  ])
  | inr q ↦ (
      let le = from_le (run.first + run.len + 1) runs start a.2 q in
      inr (one_covers (run.first + run.len + 1) runs start count a.2 some (λ t from_start below. elim (h t from_start below) [ inl p ↦ absurd (omega arith) | inr i ↦ i ])))
]

-- what a run that covers them holds
pub covered : (start count : ℕ) (runs : List Run) → OneCovers start count runs → (t : ℕ) → start ≤ t → t < start + count → InRuns runs t
covered start count [] h t le lt = h
covered start count (run ∷ runs) (inl p) t le lt = inl (omega arith, omega arith)
covered start count (run ∷ runs) (inr q) t le lt = inr (covered start count runs q t le lt)
