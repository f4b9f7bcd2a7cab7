-- The gaps that used runs leave.
use Rattle.std.proofs.Common.{◌≡◌, ℕ, suc, ◌+◌, ◌-◌, ◌<◌, ◌≤◌, ◌⊎◌, max, nat_lt, if◌then◌else◌, List, [], ◌∷◌, ◌++◌, length, get_or, All, drop, sym, ap, ◌∙◌, subst, inl, inr, arith, append-nil, append_assoc}
use Rattle.std.specs.List.{AllByRecursion}
use Rattle.std.specs.List.Sorted.{IsNonDecreasingBy, IsPermutation}
use Rattle.std.proofs.lemmas.List.Sorted.{All-permutation, IsPermutation-sym}
use Rattle.std.proofs.lemmas.Bool.{cases_lt}
use Rattle.std.proofs.lemmas.Bool.Decides.{nat_tests}
use Rattle.std.proofs.lemmas.List.{drop_more, drop_all}
use Rattle.std.proofs.lemmas.List.Elements.{recursion_from_All, All-from_recursion}
use Rattle.free_map.specs.declared.run.Run.{Run}
use Rattle.free_map.specs.Runs.{HasTrack, InRuns, AreApart, AreMaximalRuns, tracks_between}
use Rattle.free_map.proofs.Apart.{apart_lower}

-- the run from one track up to another
abbrev pub run_to : ℕ → ℕ → Run
run_to from to = record { first = from; len = to - from }

pub between_some : (from to : ℕ) → from < to → tracks_between from to ≡ run_to from to ∷ []
between_some from to lt = grind (arith, nat_tests)

pub between_none : (from to : ℕ) → to ≤ from → tracks_between from to ≡ []
between_none from to le = grind (arith, nat_tests)

-- in one of two lists of runs
pub in_append : (xs ys : List Run) (t : ℕ) → InRuns (xs ++ ys) t → InRuns xs t ⊎ InRuns ys t
in_append [] ys t h = inr h
in_append (x ∷ xs) ys t (inl p) = inl (inl p)
in_append (x ∷ xs) ys t (inr q) = elim (in_append xs ys t q) [ inl i ↦ inl (inr i) | inr j ↦ inr j ]

pub append_left : (xs ys : List Run) (t : ℕ) → InRuns xs t → InRuns (xs ++ ys) t
append_left [] ys t h = absurd h
append_left (x ∷ xs) ys t (inl p) = inl p
append_left (x ∷ xs) ys t (inr q) = inr (append_left xs ys t q)

pub append_right : (xs ys : List Run) (t : ℕ) → InRuns ys t → InRuns (xs ++ ys) t
append_right [] ys t h = h
append_right (x ∷ xs) ys t h = inr (append_right xs ys t h)

-- what the run between two tracks holds
pub in_between : (from to t : ℕ) → InRuns (tracks_between from to) t → (from ≤ t) × (t < to)
in_between from to t h = elim (cases_lt from to) [
  | inl lt ↦ (let P : List Run → Type 0 = λ runs. InRuns runs t in elim (subst P (between_some from to lt) h) [ inl p ↦ (p.0, omega arith) | inr q ↦ absurd q ])
  | inr le ↦ (let P : List Run → Type 0 = λ runs. InRuns runs t in absurd (subst P (between_none from to le) h))
]

pub between_in : (from to t : ℕ) → from ≤ t → t < to → InRuns (tracks_between from to) t
between_in from to t le lt =
    let P : List Run → Type 0 = λ runs. InRuns runs t in
    subst P (sym (between_some from to (omega arith))) (inl (le, omega arith))

-- runs behind it are apart from it
pub apart_between : (from to next : ℕ) (runs : List Run) → to + 1 ≤ next → from ≤ next → AreApart next runs → AreApart from (tracks_between from to ++ runs)
apart_between from to next runs le le' a = elim (cases_lt from to) [
  | inl lt ↦ (let P : List Run → Type 0 = λ some. AreApart from (some ++ runs) in
      subst P (sym (between_some from to lt)) (omega arith, omega arith, apart_lower (from + (to - from) + 1) next runs (omega arith) a))
  | inr none ↦ (let P : List Run → Type 0 = λ some. AreApart from (some ++ runs) in
      subst P (sym (between_none from to none)) (apart_lower from next runs le' a))
]

-- each run ends at or below a bound
abbrev pub EndBy : ℕ → List Run → Type 0
EndBy top runs = AllByRecursion (λ run. run.first + run.len ≤ top) runs

pub end_by_append : (top : ℕ) (xs ys : List Run) → EndBy top xs → EndBy top ys → EndBy top (xs ++ ys)
end_by_append top [] ys p q = q
end_by_append top (x ∷ xs) ys p q = (p.0, end_by_append top xs ys p.1 q)

pub end_by_between : (from to top : ℕ) → to ≤ top → EndBy top (tracks_between from to)
end_by_between from to top le = elim (cases_lt from to) [
  | inl lt ↦ (let P : List Run → Type 0 = λ some. EndBy top some in subst P (sym (between_some from to lt)) (omega arith, tt))
  | inr none ↦ (let P : List Run → Type 0 = λ some. EndBy top some in subst P (sym (between_none from to none)) tt)
]

-- none run begins below a bound, nor below the one before it
abbrev pub Ascending : ℕ → List Run → Type 0
Ascending low [] = Unit {0}
Ascending low (run ∷ runs) = (low ≤ run.first) × Ascending run.first runs

pub ascending_from : (low : ℕ) (runs : List Run) → ((k : ℕ) (d : Run) → k < length runs → low ≤ (get_or runs k d).first) → IsNonDecreasingBy (λ run. run.first) runs → Ascending low runs
ascending_from low [] h up = tt
ascending_from low (run ∷ runs) h up = (
  h 0 run (omega arith),
  ascending_from run.first runs (λ k d lt. up 0 (suc k) d (omega arith) (omega arith)) (λ i j d le lt. up (suc i) (suc j) d (omega arith) (omega arith)),
)

pub ascending_le : (low : ℕ) (runs : List Run) (t : ℕ) → Ascending low runs → InRuns runs t → low ≤ t
ascending_le low [] t a h = absurd h
ascending_le low (run ∷ runs) t a (inl p) = omega arith
ascending_le low (run ∷ runs) t a (inr q) = let le = ascending_le run.first runs t a.1 q in omega arith

-- What used runs in ascending order leave from a track on.
abbrev pub gaps : ℕ → ℕ → List Run → List Run
gaps next usable [] = tracks_between next usable
gaps next usable (run ∷ runs) =
    if nat_lt 0 run.len then tracks_between next run.first ++ gaps (max next (run.first + run.len)) usable runs else gaps next usable runs

-- one run on
pub gaps_some : (next usable : ℕ) (run : Run) (runs : List Run) → 0 < run.len
    → gaps next usable (run ∷ runs) ≡ tracks_between next run.first ++ gaps (max next (run.first + run.len)) usable runs
gaps_some next usable run runs lt = grind (arith, nat_tests)

pub gaps_none : (next usable : ℕ) (run : Run) (runs : List Run) → run.len ≤ 0 → gaps next usable (run ∷ runs) ≡ gaps next usable runs
gaps_none next usable run runs le = grind (arith, nat_tests)

-- what is left is from there on, below the bound and in none used run
record IsLeft (next usable : ℕ) (used : List Run) (t : ℕ) : Type 0 where
  from : next ≤ t
  below : t < usable
  unused : ¬ InRuns used t

left_back : (next usable low : ℕ) (used : List Run) (t : ℕ) → Ascending low used → EndBy usable used → InRuns (gaps next usable used) t → IsLeft next usable used t
left_back next usable low [] t a e h =
    let p = in_between next usable t h in record { from = p.0; below = p.1; unused = λ i. i }
left_back next usable low (run ∷ runs) t a e h = elim (cases_lt 0 run.len) [
  | inl lt ↦ (
      let P : List Run → Type 0 = λ some. InRuns some t in
      elim (in_append (tracks_between next run.first) (gaps (max next (run.first + run.len)) usable runs) t (subst P (gaps_some next usable run runs lt) h)) [
        | inl p ↦ (
            let q = in_between next run.first t p in
            record { from = q.0; below = omega (arith, q.1, e.0); unused = λ i. elim i [ inl j ↦ absurd (omega arith) | inr j ↦ (let le = ascending_le run.first runs t a.1 j in absurd (omega arith)) ] })
        | inr p ↦ (
            let q = left_back (max next (run.first + run.len)) usable run.first runs t a.1 e.1 p in
            let from : max next (run.first + run.len) ≤ t = q.from in
            record { from = omega arith; below = q.below; unused = λ i. elim i [ inl j ↦ absurd (omega arith) | inr j ↦ q.unused j ] })
      ])
  | inr le ↦ (
      let P : List Run → Type 0 = λ some. InRuns some t in
      let q = left_back next usable run.first runs t a.1 e.1 (subst P (gaps_none next usable run runs le) h) in
      record { from = q.from; below = q.below; unused = λ i. elim i [ inl j ↦ absurd (omega arith) | inr j ↦ q.unused j ] })
]

left_forth : (next usable : ℕ) (used : List Run) (t : ℕ) → next ≤ t → t < usable → ¬ InRuns used t → InRuns (gaps next usable used) t
left_forth next usable [] t le lt none = between_in next usable t le lt
left_forth next usable (run ∷ runs) t le lt free = elim (cases_lt 0 run.len) [
  | inl some ↦ (
      let P : List Run → Type 0 = λ some. InRuns some t in
      subst P (sym (gaps_some next usable run runs some)) (elim (cases_lt t run.first) [
        | inl before ↦ append_left (tracks_between next run.first) (gaps (max next (run.first + run.len)) usable runs) t (between_in next run.first t le before)
        | inr from ↦ (elim (cases_lt t (run.first + run.len)) [
          | inl within ↦ absurd (free (inl (from, within)))
          | inr behind ↦ append_right (tracks_between next run.first) (gaps (max next (run.first + run.len)) usable runs) t
              (left_forth (max next (run.first + run.len)) usable runs t (omega arith) lt (λ i. free (inr i)))
        ])
      ]))
  | inr none ↦ (
      let P : List Run → Type 0 = λ some. InRuns some t in
      subst P (sym (gaps_none next usable run runs none)) (left_forth next usable runs t le lt (λ i. free (inr i))))
]

gaps_apart : (next usable : ℕ) (used : List Run) → AreApart next (gaps next usable used)
gaps_apart next usable [] =
    let P : List Run → Type 0 = λ runs. AreApart next runs in
    subst P (append-nil (tracks_between next usable)) (apart_between next usable (next + usable + 1) [] (omega arith) (omega arith) tt)
gaps_apart next usable (run ∷ runs) = elim (cases_lt 0 run.len) [
  | inl some ↦ (
      let P : List Run → Type 0 = λ some. AreApart next some in
      subst P (sym (gaps_some next usable run runs some))
      (apart_between next run.first (max next (run.first + run.len)) (gaps (max next (run.first + run.len)) usable runs) (omega arith) (omega arith)
      (gaps_apart (max next (run.first + run.len)) usable runs)))
  | inr none ↦ (
      let P : List Run → Type 0 = λ some. AreApart next some in
      subst P (sym (gaps_none next usable run runs none)) (gaps_apart next usable runs))
]

gaps_end : (next usable : ℕ) (used : List Run) → EndBy usable used → EndBy usable (gaps next usable used)
gaps_end next usable [] e = end_by_between next usable usable (omega arith)
gaps_end next usable (run ∷ runs) e = elim (cases_lt 0 run.len) [
  | inl some ↦ (
      let P : List Run → Type 0 = λ some. EndBy usable some in
      subst P (sym (gaps_some next usable run runs some))
      (end_by_append usable (tracks_between next run.first) (gaps (max next (run.first + run.len)) usable runs)
      (end_by_between next run.first usable (omega (arith, e.0))) (gaps_end (max next (run.first + run.len)) usable runs e.1)))
  | inr none ↦ (
      let P : List Run → Type 0 = λ some. EndBy usable some in
      subst P (sym (gaps_none next usable run runs none)) (gaps_end next usable runs e.1))
]

-- They are the maximal runs of what is not used.
pub gaps_maximal : (usable : ℕ) (used : List Run) → IsNonDecreasingBy (λ run. run.first) used → All (λ run. run.first + run.len ≤ usable) used
    → AreMaximalRuns (λ track. (track < usable) × ¬ InRuns used track) (gaps 0 usable used)
gaps_maximal usable used up ends =
    let e = recursion_from_All (λ (run : Run). run.first + run.len ≤ usable) used ends in
    let a = ascending_from 0 used (λ k d lt. omega arith) up in
    record {
      apart = gaps_apart 0 usable used;
      exact = λ t. (λ h. left_forth 0 usable used t (omega arith) h.0 h.1, λ h. let q = left_back 0 usable 0 used t a e h in (q.below, q.unused));
    }

pub gaps_within : (usable : ℕ) (used : List Run) → All (λ run. run.first + run.len ≤ usable) used → All (λ run. run.first + run.len ≤ usable) (gaps 0 usable used)
gaps_within usable used ends =
    All-from_recursion (λ (run : Run). run.first + run.len ≤ usable) (gaps 0 usable used)
    (gaps_end 0 usable used (recursion_from_All (λ (run : Run). run.first + run.len ≤ usable) used ends))

-- a loop's step: one used run more
pub gaps_more : (free more whole : List Run) (next next' usable : ℕ) (used : List Run) (i : ℕ) (d : Run) → i < length used → 0 < (get_or used i d).len
    → free ++ gaps next usable (drop i used) ≡ whole
    → more ≡ free ++ tracks_between next (get_or used i d).first → next' ≡ max next ((get_or used i d).first + (get_or used i d).len)
    → more ++ gaps next' usable (drop (i + 1) used) ≡ whole
gaps_more free more whole next next' usable used i d lt some before more_is next_is =
    let run = get_or used i d in
    let rest = drop (i + 1) used in
    let step : gaps next usable (drop i used) ≡ tracks_between next run.first ++ gaps (max next (run.first + run.len)) usable rest =
    ap (λ (xs : List Run). gaps next usable xs) (drop_more used i d lt) ∙ gaps_some next usable run rest some in
    ap (λ (xs : List Run). xs ++ gaps next' usable rest) more_is
    ∙ ap (λ (n : ℕ). (free ++ tracks_between next run.first) ++ gaps n usable rest) next_is
    ∙ append_assoc free (tracks_between next run.first) (gaps (max next (run.first + run.len)) usable rest)
    ∙ ap (λ (xs : List Run). free ++ xs) (sym step) ∙ before

-- one that has no track
pub gaps_skip : (free whole : List Run) (next usable : ℕ) (used : List Run) (i : ℕ) (d : Run) → i < length used → (get_or used i d).len ≤ 0
    → free ++ gaps next usable (drop i used) ≡ whole → free ++ gaps next usable (drop (i + 1) used) ≡ whole
gaps_skip free whole next usable used i d lt none before =
    let step : gaps next usable (drop i used) ≡ gaps next usable (drop (i + 1) used) =
    ap (λ (xs : List Run). gaps next usable xs) (drop_more used i d lt) ∙ gaps_none next usable (get_or used i d) (drop (i + 1) used) none in
    ap (λ (xs : List Run). free ++ xs) (sym step) ∙ before

-- and at the end
pub gaps_all : (free more whole : List Run) (next usable : ℕ) (used : List Run) (i : ℕ) → length used ≤ i
    → free ++ gaps next usable (drop i used) ≡ whole → more ≡ free ++ tracks_between next usable → more ≡ whole
gaps_all free more whole next usable used i le before more_is =
    more_is ∙ sym (ap (λ (xs : List Run). free ++ gaps next usable xs) (drop_all i used le)) ∙ before

all_missed : (t : ℕ) (runs : List Run) → ¬ InRuns runs t → AllByRecursion (λ run. ¬ HasTrack run t) runs
all_missed t [] h = tt
all_missed t (run ∷ runs) h = (λ p. h (inl p), all_missed t runs (λ q. h (inr q)))

missed_all : (t : ℕ) (runs : List Run) → AllByRecursion (λ run. ¬ HasTrack run t) runs → ¬ InRuns runs t
missed_all t [] a h = h
missed_all t (run ∷ runs) a (inl p) = a.0 p
missed_all t (run ∷ runs) a (inr q) = missed_all t runs a.1 q

-- runs in another order miss the same tracks
pub missed_permutation : (t : ℕ) (xs ys : List Run) → IsPermutation xs ys → ¬ InRuns xs t → ¬ InRuns ys t
missed_permutation t xs ys p h =
    let Missed : Run → Type 0 = λ run. ¬ HasTrack run t in
    missed_all t ys (recursion_from_All Missed ys (All-permutation Missed xs ys p (All-from_recursion Missed xs (all_missed t xs h))))

-- so they leave the same
pub maximal_permutation : (usable : ℕ) (xs ys runs : List Run) → IsPermutation xs ys → AreMaximalRuns (λ track. (track < usable) × ¬ InRuns ys track) runs
    → AreMaximalRuns (λ track. (track < usable) × ¬ InRuns xs track) runs
maximal_permutation usable xs ys runs p m = record {
  apart = m.apart;
  exact = λ t. (
    λ h. (m.exact t).0 (h.0, missed_permutation t xs ys p h.1),
    λ i. let h = (m.exact t).1 i in (h.0, missed_permutation t ys xs (IsPermutation-sym xs ys p) h.1),
  );
}
