-- Runs to which one is given.
use Rattle.std.proofs.Common.{◌≡◌, ℕ, zero, suc, ◌+◌, ◌-◌, ◌<◌, ◌≤◌, ◌⊎◌, ◌↔◌, max, List, [], ◌∷◌, ◌++◌, length, get_or, take, drop, set, All, sym, ap, ◌∙◌, subst, inl, inr, arith, append_assoc}
use Rattle.std.specs.List.{AllByRecursion, insert, remove}
use Rattle.std.proofs.lemmas.Bool.{cases_lt}
use Rattle.std.proofs.lemmas.List.{drop_more, drop_all, take_more, take_all, take-append-drop, set_at, length-take-le}
use Rattle.std.proofs.lemmas.List.Elements.{recursion_from_All}
use Rattle.free_map.specs.declared.run.Run.{Run}
use Rattle.free_map.specs.Runs.{HasTrack, InRuns, AreApart}
use Rattle.free_map.specs.Change.{AddsRun}
use Rattle.free_map.proofs.Apart.{from_le}
use Rattle.free_map.proofs.Gaps.{in_append, append_left, append_right}
use Rattle.free_map.proofs.Takes.{split_at, set_here}

-- runs that end before a track
abbrev pub EndBefore : ℕ → List Run → Type 0
EndBefore track runs = AllByRecursion (λ run. run.first + run.len < track) runs

-- where some runs become one
abbrev Follow : Run → Run → List Run → List Run → Type 0
Follow run whole mid ys = (from : ℕ) → from ≤ run.first → AreApart from (mid ++ ys) → AreApart from (whole ∷ ys)

abbrev Unite : Run → Run → List Run → Type 0
Unite run whole mid = (t : ℕ) → HasTrack whole t ↔ (InRuns mid t ⊎ HasTrack run t)

adds_apart : (from : ℕ) (xs mid ys : List Run) (run whole : Run) → from ≤ run.first → EndBefore run.first xs → Follow run whole mid ys → AreApart from (xs ++ (mid ++ ys)) → AreApart from (xs ++ (whole ∷ ys))
adds_apart from [] mid ys run whole le before f a = f from le a
adds_apart from (x ∷ xs) mid ys run whole le before f a =
    (a.0, a.1, adds_apart (x.first + x.len + 1) xs mid ys run whole (omega (arith, before.0)) before.1 f a.2)

adds_back : (xs mid ys : List Run) (run whole : Run) (t : ℕ) → Unite run whole mid → InRuns (xs ++ (whole ∷ ys)) t → InRuns (xs ++ (mid ++ ys)) t ⊎ HasTrack run t
adds_back [] mid ys run whole t u (inl p) = elim ((u t).0 p) [ inl i ↦ inl (append_left mid ys t i) | inr j ↦ inr j ]
adds_back [] mid ys run whole t u (inr q) = inl (append_right mid ys t q)
adds_back (x ∷ xs) mid ys run whole t u (inl p) = inl (inl p)
adds_back (x ∷ xs) mid ys run whole t u (inr q) = elim (adds_back xs mid ys run whole t u q) [ inl i ↦ inl (inr i) | inr j ↦ inr j ]

adds_old : (xs mid ys : List Run) (run whole : Run) (t : ℕ) → Unite run whole mid → InRuns (xs ++ (mid ++ ys)) t → InRuns (xs ++ (whole ∷ ys)) t
adds_old [] mid ys run whole t u h = elim (in_append mid ys t h) [ inl i ↦ inl ((u t).1 (inl i)) | inr j ↦ inr j ]
adds_old (x ∷ xs) mid ys run whole t u (inl p) = inl p
adds_old (x ∷ xs) mid ys run whole t u (inr q) = inr (adds_old xs mid ys run whole t u q)

-- Where a run and those that it touches become one, its tracks are added.
adds : (runs new xs mid ys : List Run) (run whole : Run) → runs ≡ xs ++ (mid ++ ys) → new ≡ xs ++ (whole ∷ ys) → AreApart 0 runs → EndBefore run.first xs
    → Follow run whole mid ys → Unite run whole mid → AddsRun run runs new
adds runs new xs mid ys run whole old_is new_is a before f u =
    let A : List Run → Type 0 = λ some. AreApart 0 some in
    record {
      apart = subst A (sym new_is) (adds_apart 0 xs mid ys run whole (omega arith) before f (subst A old_is a));
      exact = λ t. (let In : List Run → Type 0 = λ some. InRuns some t in (
        λ h. elim (adds_back xs mid ys run whole t u (subst In new_is h)) [ inl i ↦ inl (subst In (sym old_is) i) | inr j ↦ inr j ],
        λ h. subst In (sym new_is) (elim h [
          | inl i ↦ adds_old xs mid ys run whole t u (subst In old_is i)
          | inr j ↦ append_right xs (whole ∷ ys) t (inl ((u t).1 (inr j)))
        ]),
      ));
    }

-- what runs at places hold, and where they begin
pub at_in : (runs : List Run) (i : ℕ) (d : Run) (t : ℕ) → i < length runs → HasTrack (get_or runs i d) t → InRuns runs t
at_in [] i d t lt h = absurd (omega arith)
at_in (run ∷ runs) zero d t lt h = inl h
at_in (run ∷ runs) (suc i) d t lt h = inr (at_in runs i d t (omega arith) h)

pub len_at : (from : ℕ) (runs : List Run) (i : ℕ) (d : Run) → AreApart from runs → i < length runs → 1 ≤ (get_or runs i d).len
len_at from [] i d a lt = absurd (omega arith)
len_at from (run ∷ runs) zero d a lt = a.1
len_at from (run ∷ runs) (suc i) d a lt = len_at (run.first + run.len + 1) runs i d a.2 (omega arith)

apart_at_drop : (from to : ℕ) (runs : List Run) (i : ℕ) (d : Run) → (i < length runs → to ≤ (get_or runs i d).first) → AreApart from (drop i runs) → AreApart to (drop i runs)
apart_at_drop from to [] zero d h a = tt
apart_at_drop from to [] (suc i) d h a = tt
apart_at_drop from to (run ∷ runs) zero d h a = (h (omega arith), a.1, a.2)
apart_at_drop from to (run ∷ runs) (suc i) d h a = apart_at_drop from to runs i d (λ lt. h (omega arith)) a

-- all that stand before a run end before it
front_before : (from bound : ℕ) (xs : List Run) (run : Run) (ys : List Run) → 1 ≤ run.len → run.first ≤ bound → AreApart from (xs ++ (run ∷ ys)) → EndBefore bound xs
front_before from bound [] run ys some le a = tt
front_before from bound (x ∷ xs) run ys some le a =
    let behind = from_le (x.first + x.len + 1) (xs ++ (run ∷ ys)) run.first a.2 (append_right xs (run ∷ ys) run.first (inl (omega arith, omega arith))) in
    (omega arith, front_before (x.first + x.len + 1) bound xs run ys some le a.2)

-- A run that holds no track of another one, which ends behind its first track, ends before that begins.
pub ends_before : (run next : Run) (runs : List Run) → 1 ≤ run.len → 1 ≤ next.len → ((t : ℕ) → HasTrack next t → InRuns runs t) → ((t : ℕ) → HasTrack run t → ¬ InRuns runs t)
    → run.first < next.first + next.len → run.first + run.len ≤ next.first
ends_before run next runs some more held used lt = elim (cases_lt next.first (run.first + run.len)) [
  | inl less ↦ absurd (used (max next.first run.first) (omega arith, omega arith) (held (max next.first run.first) (omega arith, omega arith)))
  | inr le ↦ le
]

-- what follows a run that ends behind all before a place
follows : (run : Run) (runs : List Run) (i : ℕ) (d : Run) → 1 ≤ run.len → AreApart 0 runs → ((t : ℕ) → HasTrack run t → ¬ InRuns runs t)
    → i < length runs → run.first < (get_or runs i d).first + (get_or runs i d).len → run.first + run.len ≤ (get_or runs i d).first
follows run runs i d some a used lt less =
    ends_before run (get_or runs i d) runs some (len_at 0 runs i d a lt) (λ t h. at_in runs i d t lt h) used less

-- at a place between runs that it doesn't touch
pub adds_between : (runs new : List Run) (run : Run) (i : ℕ) → 1 ≤ run.len → AreApart 0 runs → ((t : ℕ) → HasTrack run t → ¬ InRuns runs t)
    → All (λ before. before.first + before.len < run.first) (take i runs) → ((d : Run) → i < length runs → run.first < (get_or runs i d).first + (get_or runs i d).len)
    → ((d : Run) → i < length runs → ¬ ((get_or runs i d).first ≡ run.first + run.len)) → new ≡ insert runs i run → AddsRun run runs new
adds_between runs new run i some a used before at apart e =
    adds runs new (take i runs) [] (drop i runs) run run (sym (take-append-drop i runs)) e a
    (recursion_from_All (λ (r : Run). r.first + r.len < run.first) (take i runs) before)
    (λ from le b. (
      le,
      some,
      apart_at_drop from (run.first + run.len + 1) runs i run
          (λ lt. let le' = follows run runs i run some a used lt (at run lt) in let ne = apart run lt in omega arith) b,
    ))
    (λ t. (λ h. inr h, λ h. elim h [ inl i ↦ absurd i | inr j ↦ j ]))

pub adds_last : (runs new : List Run) (run : Run) (i : ℕ) → 1 ≤ run.len → AreApart 0 runs → ((t : ℕ) → HasTrack run t → ¬ InRuns runs t)
    → All (λ before. before.first + before.len < run.first) (take i runs) → length runs ≤ i → new ≡ runs ++ run ∷ [] → AddsRun run runs new
adds_last runs new run i some a used before le e =
    adds_between runs new run i some a used before (λ d lt. absurd (omega arith)) (λ d lt. absurd (omega arith))
    (e ∙ ap (λ (front : List Run). front ++ (run ∷ [])) (sym (take_all i runs le)) ∙ ap (λ (back : List Run). take i runs ++ (run ∷ back)) (sym (drop_all i runs le)))

-- the list around a run that was read at a place
around : (runs : List Run) (i : ℕ) (found : Run) → i < length runs → found ≡ get_or runs i found → runs ≡ take i runs ++ ((found ∷ []) ++ drop (i + 1) runs)
around runs i found lt read = split_at runs i found lt ∙ ap (λ (r : Run). take i runs ++ (r ∷ drop (i + 1) runs)) (sym read)

-- before a run that it touches
pub adds_front : (runs new : List Run) (run found : Run) (i : ℕ) → 1 ≤ run.len → AreApart 0 runs → i < length runs → found ≡ get_or runs i found
    → All (λ before. before.first + before.len < run.first) (take i runs) → found.first ≡ run.first + run.len
    → new ≡ set runs i (record { first = run.first; len = run.len + found.len }) → AddsRun run runs new
adds_front runs new run found i some a lt read before touch e =
    let whole : Run = record { first = run.first; len = run.len + found.len } in
    adds runs new (take i runs) (found ∷ []) (drop (i + 1) runs) run whole (around runs i found lt read) (e ∙ set_here runs i whole lt) a
    (recursion_from_All (λ (r : Run). r.first + r.len < run.first) (take i runs) before)
    (λ from le b. (
      le,
      omega arith,
      (let ends : found.first + found.len + 1 ≡ run.first + (run.len + found.len) + 1 = omega arith in
          let P : ℕ → Type 0 = λ n. AreApart n (drop (i + 1) runs) in subst P ends b.2),
    ))
    (λ t. (
      λ h. elim (cases_lt t (run.first + run.len)) [ inl less ↦ inr (h.0, less) | inr le ↦ inl (inl (omega arith, omega (arith, h.1))) ],
      λ h. elim h [ inl i ↦ (elim i [ inl p ↦ (omega (arith, p.0), omega (arith, p.1)) | inr q ↦ absurd q ]) | inr j ↦ (j.0, omega (arith, j.1)) ],
    ))

-- a place's runs before it end before a run that begins at its end
before_touching : (runs : List Run) (run found : Run) (i : ℕ) → AreApart 0 runs → i < length runs → found ≡ get_or runs i found → found.first + found.len ≡ run.first → EndBefore run.first (take i runs)
before_touching runs run found i a lt read touch =
    let P : List Run → Type 0 = λ some. AreApart 0 some in
    let len : 1 ≤ found.len = (let one = len_at 0 runs i found a lt in let same = ap (λ (r : Run). r.len) read in omega arith) in
    front_before 0 run.first (take i runs) found (drop (i + 1) runs) len (omega arith) (subst P (around runs i found lt read) a)

-- behind a run that it touches, and before none that it touches
pub adds_back_of : (runs new : List Run) (run found : Run) (i : ℕ) → 1 ≤ run.len → AreApart 0 runs → i < length runs → found ≡ get_or runs i found
    → found.first + found.len ≡ run.first → ((d : Run) → i + 1 < length runs → run.first + run.len < (get_or runs (i + 1) d).first)
    → new ≡ set runs i (record { first = found.first; len = found.len + run.len }) → AddsRun run runs new
adds_back_of runs new run found i some a lt read touch next e =
    let whole : Run = record { first = found.first; len = found.len + run.len } in
    adds runs new (take i runs) (found ∷ []) (drop (i + 1) runs) run whole (around runs i found lt read) (e ∙ set_here runs i whole lt) a
    (before_touching runs run found i a lt read touch)
    (λ from le b. (
      b.0,
      omega arith,
      apart_at_drop (found.first + found.len + 1) (found.first + (found.len + run.len) + 1) runs (i + 1) run
          (λ more. let less = next run more in omega arith) b.2,
    ))
    (λ t. (
      λ h. elim (cases_lt t run.first) [ inl less ↦ inl (inl (h.0, omega arith)) | inr le ↦ inr (le, omega (arith, h.1)) ],
      λ h. elim h [ inl i ↦ (elim i [ inl p ↦ (p.0, omega (arith, p.1)) | inr q ↦ absurd q ]) | inr j ↦ (omega (arith, j.0), omega (arith, j.1)) ],
    ))

-- the list around two runs that were read at a place and the next
around_two : (runs : List Run) (i : ℕ) (found next : Run) → i + 1 < length runs → found ≡ get_or runs i found → next ≡ get_or runs (i + 1) next
    → runs ≡ take i runs ++ ((found ∷ next ∷ []) ++ drop (i + 1 + 1) runs)
around_two runs i found next lt read read' =
    around runs i found (omega arith) read
    ∙ ap (λ (rest : List Run). take i runs ++ (found ∷ rest)) (drop_more runs (i + 1) next lt ∙ ap (λ (r : Run). r ∷ drop (i + 1 + 1) runs) (sym read'))

set_without : (runs : List Run) (i : ℕ) (d whole : Run) → i + 1 < length runs → set (remove runs (i + 1)) i whole ≡ take i runs ++ (whole ∷ drop (i + 1 + 1) runs)
set_without runs i d whole lt =
    let rest = drop (i + 1 + 1) runs in
    let more : suc (i + 1) ≡ i + 1 + 1 = omega arith in
    let back : drop (suc (i + 1)) runs ≡ rest = ap (λ (n : ℕ). drop n runs) more in
    ap (λ (ys : List Run). set (take (i + 1) runs ++ ys) i whole) back
    ∙ ap (λ (front : List Run). set (front ++ rest) i whole) (take_more runs i d (omega arith))
    ∙ ap (λ (all : List Run). set all i whole) (append_assoc (take i runs) (get_or runs i d ∷ []) rest)
    ∙ set_at (take i runs) (get_or runs i d) rest whole i (length-take-le i runs (omega arith))

next_behind : (from : ℕ) (xs : List Run) (found next : Run) (ys : List Run) → AreApart from (xs ++ (found ∷ next ∷ ys)) → found.first + found.len + 1 ≤ next.first
next_behind from [] found next ys a = a.2.0
next_behind from (x ∷ xs) found next ys a = next_behind (x.first + x.len + 1) xs found next ys a.2

-- between two runs that it touches
pub adds_joining : (runs new : List Run) (run found next : Run) (i : ℕ) → 1 ≤ run.len → AreApart 0 runs → ((t : ℕ) → HasTrack run t → ¬ InRuns runs t) → i + 1 < length runs
    → found ≡ get_or runs i found → next ≡ get_or runs (i + 1) next → found.first + found.len ≡ run.first → next.first ≤ run.first + run.len
    → new ≡ set (remove runs (i + 1)) i (record { first = found.first; len = found.len + run.len + next.len }) → AddsRun run runs new
adds_joining runs new run found next i some a used lt read read' touch le e =
    let whole : Run = record { first = found.first; len = found.len + run.len + next.len } in
    let rest = drop (i + 1 + 1) runs in
    let P : List Run → Type 0 = λ list. AreApart 0 list in
    let two = around_two runs i found next lt read read' in
    let more : 1 ≤ next.len = (let one = len_at 0 runs (i + 1) next a lt in let same = ap (λ (r : Run). r.len) read' in omega arith) in
    let behind : found.first + found.len + 1 ≤ next.first = next_behind 0 (take i runs) found next rest (subst P two a) in
    let held : (t : ℕ) → HasTrack next t → InRuns runs t = λ t h. at_in runs (i + 1) next t lt (let H : Run → Type 0 = λ r. HasTrack r t in subst H read' h) in
    let meets = ends_before run next runs some more held used (omega arith) in
    adds runs new (take i runs) (found ∷ next ∷ []) rest run whole two (e ∙ set_without runs i found whole lt) a
    (before_touching runs run found i a (omega arith) read touch)
    (λ from low b. (
      b.0,
      omega arith,
      (let ends : next.first + next.len + 1 ≡ found.first + (found.len + run.len + next.len) + 1 = omega arith in
          let Q : ℕ → Type 0 = λ n. AreApart n rest in subst Q ends b.2.2),
    ))
    (λ t. (
      λ h. elim (cases_lt t run.first) [
        | inl less ↦ inl (inl (h.0, omega arith))
        | inr low ↦ (elim (cases_lt t (run.first + run.len)) [ inl less ↦ inr (low, less) | inr high ↦ inl (inr (inl (omega arith, omega (arith, h.1)))) ])
      ],
      λ h. elim h [
        | inl i ↦ (elim i [
          | inl p ↦ (p.0, omega (arith, p.1))
          | inr q ↦ (elim q [ inl p ↦ (omega (arith, p.0), omega (arith, p.1)) | inr r ↦ absurd r ])
        ])
        | inr j ↦ (omega (arith, j.0), omega (arith, j.1))
      ],
    ))

-- runs that hold tracks below a bound end at or below it, and the other way round
pub end_by_tracks : (from top : ℕ) (runs : List Run) → AreApart from runs → ((t : ℕ) → InRuns runs t → t < top) → AllByRecursion (λ run. run.first + run.len ≤ top) runs
end_by_tracks from top [] a h = tt
end_by_tracks from top (run ∷ runs) a h =
    let last = h (run.first + run.len - 1) (inl (omega (arith, a.1), omega (arith, a.1))) in
    (omega (arith, last, a.1), end_by_tracks (run.first + run.len + 1) top runs a.2 (λ t i. h t (inr i)))

pub tracks_below : (top : ℕ) (runs : List Run) (t : ℕ) → AllByRecursion (λ run. run.first + run.len ≤ top) runs → InRuns runs t → t < top
tracks_below top [] t e h = absurd h
tracks_below top (run ∷ runs) t e (inl p) = omega (arith, e.0, p.1)
tracks_below top (run ∷ runs) t e (inr q) = tracks_below top runs t e.1 q
