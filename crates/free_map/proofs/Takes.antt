-- Runs of which one is taken.
use Rattle.std.proofs.Common.{◌≡◌, ℕ, zero, suc, ◌+◌, ◌<◌, ◌≤◌, List, [], ◌∷◌, ◌++◌, length, get_or, take, drop, set, All, sym, ap, ◌∙◌, subst, inl, inr, arith, append_assoc, append-nil, add-one}
use Rattle.std.specs.List.{AllByRecursion, insert}
use Rattle.std.proofs.lemmas.Bool.{cases_lt}
use Rattle.std.proofs.lemmas.List.{drop_more, take_more, take-append-drop, set_at, set_split, length-take-le, get_or_read}
use Rattle.std.proofs.lemmas.List.Elements.{recursion_from_All}
use Rattle.free_map.specs.declared.run.Run.{Run}
use Rattle.free_map.specs.Runs.{HasTrack, InRuns, AreApart, tracks_between}
use Rattle.free_map.specs.Change.{parts_without, TakesRun}
use Rattle.free_map.proofs.Apart.{from_le, apart_lower, Covers, OneCovers, one_covers, covered}
use Rattle.free_map.proofs.Gaps.{run_to, between_some, between_none, in_append, append_left, append_right, in_between, between_in, apart_between}

-- a list around one of its elements
pub split_at : (runs : List Run) (i : ℕ) (d : Run) → i < length runs → runs ≡ take i runs ++ (get_or runs i d ∷ drop (i + 1) runs)
split_at runs i d lt = sym (take-append-drop i runs) ∙ ap (λ (rest : List Run). take i runs ++ rest) (drop_more runs i d lt)

-- the parts, with what follows them
parts_then : (run whole : Run) (ys : List Run) → parts_without run whole ++ ys
    ≡ tracks_between whole.first run.first ++ (tracks_between (run.first + run.len) (whole.first + whole.len) ++ ys)
parts_then run whole ys = append_assoc (tracks_between whole.first run.first) (tracks_between (run.first + run.len) (whole.first + whole.len)) ys

parts_apart : (from : ℕ) (run whole : Run) (ys : List Run) → 1 ≤ run.len → Covers run.first run.len whole → AreApart from (whole ∷ ys) → AreApart from (parts_without run whole ++ ys)
parts_apart from run whole ys some p a =
    let P : List Run → Type 0 = λ runs. AreApart from runs in
    let behind = apart_between (run.first + run.len) (whole.first + whole.len) (whole.first + whole.len + 1) ys (omega arith) (omega (arith, p.1)) a.2 in
    let all = apart_between whole.first run.first (run.first + run.len) (tracks_between (run.first + run.len) (whole.first + whole.len) ++ ys) (omega arith) (omega (arith, p.0)) behind in
    subst P (sym (parts_then run whole ys)) (apart_lower from whole.first (tracks_between whole.first run.first ++ (tracks_between (run.first + run.len) (whole.first + whole.len) ++ ys)) a.0 all)

takes_apart : (from : ℕ) (xs : List Run) (run whole : Run) (ys : List Run) → 1 ≤ run.len → Covers run.first run.len whole
    → AreApart from (xs ++ (whole ∷ ys)) → AreApart from (xs ++ (parts_without run whole ++ ys))
takes_apart from [] run whole ys some p a = parts_apart from run whole ys some p a
takes_apart from (x ∷ xs) run whole ys some p a = (a.0, a.1, takes_apart (x.first + x.len + 1) xs run whole ys some p a.2)

parts_back : (from : ℕ) (run whole : Run) (ys : List Run) (t : ℕ) → Covers run.first run.len whole → AreApart from (whole ∷ ys) → InRuns (parts_without run whole ++ ys) t
    → InRuns (whole ∷ ys) t × ¬ HasTrack run t
parts_back from run whole ys t p a h =
    let P : List Run → Type 0 = λ runs. InRuns runs t in
    let rest = tracks_between (run.first + run.len) (whole.first + whole.len) ++ ys in
    elim (in_append (tracks_between whole.first run.first) rest t (subst P (parts_then run whole ys) h)) [
      | inl i ↦ (let q = in_between whole.first run.first t i in (inl (q.0, omega (arith, q.1, p.0, p.1)), λ r. absurd (omega (arith, r.0, q.1))))
      | inr i ↦ (elim (in_append (tracks_between (run.first + run.len) (whole.first + whole.len)) ys t i) [
        | inl j ↦ (let q = in_between (run.first + run.len) (whole.first + whole.len) t j in (inl (omega (arith, q.0, p.0, p.1), q.1), λ r. absurd (omega (arith, r.1, q.0))))
        | inr j ↦ (let le = from_le (whole.first + whole.len + 1) ys t a.2 j in (inr j, λ r. absurd (omega (arith, r.1, p.1, le))))
      ])
    ]

parts_forth : (run whole : Run) (ys : List Run) (t : ℕ) → InRuns (whole ∷ ys) t → ¬ HasTrack run t → InRuns (parts_without run whole ++ ys) t
parts_forth run whole ys t h free =
    let P : List Run → Type 0 = λ runs. InRuns runs t in
    let rest = tracks_between (run.first + run.len) (whole.first + whole.len) ++ ys in
    subst P (sym (parts_then run whole ys)) (elim h [
      | inl p ↦ (elim (cases_lt t run.first) [
        | inl lt ↦ append_left (tracks_between whole.first run.first) rest t (between_in whole.first run.first t p.0 lt)
        | inr ge ↦ (elim (cases_lt t (run.first + run.len)) [
          | inl lt ↦ absurd (free (ge, lt))
          | inr le ↦ append_right (tracks_between whole.first run.first) rest t
              (append_left (tracks_between (run.first + run.len) (whole.first + whole.len)) ys t (between_in (run.first + run.len) (whole.first + whole.len) t le p.1))
        ])
      ])
      | inr q ↦ append_right (tracks_between whole.first run.first) rest t (append_right (tracks_between (run.first + run.len) (whole.first + whole.len)) ys t q)
    ])

takes_back : (from : ℕ) (xs : List Run) (run whole : Run) (ys : List Run) (t : ℕ) → Covers run.first run.len whole → 1 ≤ run.len → AreApart from (xs ++ (whole ∷ ys))
    → InRuns (xs ++ (parts_without run whole ++ ys)) t → InRuns (xs ++ (whole ∷ ys)) t × ¬ HasTrack run t
takes_back from [] run whole ys t p some a h = parts_back from run whole ys t p a h
takes_back from (x ∷ xs) run whole ys t p some a (inl i) =
    let le = from_le (x.first + x.len + 1) (xs ++ (whole ∷ ys)) whole.first a.2 (append_right xs (whole ∷ ys) whole.first (inl (omega arith, omega (arith, p.0, p.1)))) in
    (inl i, λ r. absurd (omega (arith, r.0, i.1, p.0)))
takes_back from (x ∷ xs) run whole ys t p some a (inr i) =
    let q = takes_back (x.first + x.len + 1) xs run whole ys t p some a.2 i in (inr q.0, q.1)

takes_forth : (xs : List Run) (run whole : Run) (ys : List Run) (t : ℕ) → InRuns (xs ++ (whole ∷ ys)) t → ¬ HasTrack run t → InRuns (xs ++ (parts_without run whole ++ ys)) t
takes_forth [] run whole ys t h free = parts_forth run whole ys t h free
takes_forth (x ∷ xs) run whole ys t (inl i) free = inl i
takes_forth (x ∷ xs) run whole ys t (inr i) free = inr (takes_forth xs run whole ys t i free)

-- Where a run is cut out of the one that covers it, its tracks are taken.
pub takes : (runs new : List Run) (run : Run) (i : ℕ) (d : Run) → i < length runs → AreApart 0 runs → 1 ≤ run.len → Covers run.first run.len (get_or runs i d)
    → new ≡ take i runs ++ (parts_without run (get_or runs i d) ++ drop (i + 1) runs) → TakesRun run runs new
takes runs new run i d lt a some p e =
    let whole = get_or runs i d in
    let xs = take i runs in
    let ys = drop (i + 1) runs in
    let split = split_at runs i d lt in
    let A : List Run → Type 0 = λ some. AreApart 0 some in
    let apart = subst A split a in
    record {
      apart = subst A (sym e) (takes_apart 0 xs run whole ys some p apart);
      exact = λ t. (let In : List Run → Type 0 = λ some. InRuns some t in (
        λ h. (let q = takes_back 0 xs run whole ys t p some apart (subst In e h) in (subst In (sym split) q.0, q.1)),
        λ h. subst In (sym e) (takes_forth xs run whole ys t (subst In split h.0) h.1),
      ));
    }

-- The first run that ends behind a free run's first track covers it.
found : (from : ℕ) (runs : List Run) (i : ℕ) (d : Run) (start count : ℕ) → AreApart from runs → 1 ≤ count → AllByRecursion (λ run. run.first + run.len < start + 1) (take i runs)
    → (i < length runs → start + 1 ≤ (get_or runs i d).first + (get_or runs i d).len) → OneCovers start count runs → (i < length runs) × Covers start count (get_or runs i d)
found from [] i d start count a some before at c = absurd c
found from (run ∷ runs) zero d start count a some before at (inl p) = (omega arith, p)
found from (run ∷ runs) zero d start count a some before at (inr q) =
    let ends = at (omega arith) in
    let le = from_le (run.first + run.len + 1) runs start a.2 (covered start count runs q start (omega arith) (omega arith)) in
    absurd (omega arith)
found from (run ∷ runs) (suc i) d start count a some before at (inl p) = absurd (omega (arith, before.0, p.1))
found from (run ∷ runs) (suc i) d start count a some before at (inr q) =
    let r = found (run.first + run.len + 1) runs i d start count a.2 some before.1 (λ lt. at (omega arith)) q in (omega (arith, r.0), r.1)

pub cover_found : (runs : List Run) (run : Run) (i : ℕ) (d : Run) → AreApart 0 runs → 1 ≤ run.len → ((t : ℕ) → HasTrack run t → InRuns runs t)
    → All (λ before. before.first + before.len < run.first + 1) (take i runs) → (i < length runs → run.first + 1 ≤ (get_or runs i d).first + (get_or runs i d).len)
    → (i < length runs) × Covers run.first run.len (get_or runs i d)
cover_found runs run i d a some free before at =
    found 0 runs i d run.first run.len a some (recursion_from_All (λ (before : Run). before.first + before.len < run.first + 1) (take i runs) before) at
    (one_covers 0 runs run.first run.len a some (λ t le lt. free t (le, lt)))

-- edits at a place
pub set_here : (runs : List Run) (i : ℕ) (a : Run) → i < length runs → set runs i a ≡ take i runs ++ (a ∷ drop (i + 1) runs)
set_here runs i a lt = let e = set_split runs i a lt in rw add-one e

pub set_before : (runs : List Run) (i : ℕ) (a b d : Run) → i < length runs → set (insert runs (i + 1) b) i a ≡ take i runs ++ (a ∷ b ∷ drop (i + 1) runs)
set_before runs i a b d lt =
    let whole = get_or runs i d in
    let rest = b ∷ drop (i + 1) runs in
    ap (λ (front : List Run). set (front ++ rest) i a) (take_more runs i d lt)
    ∙ ap (λ (all : List Run). set all i a) (append_assoc (take i runs) (whole ∷ []) rest)
    ∙ set_at (take i runs) whole rest a i (length-take-le i runs (omega arith))

-- one part, or both
pub parts_behind : (run whole : Run) → run.first ≤ whole.first → run.first + run.len < whole.first + whole.len
    → parts_without run whole ≡ run_to (run.first + run.len) (whole.first + whole.len) ∷ []
parts_behind run whole le lt =
    ap (λ (some : List Run). some ++ tracks_between (run.first + run.len) (whole.first + whole.len)) (between_none whole.first run.first le)
    ∙ between_some (run.first + run.len) (whole.first + whole.len) lt

pub parts_before : (run whole : Run) → whole.first < run.first → whole.first + whole.len ≤ run.first + run.len
    → parts_without run whole ≡ run_to whole.first run.first ∷ []
parts_before run whole lt le =
    ap (λ (some : List Run). tracks_between whole.first run.first ++ some) (between_none (run.first + run.len) (whole.first + whole.len) le)
    ∙ append-nil (tracks_between whole.first run.first) ∙ between_some whole.first run.first lt

pub parts_both : (run whole : Run) → whole.first < run.first → run.first + run.len < whole.first + whole.len
    → parts_without run whole ≡ run_to whole.first run.first ∷ run_to (run.first + run.len) (whole.first + whole.len) ∷ []
parts_both run whole lt lt' =
    ap (λ (some : List Run). some ++ tracks_between (run.first + run.len) (whole.first + whole.len)) (between_some whole.first run.first lt)
    ∙ ap (λ (some : List Run). run_to whole.first run.first ∷ some) (between_some (run.first + run.len) (whole.first + whole.len) lt')

-- What an edit leaves of a run that was read at a place.
cut_to : (runs parts : List Run) (i : ℕ) (run whole d : Run) → i < length runs → whole ≡ get_or runs i whole → parts_without run whole ≡ parts
    → take i runs ++ (parts ++ drop (i + 1) runs) ≡ take i runs ++ (parts_without run (get_or runs i d) ++ drop (i + 1) runs)
cut_to runs parts i run whole d lt read e =
    ap (λ (some : List Run). take i runs ++ (some ++ drop (i + 1) runs)) (sym e ∙ ap (λ (r : Run). parts_without run r) (get_or_read runs i whole lt read d))

pub cut_behind : (runs : List Run) (i : ℕ) (run whole d : Run) → i < length runs → whole ≡ get_or runs i whole → run.first ≤ whole.first → run.first + run.len < whole.first + whole.len
    → set runs i (run_to (run.first + run.len) (whole.first + whole.len)) ≡ take i runs ++ (parts_without run (get_or runs i d) ++ drop (i + 1) runs)
cut_behind runs i run whole d lt read le more =
    set_here runs i (run_to (run.first + run.len) (whole.first + whole.len)) lt ∙ cut_to runs (run_to (run.first + run.len) (whole.first + whole.len) ∷ []) i run whole d lt read (parts_behind run whole le more)

pub cut_before : (runs : List Run) (i : ℕ) (run whole d : Run) → i < length runs → whole ≡ get_or runs i whole → whole.first < run.first → whole.first + whole.len ≤ run.first + run.len
    → set runs i (run_to whole.first run.first) ≡ take i runs ++ (parts_without run (get_or runs i d) ++ drop (i + 1) runs)
cut_before runs i run whole d lt read less le =
    set_here runs i (run_to whole.first run.first) lt ∙ cut_to runs (run_to whole.first run.first ∷ []) i run whole d lt read (parts_before run whole less le)

pub cut_both : (runs : List Run) (i : ℕ) (run whole d : Run) → i < length runs → whole ≡ get_or runs i whole → whole.first < run.first → run.first + run.len < whole.first + whole.len
    → set (insert runs (i + 1) (run_to (run.first + run.len) (whole.first + whole.len))) i (run_to whole.first run.first)
    ≡ take i runs ++ (parts_without run (get_or runs i d) ++ drop (i + 1) runs)
cut_both runs i run whole d lt read less more =
    set_before runs i (run_to whole.first run.first) (run_to (run.first + run.len) (whole.first + whole.len)) d lt
    ∙ cut_to runs (run_to whole.first run.first ∷ run_to (run.first + run.len) (whole.first + whole.len) ∷ []) i run whole d lt read (parts_both run whole less more)
