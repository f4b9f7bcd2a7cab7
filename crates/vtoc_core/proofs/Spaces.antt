-- The tracks that a volume uses, and the runs of its free ones.
use Rattle.std.proofs.Common.{◌≡◌, ◌⊎◌, ℕ, zero, suc, ◌<◌, ◌≤◌, max, List, [], ◌∷◌, ◌++◌, length, get_or, Bool, true, false, not, ◌&&◌, ◌||◌, ◌==◌, All, inl, inr, refl, arith}
use Rattle.std.specs.Prelude.{IsTrue, nat_lt, nat_le}
use Rattle.std.specs.List.{list_any, list_all, fold, AllByRecursion}
use Rattle.std.proofs.lemmas.Bool.Decides.{nat_tests}
use Rattle.std.proofs.lemmas.List.Elements.{All-from_recursion, recursion_from_All}
use Rattle.free_map.specs.declared.run.Run.{Run}
use Rattle.free_map.specs.Runs.{HasTrack, InRuns, AreMaximalRuns}
use Rattle.volume_model.specs.Space.{end_of, has_track, greatest_end, is_used, is_free}
use Rattle.volume_model.specs.Check.{track_0, any_overlap, overlap_within}
use Rattle.std.proofs.lemmas.Bool.{or_right, or_left, or_cases}
use Rattle.ckd_image.proofs.Bools.{and_first, and_second}
use Rattle.volume_model.proofs.Numbers.{grows}

-- ---- a track in runs, as a test and as a fact

holds_true : (track : ℕ) (run : Run) → HasTrack run track → has_track track run ≡ true
holds_true track run h = both track run.first (end_of run) h.0 h.1
  where
    both : (t a b : ℕ) → a ≤ t → t < b → (nat_le a t && nat_lt t b) ≡ true
    both t a b p q = grind (arith, nat_tests)

pub true_holds : (track : ℕ) (run : Run) → has_track track run ≡ true → HasTrack run track
true_holds track run e = (first track run.first (end_of run) e, behind track run.first (end_of run) e)
  where
    first : (t a b : ℕ) → (nat_le a t && nat_lt t b) ≡ true → a ≤ t
    first t a b e = grind (arith, nat_tests)

    behind : (t a b : ℕ) → (nat_le a t && nat_lt t b) ≡ true → t < b
    behind t a b e = grind (arith, nat_tests)

pub in_runs_true : (track : ℕ) (runs : List Run) → InRuns runs track → list_any (has_track track) runs ≡ true
in_runs_true track [] h = absurd h
in_runs_true track (run ∷ runs) (inl h) = or_left (has_track track run) (list_any (has_track track) runs) (holds_true track run h)
in_runs_true track (run ∷ runs) (inr h) = or_right (has_track track run) (list_any (has_track track) runs) (in_runs_true track runs h)

pub true_in_runs : (track : ℕ) (runs : List Run) → list_any (has_track track) runs ≡ true → InRuns runs track
true_in_runs track [] e = absurd (no e)
  where
    no : false ≡ true → ⊥
    no e = cc
true_in_runs track (run ∷ runs) e = by (λ rest. true_in_runs track runs rest) (or_cases (has_track track run) (list_any (has_track track) runs) e)
  where
    by : (list_any (has_track track) runs ≡ true → InRuns runs track) → ((has_track track run ≡ true) ⊎ (list_any (has_track track) runs ≡ true)) → InRuns (run ∷ runs) track
    by later (inl h) = inl (true_holds track run h)
    by later (inr h) = inr (later h)

-- ---- used and stated tracks

-- all runs that are used
abbrev pub used_runs : Run → List Run → List Run
used_runs vtoc extents = track_0 ∷ vtoc ∷ extents

is_zero : (t : ℕ) → t < 1 → (t == 0) ≡ true
is_zero t p = grind (arith, nat_tests)

zero_is : (t : ℕ) → (t == 0) ≡ true → t ≡ 0
zero_is t e = grind (arith, nat_tests)

pub used_in : (track : ℕ) (vtoc : Run) (extents : List Run) → is_used vtoc extents track ≡ true → InRuns (used_runs vtoc extents) track
used_in track vtoc extents e = by (or_cases ((track == 0) || has_track track vtoc) (list_any (has_track track) extents) e)
  where
    two : (((track == 0) ≡ true) ⊎ (has_track track vtoc ≡ true)) → InRuns (used_runs vtoc extents) track
    two (inl z) = let is : track ≡ 0 = zero_is track z in inl (omega (arith, is), omega (arith, is))
    two (inr h) = inr (inl (true_holds track vtoc h))

    by : ((((track == 0) || has_track track vtoc) ≡ true) ⊎ (list_any (has_track track) extents ≡ true)) → InRuns (used_runs vtoc extents) track
    by (inl front) = two (or_cases (track == 0) (has_track track vtoc) front)
    by (inr h) = inr (inr (true_in_runs track extents h))

pub in_used : (track : ℕ) (vtoc : Run) (extents : List Run) → InRuns (used_runs vtoc extents) track → is_used vtoc extents track ≡ true
in_used track vtoc extents (inl z) =
    or_left ((track == 0) || has_track track vtoc) (list_any (has_track track) extents) (or_left (track == 0) (has_track track vtoc) (is_zero track z.1))
in_used track vtoc extents (inr (inl h)) =
    or_left ((track == 0) || has_track track vtoc) (list_any (has_track track) extents) (or_right (track == 0) (has_track track vtoc) (holds_true track vtoc h))
in_used track vtoc extents (inr (inr h)) = or_right ((track == 0) || has_track track vtoc) (list_any (has_track track) extents) (in_runs_true track extents h)

-- ---- the ends of runs

each_end : (a : ℕ) (runs : List Run) (k : ℕ) (d : Run) → k < length runs → end_of (get_or runs k d) ≤ fold (λ end run. max end (end_of run)) a runs
each_end a [] k d lt = absurd (omega (arith, lt))
each_end a (run ∷ runs) zero d lt = omega (arith, grows (max a (end_of run)) runs)
each_end a (run ∷ runs) (suc k) d lt = each_end (max a (end_of run)) runs k d (omega arith)

pub ends_within : (runs : List Run) → All (λ run. end_of run ≤ greatest_end runs) runs
ends_within runs k d lt = each_end 1 runs k d lt

-- ---- the whole statement

-- the first three of its parts
abbrev pub apart : ℕ → Run → List Run → List Run → Bool
apart limit vtoc extents entries =
    list_all (λ run. nat_le (end_of run) limit) entries && not (overlap_within entries) && not (any_overlap entries (used_runs vtoc extents))

-- ---- the free tracks

pub free_runs : (usable : ℕ) (vtoc : Run) (extents runs : List Run) → AreMaximalRuns (λ track. (track < usable) × ¬ InRuns (used_runs vtoc extents) track) runs
    → AreMaximalRuns (λ track. IsTrue (is_free usable vtoc extents track)) runs
free_runs usable vtoc extents runs h = record {
  apart = h.apart;
  exact = λ track. (λ free. (h.exact track).0 (below track free, λ is_in. unused track free is_in), λ is_in. free_track track ((h.exact track).1 is_in));
}
  where
    is_true : (b : Bool) → IsTrue b → b ≡ true
    is_true true h = refl
    is_true false h = absurd (let e : false ≡ true = h in let q : ⊥ = cc in q)

    lt_of : (a b : ℕ) → nat_lt a b ≡ true → a < b
    lt_of a b e = grind (arith, nat_tests)

    of_lt : (a b : ℕ) → a < b → nat_lt a b ≡ true
    of_lt a b e = grind (arith, nat_tests)

    below : (track : ℕ) → IsTrue (is_free usable vtoc extents track) → track < usable
    below track free = lt_of track usable (and_first (nat_lt track usable) (not (is_used vtoc extents track)) (is_true (is_free usable vtoc extents track) free))

    not_true : (b : Bool) → not b ≡ true → b ≡ true → ⊥
    not_true true p q = let e : false ≡ true = p in cc
    not_true false p q = let e : false ≡ true = q in cc

    not_of : (b : Bool) → (b ≡ true → ⊥) → not b ≡ true
    not_of true p = absurd (p refl)
    not_of false p = refl

    unused : (track : ℕ) → IsTrue (is_free usable vtoc extents track) → InRuns (used_runs vtoc extents) track → ⊥
    unused track free is_in =
        not_true (is_used vtoc extents track) (and_second (nat_lt track usable) (not (is_used vtoc extents track)) (is_true (is_free usable vtoc extents track) free)) (in_used track vtoc extents is_in)

    both : (a b : Bool) → a ≡ true → b ≡ true → IsTrue (a && b)
    both true true p q = refl
    both true false p q = let e : false ≡ true = q in cc
    both false b p q = let e : false ≡ true = p in cc

    free_track : (track : ℕ) → (track < usable) × (InRuns (used_runs vtoc extents) track → ⊥) → IsTrue (is_free usable vtoc extents track)
    free_track track h =
        both (nat_lt track usable) (not (is_used vtoc extents track)) (of_lt track usable h.0)
        (not_of (is_used vtoc extents track) (λ used. h.1 (used_in track vtoc extents used)))

-- ---- as the code puts it together

-- what holds of runs holds of those at their front
pub all_front : (P : Run → Type 0) (runs others : List Run) → All P (runs ++ others) → All P runs
all_front P runs others h = All-from_recursion P runs (front runs (recursion_from_All P (runs ++ others) h))
  where
    front : (xs : List Run) → AllByRecursion P (xs ++ others) → AllByRecursion P xs
    front [] q = tt
    front (x ∷ xs) q = (q.0, front xs q.1)
