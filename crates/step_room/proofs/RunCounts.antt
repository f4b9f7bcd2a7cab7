-- How many runs there are once the tracks of some are given to a set of tracks.
use Rattle.std.proofs.Common.{◌≡◌, ◌⊎◌, inl, inr, ℕ, ◌+◌, ◌-◌, ◌≤◌, List, [], ◌∷◌, ◌++◌, length, map, Contains, subst, arith}
use Rattle.std.proofs.lemmas.Bool.{cases_lt}
use Rattle.std.proofs.lemmas.List.{length-append, length-map}
use Rattle.free_map.specs.declared.run.Run.{Run}
use Rattle.free_map.specs.Runs.{HasTrack, InRuns, AreApart}
use Rattle.free_map.proofs.Apart.{from_le}
use Rattle.vtoc_layout.specs.Layout.{AreDistinct}
use Rattle.vtoc_layout.proofs.Distinct.{first_or_later, in_none, in_front, in_back, no_more}
use Rattle.vtoc_layout.proofs.FreeRules.{held_in, held_by}
use Rattle.ckd_image.proofs.Lists.{contains_map}

abbrev first_of : Run → ℕ
first_of run = run.first

-- ---- the first tracks of runs that are apart

first_from : (from : ℕ) (runs : List Run) (first : ℕ) → AreApart from runs → Contains (map first_of runs) first → from ≤ first
first_from from [] first apart there = absurd (in_none first there)
first_from from (run ∷ runs) first apart there = elim (first_or_later run.first first (map first_of runs) there) [
  | inl same ↦ omega (arith, same, apart.0)
  | inr later ↦ omega (arith, apart.0, first_from (run.first + run.len + 1) runs first apart.2 later)
]

firsts_differ : (from : ℕ) (runs : List Run) → AreApart from runs → AreDistinct (map first_of runs)
firsts_differ from [] apart = tt
firsts_differ from (run ∷ runs) apart = (
  λ there. absurd (omega (arith, first_from (run.first + run.len + 1) runs run.first apart.2 there)),
  firsts_differ (run.first + run.len + 1) runs apart.2,
)

first_held : (from : ℕ) (runs : List Run) (first : ℕ) → AreApart from runs → Contains (map first_of runs) first → InRuns runs first
first_held from [] first apart there = absurd (in_none first there)
first_held from (run ∷ runs) first apart there = elim (first_or_later run.first first (map first_of runs) there) [
  | inl same ↦ inl (omega (arith, same), omega (arith, same, apart.1))
  | inr later ↦ inr (first_held (run.first + run.len + 1) runs first apart.2 later)
]

-- before the first track of a run lies none that is in one
gap_before : (from : ℕ) (runs : List Run) (first track : ℕ) → AreApart from runs → Contains (map first_of runs) first → track + 1 ≡ first → ¬ InRuns runs track
gap_before from [] first track apart there next held = held
gap_before from (run ∷ runs) first track apart there next held =
    by (λ later after. gap_before (run.first + run.len + 1) runs first track apart.2 later next after) (first_or_later run.first first (map first_of runs) there) held
  where
    by : (Contains (map first_of runs) first → InRuns runs track → ⊥) → ((run.first ≡ first) ⊎ Contains (map first_of runs) first) → (HasTrack run track ⊎ InRuns runs track) → ⊥
    by later (inl same) (inl here) = absurd (omega (arith, same, next, here.0))
    by later (inl same) (inr after) = absurd (omega (arith, same, next, from_le (run.first + run.len + 1) runs track apart.2 after))
    by later (inr behind) (inl here) = absurd (omega (arith, next, here.1, first_from (run.first + run.len + 1) runs first apart.2 behind))
    by later (inr behind) (inr after) = later behind after

-- ---- runs of what was there and what is given

module _ (runs old given : List Run) (apart : AreApart 0 runs) (to : (track : ℕ) → InRuns runs track → InRuns old track ⊎ InRuns given track)
    (from : (track : ℕ) → (InRuns old track ⊎ InRuns given track) → InRuns runs track) where
  -- a run that has the first track of one begins there
  begins : (some : List Run) (first : ℕ) → Contains (map first_of runs) first → ((track : ℕ) → InRuns some track → InRuns runs track) → InRuns some first
      → Contains (map first_of some) first
  begins some first there within held = by (held_by some first held)
    where
      by : ((run : Run) × Contains some run × HasTrack run first) → Contains (map first_of some) first
      by (run, c, has) = elim (cases_lt run.first first) [
        | inl lower ↦
            absurd (gap_before 0 runs first (first - 1) apart there (omega (arith, lower)) (within (first - 1) (held_in some run (first - 1) c (omega (arith, lower), omega (arith, lower, has.1)))))
        | inr not_lower ↦ subst (Contains (map first_of some)) (let same : run.first ≡ first = omega (arith, not_lower, has.0) in same) (contains_map first_of some run c)
      ]

  begins_there : (first : ℕ) → Contains (map first_of runs) first → Contains (map first_of old ++ map first_of given) first
  begins_there first there = by (to first (first_held 0 runs first apart there))
    where
      by : (InRuns old first ⊎ InRuns given first) → Contains (map first_of old ++ map first_of given) first
      by (inl was) = in_front (map first_of old) (map first_of given) first (begins old first there (λ track h. from track (inl h)) was)
      by (inr new) = in_back (map first_of old) (map first_of given) first (begins given first there (λ track h. from track (inr h)) new)

  -- each begins where one of the others did, so they are no more than those
  pub runs_no_more : length runs ≤ length old + length given
  runs_no_more = omega (
    arith,
    no_more (map first_of runs) (map first_of old ++ map first_of given) (firsts_differ 0 runs apart) begins_there,
    length-append (map first_of old) (map first_of given),
    length-map runs first_of,
    length-map old first_of,
    length-map given first_of,
  )
