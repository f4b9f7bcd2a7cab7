-- A run that is apart from others has no track of them.
use Rattle.std.proofs.Common.{◌≡◌, ◌⊎◌, inl, inr, ℕ, ◌+◌, ◌≤◌, ◌<◌, List, [], ◌∷◌, All, arith, subst}
use Rattle.std.proofs.lemmas.List.Elements.{All-head, All-tail}
use Rattle.std.proofs.lemmas.Bool.{cases_lt}
use Rattle.free_map.specs.declared.run.Run.{Run}
use Rattle.free_map.specs.Runs.{HasTrack, InRuns}

abbrev pub IsApart : Run → Run → Type 0
IsApart run other = (run.first + run.len ≤ other.first) ⊎ (other.first + other.len ≤ run.first)

pub not_in : (run : Run) (others : List Run) (track : ℕ) → All (IsApart run) others → HasTrack run track → ¬ InRuns others track
not_in run [] track apart holds found = found
not_in run (other ∷ others) track apart holds (inl found) = elim (All-head (IsApart run) other others apart) [
  | inl before ↦ absurd (omega (arith, before, holds.0, holds.1, found.0, found.1))
  | inr behind ↦ absurd (omega (arith, behind, holds.0, holds.1, found.0, found.1))
]
not_in run (other ∷ others) track apart holds (inr found) = not_in run others track (All-tail (IsApart run) other others apart) holds found

-- a track of a run is one of another's or not
pub holds_or_not : (run : Run) (track : ℕ) → HasTrack run track ⊎ ¬ HasTrack run track
holds_or_not run track = elim (cases_lt track run.first) [
  | inl below ↦ inr (λ holds. omega (arith, below, holds.0))
  | inr from ↦ elim (cases_lt track (run.first + run.len)) [
    | inl inside ↦ inl (from, inside)
    | inr beyond ↦ inr (λ holds. omega (arith, beyond, holds.1))
  ]
]

not_with : (from to : Run) (others : List Run) (track : ℕ) → All (IsApart to) others → HasTrack to track → ¬ HasTrack from track → ¬ InRuns (from ∷ others) track
not_with from to others track apart holds other (inl own) = other own
not_with from to others track apart holds other (inr found) = not_in to others track apart holds found

-- where a run goes to tracks that others don't have, and that end by the usable ones, each is free or one of its own
pub free_or_own : (from to : Run) (others used : List Run) (usable track : ℕ) (Free : Type 0) → used ≡ from ∷ others → All (IsApart to) others → to.first + to.len ≤ usable
    → (((track < usable) × ¬ InRuns used track) → Free) → HasTrack to track → Free ⊎ HasTrack from track
free_or_own from to others used usable track Free is apart within free holds = elim (holds_or_not from track) [
  | inl own ↦ inr own
  | inr other ↦ inl (free (omega (arith, within, holds.1), λ found. not_with from to others track apart holds other (subst (λ (l : List Run). InRuns l track) is found)))
]
