-- The runs of extents, and the tracks that are free after a change.
use Rattle.std.proofs.Common.{◌≡◌, ◌⊎◌, inl, inr, ℕ, ◌+◌, ◌<◌, ◌≤◌, List, [], ◌∷◌, ◌++◌, map, All, refl, sym, arith, subst}
use Rattle.std.proofs.lemmas.Bool.{cases_lt}
use Rattle.std.proofs.lemmas.List.Elements.{All-head, All-tail}
use Rattle.dscb_rec.specs.declared.field.Extent.{Extent}
use Rattle.free_map.specs.declared.run.Run.{Run}
use Rattle.free_map.specs.Free.{Free, IsFree}
use Rattle.free_map.specs.Runs.{HasTrack, InRuns, AreMaximalRuns}
use Rattle.volume_model.specs.Space.{run_of, end_of}
use Rattle.vtoc_core.specs.Loaded.{field_of}
use Rattle.volume_change.specs.Runs.{runs_in, IsFreeAfter}
use Rattle.free_map.proofs.Gaps.{in_append, append_left, append_right}

pub in_two_steps : (heads : ℕ) (extents : List Extent) → runs_in heads extents ≡ map (λ extent. run_of heads (field_of extent)) extents
in_two_steps heads [] = refl
in_two_steps heads (extent ∷ extents) = (λ i. run_of heads (field_of extent) ∷ in_two_steps heads extents i)

decided : (runs : List Run) (track : ℕ) → InRuns runs track ⊎ ¬ (InRuns runs track)
decided [] track = inr (λ h. h)
decided (run ∷ runs) track =
    elim (cases_lt track run.first) [
      | inl low ↦ rest (λ h. absurd (omega (arith, low, h.0))) (decided runs track)
      | inr from ↦ elim (cases_lt track (run.first + run.len)) [
        | inl held ↦ inl (inl (from, held))
        | inr past ↦ rest (λ h. absurd (omega (arith, past, h.1))) (decided runs track)
      ]
    ]
  where
    rest : ¬ (HasTrack run track) → (InRuns runs track ⊎ ¬ (InRuns runs track)) → InRuns (run ∷ runs) track ⊎ ¬ (InRuns (run ∷ runs) track)
    rest out (inl there) = inl (inr there)
    rest out (inr not) = inr both
      where
        both : ¬ (InRuns (run ∷ runs) track)
        both (inl h) = out h
        both (inr h) = not h

below_end : (usable : ℕ) (runs : List Run) → All (λ run. end_of run ≤ usable) runs → (track : ℕ) → InRuns runs track → track < usable
below_end usable [] h track i = absurd i
below_end usable (run ∷ runs) h track (inl held) = omega (arith, held.1, All-head (λ (r : Run). end_of r ≤ usable) run runs h)
below_end usable (run ∷ runs) h track (inr i) = below_end usable runs (All-tail (λ (r : Run). end_of r ≤ usable) run runs h) track i

-- where the tracks that are neither free nor given back are used, those that are neither used nor taken are free
pub free_exact : (free : Free) (usable : ℕ) (gone put empty used taken after : List Run) → All (λ run. end_of run ≤ usable) free.runs → All (λ run. end_of run ≤ usable) gone
    → empty ≡ free.runs ++ gone → AreMaximalRuns (λ track. (track < usable) × ¬ (InRuns empty track)) used
    → taken ≡ used ++ put → AreMaximalRuns (λ track. (track < usable) × ¬ (InRuns taken track)) after → AreMaximalRuns (IsFreeAfter free gone put) after
free_exact free usable gone put empty used taken after within ends empty_is unused taken_is left = record {
  apart = left.apart;
  exact = λ track. (to track, back track);
}
  where
    in_empty : (track : ℕ) → (IsFree free track ⊎ InRuns gone track) → InRuns empty track
    in_empty track (inl i) = subst (λ (runs : List Run). InRuns runs track) (sym empty_is) (append_left free.runs gone track i)
    in_empty track (inr i) = subst (λ (runs : List Run). InRuns runs track) (sym empty_is) (append_right free.runs gone track i)

    below : (track : ℕ) → (IsFree free track ⊎ InRuns gone track) → track < usable
    below track (inl i) = below_end usable free.runs within track i
    below track (inr i) = below_end usable gone ends track i

    out : (track : ℕ) → IsFreeAfter free gone put track → (InRuns used track ⊎ InRuns put track) → ⊥
    out track h (inl i) = ((unused.exact track).1 i).1 (in_empty track h.0)
    out track h (inr i) = h.1 i

    to : (track : ℕ) → IsFreeAfter free gone put track → InRuns after track
    to track h = (left.exact track).0 (below track h.0, λ i. out track h (in_append used put track (subst (λ (runs : List Run). InRuns runs track) taken_is i)))

    back : (track : ℕ) → InRuns after track → IsFreeAfter free gone put track
    back track i =
        let h = (left.exact track).1 i in
        let in_taken : InRuns (used ++ put) track → InRuns taken track = λ j. subst (λ (runs : List Run). InRuns runs track) (sym taken_is) j in (
          elim (decided empty track) [
            | inl there ↦ in_append free.runs gone track (subst (λ (runs : List Run). InRuns runs track) empty_is there)
            | inr not ↦ absurd (h.1 (in_taken (append_left used put track ((unused.exact track).0 (h.0, not)))))
          ],
          λ j. h.1 (in_taken (append_right used put track j)),
        )
