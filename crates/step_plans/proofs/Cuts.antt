-- What holds of extents holds of their first tracks.
use Rattle.std.proofs.Common.{◌≡◌, inl, inr, ℕ, ◌+◌, ◌-◌, ◌<◌, ◌≤◌, ◌==◌, ◌&&◌, List, [], ◌∷◌, length, map, All, Bool, true, false, refl, subst, arith}
use Rattle.std.specs.Prelude.{nat_le, nat_lt, if◌then◌else◌}
use Rattle.std.proofs.lemmas.Bool.{both_ways, and_parts, cases_Bool, leb-false, lt-ltb, ltb-true}
use Rattle.std.proofs.lemmas.List.Elements.{All-nil, All-cons, All-head, All-tail, All-contains}
use Rattle.free_map.specs.declared.run.Run.{Run}
use Rattle.free_map.specs.Runs.{InRuns}
use Rattle.volume_model.specs.Space.{end_of, overlap}
use Rattle.volume_model.specs.Unit.{Extent, run_in}
use Rattle.vtoc_layout.specs.Layout.{AreApart}
use Rattle.vtoc_layout.proofs.Apart.{all_from}
use Rattle.vtoc_layout.proofs.Distinct.{from_map}
use Rattle.move_core.specs.Steps.{cut}
use Rattle.step_plans.proofs.Fronts.{part_of}
use Rattle.ckd_image.proofs.Lists.{contains_map}

-- ---- each extent

module _ (P : Extent → Type 0) (closed : (extent : Extent) (keep : ℕ) → keep < extent.run.len → P extent → P (part_of keep extent)) where
  pub cut_each : (keep : ℕ) (extents : List Extent) → All P extents → All P (cut keep extents)
  cut_each keep [] all = All-nil P
  cut_each keep (extent ∷ extents) all = by (cut_each (keep - extent.run.len) extents (All-tail P extent extents all)) (keep == 0) (nat_le extent.run.len keep) refl
    where
      first : P extent
      first = All-head P extent extents all

      by : All P (cut (keep - extent.run.len) extents) → (b c : Bool) → nat_le extent.run.len keep ≡ c
          → All P (if b then [] else if c then extent ∷ cut (keep - extent.run.len) extents else part_of keep extent ∷ [])
      by rest true c e = All-nil P
      by rest false true e = All-cons P extent (cut (keep - extent.run.len) extents) first rest
      by rest false false e = All-cons P (part_of keep extent) [] (closed extent keep (leb-false extent.run.len keep e) first) (All-nil P)

pub cut_no_more : (keep : ℕ) (extents : List Extent) → length (cut keep extents) ≤ length extents
cut_no_more keep [] = omega arith
cut_no_more keep (extent ∷ extents) = by (cut_no_more (keep - extent.run.len) extents) (keep == 0) (nat_le extent.run.len keep)
  where
    by : length (cut (keep - extent.run.len) extents) ≤ length extents → (b c : Bool)
        → length (if b then [] else if c then extent ∷ cut (keep - extent.run.len) extents else part_of keep extent ∷ []) ≤ length (extent ∷ extents)
    by rest true c = omega arith
    by rest false true = omega (arith, rest)
    by rest false false = omega arith

-- ---- their tracks

pub cut_tracks_in : (keep : ℕ) (extents : List Extent) (track : ℕ) → InRuns (map run_in (cut keep extents)) track → InRuns (map run_in extents) track
cut_tracks_in keep [] track h = h
cut_tracks_in keep (extent ∷ extents) track h = by (cut_tracks_in (keep - extent.run.len) extents track) (keep == 0) (nat_le extent.run.len keep) refl h
  where
    by : (InRuns (map run_in (cut (keep - extent.run.len) extents)) track → InRuns (map run_in extents) track) → (b c : Bool) → nat_le extent.run.len keep ≡ c
        → InRuns (map run_in (if b then [] else if c then extent ∷ cut (keep - extent.run.len) extents else part_of keep extent ∷ [])) track
        → InRuns (map run_in (extent ∷ extents)) track
    by rest true c e none = absurd none
    by rest false true e (inl here) = inl here
    by rest false true e (inr behind) = inr (rest behind)
    by rest false false e (inl here) = inl (here.0, omega (arith, here.1, leb-false extent.run.len keep e))
    by rest false false e (inr none) = absurd none

-- a run that shares no track with another shares none with its first tracks
shares_none : (run : Run) (extent : Extent) (keep : ℕ) → keep < extent.run.len → overlap run extent.run ≡ false → overlap run (part_of keep extent).run ≡ false
shares_none run extent keep less none = elim (cases_Bool (overlap run (part_of keep extent).run)) [
  | inl some ↦
      (let parts = and_parts (nat_lt run.first (extent.run.first + keep)) (nat_lt extent.run.first (end_of run)) some in
      let before : run.first < end_of extent.run = omega (arith, less, ltb-true run.first (extent.run.first + keep) parts.0) in
      absurd (both_ways (overlap run extent.run) none (λ i. lt-ltb run.first (end_of extent.run) before i && parts.1 i)))
  | inr other ↦ other
]

pub cut_apart : (keep : ℕ) (extents : List Extent) → AreApart (map run_in extents) → AreApart (map run_in (cut keep extents))
cut_apart keep [] apart = tt
cut_apart keep (extent ∷ extents) apart = by (cut_apart (keep - extent.run.len) extents apart.1) (keep == 0) (nat_le extent.run.len keep)
  where
    others : All (λ other. overlap extent.run other.run ≡ false) extents
    others = all_from (λ other. overlap extent.run other.run ≡ false) extents (λ other c. All-contains (λ run. overlap extent.run run ≡ false) (map run_in extents) other.run apart.0 (contains_map run_in extents other c))

    kept : All (λ other. overlap extent.run other.run ≡ false) (cut (keep - extent.run.len) extents)
    kept = cut_each (λ other. overlap extent.run other.run ≡ false) (λ other n less none. shares_none extent.run other n less none) (keep - extent.run.len) extents others

    kept_runs : All (λ run. overlap extent.run run ≡ false) (map run_in (cut (keep - extent.run.len) extents))
    kept_runs =
        all_from (λ run. overlap extent.run run ≡ false) (map run_in (cut (keep - extent.run.len) extents))
        (λ run c. let found = from_map run_in (cut (keep - extent.run.len) extents) run c in
        subst (λ r. overlap extent.run r ≡ false) found.2 (All-contains (λ other. overlap extent.run other.run ≡ false) (cut (keep - extent.run.len) extents) found.0 kept found.1))

    by : AreApart (map run_in (cut (keep - extent.run.len) extents)) → (b c : Bool)
        → AreApart (map run_in (if b then [] else if c then extent ∷ cut (keep - extent.run.len) extents else part_of keep extent ∷ []))
    by rest true c = tt
    by rest false true = (kept_runs, rest)
    by rest false false = (All-nil (λ run. overlap (part_of keep extent).run run ≡ false), tt)
