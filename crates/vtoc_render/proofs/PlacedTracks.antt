-- Tracks that are used or free, and runs with a track in common.
use Rattle.std.proofs.Common.{◌≡◌, ◌≢◌, ◌⊎◌, inl, inr, ℕ, ◌<◌, ◌≤◌, ◌==◌, ◌&&◌, ◌||◌, not, nat_lt, nat_le, List, [], ◌∷◌, Bool, true, false, refl, arith}
use Rattle.std.specs.List.{list_any}
use Rattle.std.proofs.lemmas.Bool.{both_ways, and_parts, eq-eqb, eqb-true, lt-ltb, ltb-true, leb-true}
use Rattle.free_map.specs.declared.run.Run.{Run}
use Rattle.free_map.specs.Runs.{HasTrack, InRuns}
use Rattle.volume_model.specs.Space.{end_of, has_track, overlap, is_used, is_free}
use Rattle.vtoc_layout.proofs.FreeRules.{held_has, in_runs_any, shared_track}

has_holds : (run : Run) (track : ℕ) → has_track track run ≡ true → HasTrack run track
has_holds run track e =
    let parts = and_parts (nat_le run.first track) (nat_lt track (end_of run)) e in
    (leb-true run.first track parts.0, ltb-true track (end_of run) parts.1)

any_in : (runs : List Run) (track : ℕ) → list_any (has_track track) runs ≡ true → InRuns runs track
any_in [] track e = absurd (both_ways false refl e)
any_in (run ∷ runs) track e = by (any_in runs track) (has_track track run) refl e
  where
    by : (list_any (has_track track) runs ≡ true → InRuns runs track) → (b : Bool) → has_track track run ≡ b → (b || list_any (has_track track) runs) ≡ true → HasTrack run track ⊎ InRuns runs track
    by later true has whole = inl (has_holds run track has)
    by later false has whole = inr (later whole)

pub in_or_not : (runs : List Run) (track : ℕ) → InRuns runs track ⊎ ¬ InRuns runs track
in_or_not runs track = by (list_any (has_track track) runs) refl
  where
    by : (b : Bool) → list_any (has_track track) runs ≡ b → InRuns runs track ⊎ ¬ InRuns runs track
    by true e = inl (any_in runs track e)
    by false e = inr (λ h. both_ways (list_any (has_track track) runs) e (in_runs_any runs track h))

-- a track below the usable ones that is none of the used ones
pub record IsUnused (usable : ℕ) (vtoc : Run) (runs : List Run) (track : ℕ) : Type 0 where
  pub below : track < usable
  pub some : track ≢ 0
  pub off : ¬ HasTrack vtoc track
  pub none : ¬ InRuns runs track

is_false : (b : Bool) → (b ≡ true → ⊥) → b ≡ false
is_false true h = absurd (h refl)
is_false false h = refl

none_of : (a b c : Bool) → not (a || b || c) ≡ true → (a ≡ false) × (b ≡ false) × (c ≡ false)
none_of false false false e = (refl, refl, refl)
none_of true b c e = absurd (both_ways false refl e)
none_of false true c e = absurd (both_ways false refl e)
none_of false false true e = absurd (both_ways false refl e)

pub unused_free : (usable : ℕ) (vtoc : Run) (runs : List Run) (track : ℕ) → is_free usable vtoc runs track ≡ true → IsUnused usable vtoc runs track
unused_free usable vtoc runs track e =
    let parts = and_parts (nat_lt track usable) (not (is_used vtoc runs track)) e in
    let none = none_of (track == 0) (has_track track vtoc) (list_any (has_track track) runs) parts.1 in
    record {
      below = ltb-true track usable parts.0;
      some = λ same. both_ways (track == 0) none.0 (eq-eqb track 0 same);
      off = λ h. both_ways (has_track track vtoc) none.1 (held_has vtoc track h);
      none = λ h. both_ways (list_any (has_track track) runs) none.2 (in_runs_any runs track h);
    }

pub free_unused : (usable : ℕ) (vtoc : Run) (runs : List Run) (track : ℕ) → IsUnused usable vtoc runs track → is_free usable vtoc runs track ≡ true
free_unused usable vtoc runs track is =
    let zero_not = is_false (track == 0) (λ e. is.some (eqb-true track 0 e)) in
    let vtoc_not = is_false (has_track track vtoc) (λ e. is.off (has_holds vtoc track e)) in
    let runs_not = is_false (list_any (has_track track) runs) (λ e. is.none (any_in runs track e)) in
    λ i. lt-ltb track usable is.below i && not (zero_not i || vtoc_not i || runs_not i)

-- ---- runs with a track in common

pub none_shared : (a b : Run) (track : ℕ) → overlap a b ≡ false → HasTrack a track → HasTrack b track → ⊥
none_shared a b track e p q =
    both_ways (overlap a b) e (λ i. lt-ltb a.first (end_of b) (omega (arith, p.0, q.1)) i && lt-ltb b.first (end_of a) (omega (arith, q.0, p.1)) i)

-- runs with tracks and none in common don't overlap
pub apart_if : (a b : Run) → 1 ≤ a.len → 1 ≤ b.len → ((track : ℕ) → HasTrack a track → HasTrack b track → ⊥) → overlap a b ≡ false
apart_if a b p q none = is_false (overlap a b) (λ e. let s = shared_track a b p q e in none s.0 s.1 s.2)
