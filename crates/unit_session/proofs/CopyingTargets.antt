-- Where the copies of a plan go.
use Rattle.std.proofs.Common.{◌≡◌, ◌⊎◌, ◌==◌, ◌&&◌, ◌∙◌, inl, inr, not, Bool, true, false, map, ◌≤◌, ◌∷◌, [], ℕ, zero, suc, List, length, drop, Contains, Some, sym, ap, subst, arith}
use Rattle.std.specs.Prelude.{slice_get, filter}
use Rattle.std.specs.List.{zip}
use Rattle.std.proofs.lemmas.Bool.{false≢true}
use Rattle.std.proofs.lemmas.Bool.Decides.{eqb_tells}
use Rattle.std.proofs.lemmas.List.Elements.{Contains-append_cases}
use Rattle.std.proofs.lemmas.Option.{slice_get_within, same_Some}
use Rattle.vtoc_layout.proofs.Distinct.{in_none, first_or_later, from_filter, from_map}
use Rattle.unit_session.specs.declared.copies.TextMove.{TextMove}
use Rattle.unit_session.specs.declared.copies.Copies.{Copies}
use Rattle.unit_session.specs.Copies.{moves_between, targets_of}

-- a pair stands at one place of both
pub from_zip : (source target : List ℕ) (from to : ℕ) → Contains (zip source target) (from, to) → (k : ℕ) × (slice_get source k ≡ Some from) × (slice_get target k ≡ Some to)
from_zip [] target from to there = absurd (in_none (from, to) there)
from_zip (a ∷ source) [] from to there = absurd (in_none (from, to) there)
from_zip (a ∷ source) (b ∷ target) from to there = by (from_zip source target from to) (first_or_later (a, b) (from, to) (zip source target) there)
  where
    by : (Contains (zip source target) (from, to) → (k : ℕ) × (slice_get source k ≡ Some from) × (slice_get target k ≡ Some to)) → (◌≡◌ {A = ℕ × ℕ} (a, b) (from, to)) ⊎ Contains (zip source target) (from, to)
        → (k : ℕ) × (slice_get (a ∷ source) k ≡ Some from) × (slice_get (b ∷ target) k ≡ Some to)
    by later (inl same) = (0, ap (λ (p : ℕ × ℕ). Some p.0) same, ap (λ (p : ℕ × ℕ). Some p.1) same)
    by later (inr behind) = let at = later behind in (suc at.0, at.1, at.2)

-- an element stands at a place
pub place_of : (tracks : List ℕ) (track : ℕ) → Contains tracks track → (k : ℕ) × (slice_get tracks k ≡ Some track)
place_of [] track there = absurd (in_none track there)
place_of (t ∷ tracks) track there = by (place_of tracks track) (first_or_later t track tracks there)
  where
    by : (Contains tracks track → (k : ℕ) × (slice_get tracks k ≡ Some track)) → (t ≡ track) ⊎ Contains tracks track → (k : ℕ) × (slice_get (t ∷ tracks) k ≡ Some track)
    by later (inl same) = (0, ap (λ (x : ℕ). Some x) same)
    by later (inr behind) = let at = later behind in (suc at.0, at.1)

-- a track behind others stands behind their places
pub place_behind : (n : ℕ) (tracks : List ℕ) (track : ℕ) → Contains (drop n tracks) track → (k : ℕ) × (slice_get tracks k ≡ Some track) × (n ≤ k)
place_behind zero tracks track there = let at = place_of tracks track there in (at.0, at.1, omega arith)
place_behind (suc n) [] track there = absurd (in_none track there)
place_behind (suc n) (t ∷ tracks) track there = let at = place_behind n tracks track there in (suc at.0, at.1, omega (arith, at.2))

-- What is written is the track of one place of the target, and on one unit it isn't the source's track of that place.
pub target_at : (copies : Copies) (source target : List ℕ) → copies.moves.items ≡ moves_between (copies.from == copies.unit) source target → copies.empty.items ≡ drop (length source) target
    → (track : ℕ) → Contains (targets_of copies) track → (k : ℕ) × (slice_get target k ≡ Some track) × (copies.from ≡ copies.unit → ¬ (slice_get source k ≡ Some track))
target_at copies source target moves_are empty_are track there =
    by (Contains-append_cases (map (λ move. move.to) copies.moves.items) copies.empty.items track there)
  where
    other : (a : ℕ) → copies.from ≡ copies.unit → a ≡ track → not ((copies.from == copies.unit) && (a == track)) ≡ true → ⊥
    other a one same moves = differ (eqb_tells copies.from copies.unit) (eqb_tells a track)
      where
        differ : ((copies.from == copies.unit) ≡ true) × (copies.from ≡ copies.unit) ⊎ ((copies.from == copies.unit) ≡ false) × ¬ (copies.from ≡ copies.unit)
            → ((a == track) ≡ true) × (a ≡ track) ⊎ ((a == track) ≡ false) × ¬ (a ≡ track) → ⊥
        differ (inl u) (inl t) = false≢true (sym (λ i. not (u.0 i && t.0 i)) ∙ moves)
        differ (inl u) (inr t) = t.1 same
        differ (inr u) any = u.1 one

    by : Contains (map (λ move. move.to) copies.moves.items) track ⊎ Contains copies.empty.items track
        → (k : ℕ) × (slice_get target k ≡ Some track) × (copies.from ≡ copies.unit → ¬ (slice_get source k ≡ Some track))
    by (inr empty) =
        let at = place_behind (length source) target track (subst (λ (l : List ℕ). Contains l track) empty_are empty) in
        (at.0, at.1, λ one own. absurd (omega (arith, at.2, slice_get_within source at.0 track own)))
    by (inl moved) =
        let move = from_map (λ (m : TextMove). m.to) copies.moves.items track moved in
        let test : ℕ × ℕ → Bool = λ pair. not ((copies.from == copies.unit) && (pair.0 == pair.1)) in
        let pair = from_map (λ (p : ℕ × ℕ). record { from = p.0; to = p.1 }) (filter test (zip source target)) move.0 (subst (λ (l : List TextMove). Contains l move.0) moves_are move.1) in
        let kept = from_filter test (zip source target) pair.0 pair.1 in
        let at = from_zip source target pair.0.0 pair.0.1 kept.0 in
        let to_is : pair.0.1 ≡ track = ap (λ (m : TextMove). m.to) pair.2 ∙ move.2 in (
          at.0,
          at.2 ∙ ap (λ (t : ℕ). Some t) to_is,
          λ one own.
              let from_is : pair.0.0 ≡ track = same_Some pair.0.0 track (sym at.1 ∙ own) in
              other pair.0.0 one from_is (subst (λ (t : ℕ). not ((copies.from == copies.unit) && (pair.0.0 == t)) ≡ true) to_is kept.1),
        )
