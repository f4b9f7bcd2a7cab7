-- The tracks that copies write, as lists.
use Rattle.std.proofs.Common.{◌≡◌, ◌≢◌, ◌⊎◌, inl, inr, ◌==◌, ◌&&◌, not, ℕ, zero, suc, ◌+◌, ◌<◌, List, [], ◌∷◌, ◌++◌, length, map, drop, Contains, Bool, true, false, Some, refl, sym, ap, subst, ◌∙◌, arith}
use Rattle.std.specs.Prelude.{AllPairs, filter, slice_get}
use Rattle.std.specs.List.{zip, flat_map}
use Rattle.std.proofs.lemmas.Bool.{false≢true, eq-eqb}
use Rattle.std.proofs.lemmas.List.Elements.{All-contains}
use Rattle.volume_model.proofs.Filters.{filter_keep, filter_skip}
use Rattle.std.proofs.lemmas.List.Kept.{AllPairs-cons}
use Rattle.std.proofs.lemmas.Option.{none-some, same_Some}
use Rattle.free_map.specs.declared.run.Run.{Run}
use Rattle.free_map.specs.Runs.{HasTrack, InRuns}
use Rattle.volume_model.specs.Dscbs.{numbers_below}
use Rattle.volume_model.specs.Space.{overlap}
use Rattle.volume_model.specs.Unit.{tracks_in}
use Rattle.vtoc_layout.specs.Layout.{AreApart, AreDistinct}
use Rattle.vtoc_layout.proofs.Apart.{all_from}
use Rattle.vtoc_layout.proofs.Distinct.{first_or_later, at_first, in_later, in_none, from_filter, from_flat, from_map, distinct_append, in_below, below_distinct, shifted_distinct}
use Rattle.vtoc_layout.proofs.FreeRules.{held_in}
use Rattle.unit_steps.proofs.vtoc_render.PlacedTracks.{none_shared}
use Rattle.unit_session.specs.declared.copies.TextMove.{TextMove}
use Rattle.unit_session.specs.Copies.{moves_between}

-- ---- places

pub contains_get : {X : Type 0} (xs : List X) (x : X) → Contains xs x → (k : ℕ) × (slice_get xs k ≡ Some x)
contains_get [] x there = absurd (in_none x there)
contains_get {X} (y ∷ xs) x there = by (contains_get xs x) (first_or_later y x xs there)
  where
    by : (Contains xs x → (k : ℕ) × (slice_get xs k ≡ Some x)) → ((y ≡ x) ⊎ Contains xs x) → (k : ℕ) × (slice_get (y ∷ xs) k ≡ Some x)
    by later (inl same) = (0, ap Some same)
    by later (inr behind) = let rest = later behind in (suc rest.0, rest.1)

pub get_contains : {X : Type 0} (xs : List X) (k : ℕ) (x : X) → slice_get xs k ≡ Some x → Contains xs x
get_contains [] k x at = absurd (none-some x at)
get_contains (y ∷ xs) zero x at = subst (Contains (y ∷ xs)) (same_Some y x at) (at_first y xs)
get_contains (y ∷ xs) (suc k) x at = in_later y x xs (get_contains xs k x at)

pub get_there : {X : Type 0} (xs : List X) (k : ℕ) → k < length xs → (x : X) × (slice_get xs k ≡ Some x)
get_there [] k less = absurd (omega (arith, less))
get_there (x ∷ xs) zero less = (x, refl)
get_there (x ∷ xs) (suc k) less = get_there xs k (omega (arith, less))

-- of a list without repetitions no two elements are the same
pub pairs_of : {X : Type 0} (xs : List X) → AreDistinct xs → AllPairs (λ one other. one ≢ other) xs
pairs_of [] distinct = λ i j d less within. absurd (omega (arith, within))
pairs_of {X} (x ∷ xs) distinct =
    let R : X → X → Type 0 = λ one other. one ≢ other in
    AllPairs-cons R x xs (all_from (R x) xs (λ other there same. distinct.0 (subst (Contains xs) (sym same) there))) (pairs_of xs distinct.1)

-- ---- targets

abbrev moving : Bool → ℕ × ℕ → Bool
moving one pair = not (one && (pair.0 == pair.1))

abbrev made : ℕ × ℕ → TextMove
made pair = record { from = pair.0; to = pair.1 }

-- the tracks to which texts go, and those behind them
abbrev pub targets_between : Bool → List ℕ → List ℕ → List ℕ
targets_between one source target = map (λ move. move.to) (moves_between one source target) ++ drop (length source) target

targets_keep : (one : Bool) (s t : ℕ) (source target : List ℕ) → moving one (s, t) ≡ true → targets_between one (s ∷ source) (t ∷ target) ≡ t ∷ targets_between one source target
targets_keep one s t source target is =
    ap (λ (l : List (ℕ × ℕ)). map (λ move. move.to) (map made l) ++ drop (length source) target) (filter_keep (moving one) (s, t) (zip source target) is)

targets_skip : (one : Bool) (s t : ℕ) (source target : List ℕ) → moving one (s, t) ≡ false → targets_between one (s ∷ source) (t ∷ target) ≡ targets_between one source target
targets_skip one s t source target is =
    ap (λ (l : List (ℕ × ℕ)). map (λ move. move.to) (map made l) ++ drop (length source) target) (filter_skip (moving one) (s, t) (zip source target) is)

-- a track of the new place that doesn't stay
pub record IsMoved (one : Bool) (source target : List ℕ) (k track : ℕ) : Type 0 where
  pub at : slice_get target k ≡ Some track
  pub moves : ¬ ((one ≡ true) × (slice_get source k ≡ Some track))

pub each_target : (one : Bool) (source target : List ℕ) (track : ℕ) → Contains (targets_between one source target) track → (k : ℕ) × IsMoved one source target k track
each_target one [] target track there = let found = contains_get target track there in (found.0, record { at = found.1; moves = λ both. none-some track both.1 })
each_target one (s ∷ source) [] track there = absurd (in_none track there)
each_target one (s ∷ source) (t ∷ target) track there = by (each_target one source target track) (moving one (s, t)) refl
  where
    first : moving one (s, t) ≡ true → t ≡ track → ¬ ((one ≡ true) × (Some s ≡ Some track))
    first is same both =
        let stays : (s == t) ≡ true = eq-eqb s t (same_Some s track both.1 ∙ sym same) in
        let not_moved : moving one (s, t) ≡ false = (λ i. not (both.0 i && stays i)) in
        false≢true (sym not_moved ∙ is)

    two : (Contains (targets_between one source target) track → (k : ℕ) × IsMoved one source target k track) → moving one (s, t) ≡ true
        → ((t ≡ track) ⊎ Contains (targets_between one source target) track) → (k : ℕ) × IsMoved one (s ∷ source) (t ∷ target) k track
    two later is (inl same) = (0, record { at = ap Some same; moves = first is same })
    two later is (inr behind) = let rest = later behind in (suc rest.0, record { at = rest.1.at; moves = rest.1.moves })

    by : (Contains (targets_between one source target) track → (k : ℕ) × IsMoved one source target k track) → (b : Bool) → moving one (s, t) ≡ b
        → (k : ℕ) × IsMoved one (s ∷ source) (t ∷ target) k track
    by later true is = two later is (first_or_later t track (targets_between one source target) (subst (λ (l : List ℕ). Contains l track) (targets_keep one s t source target is) there))
    by later false is = let rest = later (subst (λ (l : List ℕ). Contains l track) (targets_skip one s t source target is) there) in (suc rest.0, record { at = rest.1.at; moves = rest.1.moves })

pub target_there : (one : Bool) (source target : List ℕ) (track : ℕ) → Contains (targets_between one source target) track → Contains target track
target_there one source target track there = let found = each_target one source target track there in get_contains target found.0 track found.1.at

pub targets_distinct : (one : Bool) (source target : List ℕ) → AreDistinct target → AreDistinct (targets_between one source target)
targets_distinct one [] target distinct = distinct
targets_distinct one (s ∷ source) [] distinct = tt
targets_distinct one (s ∷ source) (t ∷ target) distinct = by (targets_distinct one source target distinct.1) (moving one (s, t)) refl
  where
    by : AreDistinct (targets_between one source target) → (b : Bool) → moving one (s, t) ≡ b → AreDistinct (targets_between one (s ∷ source) (t ∷ target))
    by later true is = subst (λ (l : List ℕ). AreDistinct l) (sym (targets_keep one s t source target is)) (λ there. distinct.0 (target_there one source target t there), later)
    by later false is = subst (λ (l : List ℕ). AreDistinct l) (sym (targets_skip one s t source target is)) later

-- ---- sources

in_zip : (xs ys : List ℕ) (pair : ℕ × ℕ) → Contains (zip xs ys) pair → Contains xs pair.0
in_zip [] ys pair there = absurd (in_none pair there)
in_zip (x ∷ xs) [] pair there = absurd (in_none pair there)
in_zip (x ∷ xs) (y ∷ ys) pair there = by (in_zip xs ys pair) (first_or_later (x, y) pair (zip xs ys) there)
  where
    by : (Contains (zip xs ys) pair → Contains xs pair.0) → ((x, y) ≡ pair ⊎ Contains (zip xs ys) pair) → Contains (x ∷ xs) pair.0
    by later (inl same) = subst (Contains (x ∷ xs)) (ap (λ (p : ℕ × ℕ). p.0) same) (at_first x xs)
    by later (inr behind) = in_later x pair.0 xs (later behind)

pub source_there : (one : Bool) (source target : List ℕ) (move : TextMove) → Contains (moves_between one source target) move → Contains source move.from
source_there one source target move there =
    let found = from_map made (filter (moving one) (zip source target)) move there in
    subst (Contains source) (ap (λ (m : TextMove). m.from) found.2) (in_zip source target found.0 (from_filter (moving one) (zip source target) found.0 found.1).0)

-- ---- the tracks of runs

in_run : (run : Run) (track : ℕ) → Contains (tracks_in run) track → HasTrack run track
in_run run track there =
    let found = from_map (λ place. run.first + place) (numbers_below run.len) track there in
    let less : found.0 < run.len = in_below run.len found.0 found.1 in
    let is : run.first + found.0 ≡ track = found.2 in
    (omega (arith, is), omega (arith, is, less))

pub in_runs : (runs : List Run) (track : ℕ) → Contains (flat_map tracks_in runs) track → InRuns runs track
in_runs runs track there =
    let found = from_flat tracks_in runs track there in held_in runs found.0 track found.1 (in_run found.0 track found.2)

pub runs_distinct : (runs : List Run) → AreApart runs → AreDistinct (flat_map tracks_in runs)
runs_distinct [] apart = tt
runs_distinct (run ∷ runs) apart =
    distinct_append (tracks_in run) (flat_map tracks_in runs) (shifted_distinct run.first (numbers_below run.len) (below_distinct run.len)) (runs_distinct runs apart.1)
    (λ track here there. let found = from_flat tracks_in runs track there in
    none_shared run found.0 track (All-contains (λ (other : Run). overlap run other ≡ false) runs found.0 apart.0 found.1) (in_run run track here) (in_run found.0 track found.2))
