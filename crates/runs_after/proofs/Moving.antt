-- The runs of free tracks before a move and behind it.
use Rattle.std.proofs.Common.{◌≡◌, ◌⊎◌, inl, inr, ⊎_elim, ◌↔◌, ℕ, zero, suc, ◌+◌, ◌-◌, ◌<◌, ◌≤◌, Bool, true, false, ◌&&◌, ◌||◌, List, [], ◌∷◌, length, All, Contains, IsTrue, refl, sym, ap, subst, ◌∙◌, arith}
use Rattle.std.specs.Prelude.{Any, nat_le, nat_lt}
use Rattle.std.proofs.lemmas.Bool.{cases_lt, false≢true, leb-true, le-leb, ltb-true, lt-ltb, or_right, or_left, or_cases}
use Rattle.std.proofs.lemmas.List.Elements.{All-head, All-tail, All-nil, All-cons}
use Rattle.vtoc_layout.proofs.Distinct.{first_or_later, at_first, in_later, in_none}
use Rattle.free_map.specs.declared.run.Run.{Run}
use Rattle.free_map.specs.Free.{Free, IsFree}
use Rattle.free_map.specs.Runs.{HasTrack, InRuns, AreApart, AreMaximalRuns}
use Rattle.runs_after.specs.After.{IsFreeThen, IsBeside, bit}
use Rattle.runs_after.proofs.Starts.{holds, in_runs, before, starts_at, starts}
use Rattle.runs_after.proofs.Adding.{adds, adds_in, adds_out, starts_adds}
use Rattle.ckd_image.proofs.Bools.{either_way}
use Rattle.free_map.proofs.Apart.{from_le}

-- ---- truth values

not_true : (b : Bool) → ¬ (b ≡ true) → b ≡ false
not_true true fails = absurd (fails refl)
not_true false fails = refl

both : (a b : Bool) → (a && b) ≡ true → (a ≡ true) × (b ≡ true)
both true b is = (refl, is)
both false b is = absurd (false≢true is)

-- ---- runs by truth values

holds_says : (run : Run) (track : ℕ) → holds run track ≡ true → HasTrack run track
holds_says run track is =
    let parts = both (nat_le run.first track) (nat_lt track (run.first + run.len)) is in
    (leb-true run.first track parts.0, ltb-true track (run.first + run.len) parts.1)

says_holds : (run : Run) (track : ℕ) → HasTrack run track → holds run track ≡ true
says_holds run track is =
    λ i. le-leb run.first track is.0 i && lt-ltb track (run.first + run.len) is.1 i

in_says : (runs : List Run) (track : ℕ) → in_runs runs track ≡ true → InRuns runs track
in_says [] track is = false≢true is
in_says (run ∷ runs) track is =
    ⊎_elim (λ here. inl (holds_says run track here)) (λ later. inr (in_says runs track later)) (or_cases (holds run track) (in_runs runs track) is)

says_in : (runs : List Run) (track : ℕ) → InRuns runs track → in_runs runs track ≡ true
says_in [] track is = absurd is
says_in (run ∷ runs) track (inl here) = or_left (holds run track) (in_runs runs track) (says_holds run track here)
says_in (run ∷ runs) track (inr later) = or_right (holds run track) (in_runs runs track) (says_in runs track later)

-- a run holds a track, whichever way that is said
pub in_any : (runs : List Run) (track : ℕ) → InRuns runs track ↔ Any (λ run. HasTrack run track) runs
in_any runs track = (to runs, λ any. from runs any.1 (any.0, any.2, any.3) any.4)
  where
    to : (runs : List Run) → InRuns runs track → Any (λ run. HasTrack run track) runs
    to [] never = absurd never
    to (run ∷ runs) (inl here) = let there = at_first run runs in (there.0, run, there.1, there.2, here)
    to (run ∷ runs) (inr later) = let any = to runs later in let there = in_later run any.1 runs (any.0, any.2, any.3) in (there.0, any.1, there.1, there.2, any.4)

    from : (runs : List Run) (run : Run) → Contains runs run → HasTrack run track → InRuns runs track
    from [] run there here = absurd (in_none run there)
    from (first ∷ runs) run there here = elim (first_or_later first run runs there) [
      | inl same ↦ inl (subst (λ (r : Run). HasTrack r track) (sym same) here)
      | inr later ↦ inr (from runs run later here)
    ]

-- ---- as many runs begin as there are

starts_none : (limit : ℕ) → starts (in_runs []) limit ≡ 0
starts_none zero = refl
starts_none (suc limit) = omega (arith, starts_none limit)

-- a track is one of a run's, or before it, or behind it
where_is : (run : Run) (track : ℕ) → HasTrack run track ⊎ ((track < run.first) ⊎ (run.first + run.len ≤ track))
where_is run track = elim (cases_lt track run.first) [
  | inl low ↦ inr (inl low)
  | inr high ↦ elim (cases_lt track (run.first + run.len)) [ inl low ↦ inl (high, low) | inr above ↦ inr (inr above) ]
]

not_both : (run : Run) (track : ℕ) → ((track < run.first) ⊎ (run.first + run.len ≤ track)) → ¬ HasTrack run track
not_both run track (inl below) here = omega (arith, below, here.0)
not_both run track (inr above) here = omega (arith, above, here.1)

same_adds : (run : Run) (runs : List Run) (track : ℕ) → adds (in_runs runs) run.first run.len track ≡ in_runs (run ∷ runs) track
same_adds run runs track = either_way (adds (in_runs runs) run.first run.len track) (in_runs (run ∷ runs) track) to from
  where
    to : adds (in_runs runs) run.first run.len track ≡ true → in_runs (run ∷ runs) track ≡ true
    to is =
        ⊎_elim (λ here. or_left (holds run track) (in_runs runs track) (says_holds run track here))
        (λ out. or_right (holds run track) (in_runs runs track) (sym (adds_out (in_runs runs) run.first run.len track out) ∙ is)) (where_is run track)

    from : in_runs (run ∷ runs) track ≡ true → adds (in_runs runs) run.first run.len track ≡ true
    from is =
        ⊎_elim (λ here. adds_in (in_runs runs) run.first run.len track here.0 here.1)
        (λ out. adds_out (in_runs runs) run.first run.len track out
        ∙ ⊎_elim (λ here. absurd (not_both run track out (holds_says run track here))) (λ later. later) (or_cases (holds run track) (in_runs runs track) is)) (where_is run track)

-- a run that lies apart from others, before them or between them, begins one more but for those that it touches
run_added : (run : Run) (runs : List Run) (limit : ℕ) → 1 ≤ run.len → run.first + run.len < limit → ((track : ℕ) → HasTrack run track → ¬ InRuns runs track)
    → (starts (in_runs (run ∷ runs)) limit + bit (before (in_runs runs) run.first)) + bit (in_runs runs (run.first + run.len)) ≡ starts (in_runs runs) limit + 1
run_added run runs limit some below out =
    let set = in_runs runs in
    let more = run.len - 1 in
    let long : suc more ≡ run.len = omega (arith, some) in
    let outside : (track : ℕ) → run.first ≤ track → track < run.first + suc more → set track ≡ false =
    λ track high low. not_true (set track) (λ is. out track (high, omega (arith, low, long)) (in_says runs track is)) in
    let added = starts_adds set run.first more limit outside (omega (arith, below, long)) in
    subst (λ (s : ℕ → Bool). (starts s limit + bit (before set run.first)) + bit (set (run.first + run.len)) ≡ starts set limit + 1) (λ i track. same_adds run runs track i)
    (subst (λ (len : ℕ). (starts (adds set run.first len) limit + bit (before set run.first)) + bit (set (run.first + len)) ≡ starts set limit + 1) long added)

not_before : (runs : List Run) (track : ℕ) → ((other : ℕ) → other < track → ¬ InRuns runs other) → bit (before (in_runs runs) track) ≡ 0
not_before runs zero none = refl
not_before runs (suc track) none = ap bit (not_true (in_runs runs track) (λ is. none track (omega arith) (in_says runs track is)))

starts_runs : (from limit : ℕ) (runs : List Run) → AreApart from runs → All (λ run. run.first + run.len < limit) runs → starts (in_runs runs) limit ≡ length runs
starts_runs from limit [] apart below = starts_none limit
starts_runs from limit (run ∷ runs) apart below =
    let behind = run.first + run.len + 1 in
    let later = starts_runs behind limit runs apart.2 (All-tail (λ (r : Run). r.first + r.len < limit) run runs below) in
    let added = run_added run runs limit apart.1 (All-head (λ (r : Run). r.first + r.len < limit) run runs below)
    (λ track here there. omega (arith, here.1, from_le behind runs track apart.2 there)) in
    let front : bit (before (in_runs runs) run.first) ≡ 0 = not_before runs run.first (λ other low there. omega (arith, low, from_le behind runs other apart.2 there)) in
    let back : bit (in_runs runs (run.first + run.len)) ≡ 0 =
    ap bit (not_true (in_runs runs (run.first + run.len)) (λ is. omega (arith, from_le behind runs (run.first + run.len) apart.2 (in_says runs (run.first + run.len) is)))) in
    omega (arith, added, front, back, later)

starts_few : (set : ℕ → Bool) (limit : ℕ) → starts set limit ≤ limit
starts_few set zero = omega arith
starts_few set (suc limit) = omega (arith, starts_few set limit, one (starts_at set limit))
  where
    one : (b : Bool) → bit b ≤ 1
    one true = omega arith
    one false = omega arith

-- runs below a track are no more than so many
pub runs_few : (limit : ℕ) (runs : List Run) → AreApart 0 runs → All (λ run. run.first + run.len < limit) runs → length runs ≤ limit
runs_few limit runs apart below = omega (arith, starts_few (in_runs runs) limit, starts_runs 0 limit runs apart below)

-- ---- beside a run

beside_is : (runs more : List Run) (run : Run) (count : ℕ) (all : List Run) → ((track : ℕ) → (InRuns runs track ⊎ InRuns more track) ↔ InRuns all track)
    → IsBeside (λ track. InRuns runs track ⊎ InRuns more track) run count → count ≡ bit (before (in_runs all) run.first) + bit (in_runs all (run.first + run.len))
beside_is runs more run count all same is =
    is.count_is ∙ (λ i. bit (front run.first is.before_is i) + bit (back i))
  where
    back : is.behind ≡ in_runs all (run.first + run.len)
    back = either_way is.behind (in_runs all (run.first + run.len)) (λ b. says_in all (run.first + run.len) ((same (run.first + run.len)).0 (is.behind_is.0 b)))
        (λ there. is.behind_is.1 ((same (run.first + run.len)).1 (in_says all (run.first + run.len) there)))

    front : (first : ℕ) → (IsTrue is.before ↔ ((1 ≤ first) × (InRuns runs (first - 1) ⊎ InRuns more (first - 1)))) → is.before ≡ before (in_runs all) first
    front zero told = not_true is.before (λ b. omega (arith, (told.0 b).0))
    front (suc track) told =
        let at : suc track - 1 ≡ track = omega arith in
        let In : ℕ → Type 0 = λ other. InRuns runs other ⊎ InRuns more other in
        either_way is.before (in_runs all track) (λ b. says_in all track ((same track).0 (subst In at (told.0 b).1)))
        (λ there. told.1 (omega arith, subst In (sym at) ((same track).1 (in_says all track there))))

-- ---- a move

below_all : (from limit : ℕ) (runs : List Run) → AreApart from runs → ((track : ℕ) → InRuns runs track → track < limit) → All (λ run. run.first + run.len < limit + 1) runs
below_all from limit [] apart below = All-nil (λ (r : Run). r.first + r.len < limit + 1)
below_all from limit (run ∷ runs) apart below =
    let last = below (run.first + (run.len - 1)) (inl (omega arith, omega (arith, apart.1))) in
    All-cons (λ (r : Run). r.first + r.len < limit + 1) run runs (omega (arith, last, apart.1))
    (below_all (run.first + run.len + 1) limit runs apart.2 (λ track there. below track (inr there)))

runs_below : (limit : ℕ) (runs : List Run) → All (λ run. run.first + run.len ≤ limit) runs → (track : ℕ) → InRuns runs track → track < limit
runs_below limit [] all track there = absurd there
runs_below limit (run ∷ runs) all track (inl here) = omega (arith, here.1, All-head (λ (r : Run). r.first + r.len ≤ limit) run runs all)
runs_below limit (run ∷ runs) all track (inr later) = runs_below limit runs (All-tail (λ (r : Run). r.first + r.len ≤ limit) run runs all) track later

module _ (free : Free) (apart : AreApart 0 free.runs) (within : All (λ run. run.first + run.len ≤ free.usable) free.runs) (from to : Run) (some : 1 ≤ from.len) (as_many : to.len ≡ from.len)
    (inside : from.first + from.len ≤ free.usable) (used : (track : ℕ) → HasTrack from track → ¬ IsFree free track) (takes : (track : ℕ) → HasTrack to track → IsFree free track ⊎ HasTrack from track) where
  free_below : (track : ℕ) → IsFree free track → track < free.usable
  free_below = runs_below free.usable free.runs within

  taken_below : (track : ℕ) → (IsFree free track ⊎ HasTrack from track) → track < free.usable
  taken_below track (inl there) = free_below track there
  taken_below track (inr here) = omega (arith, here.1, inside)

  pub to_inside : to.first + to.len ≤ free.usable
  to_inside =
      let last = to.first + (to.len - 1) in
      omega (arith, some, as_many, taken_below last (takes last (omega arith, omega (arith, some, as_many))))

  pub free_few : length free.runs ≤ free.usable + 1
  free_few = runs_few (free.usable + 1) free.runs apart (below_all 0 free.usable free.runs apart free_below)

  module _ (runs : List Run) (is : AreMaximalRuns (IsFreeThen free from to) runs) where
    then_below : (track : ℕ) → InRuns runs track → track < free.usable
    then_below track there = taken_below track ((is.exact track).1 there).0

    same_all : (track : ℕ) → in_runs (from ∷ free.runs) track ≡ in_runs (to ∷ runs) track
    same_all track =
        either_way (in_runs (from ∷ free.runs) track) (in_runs (to ∷ runs) track)
        (λ there. says_in (to ∷ runs) track (forth (in_says (from ∷ free.runs) track there)))
        (λ there. says_in (from ∷ free.runs) track (back (in_says (to ∷ runs) track there)))
      where
        forth : InRuns (from ∷ free.runs) track → InRuns (to ∷ runs) track
        forth there =
            ⊎_elim (λ here. inl here)
            (λ out. inr ((is.exact track).0 (⊎_elim (λ left. inr left) (λ was. inl was) there, not_both to track out))) (where_is to track)

        back : InRuns (to ∷ runs) track → InRuns (from ∷ free.runs) track
        back (inl here) = ⊎_elim (λ was. inr was) (λ left. inl left) (takes track here)
        back (inr there) = ⊎_elim (λ was. inr was) (λ left. inl left) ((is.exact track).1 there).0

    -- beside the run that is taken lies what is free before it is
    beside_same : (track : ℕ) → ¬ HasTrack to track → in_runs (to ∷ runs) track ≡ in_runs runs track
    beside_same track out = ap (λ (b : Bool). b || in_runs runs track) (not_true (holds to track) (λ is. out (holds_says to track is)))

    front_same : (first : ℕ) → first ≡ to.first → before (in_runs (to ∷ runs)) first ≡ before (in_runs runs) first
    front_same zero at = refl
    front_same (suc track) at = beside_same track (λ here. omega (arith, here.0, at))

    pub counted : (joined left : ℕ) → IsBeside (λ track. InRuns free.runs track ⊎ InRuns [] track) from joined
        → IsBeside (λ track. InRuns free.runs track ⊎ InRuns (from ∷ []) track) to left → length free.runs + left ≡ length runs + joined
    counted joined left at_from at_to =
        let limit = free.usable + 1 in
        let all = from ∷ free.runs in
        let first = starts_runs 0 limit free.runs apart (below_all 0 free.usable free.runs apart free_below) in
        let last = starts_runs 0 limit runs is.apart (below_all 0 free.usable runs is.apart then_below) in
        let given = run_added from free.runs limit some (omega (arith, inside)) used in
        let taken = run_added to runs limit (omega (arith, some, as_many)) (omega (arith, to_inside)) (λ track here there. ((is.exact track).1 there).1 here) in
        let same : starts (in_runs all) limit ≡ starts (in_runs (to ∷ runs)) limit = ap (λ (s : ℕ → Bool). starts s limit) (λ i track. same_all track i) in
        let joins = beside_is free.runs [] from joined free.runs (λ track. (λ there. ⊎_elim (λ was. was) (λ never. absurd never) there, λ was. inl was)) at_from in
        let leaves = beside_is free.runs (from ∷ []) to left all
        (λ track. (λ there. ⊎_elim (λ was. inr was) (λ one. ⊎_elim (λ here. inl here) (λ never. absurd never) one) there, λ there. ⊎_elim (λ here. inr (inl here)) (λ was. inl was) there)) at_to in
        let front : before (in_runs all) to.first ≡ before (in_runs runs) to.first =
        ap (λ (s : ℕ → Bool). before s to.first) (λ i track. same_all track i) ∙ front_same to.first refl in
        let behind : in_runs all (to.first + to.len) ≡ in_runs runs (to.first + to.len) = same_all (to.first + to.len) ∙ beside_same (to.first + to.len) (λ here. omega (arith, here.1)) in
        omega (arith, first, last, given, taken, same, joins, leaves, ap bit front, ap bit behind)
