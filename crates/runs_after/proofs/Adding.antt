-- How many runs begin once a run is added to a set of tracks.
use Rattle.std.proofs.Common.{◌≡◌, ◌≢◌, ◌⊎◌, inl, inr, ℕ, zero, suc, ◌+◌, ◌<◌, ◌≤◌, Bool, true, false, ◌&&◌, ◌||◌, not, ◌==◌, refl, sym, ap, subst, ◌∙◌, arith}
use Rattle.std.proofs.lemmas.Bool.{cases_eq, eq-eqb, ne_eqb}
use Rattle.runs_after.specs.After.{bit}
use Rattle.runs_after.proofs.Starts.{before, starts_at, starts}

-- ---- one track

abbrev pub with : (ℕ → Bool) → ℕ → ℕ → Bool
with set x track = set track || (track == x)

other : (set : ℕ → Bool) (x track : ℕ) → track ≢ x → with set x track ≡ set track
other set x track apart = ap (λ (b : Bool). set track || b) (ne_eqb track x apart) ∙ or_false (set track)
  where
    or_false : (b : Bool) → (b || false) ≡ b
    or_false true = refl
    or_false false = refl

here : (set : ℕ → Bool) (x : ℕ) → with set x x ≡ true
here set x = ap (λ (b : Bool). set x || b) (eq-eqb x x refl) ∙ or_true (set x)
  where
    or_true : (b : Bool) → (b || true) ≡ true
    or_true true = refl
    or_true false = refl

before_other : (set : ℕ → Bool) (x track : ℕ) → track ≢ suc x → before (with set x) track ≡ before set track
before_other set x zero apart = refl
before_other set x (suc track) apart = other set x track (λ same. apart (ap suc same))

start_other : (set : ℕ → Bool) (x track : ℕ) → track ≢ x → track ≢ suc x → starts_at (with set x) track ≡ starts_at set track
start_other set x track apart behind = λ i. other set x track apart i && not (before_other set x track behind i)

-- below it nothing changes
starts_below : (set : ℕ → Bool) (x limit : ℕ) → limit ≤ x → starts (with set x) limit ≡ starts set limit
starts_below set x zero below = refl
starts_below set x (suc limit) below =
    λ i. starts_below set x limit (omega (arith, below)) i + bit (start_other set x limit (λ same. omega (arith, same, below)) (λ same. omega (arith, same, below)) i)

one_or_other : (b : Bool) → bit (not b) + bit b ≡ 1
one_or_other true = refl
one_or_other false = refl

none_with : (b : Bool) → bit (b && false) ≡ 0
none_with true = refl
none_with false = refl

all_with : (b : Bool) → bit (b && true) ≡ bit b
all_with true = refl
all_with false = refl

module _ (set : ℕ → Bool) (x : ℕ) (out : set x ≡ false) where
  start_here : bit (starts_at (with set x) x) ≡ bit (not (before set x))
  start_here =
      ap bit (λ i. here set x i && not (before_other set x x (λ same. omega (arith, same)) i))

  start_was : bit (starts_at set x) ≡ 0
  start_was = ap (λ (b : Bool). bit (b && not (before set x))) out

  start_next : bit (starts_at (with set x) (suc x)) ≡ 0
  start_next = ap (λ (b : Bool). bit (with set x (suc x) && not b)) (here set x) ∙ none_with (with set x (suc x))

  start_next_was : bit (starts_at set (suc x)) ≡ bit (set (suc x))
  start_next_was = ap (λ (b : Bool). bit (set (suc x) && not b)) out ∙ all_with (set (suc x))

  -- so many more runs begin up to the track behind it
  starts_beside : (starts (with set x) (suc (suc x)) + bit (before set x)) + bit (set (suc x)) ≡ starts set (suc (suc x)) + 1
  starts_beside =
      omega (arith, starts_below set x x (omega arith), start_here, start_was, start_next, start_next_was, one_or_other (before set x))

  -- and so it stays above
  pub starts_with : (limit : ℕ) → suc (suc x) ≤ limit → (starts (with set x) limit + bit (before set x)) + bit (set (suc x)) ≡ starts set limit + 1
  starts_with zero above = absurd (omega (arith, above))
  starts_with (suc limit) above = elim (cases_eq limit (suc x)) [
    | inl same ↦
        subst (λ (n : ℕ). (starts (with set x) n + bit (before set x)) + bit (set (suc x)) ≡ starts set n + 1) (ap suc (sym same)) starts_beside
    | inr apart ↦
        let later : suc (suc x) ≤ limit = omega (arith, above, apart) in
        omega (arith, starts_with limit later, ap bit (start_other set x limit (λ same. omega (arith, same, later)) (λ same. omega (arith, same, later))))
  ]

-- ---- a run

-- a set and so many tracks from one on
abbrev pub adds : (ℕ → Bool) → ℕ → ℕ → ℕ → Bool
adds set first zero = set
adds set first (suc more) = with (adds set first more) (first + more)

pub adds_in : (set : ℕ → Bool) (first len track : ℕ) → first ≤ track → track < first + len → adds set first len track ≡ true
adds_in set first zero track from below = absurd (omega (arith, from, below))
adds_in set first (suc len) track from below = elim (cases_eq track (first + len)) [
  | inl same ↦ ap (λ (t : ℕ). with (adds set first len) (first + len) t) same ∙ here (adds set first len) (first + len)
  | inr apart ↦ other (adds set first len) (first + len) track apart ∙ adds_in set first len track from (omega (arith, below, apart))
]

pub adds_out : (set : ℕ → Bool) (first len track : ℕ) → (track < first) ⊎ (first + len ≤ track) → adds set first len track ≡ set track
adds_out set first zero track out = refl
adds_out set first (suc len) track (inl below) =
    other (adds set first len) (first + len) track (λ same. omega (arith, same, below)) ∙ adds_out set first len track (inl below)
adds_out set first (suc len) track (inr above) =
    other (adds set first len) (first + len) track (λ same. omega (arith, same, above)) ∙ adds_out set first len track (inr (omega (arith, above)))

adds_before : (set : ℕ → Bool) (first len track : ℕ) → track ≤ first → before (adds set first len) track ≡ before set track
adds_before set first len zero below = refl
adds_before set first len (suc track) below = adds_out set first len track (inl (omega (arith, below)))

-- one run more begins, but for those that it touches
pub starts_adds : (set : ℕ → Bool) (first more limit : ℕ) → ((track : ℕ) → first ≤ track → track < first + suc more → set track ≡ false) → suc (suc (first + more)) ≤ limit
    → (starts (adds set first (suc more)) limit + bit (before set first)) + bit (set (first + suc more)) ≡ starts set limit + 1
starts_adds set first zero limit out above =
    let at : first + zero ≡ first = omega arith in
    let behind : suc first ≡ first + suc zero = omega arith in
    subst (λ (n : ℕ). (starts (with set (first + zero)) limit + bit (before set first)) + bit (set n) ≡ starts set limit + 1) behind
    (subst (λ (n : ℕ). (starts (with set n) limit + bit (before set first)) + bit (set (suc first)) ≡ starts set limit + 1) (sym at)
    (starts_with set first (out first (omega arith) (omega arith)) limit (omega (arith, above, at))))
starts_adds set first (suc more) limit out above =
    let now = adds set first (suc more) in
    let x = first + suc more in
    let behind : suc (first + suc more) ≡ first + suc (suc more) = omega arith in
    let step = starts_with now x (adds_out set first (suc more) x (inr (omega arith)) ∙ out x (omega arith) (omega arith)) limit above in
    let earlier = starts_adds set first more limit (λ track from below. out track from (omega (arith, below))) (omega (arith, above)) in
    let last : before now x ≡ true = last_in in
    let next : now (suc x) ≡ set (first + suc (suc more)) = adds_out set first (suc more) (suc x) (inr (omega arith)) ∙ ap set behind in
    omega (arith, step, earlier, ap bit last, ap bit next, ap bit (out x (omega arith) (omega arith)))
  where
    last_in : before (adds set first (suc more)) (first + suc more) ≡ true
    last_in =
        let same : suc (first + more) ≡ first + suc more = omega arith in
        ap (before (adds set first (suc more))) (sym same) ∙ adds_in set first (suc more) (first + more) (omega arith) (omega arith)
