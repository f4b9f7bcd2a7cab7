-- The ends of runs, noted where they begin.
use Rattle.std.proofs.Common.{◌≡◌, ◌⊎◌, ℕ, zero, suc, ◌+◌, ◌<◌, ◌≤◌, max, List, [], ◌∷◌, ◌++◌, length, take, get_or, set, Bool, false, refl, sym, ap, ◌∙◌, arith, inl, inr, All, replicate}
use Rattle.std.specs.Prelude.{◌&&◌, ◌||◌, nat_le, nat_lt}
use Rattle.std.specs.List.{list_any}
use Rattle.std.proofs.lemmas.Bool.{cases_lt, and_right, lt-ltb, le-ltb, le-leb, lt-leb}
use Rattle.std.proofs.lemmas.List.{get_or_append_left, get_or_past}
use Rattle.std.proofs.lemmas.List.Elements.{All-head, All-tail}
use Rattle.std.proofs.lemmas.List.Folds.{list_any_more}
use Rattle.std.proofs.Math.Bool.{or_assoc}
use Rattle.std.proofs.Math.Seq.{get_or-append_seam}
use Rattle.free_map.specs.declared.run.Run.{Run}
use Rattle.volume_model.specs.Space.{end_of, has_track}
use Rattle.vtoc_check.specs.Reach.{is_marked}
use Rattle.vtoc_check.specs.Tracks.{AreEndsOf, AreTracksOf}
use Rattle.vtoc_check.proofs.Bits.{no_run, or_turn}

-- the greater of two numbers is past a track where one of them is
lt_max : (track a b : ℕ) → nat_lt track (max a b) ≡ (nat_lt track a || nat_lt track b)
lt_max track a b = by (cases_lt track a) (cases_lt track b)
  where
    by : ((track < a) ⊎ (a ≤ track)) → ((track < b) ⊎ (b ≤ track)) → nat_lt track (max a b) ≡ (nat_lt track a || nat_lt track b)
    by (inl p) q = lt-ltb track (max a b) (omega arith) ∙ sym (ap (λ (t : Bool). t || nat_lt track b) (lt-ltb track a p))
    by (inr p) (inl q) = lt-ltb track (max a b) (omega arith) ∙ sym (λ i. le-ltb track a p i || lt-ltb track b q i)
    by (inr p) (inr q) = le-ltb track (max a b) (omega arith) ∙ sym (λ i. le-ltb track a p i || le-ltb track b q i)

-- one number among others is raised
raised : (track : ℕ) (ends : List ℕ) (n first end : ℕ) → first < length ends
    → list_any (nat_lt track) (take n (set ends first (max (get_or ends first 0) end))) ≡ (list_any (nat_lt track) (take n ends) || (nat_lt first n && nat_lt track end))
raised track [] n first end lt = absurd (omega (arith, lt))
raised track (x ∷ ends) zero first end lt = sym (ap (λ (b : Bool). b && nat_lt track end) (le-ltb first 0 (omega arith)))
raised track (x ∷ ends) (suc n) zero end lt =
    ap (λ (b : Bool). b || list_any (nat_lt track) (take n ends)) (lt_max track x end)
    ∙ or_turn (nat_lt track x) (nat_lt track end) (list_any (nat_lt track) (take n ends))
    ∙ sym (ap (λ (b : Bool). (nat_lt track x || list_any (nat_lt track) (take n ends)) || (b && nat_lt track end)) (lt-ltb 0 (suc n) (omega arith)))
raised track (x ∷ ends) (suc n) (suc first) end lt =
    ap (λ (b : Bool). nat_lt track x || b) (raised track ends n first end (omega (arith, lt)))
    ∙ sym (or_assoc (nat_lt track x) (list_any (nat_lt track) (take n ends)) (nat_lt first n && nat_lt track end))
    ∙ ap (λ (b : Bool). (nat_lt track x || list_any (nat_lt track) (take n ends)) || (b && nat_lt track end)) (same (cases_lt first n))
  where
    same : ((first < n) ⊎ (n ≤ first)) → nat_lt first n ≡ nat_lt (suc first) (suc n)
    same (inl p) = lt-ltb first n p ∙ sym (lt-ltb (suc first) (suc n) (omega (arith, p)))
    same (inr p) = le-ltb first n p ∙ sym (le-ltb (suc first) (suc n) (omega (arith, p)))

within_one : (first track : ℕ) → nat_lt first (track + 1) ≡ nat_le first track
within_one first track = by (cases_lt track first)
  where
    by : ((track < first) ⊎ (first ≤ track)) → nat_lt first (track + 1) ≡ nat_le first track
    by (inl p) = le-ltb first (track + 1) (omega (arith, p)) ∙ sym (lt-leb first track p)
    by (inr p) = lt-ltb first (track + 1) (omega (arith, p)) ∙ sym (le-leb first track p)

pub ends_more : (runs : List Run) (i : ℕ) (ends noted : List ℕ) → i < length runs → (get_or runs i no_run).first < length ends
    → noted ≡ set ends (get_or runs i no_run).first (max (get_or ends (get_or runs i no_run).first 0) (end_of (get_or runs i no_run))) → length noted ≡ length ends
    → AreEndsOf (take i runs) ends → AreEndsOf (take (i + 1) runs) noted
ends_more runs i ends noted lt inside is long h = λ track less.
    let run : Run = get_or runs i no_run in
    ap (λ (xs : List ℕ). list_any (nat_lt track) (take (track + 1) xs)) is
    ∙ raised track ends (track + 1) run.first (end_of run) inside
    ∙ (λ j. h track (omega (arith, less, long)) j || (within_one run.first track j && nat_lt track (end_of run)))
    ∙ sym (list_any_more (has_track track) runs i no_run lt)

-- ---- the tracks before them

pub end_more : (ends : List ℕ) (i end : ℕ) → i < length ends → ((place : ℕ) → nat_lt place end ≡ list_any (nat_lt place) (take i ends))
    → (place : ℕ) → nat_lt place (max end (get_or ends i 0)) ≡ list_any (nat_lt place) (take (i + 1) ends)
end_more ends i end lt h place = lt_max place end (get_or ends i 0) ∙ ap (λ (b : Bool). b || nat_lt place (get_or ends i 0)) (h place) ∙ sym (list_any_more (nat_lt place) ends i 0 lt)

pub marks_more : (ends : List ℕ) (i : ℕ) (marks pushed : List Bool) (one : Bool) → length marks ≡ i → pushed ≡ marks ++ one ∷ [] → one ≡ list_any (nat_lt i) (take (i + 1) ends)
    → ((place : ℕ) → place < i → is_marked marks place ≡ list_any (nat_lt place) (take (place + 1) ends))
    → (place : ℕ) → place < i + 1 → is_marked pushed place ≡ list_any (nat_lt place) (take (place + 1) ends)
marks_more ends i marks pushed one long is e h place lt = by (cases_lt place i)
  where
    by : ((place < i) ⊎ (i ≤ place)) → is_marked pushed place ≡ list_any (nat_lt place) (take (place + 1) ends)
    by (inl less) = ap (λ (xs : List Bool). is_marked xs place) is ∙ get_or_append_left marks (one ∷ []) false place (omega (arith, less, long)) ∙ h place less
    by (inr over) =
        let same : place ≡ i = omega (arith, lt, over) in
        ap (λ (xs : List Bool). is_marked xs place) is ∙ ap (λ (n : ℕ). is_marked (marks ++ one ∷ []) n) (same ∙ sym long) ∙ get_or-append_seam marks one [] false
        ∙ e ∙ ap (λ (n : ℕ). list_any (nat_lt n) (take (n + 1) ends)) (sym same)

-- ---- at first, and at last

zeros : (track n k : ℕ) → list_any (nat_lt track) (take k (replicate n 0)) ≡ false
zeros track n zero = refl
zeros track zero (suc k) = refl
zeros track (suc n) (suc k) = (λ i. le-ltb track 0 (omega arith) i || zeros track n k i)

pub no_ends : (ends : List ℕ) (n : ℕ) → ends ≡ replicate n 0 → AreEndsOf [] ends
no_ends ends n e track lt = ap (λ (xs : List ℕ). list_any (nat_lt track) (take (track + 1) xs)) e ∙ zeros track n (track + 1)

past_all : (runs : List Run) (limit track : ℕ) → All (λ run. end_of run ≤ limit) runs → limit ≤ track → list_any (has_track track) runs ≡ false
past_all [] limit track h le = refl
past_all (run ∷ runs) limit track h le =
    (λ i. and_right (nat_le run.first track) (nat_lt track (end_of run)) (le-ltb track (end_of run) (omega (arith, All-head (λ (r : Run). end_of r ≤ limit) run runs h, le))) i
    || past_all runs limit track (All-tail (λ (r : Run). end_of r ≤ limit) run runs h) le i)

pub all_marks : (runs : List Run) (ends : List ℕ) (marks : List Bool) (limit : ℕ) → All (λ run. end_of run ≤ limit) runs → length ends ≡ limit → length marks ≡ length ends → AreEndsOf runs ends
    → ((track : ℕ) → track < length ends → is_marked marks track ≡ list_any (nat_lt track) (take (track + 1) ends)) → AreTracksOf runs marks
all_marks runs ends marks limit within long same noted marked track = by (cases_lt track (length ends))
  where
    by : ((track < length ends) ⊎ (length ends ≤ track)) → is_marked marks track ≡ list_any (has_track track) runs
    by (inl lt) = marked track lt ∙ noted track lt
    by (inr le) = get_or_past marks track false (omega (arith, le, same)) ∙ sym (past_all runs limit track within (omega (arith, le, long)))
