-- Tracks as marks.
use Rattle.std.proofs.Common.{◌≡◌, ◌⊎◌, ℕ, ◌+◌, ◌<◌, ◌≤◌, List, [], ◌∷◌, ◌++◌, length, take, get_or, set, Bool, true, false, cond, not, refl, sym, ap, ◌∙◌, subst, arith, inl, inr, ⊎_elim, All}
use Rattle.std.specs.Prelude.{◌&&◌, ◌||◌, nat_le, nat_lt}
use Rattle.std.specs.List.{list_any}
use Rattle.std.proofs.lemmas.Bool.{cases_eq, cases_lt, and_parts, and_from, and_left, and_right, ltb-true, leb-true, lt-ltb, le-leb, le-ltb, lt-leb}
use Rattle.std.proofs.lemmas.List.{get_or-set_same, get_or-set_other, length-set, take_more}
use Rattle.std.proofs.lemmas.List.Folds.{list_any-append, list_any_more}
use Rattle.std.proofs.lemmas.List.Elements.{All-contains, All-get_or, All-take, All-append}
use Rattle.free_map.specs.declared.run.Run.{Run}
use Rattle.volume_model.specs.Space.{end_of, has_track, overlap}
use Rattle.volume_model.specs.Check.{any_overlap, overlap_within, later_ones}
use Rattle.vtoc_check.specs.Reach.{is_marked}
use Rattle.vtoc_check.specs.Tracks.{HasTracks, AreTracksOf, AreMarkedUpTo}
use Rattle.vtoc_check.proofs.Steps.{later_push}
use Rattle.vtoc_check.proofs.Marks.{any_passes, passes_any}
use Rattle.std.proofs.Math.Bool.{or-false, or-true, or_assoc}

-- ---- one run

pub no_marks_yet : (first : ℕ) (before : List Bool) → AreMarkedUpTo first first before false before
no_marks_yet first before = record {
  long = refl;
  marked = λ track. sym (ap (λ (b : Bool). is_marked before track || b) (none_between track (cases_lt track first)) ∙ or-false (is_marked before track));
  some = λ e. absurd (let q : false ≡ true = e in cc);
  none = λ e track low high. absurd (omega (arith, low, high));
}
  where
    none_between : (track : ℕ) → ((track < first) ⊎ (first ≤ track)) → (nat_le first track && nat_lt track first) ≡ false
    none_between track (inl lt) = and_left (nat_le first track) (nat_lt track first) (lt-leb first track lt)
    none_between track (inr le) = and_right (nat_le first track) (nat_lt track first) (le-ltb track first le)

pub one_more_mark : (first end : ℕ) (before after : List Bool) (hit was : Bool) → first ≤ end → end < length before → was ≡ is_marked after end
    → AreMarkedUpTo first end before hit after → AreMarkedUpTo first (end + 1) before (hit || was) (set after end true)
one_more_mark first end before after hit was low inside is h = record {
  long = length-set after end true ∙ h.long;
  marked = λ track. marks track (cases_eq track end);
  some = λ e. found hit was is e refl;
  none = λ e track le lt. free hit was is e refl track le lt (cases_eq track end);
}
  where
    at_end : is_marked after end ≡ is_marked before end
    at_end = h.marked end ∙ ap (λ (b : Bool). is_marked before end || b) (and_right (nat_le first end) (nat_lt end end) (le-ltb end end (omega arith))) ∙ or-false (is_marked before end)

    marks : (track : ℕ) → ((track ≡ end) ⊎ (track ≡ end → ⊥)) → is_marked (set after end true) track ≡ (is_marked before track || (nat_le first track && nat_lt track (end + 1)))
    marks track (inl same) =
        ap (λ (t : ℕ). is_marked (set after end true) t) same ∙ get_or-set_same after end true false (omega (arith, inside, h.long))
        ∙ sym (ap (λ (b : Bool). is_marked before track || b) (and_from (nat_le first track) (nat_lt track (end + 1)) (le-leb first track (omega (arith, low, same))) (lt-ltb track (end + 1) (omega (arith, same))))
        ∙ or-true (is_marked before track))
    marks track (inr other) =
        get_or-set_other after end track true false other ∙ h.marked track
        ∙ ap (λ (b : Bool). is_marked before track || (nat_le first track && b)) (one_later (cases_lt track end))
      where
        one_later : ((track < end) ⊎ (end ≤ track)) → nat_lt track end ≡ nat_lt track (end + 1)
        one_later (inl lt) = lt-ltb track end lt ∙ sym (lt-ltb track (end + 1) (omega (arith, lt)))
        one_later (inr le) = le-ltb track end le ∙ sym (le-ltb track (end + 1) (apart other le))
          where
            apart : (track ≡ end → ⊥) → end ≤ track → end + 1 ≤ track
            apart differ least = ⊎_elim (λ lt. omega (arith, lt)) (λ over. absurd (differ (omega (arith, over, least)))) (cases_lt end track)

    found : (s t : Bool) → t ≡ is_marked after end → (s || t) ≡ true → hit ≡ s → (track : ℕ) × (first ≤ track) × (track < end + 1) × (is_marked before track ≡ true)
    found true t q e same = let one = h.some same in (one.0, one.1, omega (arith, one.2), one.3)
    found false t q e same = (end, low, omega arith, sym at_end ∙ sym q ∙ e)

    free : (s t : Bool) → t ≡ is_marked after end → (s || t) ≡ false → hit ≡ s → (track : ℕ) → first ≤ track → track < end + 1 → ((track ≡ end) ⊎ (track ≡ end → ⊥)) → is_marked before track ≡ false
    free true t q e same track le lt cases = absurd (let r : true ≡ false = e in cc)
    free false t q e same track le lt (inl here) = ap (is_marked before) here ∙ sym at_end ∙ sym q ∙ e
    free false t q e same track le lt (inr other) = h.none same track le (⊎_elim (λ less. less) (λ over. absurd (other (omega (arith, over, lt)))) (cases_lt track end))

-- ---- runs that have a track in common

track_in : (track : ℕ) (run : Run) → has_track track run ≡ true → (run.first ≤ track) × (track < end_of run)
track_in track run e = let both = and_parts (nat_le run.first track) (nat_lt track (end_of run)) e in (leb-true run.first track both.0, ltb-true track (end_of run) both.1)

in_track : (track : ℕ) (run : Run) → run.first ≤ track → track < end_of run → has_track track run ≡ true
in_track track run low high = and_from (nat_le run.first track) (nat_lt track (end_of run)) (le-leb run.first track low) (lt-ltb track (end_of run) high)

shared : (a b : Run) → HasTracks a → HasTracks b → overlap a b ≡ true → (track : ℕ) × (has_track track a ≡ true) × (has_track track b ≡ true)
shared a b some more e =
    let both = and_parts (nat_lt a.first (end_of b)) (nat_lt b.first (end_of a)) e in
    let p : a.first < end_of b = ltb-true a.first (end_of b) both.0 in
    let q : b.first < end_of a = ltb-true b.first (end_of a) both.1 in
    ⊎_elim (λ lt. (b.first, in_track b.first a (omega (arith, lt)) q, in_track b.first b (omega arith) (omega (arith, more)))) (λ le. (a.first, in_track a.first a (omega arith) (omega (arith, some)), in_track a.first b le p))
    (cases_lt a.first b.first)

overlaps : (a b : Run) (track : ℕ) → has_track track a ≡ true → has_track track b ≡ true → overlap a b ≡ true
overlaps a b track p q =
    let s = track_in track a p in
    let t = track_in track b q in
    and_from (nat_lt a.first (end_of b)) (nat_lt b.first (end_of a)) (lt-ltb a.first (end_of b) (omega (arith, s.0, t.1))) (lt-ltb b.first (end_of a) (omega (arith, t.0, s.1)))

-- a run hits a mark exactly where it has a track with one of the runs that are marked
pub hits : (run : Run) (others : List Run) (before after : List Bool) (hit : Bool) → AreTracksOf others before → All HasTracks others → HasTracks run → AreMarkedUpTo run.first (end_of run) before hit after
    → hit ≡ list_any (overlap run) others
hits run others before after hit marks some here h = by hit (list_any (overlap run) others) refl refl
  where
    by : (s t : Bool) → hit ≡ s → list_any (overlap run) others ≡ t → s ≡ t
    by true true p q = refl
    by false false p q = refl
    by true false p q =
        let at = h.some p in
        let in_one = any_passes (has_track at.0) others (sym (marks at.0) ∙ at.3) in
        let r : true ≡ false = sym (passes_any (overlap run) others in_one.0 in_one.1 (overlaps run in_one.0 at.0 (in_track at.0 run at.1 at.2) in_one.2)) ∙ q in cc
    by false true p q =
        let in_one = any_passes (overlap run) others q in
        let at = shared run in_one.0 here (All-contains HasTracks others in_one.0 some in_one.1) in_one.2 in
        let inside = track_in at.0 run at.1 in
        let r : true ≡ false = sym (marks at.0 ∙ passes_any (has_track at.0) others in_one.0 in_one.1 at.2) ∙ h.none p at.0 inside.0 inside.1 in cc

-- ---- runs, one after another

pub or_turn : (a b c : Bool) → ((a || b) || c) ≡ ((a || c) || b)
or_turn true b c = refl
or_turn false true true = refl
or_turn false true false = refl
or_turn false false true = refl
or_turn false false false = refl

pub or_swap : (a b c d : Bool) → ((a || b) || (c || d)) ≡ ((a || c) || (b || d))
or_swap true b c d = refl
or_swap false true true d = refl
or_swap false true false d = refl
or_swap false false c d = refl

some_push : {X : Type 0} (xs : List X) (x : X) (b : Bool) → not (nat_le (length (xs ++ cond b (x ∷ []) [])) 0) ≡ (not (nat_le (length xs) 0) || b)
some_push [] x true = ap not (lt-leb (length (x ∷ [])) 0 (omega arith))
some_push [] x false = refl
some_push (y ∷ xs) x b =
    ap not (lt-leb (length (y ∷ (xs ++ cond b (x ∷ []) []))) 0 (omega arith)) ∙ sym (ap (λ (t : Bool). not t || b) (lt-leb (length (y ∷ xs)) 0 (omega arith)))

within_push : (runs : List Run) (run : Run) → overlap_within (runs ++ run ∷ []) ≡ (overlap_within runs || list_any (overlap run) runs)
within_push runs run =
    ap (λ (found : List Run). not (nat_le (length found) 0)) (later_push overlap runs run) ∙ some_push (later_ones overlap runs) run (list_any (overlap run) runs)

abbrev pub no_run : Run
no_run = record { first = 0; len = 0 }

pub marked_more : (runs : List Run) (i : ℕ) (before now after : List Bool) (hit : Bool) → i < length runs
    → ((track : ℕ) → is_marked now track ≡ (is_marked before track || list_any (has_track track) (take i runs)))
    → AreMarkedUpTo (get_or runs i no_run).first (end_of (get_or runs i no_run)) now hit after
    → (track : ℕ) → is_marked after track ≡ (is_marked before track || list_any (has_track track) (take (i + 1) runs))
marked_more runs i before now after hit lt h one track =
    one.marked track
    ∙ ap (λ (b : Bool). b || has_track track (get_or runs i no_run)) (h track)
    ∙ or_assoc (is_marked before track) (list_any (has_track track) (take i runs)) (has_track track (get_or runs i no_run))
    ∙ ap (λ (b : Bool). is_marked before track || b) (sym (list_any_more (has_track track) runs i no_run lt))

pub hit_more : (runs others : List Run) (i : ℕ) (before now after : List Bool) (hit was next : Bool) → i < length runs
    → ((track : ℕ) → is_marked now track ≡ (is_marked before track || list_any (has_track track) (take i runs)))
    → AreMarkedUpTo (get_or runs i no_run).first (end_of (get_or runs i no_run)) now was after
    → AreTracksOf others before → All HasTracks others → All HasTracks runs → next ≡ (hit || was)
    → hit ≡ (any_overlap (take i runs) others || overlap_within (take i runs))
    → next ≡ (any_overlap (take (i + 1) runs) others || overlap_within (take (i + 1) runs))
hit_more runs others i before now after hit was next lt marked one are some all is h =
    let run : Run = get_or runs i no_run in
    let there : AreTracksOf (others ++ take i runs) now =
    λ track. marked track ∙ ap (λ (b : Bool). b || list_any (has_track track) (take i runs)) (are track) ∙ sym (list_any-append (has_track track) others (take i runs)) in
    let was_is : was ≡ (list_any (overlap run) others || list_any (overlap run) (take i runs)) =
    hits run (others ++ take i runs) now after was there (All-append HasTracks others (take i runs) some (All-take HasTracks i runs all)) (All-get_or HasTracks runs i no_run lt all) one
    ∙ list_any-append (overlap run) others (take i runs) in
    is
    ∙ (λ j. h j || was_is j)
    ∙ or_swap (any_overlap (take i runs) others) (overlap_within (take i runs)) (list_any (overlap run) others) (list_any (overlap run) (take i runs))
    ∙ sym ((λ j. list_any_more (λ (r : Run). list_any (overlap r) others) runs i no_run lt j || overlap_within (take_more runs i no_run lt j))
    ∙ ap (λ (b : Bool). (any_overlap (take i runs) others || list_any (overlap run) others) || b) (within_push (take i runs) run))

pub same_marking : (first end : ℕ) (before now after : List Bool) (hit was next : Bool) → first ≤ end → end < length before → was ≡ is_marked now end → after ≡ set now end true → next ≡ (hit || was)
    → AreMarkedUpTo first end before hit now → AreMarkedUpTo first (end + 1) before next after
same_marking first end before now after hit was next low inside is made either h =
    let P : List Bool → Type 0 = λ marks. AreMarkedUpTo first (end + 1) before next marks in
    let Q : Bool → Type 0 = λ b. AreMarkedUpTo first (end + 1) before b (set now end true) in
    subst P (sym made) (subst Q (sym either) (one_more_mark first end before now hit was low inside is h))

-- ---- up to the first hit

pub was_free : (hit next : Bool) → (hit ≡ true → next ≡ true) → next ≡ false → hit ≡ false
was_free true next h e = let q : true ≡ false = sym (h refl) ∙ e in cc
was_free false next h e = refl

hit_kept : (runs others : List Run) (i : ℕ) → i < length runs → true ≡ (any_overlap (take i runs) others || overlap_within (take i runs))
    → true ≡ (any_overlap (take (i + 1) runs) others || overlap_within (take (i + 1) runs))
hit_kept runs others i lt h =
    let run : Run = get_or runs i no_run in
    ap (λ (b : Bool). b || (list_any (overlap run) others || list_any (overlap run) (take i runs))) h
    ∙ or_swap (any_overlap (take i runs) others) (overlap_within (take i runs)) (list_any (overlap run) others) (list_any (overlap run) (take i runs))
    ∙ sym ((λ j. list_any_more (λ (r : Run). list_any (overlap r) others) runs i no_run lt j || overlap_within (take_more runs i no_run lt j))
    ∙ ap (λ (b : Bool). (any_overlap (take i runs) others || list_any (overlap run) others) || b) (within_push (take i runs) run))

pub hit_next : (runs others : List Run) (i : ℕ) (before now after : List Bool) (hit next : Bool) → i < length runs
    → (hit ≡ false → (track : ℕ) → is_marked now track ≡ (is_marked before track || list_any (has_track track) (take i runs)))
    → (hit ≡ false → AreMarkedUpTo (get_or runs i no_run).first (end_of (get_or runs i no_run)) now next after) → (hit ≡ true → next ≡ true)
    → AreTracksOf others before → All HasTracks others → All HasTracks runs
    → hit ≡ (any_overlap (take i runs) others || overlap_within (take i runs))
    → next ≡ (any_overlap (take (i + 1) runs) others || overlap_within (take (i + 1) runs))
hit_next runs others i before now after true next lt marked one kept are some all h = kept refl ∙ hit_kept runs others i lt h
hit_next runs others i before now after false next lt marked one kept are some all h = hit_more runs others i before now after false next next lt (marked refl) (one refl) are some all refl h
