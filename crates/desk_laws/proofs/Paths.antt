-- A path is that of one route.
use Rattle.std.proofs.Common.{◌≡◌, ℕ, List, ◌∷◌, ◌++◌, drop, get_or, refl, sym, ap, ◌∙◌}
use Rattle.std.specs.Prelude.{codes, false, ◌==◌}
use Rattle.std.proofs.lemmas.Bool.{eqb-false}
use Rattle.desk_route.specs.Places.{Place, jobs, job, run_of, volume, hold, hold_of, IsPiece, HasPath}
use Rattle.desk_route.proofs.RouteLemmas.{cut_pieces, piece_ends}

-- texts that differ at a place
pub apart_at : (place : ℕ) (a b : List ℕ) → a ≡ b → (get_or a place 0 == get_or b place 0) ≡ false → ⊥
apart_at place a b same differ = eqb-false (get_or a place 0) (get_or b place 0) differ (ap (λ (l : List ℕ). get_or l place 0) same)

-- a piece has no slash
longer : (text piece more : List ℕ) → IsPiece text → IsPiece piece → text ≡ piece ++ (47 ∷ more) → ⊥
longer text piece more t p same = apart_at 0 _ _ (piece_ends text piece (47 ∷ more) t p refl same) refl

pub one_place : (path : List ℕ) (left right : Place) → HasPath left path → HasPath right path → left ≡ right
one_place path jobs jobs h k = refl
one_place path jobs (job key2) h k = absurd (apart_at 5 _ _ (sym h.1 ∙ k.1) refl)
one_place path jobs (run_of key2) h k = absurd (apart_at 5 _ _ (sym h.1 ∙ k.1) refl)
one_place path jobs (volume serial2) h k = absurd (apart_at 1 _ _ (sym h.1 ∙ k.1) refl)
one_place path jobs (hold name2) h k = absurd (apart_at 1 _ _ (sym h.1 ∙ k.1) refl)
one_place path jobs (hold_of name2 holder2) h k = absurd (apart_at 1 _ _ (sym h.1 ∙ k.1) refl)
one_place path (job key) jobs h k = absurd (apart_at 5 _ _ (sym h.1 ∙ k.1) refl)
one_place path (job key) (job key2) h k = ap job (ap (λ (l : List ℕ). drop 6 l) (sym h.1 ∙ k.1))
one_place path (job key) (run_of key2) h k = absurd (longer key key2 (codes "run") h.0 k.0 (ap (λ (l : List ℕ). drop 6 l) (sym h.1 ∙ k.1)))
one_place path (job key) (volume serial2) h k = absurd (apart_at 1 _ _ (sym h.1 ∙ k.1) refl)
one_place path (job key) (hold name2) h k = absurd (apart_at 1 _ _ (sym h.1 ∙ k.1) refl)
one_place path (job key) (hold_of name2 holder2) h k = absurd (apart_at 1 _ _ (sym h.1 ∙ k.1) refl)
one_place path (run_of key) jobs h k = absurd (apart_at 5 _ _ (sym h.1 ∙ k.1) refl)
one_place path (run_of key) (job key2) h k = absurd (longer key2 key (codes "run") k.0 h.0 (sym (ap (λ (l : List ℕ). drop 6 l) (sym h.1 ∙ k.1))))
one_place path (run_of key) (run_of key2) h k = ap run_of (cut_pieces key key2 (codes "/run") (codes "/run") h.0 k.0 refl refl (ap (λ (l : List ℕ). drop 6 l) (sym h.1 ∙ k.1))).0
one_place path (run_of key) (volume serial2) h k = absurd (apart_at 1 _ _ (sym h.1 ∙ k.1) refl)
one_place path (run_of key) (hold name2) h k = absurd (apart_at 1 _ _ (sym h.1 ∙ k.1) refl)
one_place path (run_of key) (hold_of name2 holder2) h k = absurd (apart_at 1 _ _ (sym h.1 ∙ k.1) refl)
one_place path (volume serial) jobs h k = absurd (apart_at 1 _ _ (sym h.1 ∙ k.1) refl)
one_place path (volume serial) (job key2) h k = absurd (apart_at 1 _ _ (sym h.1 ∙ k.1) refl)
one_place path (volume serial) (run_of key2) h k = absurd (apart_at 1 _ _ (sym h.1 ∙ k.1) refl)
one_place path (volume serial) (volume serial2) h k = ap volume (ap (λ (l : List ℕ). drop 9 l) (sym h.1 ∙ k.1))
one_place path (volume serial) (hold name2) h k = absurd (apart_at 1 _ _ (sym h.1 ∙ k.1) refl)
one_place path (volume serial) (hold_of name2 holder2) h k = absurd (apart_at 1 _ _ (sym h.1 ∙ k.1) refl)
one_place path (hold name) jobs h k = absurd (apart_at 1 _ _ (sym h.1 ∙ k.1) refl)
one_place path (hold name) (job key2) h k = absurd (apart_at 1 _ _ (sym h.1 ∙ k.1) refl)
one_place path (hold name) (run_of key2) h k = absurd (apart_at 1 _ _ (sym h.1 ∙ k.1) refl)
one_place path (hold name) (volume serial2) h k = absurd (apart_at 1 _ _ (sym h.1 ∙ k.1) refl)
one_place path (hold name) (hold name2) h k = ap hold (ap (λ (l : List ℕ). drop 7 l) (sym h.1 ∙ k.1))
one_place path (hold name) (hold_of name2 holder2) h k = absurd (longer name name2 holder2 h.0 k.0.0 (ap (λ (l : List ℕ). drop 7 l) (sym h.1 ∙ k.1)))
one_place path (hold_of name holder) jobs h k = absurd (apart_at 1 _ _ (sym h.1 ∙ k.1) refl)
one_place path (hold_of name holder) (job key2) h k = absurd (apart_at 1 _ _ (sym h.1 ∙ k.1) refl)
one_place path (hold_of name holder) (run_of key2) h k = absurd (apart_at 1 _ _ (sym h.1 ∙ k.1) refl)
one_place path (hold_of name holder) (volume serial2) h k = absurd (apart_at 1 _ _ (sym h.1 ∙ k.1) refl)
one_place path (hold_of name holder) (hold name2) h k = absurd (longer name2 name holder k.0 h.0.0 (sym (ap (λ (l : List ℕ). drop 7 l) (sym h.1 ∙ k.1))))
one_place path (hold_of name holder) (hold_of name2 holder2) h k = let parts = cut_pieces name name2 (47 ∷ holder) (47 ∷ holder2) h.0.0 k.0.0 refl refl (ap (λ (l : List ℕ). drop 7 l) (sym h.1 ∙ k.1)) in
    let holders : holder ≡ holder2 = ap (λ (l : List ℕ). drop 1 l) parts.1 in
    λ i. hold_of (parts.0 i) (holders i)
