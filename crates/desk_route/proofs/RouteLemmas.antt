-- Paths and their pieces.
use Rattle.std.proofs.Common.{◌≡◌, ◌≢◌, ℕ, length, arith, List, [], ◌∷◌, ◌++◌, drop, get_or, refl, sym, ap, subst, ◌∙◌}
use Rattle.std.specs.Prelude.{codes, Bool, false, ◌==◌, IsTrue, ◌↔◌}
use Rattle.std.proofs.lemmas.Bool.{false≢true, eqb-false}
use Rattle.std.specs.List.{AllByRecursion}
use Rattle.std.proofs.lemmas.List.{append-nil}
use Rattle.std.proofs.lemmas.List.Elements.{recursion_from_All}
use Rattle.ckd_image.specs.Bytes.{Begins}
use Rattle.desk_route.specs.Places.{Place, jobs, job, run_of, volume, hold, hold_of, IsPiece, IsBehind, HasPath}

abbrev NoSlash : List ℕ → Type 0
NoSlash bytes = AllByRecursion (λ b. b ≢ 47) bytes

no_slash : (piece : List ℕ) → IsPiece piece → NoSlash piece
no_slash piece is = recursion_from_All (λ (b : ℕ). b ≢ 47) piece is.1

-- a piece and what stands behind it are one pair
cut : (a b x y : List ℕ) → NoSlash a → NoSlash b → IsBehind x → IsBehind y → a ++ x ≡ b ++ y → (a ≡ b) × (x ≡ y)
cut [] [] x y na nb bx by same = (refl, same)
cut [] (b ∷ bs) [] y na nb bx by same = absurd (cc)
cut [] (b ∷ bs) (c ∷ x) y na nb bx by same = absurd (nb.0 (let head : c ≡ b = cc in sym head ∙ bx))
cut (a ∷ as') [] x [] na nb bx by same = absurd (cc)
cut (a ∷ as') [] x (c ∷ y) na nb bx by same = absurd (na.0 (let head : a ≡ c = cc in head ∙ by))
cut (a ∷ as') (b ∷ bs) x y na nb bx by same =
    let tails : as' ++ x ≡ bs ++ y = cc in
    let heads : a ≡ b = cc in
    let rest = cut as' bs x y na.1 nb.1 bx by tails in
    ((λ i. heads i ∷ rest.0 i), rest.1)

pub cut_pieces : (a b x y : List ℕ) → IsPiece a → IsPiece b → IsBehind x → IsBehind y → a ++ x ≡ b ++ y → (a ≡ b) × (x ≡ y)
cut_pieces a b x y pa pb bx by same = cut a b x y (no_slash a pa) (no_slash b pb) bx by same

-- a piece doesn't begin as what stands behind one
pub no_piece : (text : List ℕ) → IsBehind text → IsPiece text → ⊥
no_piece [] behind is = omega (arith, is.0)
no_piece (b ∷ text) behind is = (no_slash (b ∷ text) is).0 behind

-- nor is one longer than itself
pub piece_ends : (text piece behind : List ℕ) → IsPiece text → IsPiece piece → IsBehind behind → text ≡ piece ++ behind → behind ≡ []
piece_ends text piece behind t p b same = sym (cut_pieces text piece [] behind t p tt b (append-nil text ∙ same)).1

-- texts whose second bytes differ
apart_by : (a b : List ℕ) → a ≡ b → (get_or a 1 0 == get_or b 1 0) ≡ false → ⊥
apart_by a b same differ = eqb-false (get_or a 1 0) (get_or b 1 0) differ (ap (λ (l : List ℕ). get_or l 1 0) same)

-- a text that was found not to be empty
pub some_by : (text : List ℕ) (empty : Bool) → empty ≡ (length text == 0) → empty ≡ false → text ≢ []
some_by text empty says is same = false≢true (sym is ∙ says ∙ ap (λ (t : List ℕ). length t == 0) same)

pub other_by : (P : Type 0) (b : Bool) → IsTrue b ↔ P → b ≡ false → ¬ P
other_by P b both is p = false≢true (sym is ∙ both.1 p)

-- ---- behind /jobs

abbrev JobsTail : List ℕ → Place → Type 0
JobsTail rest jobs = rest ≡ []
JobsTail rest (job key) = IsPiece key × (rest ≡ 47 ∷ key)
JobsTail rest (run_of key) = IsPiece key × (rest ≡ 47 ∷ (key ++ codes "/run"))
JobsTail rest (volume serial) = ⊥
JobsTail rest (hold name) = ⊥
JobsTail rest (hold_of name holder) = ⊥

jobs_tail : (rest : List ℕ) (place : Place) → HasPath place (codes "/jobs" ++ rest) → JobsTail rest place
jobs_tail rest jobs h = ap (drop 5) h.1
jobs_tail rest (job key) h = (h.0, ap (drop 5) h.1)
jobs_tail rest (run_of key) h = (h.0, ap (drop 5) h.1)
jobs_tail rest (volume serial) h = apart_by _ _ h.1 refl
jobs_tail rest (hold name) h = apart_by _ _ h.1 refl
jobs_tail rest (hold_of name holder) h = apart_by _ _ h.1 refl

-- something that isn't a slash stands there
pub jobs_none_slash : (rest : List ℕ) → rest ≢ [] → ¬ Begins (47 ∷ []) rest → (place : Place) → ¬ HasPath place (codes "/jobs" ++ rest)
jobs_none_slash rest some apart jobs h = some (jobs_tail rest jobs h)
jobs_none_slash rest some apart (job key) h = apart (key, (jobs_tail rest (job key) h).1)
jobs_none_slash rest some apart (run_of key) h = apart (key ++ codes "/run", (jobs_tail rest (run_of key) h).1)
jobs_none_slash rest some apart (volume serial) h = jobs_tail rest (volume serial) h
jobs_none_slash rest some apart (hold name) h = jobs_tail rest (hold name) h
jobs_none_slash rest some apart (hold_of name holder) h = jobs_tail rest (hold_of name holder) h

-- the key is empty
pub jobs_none_key : (rest text : List ℕ) → rest ≡ 47 ∷ text → IsBehind text → (place : Place) → ¬ HasPath place (codes "/jobs" ++ rest)
jobs_none_key rest text is behind jobs h = let both : 47 ∷ text ≡ [] = sym is ∙ jobs_tail rest jobs h in (cc)
jobs_none_key rest text is behind (job key) h =
    let t = jobs_tail rest (job key) h in no_piece key (subst IsBehind (ap (drop 1) (sym is ∙ t.1)) behind) t.0
jobs_none_key rest text is behind (run_of key) h =
    let t = jobs_tail rest (run_of key) h in no_front key (subst IsBehind (ap (drop 1) (sym is ∙ t.1)) behind) t.0
  where
    no_front : (key : List ℕ) → IsBehind (key ++ codes "/run") → IsPiece key → ⊥
    no_front [] behind is = omega (arith, is.0)
    no_front (b ∷ key) behind is = (no_slash (b ∷ key) is).0 behind
jobs_none_key rest text is behind (volume serial) h = jobs_tail rest (volume serial) h
jobs_none_key rest text is behind (hold name) h = jobs_tail rest (hold name) h
jobs_none_key rest text is behind (hold_of name holder) h = jobs_tail rest (hold_of name holder) h

-- more stands behind the key, and it isn't /run
pub jobs_none_more : (rest key behind : List ℕ) → rest ≡ 47 ∷ (key ++ behind) → IsPiece key → IsBehind behind → behind ≢ [] → behind ≢ codes "/run"
    → (place : Place) → ¬ HasPath place (codes "/jobs" ++ rest)
jobs_none_more rest key behind is piece ends some other jobs h = let both : 47 ∷ (key ++ behind) ≡ [] = sym is ∙ jobs_tail rest jobs h in (cc)
jobs_none_more rest key behind is piece ends some other (job k) h =
    let t = jobs_tail rest (job k) h in some (piece_ends k key behind t.0 piece ends (ap (drop 1) (sym t.1 ∙ is)))
jobs_none_more rest key behind is piece ends some other (run_of k) h =
    let t = jobs_tail rest (run_of k) h in other (cut_pieces key k behind (codes "/run") piece t.0 ends refl (ap (drop 1) (sym is ∙ t.1))).1
jobs_none_more rest key behind is piece ends some other (volume serial) h = jobs_tail rest (volume serial) h
jobs_none_more rest key behind is piece ends some other (hold name) h = jobs_tail rest (hold name) h
jobs_none_more rest key behind is piece ends some other (hold_of name holder) h = jobs_tail rest (hold_of name holder) h

-- ---- behind /volumes/

pub volumes_none : (rest : List ℕ) → ¬ IsPiece rest → (place : Place) → ¬ HasPath place (codes "/volumes/" ++ rest)
volumes_none rest apart (volume serial) h = apart (subst IsPiece (sym (ap (drop 9) h.1)) h.0)
volumes_none rest apart jobs h = apart_by _ _ h.1 refl
volumes_none rest apart (job key) h = apart_by _ _ h.1 refl
volumes_none rest apart (run_of key) h = apart_by _ _ h.1 refl
volumes_none rest apart (hold name) h = apart_by _ _ h.1 refl
volumes_none rest apart (hold_of name holder) h = apart_by _ _ h.1 refl

-- ---- behind /holds/

abbrev HoldsTail : List ℕ → Place → Type 0
HoldsTail rest (hold name) = IsPiece name × (rest ≡ name)
HoldsTail rest (hold_of name holder) = (IsPiece name × IsPiece holder) × (rest ≡ name ++ 47 ∷ holder)
HoldsTail rest _ = ⊥

holds_tail : (rest : List ℕ) (place : Place) → HasPath place (codes "/holds/" ++ rest) → HoldsTail rest place
holds_tail rest (hold name) h = (h.0, ap (drop 7) h.1)
holds_tail rest (hold_of name holder) h = (h.0, ap (drop 7) h.1)
holds_tail rest jobs h = apart_by _ _ h.1 refl
holds_tail rest (job key) h = apart_by _ _ h.1 refl
holds_tail rest (run_of key) h = apart_by _ _ h.1 refl
holds_tail rest (volume serial) h = apart_by _ _ h.1 refl

-- there is no name
pub holds_none_name : (rest : List ℕ) → IsBehind rest → (place : Place) → ¬ HasPath place (codes "/holds/" ++ rest)
holds_none_name rest behind (hold name) h = let t = holds_tail rest (hold name) h in no_piece name (subst IsBehind t.1 behind) t.0
holds_none_name rest behind (hold_of name holder) h =
    let t = holds_tail rest (hold_of name holder) h in no_front name holder (subst IsBehind t.1 behind) t.0.0
  where
    no_front : (name holder : List ℕ) → IsBehind (name ++ 47 ∷ holder) → IsPiece name → ⊥
    no_front [] holder behind is = omega (arith, is.0)
    no_front (b ∷ name) holder behind is = (no_slash (b ∷ name) is).0 behind
holds_none_name rest behind jobs h = holds_tail rest jobs h
holds_none_name rest behind (job key) h = holds_tail rest (job key) h
holds_none_name rest behind (run_of key) h = holds_tail rest (run_of key) h
holds_none_name rest behind (volume serial) h = holds_tail rest (volume serial) h

-- what stands behind the name is no holder
pub holds_none_holder : (rest name behind : List ℕ) → rest ≡ name ++ behind → IsPiece name → IsBehind behind → behind ≢ [] → ((holder : List ℕ) → behind ≡ 47 ∷ holder → ¬ IsPiece holder)
    → (place : Place) → ¬ HasPath place (codes "/holds/" ++ rest)
holds_none_holder rest name behind is piece ends some apart (hold n) h =
    let t = holds_tail rest (hold n) h in some (piece_ends n name behind t.0 piece ends (sym t.1 ∙ is))
holds_none_holder rest name behind is piece ends some apart (hold_of n holder) h =
    let t = holds_tail rest (hold_of n holder) h in
    apart holder (cut_pieces name n behind (47 ∷ holder) piece t.0.0 ends refl (sym is ∙ t.1)).1 t.0.1
holds_none_holder rest name behind is piece ends some apart jobs h = holds_tail rest jobs h
holds_none_holder rest name behind is piece ends some apart (job key) h = holds_tail rest (job key) h
holds_none_holder rest name behind is piece ends some apart (run_of key) h = holds_tail rest (run_of key) h
holds_none_holder rest name behind is piece ends some apart (volume serial) h = holds_tail rest (volume serial) h

-- ---- none of these

pub none_of_three : (path : List ℕ) → ¬ Begins (codes "/jobs") path → ¬ Begins (codes "/volumes/") path → ¬ Begins (codes "/holds/") path → (place : Place) → ¬ HasPath place path
none_of_three path a b c jobs h = a ([], h.1)
none_of_three path a b c (job key) h = a (47 ∷ key, h.1)
none_of_three path a b c (run_of key) h = a (47 ∷ (key ++ codes "/run"), h.1)
none_of_three path a b c (volume serial) h = b (serial, h.1)
none_of_three path a b c (hold name) h = c (name, h.1)
none_of_three path a b c (hold_of name holder) h = c (name ++ (codes "/" ++ holder), h.1)
