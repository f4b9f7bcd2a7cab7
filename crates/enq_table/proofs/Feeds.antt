-- The lines of a text, one after the other.
use Rattle.std.proofs.Common.{◌≡◌, ◌≢◌, ℕ, ◌+◌, ◌<◌, ◌==◌, ◌⊎◌, inl, inr, Bool, cond, List, [], ◌∷◌, ◌++◌, length, take, drop, get_or, refl, sym, ap, subst, ◌∙◌, arith}
use Rattle.std.proofs.lemmas.Bool.{ne_eqb, and_left, and_right}
use Rattle.dsn_filter.specs.Text.{onto_first}
use Rattle.enq_table.specs.HeldText.{without_returns, between_feeds, lines_of}
use Rattle.enq_table.proofs.Marks.{Without, cut_at, without_front}

feeds_cut : (p rest : List ℕ) → Without 10 p → between_feeds (p ++ (10 ∷ rest)) ≡ p ∷ between_feeds rest
feeds_cut [] rest h = refl
feeds_cut (b ∷ p) rest h =
    ap (λ (t : Bool). cond t ([] ∷ between_feeds (p ++ (10 ∷ rest))) (onto_first b (between_feeds (p ++ (10 ∷ rest))))) (ne_eqb b 10 h.0)
    ∙ ap (λ (t : List (List ℕ)). onto_first b t) (feeds_cut p rest h.1)

feeds_last : (p : List ℕ) → Without 10 p → between_feeds p ≡ p ∷ []
feeds_last [] h = refl
feeds_last (b ∷ p) h =
    ap (λ (t : Bool). cond t ([] ∷ between_feeds p) (onto_first b (between_feeds p))) (ne_eqb b 10 h.0) ∙ ap (λ (t : List (List ℕ)). onto_first b t) (feeds_last p h.1)

-- a CR that no LF follows stays
kept_byte : (b c : ℕ) (rest : List ℕ) → (b ≢ 13) ⊎ (c ≢ 10) → without_returns (b ∷ c ∷ rest) ≡ b ∷ without_returns (c ∷ rest)
kept_byte b c rest (inl other) =
    ap (λ (t : Bool). cond t (without_returns (c ∷ rest)) (b ∷ without_returns (c ∷ rest))) (and_left (b == 13) (c == 10) (ne_eqb b 13 other))
kept_byte b c rest (inr other) =
    ap (λ (t : Bool). cond t (without_returns (c ∷ rest)) (b ∷ without_returns (c ∷ rest))) (and_right (b == 13) (c == 10) (ne_eqb c 10 other))

kept_feed : (rest : List ℕ) → without_returns (10 ∷ rest) ≡ 10 ∷ without_returns rest
kept_feed [] = refl
kept_feed (c ∷ rest) = refl

kept_line : (p rest : List ℕ) → Without 10 p → ((front : List ℕ) → p ≢ front ++ (13 ∷ [])) → without_returns (p ++ (10 ∷ rest)) ≡ p ++ (10 ∷ without_returns rest)
kept_line [] rest h other = kept_feed rest
kept_line (b ∷ []) rest h other = kept_byte b 10 rest (inl (λ e. other [] (let same : b ∷ [] ≡ 13 ∷ [] = cc in same))) ∙ ap (λ (t : List ℕ). b ∷ t) (kept_feed rest)
kept_line (b ∷ c ∷ p) rest h other =
    kept_byte b c (p ++ (10 ∷ rest)) (inr h.1.0)
    ∙ ap (λ (t : List ℕ). b ∷ t) (kept_line (c ∷ p) rest h.1 (λ front e. other (b ∷ front) (ap (λ (t : List ℕ). b ∷ t) e)))

dropped_return : (q rest : List ℕ) → Without 10 q → without_returns ((q ++ (13 ∷ [])) ++ (10 ∷ rest)) ≡ q ++ (10 ∷ without_returns rest)
dropped_return [] rest h = kept_feed rest
dropped_return (b ∷ []) rest h = kept_byte b 13 (10 ∷ rest) (inr (λ e. absurd (omega arith))) ∙ ap (λ (t : List ℕ). b ∷ t) (kept_feed rest)
dropped_return (b ∷ c ∷ q) rest h =
    kept_byte b c ((q ++ (13 ∷ [])) ++ (10 ∷ rest)) (inr h.1.0) ∙ ap (λ (t : List ℕ). b ∷ t) (dropped_return (c ∷ q) rest h.1)

kept_last : (p : List ℕ) → Without 10 p → without_returns p ≡ p
kept_last [] h = refl
kept_last (b ∷ []) h = refl
kept_last (b ∷ c ∷ p) h = kept_byte b c p (inr h.1.0) ∙ ap (λ (t : List ℕ). b ∷ t) (kept_last (c ∷ p) h.1)

-- up to an LF stands the first line, perhaps with a CR behind it
pub lines_cut : (bytes line rest : List ℕ) → Without 10 bytes → (bytes ≡ line ++ (13 ∷ [])) ⊎ ((bytes ≡ line) × ((front : List ℕ) → bytes ≢ front ++ (13 ∷ [])))
    → lines_of (bytes ++ (10 ∷ rest)) ≡ line ∷ lines_of rest
lines_cut bytes line rest h (inl e) =
    let clean : Without 10 line = without_front 10 line (13 ∷ []) (subst (λ (t : List ℕ). Without 10 t) e h) in
    ap (λ (t : List ℕ). lines_of (t ++ (10 ∷ rest))) e ∙ ap between_feeds (dropped_return line rest clean) ∙ feeds_cut line (without_returns rest) clean
lines_cut bytes line rest h (inr (e, other)) =
    let clean : Without 10 line = subst (λ (t : List ℕ). Without 10 t) e h in
    ap between_feeds (kept_line bytes rest h other) ∙ ap (λ (t : List ℕ). between_feeds (t ++ (10 ∷ without_returns rest))) e ∙ feeds_cut line (without_returns rest) clean

pub lines_last : (text : List ℕ) → Without 10 text → lines_of text ≡ text ∷ []
lines_last text h = ap between_feeds (kept_last text h) ∙ feeds_last text h

pub lines_at_feed : (text line rest : List ℕ) (place : ℕ) → place < length text → Without 10 (take place text) → get_or text place 0 ≡ 10 → rest ≡ drop (place + 1) text
    → (take place text ≡ line ++ (13 ∷ [])) ⊎ ((take place text ≡ line) × ((front : List ℕ) → take place text ≢ front ++ (13 ∷ []))) → lines_of text ≡ line ∷ lines_of rest
lines_at_feed text line rest place lt h feed is way =
    ap lines_of (cut_at 10 text place lt feed) ∙ lines_cut (take place text) line (drop (place + 1) text) h way ∙ ap (λ (t : List ℕ). line ∷ lines_of t) (sym is)
