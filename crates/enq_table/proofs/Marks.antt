-- Bytes up to a mark.
use Rattle.std.proofs.Common.{◌≡◌, ◌≢◌, ℕ, ◌+◌, ◌<◌, List, [], ◌∷◌, ◌++◌, length, take, drop, get_or, refl, sym, ap, ◌∙◌}
use Rattle.std.specs.List.{AllByRecursion}
use Rattle.std.proofs.lemmas.List.{take-append-drop, drop_more}

-- bytes without a mark
abbrev pub Without : ℕ → List ℕ → Type 0
Without mark bytes = AllByRecursion (λ (b : ℕ). b ≢ mark) bytes

pub without_append : (mark : ℕ) (p q : List ℕ) → Without mark p → Without mark q → Without mark (p ++ q)
without_append mark [] q h k = k
without_append mark (c ∷ p) q h k = (h.0, without_append mark p q h.1 k)

pub without_front : (mark : ℕ) (p q : List ℕ) → Without mark (p ++ q) → Without mark p
without_front mark [] q h = tt
without_front mark (c ∷ p) q h = (h.0, without_front mark p q h.1)

-- a text is cut at the mark that stands at a place
pub cut_at : (mark : ℕ) (text : List ℕ) (place : ℕ) → place < length text → get_or text place 0 ≡ mark → text ≡ take place text ++ (mark ∷ drop (place + 1) text)
cut_at mark text place lt is =
    sym (take-append-drop place text) ∙ ap (λ (t : List ℕ). take place text ++ t) (drop_more text place 0 lt)
    ∙ ap (λ (b : ℕ). take place text ++ (b ∷ drop (place + 1) text)) is

pub no_mark_within : (mark : ℕ) (p rest : List ℕ) → Without mark (p ++ (mark ∷ rest)) → ⊥
no_mark_within mark [] rest h = h.0 refl
no_mark_within mark (b ∷ p) rest h = no_mark_within mark p rest h.1

pub same_word : (mark : ℕ) (p x rest more : List ℕ) → Without mark p → Without mark x → p ++ (mark ∷ rest) ≡ x ++ (mark ∷ more) → (p ≡ x) × (rest ≡ more)
same_word mark [] [] rest more h k e = (refl, cc)
same_word mark [] (c ∷ x) rest more h k e = let at : c ≡ mark = cc in absurd (k.0 at)
same_word mark (b ∷ p) [] rest more h k e = let at : b ≡ mark = cc in absurd (h.0 at)
same_word mark (b ∷ p) (c ∷ x) rest more h k e =
    let head : b ≡ c = cc in
    let tail : p ++ (mark ∷ rest) ≡ x ++ (mark ∷ more) = cc in
    let both = same_word mark p x rest more h.1 k.1 tail in
    let p-is : p ≡ x = both.0 in
    (cc, both.1)

-- bytes without the mark stand before the first one
pub before_mark : (mark : ℕ) (u x more rest : List ℕ) → Without mark u → u ++ more ≡ x ++ (mark ∷ rest) → (r : List ℕ) × (x ≡ u ++ r)
before_mark mark [] x more rest h e = (x, refl)
before_mark mark (b ∷ u) [] more rest h e = let at : b ≡ mark = cc in absurd (h.0 at)
before_mark mark (b ∷ u) (c ∷ x) more rest h e =
    let head : b ≡ c = cc in
    let tail : u ++ more ≡ x ++ (mark ∷ rest) = cc in
    let found = before_mark mark u x more rest h.1 tail in
    let x-is : x ≡ u ++ found.0 = found.1 in
    (found.0, cc)
