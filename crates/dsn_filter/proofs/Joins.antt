-- Texts of qualifiers, read from the front.
use Rattle.std.proofs.Common.{◌≡◌, ◌≢◌, ℕ, ◌<◌, ◌⊎◌, inl, inr, List, [], ◌∷◌, ◌++◌, length, refl, sym, ap, subst, ◌∙◌, append_assoc, arith, length-append}
use Rattle.std.specs.List.{AllByRecursion}
use Rattle.std.proofs.lemmas.Bool.{cases_eq}
use Rattle.dsn_filter.specs.Text.{dotted}

-- bytes without a dot
abbrev pub Dotless : List ℕ → Type 0
Dotless bytes = AllByRecursion (λ (b : ℕ). b ≢ 46) bytes

-- a form of qualifiers by which a text of them can be read from the front
pub record IsForm (Form : List ℕ → Type 0) : Type 0 where
  pub none : ¬ Form []
  pub dotless : (q : List ℕ) → Form q → Dotless q
  pub front : (q : List ℕ) (b : ℕ) (behind : List ℕ) → 0 < length q → Form (q ++ (b ∷ behind)) → Form q
  pub letter : Form (65 ∷ [])

-- qualifiers that are over, each with its dot
abbrev pub closed : List (List ℕ) → List ℕ
closed [] = []
closed (q ∷ qs) = q ++ (46 ∷ closed qs)

pub closed_push : (qs : List (List ℕ)) (q : List ℕ) → closed (qs ++ (q ∷ [])) ≡ closed qs ++ (q ++ (46 ∷ []))
closed_push [] q = refl
closed_push (p ∷ ps) q = ap (λ (t : List ℕ). p ++ (46 ∷ t)) (closed_push ps q) ∙ sym (append_assoc p (46 ∷ closed ps) (q ++ (46 ∷ [])))

pub joined_push : (qs : List (List ℕ)) (q : List ℕ) → dotted (qs ++ (q ∷ [])) ≡ closed qs ++ q
joined_push [] q = refl
joined_push (p ∷ []) q = sym (append_assoc p (46 ∷ []) q)
joined_push (p ∷ r ∷ rs) q = ap (λ (t : List ℕ). p ++ (46 ∷ t)) (joined_push (r ∷ rs) q) ∙ sym (append_assoc p (46 ∷ closed (r ∷ rs)) q)

-- ---- dots

no_dot_within : (p rest : List ℕ) → Dotless (p ++ (46 ∷ rest)) → ⊥
no_dot_within [] rest h = h.0 refl
no_dot_within (b ∷ p) rest h = no_dot_within p rest h.1

pub same_front : (p x rest more : List ℕ) → Dotless p → Dotless x → p ++ (46 ∷ rest) ≡ x ++ (46 ∷ more) → (p ≡ x) × (rest ≡ more)
same_front [] [] rest more h k e = (refl, cc)
same_front [] (c ∷ x) rest more h k e = let dot : c ≡ 46 = cc in absurd (k.0 dot)
same_front (b ∷ p) [] rest more h k e = let dot : b ≡ 46 = cc in absurd (h.0 dot)
same_front (b ∷ p) (c ∷ x) rest more h k e =
    let head : b ≡ c = cc in
    let tail : p ++ (46 ∷ rest) ≡ x ++ (46 ∷ more) = cc in
    let both = same_front p x rest more h.1 k.1 tail in
    let p-is : p ≡ x = both.0 in
    (cc, both.1)

-- a byte that is no dot stands before the first dot
before_dot : (q x more rest : List ℕ) (b : ℕ) → Dotless q → b ≢ 46 → q ++ (b ∷ more) ≡ x ++ (46 ∷ rest) → (r : List ℕ) × (x ≡ q ++ (b ∷ r))
before_dot [] [] more rest b h n e = let dot : b ≡ 46 = cc in absurd (n dot)
before_dot [] (c ∷ x) more rest b h n e = (x, cc)
before_dot (a ∷ q) [] more rest b h n e = let dot : a ≡ 46 = cc in absurd (h.0 dot)
before_dot (a ∷ q) (c ∷ x) more rest b h n e =
    let head : a ≡ c = cc in
    let tail : q ++ (b ∷ more) ≡ x ++ (46 ∷ rest) = cc in
    let found = before_dot q x more rest b h.1 n tail in
    let x-is : x ≡ q ++ (b ∷ found.0) = found.1 in
    (found.0, cc)

module _ (Form : List ℕ → Type 0) (form : IsForm Form) where
  -- one more byte of a qualifier that is begun
  pub one_more : (q : List ℕ) (b : ℕ) (r : List ℕ) → Form (q ++ (b ∷ r)) → Form (q ++ (b ∷ []))
  one_more q b [] h = h
  one_more q b (c ∷ r) h =
      form.front (q ++ (b ∷ [])) c r (omega (arith, length-append q (b ∷ []))) (subst Form (sym (append_assoc q (b ∷ []) (c ∷ r))) h)

  pub some_bytes : (q : List ℕ) → Form q → 0 < length q
  some_bytes [] h = absurd (form.none h)
  some_bytes (b ∷ q) h = omega arith

  joined_some : (x : List ℕ) (xs : List (List ℕ)) → Form x → 0 < length (dotted (x ∷ xs))
  joined_some x [] h = some_bytes x h
  joined_some x (y ∷ ys) h = omega (arith, some_bytes x h, length-append x (46 ∷ dotted (y ∷ ys)))

  -- a qualifier that is begun has no dot
  begun_dotless : (q : List ℕ) → (q ≡ []) ⊎ Form q → Dotless q
  begun_dotless [] h = tt
  begun_dotless (b ∷ q) (inl e) = absurd (let n : b ∷ q ≡ [] = e in cc)
  begun_dotless (b ∷ q) (inr h) = form.dotless (b ∷ q) h

-- what may stand behind a qualifier that is begun, where so much more follows
abbrev pub Next : (List ℕ → Type 0) → List ℕ → ℕ → ℕ → Type 0
Next Form q b more = ((b ≡ 46) × (0 < length q) × (0 < more)) ⊎ ((b ≢ 46) × Form (q ++ (b ∷ [])))

module _ (Form : List ℕ → Type 0) (form : IsForm Form) where
  next_in_last : (q x : List ℕ) (b : ℕ) (more : List ℕ) → Form x → x ≡ q ++ (b ∷ more) → (b ≡ 46) ⊎ (b ≢ 46) → Next Form q b (length more)
  next_in_last q x b more h e (inl dot) =
      let without : Dotless (q ++ (b ∷ more)) = subst Dotless e (form.dotless x h) in
      absurd (no_dot_within q more (subst (λ (c : ℕ). Dotless (q ++ (c ∷ more))) dot without))
  next_in_last q x b more h e (inr other) = inr (other, one_more Form form q b more (subst Form e h))

  next_in_first : (q x : List ℕ) (b : ℕ) (more rest : List ℕ) → (q ≡ []) ⊎ Form q → Form x → 0 < length rest
      → q ++ (b ∷ more) ≡ x ++ (46 ∷ rest) → (b ≡ 46) ⊎ (b ≢ 46) → Next Form q b (length more)
  next_in_first q x b more rest begun h some e (inl dot) =
      let at_dot : q ++ (46 ∷ more) ≡ x ++ (46 ∷ rest) = subst (λ (c : ℕ). q ++ (c ∷ more) ≡ x ++ (46 ∷ rest)) dot e in
      let same = same_front q x more rest (begun_dotless Form form q begun) (form.dotless x h) at_dot in
      inl (dot, subst (λ (t : List ℕ). 0 < length t) (sym same.0) (some_bytes Form form x h), subst (λ (t : List ℕ). 0 < length t) (sym same.1) some)
  next_in_first q x b more rest begun h some e (inr other) =
      let found = before_dot q x more rest b (begun_dotless Form form q begun) other e in
      inr (other, one_more Form form q b found.0 (subst Form found.1 h))

  -- what stands behind qualifiers and a begun one, where the whole is spelled right
  pub next : (qs spelled : List (List ℕ)) (q : List ℕ) (b : ℕ) (more : List ℕ) → AllByRecursion Form qs → AllByRecursion Form spelled → 0 < length spelled
      → (q ≡ []) ⊎ Form q → closed qs ++ (q ++ (b ∷ more)) ≡ dotted spelled → Next Form q b (length more)
  next qs [] q b more each right some begun e = absurd (omega arith)
  next [] (x ∷ []) q b more each right some begun e = next_in_last q x b more right.0 (sym e) (cases_eq b 46)
  next [] (x ∷ y ∷ ys) q b more each right some begun e =
      next_in_first q x b more (dotted (y ∷ ys)) begun right.0 (joined_some Form form y ys right.1.0) e (cases_eq b 46)
  next (p ∷ ps) (x ∷ []) q b more each right some begun e =
      let whole : p ++ (46 ∷ (closed ps ++ (q ++ (b ∷ more)))) ≡ x = sym (append_assoc p (46 ∷ closed ps) (q ++ (b ∷ more))) ∙ e in
      absurd (no_dot_within p (closed ps ++ (q ++ (b ∷ more))) (subst Dotless (sym whole) (form.dotless x right.0)))
  next (p ∷ ps) (x ∷ y ∷ ys) q b more each right some begun e =
      let whole : p ++ (46 ∷ (closed ps ++ (q ++ (b ∷ more)))) ≡ x ++ (46 ∷ dotted (y ∷ ys)) = sym (append_assoc p (46 ∷ closed ps) (q ++ (b ∷ more))) ∙ e in
      let same = same_front p x (closed ps ++ (q ++ (b ∷ more))) (dotted (y ∷ ys)) (form.dotless p each.0) (form.dotless x right.0) whole in
      next ps (y ∷ ys) q b more each.1 right.1 (omega arith) begun same.1

  -- no text ends in a dot, and none is empty
  pub not_closed : (qs spelled : List (List ℕ)) → AllByRecursion Form qs → AllByRecursion Form spelled → 0 < length spelled → closed qs ≡ dotted spelled → ⊥
  not_closed qs [] each right some e = omega arith
  not_closed [] (x ∷ xs) each right some e =
      let none : length (dotted (x ∷ xs)) ≡ 0 = ap length (sym e) in omega (arith, joined_some Form form x xs right.0)
  not_closed (p ∷ ps) (x ∷ []) each right some e = no_dot_within p (closed ps) (subst Dotless (sym e) (form.dotless x right.0))
  not_closed (p ∷ ps) (x ∷ y ∷ ys) each right some e =
      let same = same_front p x (closed ps) (dotted (y ∷ ys)) (form.dotless p each.0) (form.dotless x right.0) e in
      not_closed ps (y ∷ ys) each.1 right.1 (omega arith) same.1
