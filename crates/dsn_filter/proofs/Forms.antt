-- Qualifiers of names and of patterns, byte by byte.
use Rattle.std.proofs.Common.{◌≡◌, ◌≢◌, ℕ, ◌+◌, ◌-◌, ◌<◌, ◌≤◌, ◌⊎◌, ◌↔◌, inl, inr, Bool, false, IsTrue, ◌==◌, List, [], ◌∷◌, ◌++◌, length, get_or, All, refl, sym, ap, subst, ◌∙◌, arith, length-append}
use Rattle.std.proofs.lemmas.Bool.{cases_lt, false≢true, eqb-false, eqb-true, eq-eqb}
use Rattle.std.proofs.lemmas.List.{get_or_append_left, get_or_at, get_or_default}
use Rattle.std.proofs.lemmas.List.Elements.{recursion_from_All, All-push, All-nil, All-weaker}
use Rattle.dsn_filter.specs.declared.part.Kind.{Kind}
use Rattle.dsn_filter.specs.declared.part.Kind.TheVariants.{Name, Pattern}
use Rattle.dsn_filter.specs.Qualifier.{IsLetter, IsInner, IsWild, IsQualifier, IsMask, HasStarsApart, any, IsPatternPart}
use Rattle.dsn_filter.specs.Scan.{form_of}
use Rattle.dsn_filter.proofs.Joins.{Dotless, IsForm}

-- ---- every element

all_front : (P : ℕ → Type 0) (xs ys : List ℕ) → All P (xs ++ ys) → All P xs
all_front P xs ys h k d lt = subst P (get_or_append_left xs ys d k lt) (h k d (omega (arith, length-append xs ys)))

all_at : (P : ℕ → Type 0) (xs ys : List ℕ) (x : ℕ) → All P (xs ++ (x ∷ ys)) → P x
all_at P xs ys x h = subst P (get_or_at xs x ys 0 (length xs) refl) (h (length xs) 0 (omega (arith, length-append xs (x ∷ ys))))

-- ---- a name's qualifier

pub qualifier_push : (q : List ℕ) (b : ℕ) → 0 < length q → IsQualifier q → length q < 8 → IsInner b → IsQualifier (q ++ (b ∷ []))
qualifier_push [] b some h short inner = absurd h
qualifier_push (c ∷ r) b some h short inner = (h.0, All-push IsInner r b h.1 inner, omega (arith, length-append r (b ∷ [])))

pub qualifier_front : (q : List ℕ) (b : ℕ) (behind : List ℕ) → 0 < length q → IsQualifier (q ++ (b ∷ behind)) → IsQualifier q
qualifier_front [] b behind some h = absurd (omega arith)
qualifier_front (c ∷ r) b behind some h = (h.0, all_front IsInner r (b ∷ behind) h.1, omega (arith, h.2, length-append r (b ∷ behind)))

pub qualifier_last : (q : List ℕ) (b : ℕ) → 0 < length q → IsQualifier (q ++ (b ∷ [])) → (length q < 8) × IsInner b
qualifier_last [] b some h = absurd (omega arith)
qualifier_last (c ∷ r) b some h = (omega (arith, h.2, length-append r (b ∷ [])), all_at IsInner r [] b h.1)

pub qualifier_short : (q : List ℕ) → IsQualifier q → length q ≤ 8
qualifier_short [] h = absurd h
qualifier_short (c ∷ r) h = omega (arith, h.2)

letter_is_no_dot : (b : ℕ) → IsLetter b → b ≢ 46
letter_is_no_dot b h e = omega arith

inner_is_no_dot : (b : ℕ) → IsInner b → b ≢ 46
inner_is_no_dot b h e = omega arith

qualifier_dotless : (q : List ℕ) → IsQualifier q → Dotless q
qualifier_dotless [] h = absurd h
qualifier_dotless (c ∷ r) h = (letter_is_no_dot c h.0, recursion_from_All (λ (b : ℕ). b ≢ 46) r (All-weaker IsInner (λ (b : ℕ). b ≢ 46) inner_is_no_dot r h.1))

-- ---- a pattern's

abbrev pub IsPatternByte : ℕ → Type 0
IsPatternByte b = IsInner b ⊎ IsWild b

wild_is_no_dot : (b : ℕ) → IsLetter b ⊎ IsWild b → b ≢ 46
wild_is_no_dot b h e = omega arith

pattern_is_no_dot : (b : ℕ) → IsPatternByte b → b ≢ 46
pattern_is_no_dot b h e = omega arith

part_dotless : (q : List ℕ) → IsPatternPart q → Dotless q
part_dotless q (inl e) = subst Dotless (sym e) (λ d. absurd (omega arith), (λ d. absurd (omega arith), tt))
part_dotless [] (inr h) = absurd h
part_dotless (c ∷ r) (inr h) = (wild_is_no_dot c h.0, recursion_from_All (λ (b : ℕ). b ≢ 46) r (All-weaker IsPatternByte (λ (b : ℕ). b ≢ 46) pattern_is_no_dot r h.1))

apart_front : (q behind : List ℕ) → HasStarsApart (q ++ behind) → HasStarsApart q
apart_front q behind h k d lt =
    let here : get_or (q ++ behind) k d ≡ get_or q k d = get_or_append_left q behind d k (omega arith) in
    let there : get_or (q ++ behind) (k + 1) d ≡ get_or q (k + 1) d = get_or_append_left q behind d (k + 1) lt in
    λ (left : get_or q k d ≡ 42) (right : get_or q (k + 1) d ≡ 42). h k d (omega (arith, length-append q behind)) (here ∙ left) (there ∙ right)

apart_push : (q : List ℕ) (b : ℕ) → HasStarsApart q → (get_or q (length q - 1) 0 ≡ 42 → b ≢ 42) → HasStarsApart (q ++ (b ∷ []))
apart_push q b h last k d lt = elim (cases_lt (k + 1) (length q)) [
  | inl within ↦ λ (left : get_or (q ++ (b ∷ [])) k d ≡ 42) (right : get_or (q ++ (b ∷ [])) (k + 1) d ≡ 42).
      h k d within (sym (get_or_append_left q (b ∷ []) d k (omega arith)) ∙ left) (sym (get_or_append_left q (b ∷ []) d (k + 1) within) ∙ right)
  | inr past ↦
      let at : length q ≡ k + 1 = omega (arith, length-append q (b ∷ [])) in
      let k-is : k ≡ length q - 1 = omega arith in
      let here : get_or (q ++ (b ∷ [])) k d ≡ get_or q k d = get_or_append_left q (b ∷ []) d k (omega arith) in
      let same : get_or q k d ≡ get_or q k 0 = get_or_default q k d 0 (omega arith) in
      let there : get_or (q ++ (b ∷ [])) (k + 1) d ≡ b = get_or_at q b [] d (k + 1) at in
      λ (left : get_or (q ++ (b ∷ [])) k d ≡ 42) (right : get_or (q ++ (b ∷ [])) (k + 1) d ≡ 42).
      last (ap (λ (i : ℕ). get_or q i 0) (sym k-is) ∙ sym same ∙ sym here ∙ left) (sym there ∙ right)
]

mask_front : (q : List ℕ) (b : ℕ) (behind : List ℕ) → 0 < length q → IsMask (q ++ (b ∷ behind)) → IsMask q
mask_front [] b behind some h = absurd (omega arith)
mask_front (c ∷ r) b behind some h =
    (h.0, all_front IsPatternByte r (b ∷ behind) h.1, omega (arith, h.2, length-append r (b ∷ behind)), apart_front (c ∷ r) (b ∷ behind) h.3)

-- a star alone is a mask
one_star : IsMask (42 ∷ [])
one_star = (inr (inl refl), All-nil IsPatternByte, omega arith, λ k d lt. absurd (omega arith))

part_front : (q : List ℕ) (b : ℕ) (behind : List ℕ) → 0 < length q → IsPatternPart (q ++ (b ∷ behind)) → IsPatternPart q
part_front q b behind some (inr h) = inr (mask_front q b behind some h)
part_front [] b behind some (inl e) = absurd (omega arith)
part_front (c ∷ []) b behind some (inl e) = inr (let star : c ≡ 42 = cc in subst (λ (x : ℕ). IsMask (x ∷ [])) (sym star) one_star)
part_front (c ∷ a ∷ r) b behind some (inl e) =
    let long : length (c ∷ a ∷ (r ++ (b ∷ behind))) ≡ 2 = ap length e in absurd (omega (arith, long, length-append r (b ∷ behind)))

-- ---- what a begun one goes on with

-- two stars stand alone
pub star_push : (q : List ℕ) → length q ≡ 1 → get_or q (length q - 1) 0 ≡ 42 → IsPatternPart (q ++ (42 ∷ []))
star_push [] one last = absurd (omega arith)
star_push (c ∷ []) one last = let star : c ≡ 42 = last in inl (cc)
star_push (c ∷ a ∷ r) one last = absurd (omega arith)

mask_star : (q : List ℕ) → 0 < length q → get_or q (length q - 1) 0 ≡ 42 → IsMask (q ++ (42 ∷ [])) → ⊥
mask_star [] some last h = omega arith
mask_star (c ∷ r) some last h =
    let q : List ℕ = c ∷ r in
    let at : length r + 1 ≡ length q = omega arith in
    let here : get_or (q ++ (42 ∷ [])) (length r) 0 ≡ get_or q (length r) 0 = get_or_append_left q (42 ∷ []) 0 (length r) (omega arith) in
    let there : get_or (q ++ (42 ∷ [])) (length r + 1) 0 ≡ 42 = get_or_at q 42 [] 0 (length r + 1) (sym at) in
    let last-is : get_or q (length q - 1) 0 ≡ get_or q (length r) 0 = ap (λ (i : ℕ). get_or q i 0) (let e : length q - 1 ≡ length r = omega arith in e) in
    h.3 (length r) 0 (omega (arith, length-append q (42 ∷ []))) (here ∙ sym last-is ∙ last) there

pub star_last : (q : List ℕ) → 0 < length q → get_or q (length q - 1) 0 ≡ 42 → IsPatternPart (q ++ (42 ∷ [])) → length q ≡ 1
star_last q some last (inl e) = let two : length (q ++ (42 ∷ [])) ≡ 2 = ap length e in omega (arith, two, length-append q (42 ∷ []))
star_last q some last (inr h) = absurd (mask_star q some last h)

pub part_push : (q : List ℕ) (b : ℕ) → 0 < length q → IsPatternPart q → ¬ (q ≡ any) → length q < 8 → IsPatternByte b
    → (get_or q (length q - 1) 0 ≡ 42 → b ≢ 42) → IsPatternPart (q ++ (b ∷ []))
part_push q b some (inl e) other short right last = absurd (other e)
part_push [] b some (inr h) other short right last = absurd h
part_push (c ∷ r) b some (inr h) other short right last =
    inr (h.0, All-push IsPatternByte r b h.1 right, omega (arith, length-append r (b ∷ [])), apart_push (c ∷ r) b h.3 last)

-- behind two stars stands nothing
pub not_behind_any : (b : ℕ) → IsPatternPart (42 ∷ 42 ∷ b ∷ []) → ⊥
not_behind_any b (inl e) = let long : length (42 ∷ 42 ∷ b ∷ []) ≡ 2 = ap length e in omega arith
not_behind_any b (inr h) = h.3 0 0 (omega arith) refl refl

pub part_last : (q : List ℕ) (b : ℕ) → 0 < length q → (get_or q (length q - 1) 0 ≡ 42 → b ≢ 42) → IsPatternPart (q ++ (b ∷ [])) → (length q < 8) × IsPatternByte b × (¬ (q ≡ any))
part_last [] b some last h = absurd (omega arith)
part_last (c ∷ r) b some last (inr h) =
    (omega (arith, h.2, length-append r (b ∷ [])), all_at IsPatternByte r [] b h.1, λ e. not_behind_any b (subst (λ (q : List ℕ). IsPatternPart (q ++ (b ∷ []))) e (inr h)))
part_last (c ∷ []) b some last (inl e) =
    let first : c ≡ 42 = cc in
    let second : b ≡ 42 = cc in absurd (last first second)
part_last (c ∷ a ∷ r) b some last (inl e) =
    let long : length (c ∷ a ∷ (r ++ (b ∷ []))) ≡ 2 = ap length e in absurd (omega (arith, long, length-append r (b ∷ [])))

-- ---- tests of the next byte

pub not_empty : (q : List ℕ) (r : Bool) → r ≡ false → r ≡ (length q == 0) → 0 < length q
not_empty q r false-is says = let other : length q ≡ 0 → ⊥ = eqb-false (length q) 0 (sym says ∙ false-is) in omega arith

pub no_two_stars : (x b : ℕ) → ((x ≡ 42) × (b ≡ 42 → ⊥)) ⊎ (x ≡ 42 → ⊥) → x ≡ 42 → b ≢ 42
no_two_stars x b (inl h) e = h.1
no_two_stars x b (inr h) e = absurd (h e)

begun_name : (q : List ℕ) → 0 < length q → (q ≡ []) ⊎ IsQualifier q → IsQualifier q
begun_name q some (inl e) = let none : length q ≡ 0 = ap length e in absurd (omega arith)
begun_name q some (inr h) = h

pub name_is_full : (q : List ℕ) (b : ℕ) → 0 < length q → 8 ≤ length q → IsTrue false ↔ IsQualifier (q ++ (b ∷ []))
name_is_full q b some full = (λ h. absurd (false≢true h), λ h. absurd (let short = (qualifier_last q b some h).0 in omega arith))

pub name_next : (q : List ℕ) (b : ℕ) (r : Bool) → 0 < length q → length q < 8 → (q ≡ []) ⊎ IsQualifier q → IsTrue r ↔ IsInner b → IsTrue r ↔ IsQualifier (q ++ (b ∷ []))
name_next q b r some short begun says =
    (λ h. qualifier_push q b some (begun_name q some begun) short (says.0 h), λ h. says.1 (qualifier_last q b some h).1)

begun_part : (q : List ℕ) → 0 < length q → (q ≡ []) ⊎ IsPatternPart q → IsPatternPart q
begun_part q some (inl e) = let none : length q ≡ 0 = ap length e in absurd (omega arith)
begun_part q some (inr h) = h

pub star_next : (q : List ℕ) (b : ℕ) → 0 < length q → get_or q (length q - 1) 0 ≡ 42 → b ≡ 42 → IsTrue (length q == 1) ↔ IsPatternPart (q ++ (b ∷ []))
star_next q b some last star =
    let P : ℕ → Type 0 = λ x. IsTrue (length q == 1) ↔ IsPatternPart (q ++ (x ∷ [])) in
    subst P (sym star) (λ h. star_push q (eqb-true (length q) 1 h) last, λ h. eq-eqb (length q) 1 (star_last q some last h))

pub part_is_full : (q : List ℕ) (b : ℕ) → 0 < length q → (get_or q (length q - 1) 0 ≡ 42 → b ≢ 42) → (q ≡ any) ⊎ (8 ≤ length q) → IsTrue false ↔ IsPatternPart (q ++ (b ∷ []))
part_is_full q b some last (inl e) = (λ h. absurd (false≢true h), λ h. absurd ((part_last q b some last h).2 e))
part_is_full q b some last (inr full) = (λ h. absurd (false≢true h), λ h. absurd (let short = (part_last q b some last h).0 in omega arith))

pub part_next : (q : List ℕ) (b : ℕ) (r : Bool) → 0 < length q → (get_or q (length q - 1) 0 ≡ 42 → b ≢ 42) → ¬ (q ≡ any) → length q < 8 → (q ≡ []) ⊎ IsPatternPart q
    → IsTrue r ↔ IsPatternByte b → IsTrue r ↔ IsPatternPart (q ++ (b ∷ []))
part_next q b r some last other short begun says =
    (λ h. part_push q b some (begun_part q some begun) other short (says.0 h) last, λ h. says.1 (part_last q b some last h).1)

-- ---- both are read from the front

pub name_form : IsForm IsQualifier
name_form = record {
  none = λ h. h;
  dotless = qualifier_dotless;
  front = λ q b behind some h. qualifier_front q b behind some h;
  letter = (inl (omega arith, omega arith), All-nil IsInner, omega arith);
}

pub pattern_form : IsForm IsPatternPart
pattern_form = record {
  none = λ h. elim h [ inl e ↦ (let two : length {A = ℕ} [] ≡ 2 = ap length e in omega arith) | inr m ↦ m ];
  dotless = part_dotless;
  front = λ q b behind some h. part_front q b behind some h;
  letter = inr (inl (inl (omega arith, omega arith)), All-nil IsPatternByte, omega arith, λ k d lt. absurd (omega arith));
}

pub form_is : (kind : Kind) → IsForm (form_of kind)
form_is Name = name_form
form_is Pattern = pattern_form
