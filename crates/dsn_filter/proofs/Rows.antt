-- Rows of answers, one for each rest of a list.
use Rattle.std.proofs.Common.{◌≡◌, ℕ, zero, suc, ◌+◌, ◌-◌, ◌<◌, ◌≤◌, ◌⊎◌, ◌↔◌, inl, inr, Bool, true, false, IsTrue, List, [], ◌∷◌, length, take, drop, get_or, set, replicate, refl, sym, ap, subst, ◌∙◌, arith, length-drop}
use Rattle.std.proofs.lemmas.Bool.{cases_eq, cases_lt, false≢true}
use Rattle.std.proofs.lemmas.List.{drop_more, drop_all, drop-drop, length-set, get_or-set_same, get_or-set_other, get_or-replicate, get_or_past, take-replicate, length-replicate}
use Rattle.dsn_filter.specs.Qualifier.{any}
use Rattle.dsn_filter.specs.Matching.{MatchesQualifier, Matches}
use Rattle.dsn_filter.specs.Rows.{Says, IsSpread, IsStepped}

-- a star stands for any front of the rest
pub star_rest : (p : ℕ) (ps cs : List ℕ) → p ≡ 42 → MatchesQualifier (p ∷ ps) cs → (j : ℕ) × (j ≤ length cs) × MatchesQualifier ps (drop j cs)
star_rest p ps [] e h = (0, omega arith, h.1)
star_rest p ps (c ∷ cs) e (inl (q, inl h)) = (0, omega arith, h)
star_rest p ps (c ∷ cs) e (inl (q, inr h)) = let found = star_rest p ps cs e h in (suc found.0, omega (arith, found.1), found.2)
star_rest p ps (c ∷ cs) e (inr h) = absurd (h.0 e)

pub rest_star : (p : ℕ) (ps cs : List ℕ) (j : ℕ) → p ≡ 42 → j ≤ length cs → MatchesQualifier ps (drop j cs) → MatchesQualifier (p ∷ ps) cs
rest_star p ps [] zero e le h = (e, h)
rest_star p ps [] (suc j) e le h = absurd (omega arith)
rest_star p ps (c ∷ cs) zero e le h = inl (e, inl h)
rest_star p ps (c ∷ cs) (suc j) e le h = inl (e, inr (rest_star p ps cs j e (omega arith) h))

-- `**` stands for any front of the rest
pub any_rest : (p : List ℕ) (ps names : List (List ℕ)) → p ≡ any → Matches (p ∷ ps) names → (j : ℕ) × (j ≤ length names) × Matches ps (drop j names)
any_rest p ps [] e h = (0, omega arith, h.1)
any_rest p ps (n ∷ ns) e (inl (q, inl h)) = (0, omega arith, h)
any_rest p ps (n ∷ ns) e (inl (q, inr h)) = let found = any_rest p ps ns e h in (suc found.0, omega (arith, found.1), found.2)
any_rest p ps (n ∷ ns) e (inr h) = absurd (h.0 e)

pub rest_any : (p : List ℕ) (ps names : List (List ℕ)) (j : ℕ) → p ≡ any → j ≤ length names → Matches ps (drop j names) → Matches (p ∷ ps) names
rest_any p ps [] zero e le h = (e, h)
rest_any p ps [] (suc j) e le h = absurd (omega arith)
rest_any p ps (n ∷ ns) zero e le h = inl (e, inl h)
rest_any p ps (n ∷ ns) (suc j) e le h = inl (e, inr (rest_any p ps ns j e (omega arith) h))

-- ---- a row, rewritten

-- it says at each place what is so of the rest there
abbrev pub IsRow : (ℕ → Type 0) → List Bool → Type 0
IsRow Rest row = (place : ℕ) → place < length row → Says row place ↔ Rest place

-- from the end up to a place, each says what it or a later one said
pub record IsSpreadFrom (from : ℕ) (old new : List Bool) : Type 0 where
  pub len : length new ≡ length old
  pub done : (place : ℕ) → from ≤ place → place < length old → Says new place ↔ ((later : ℕ) × (place ≤ later) × (later < length old) × Says old later)
  pub kept : (place : ℕ) → place < from → get_or new place false ≡ get_or old place false

-- up to a place, each says whether its thing fits and the next place said yes
pub record IsSteppedTo (Fits : ℕ → Type 0) (upto : ℕ) (old new : List Bool) : Type 0 where
  pub len : length new ≡ length old
  pub done : (place : ℕ) → place < upto → Says new place ↔ (Fits place × Says old (place + 1))
  pub kept : (place : ℕ) → upto ≤ place → get_or new place false ≡ get_or old place false

pub stepped_more : (Fits : ℕ → Type 0) (upto : ℕ) (old new : List Bool) (b : Bool) → upto < length old → IsSteppedTo Fits upto old new
    → IsTrue b ↔ (Fits upto × Says new (upto + 1)) → IsSteppedTo Fits (upto + 1) old (set new upto b)
stepped_more Fits upto old new b lt h says = record {
  len = length-set new upto b ∙ h.len;
  done = λ p below. elim (cases_eq p upto) [
    | inl e ↦
        let here : get_or (set new upto b) p false ≡ b = ap (λ (i : ℕ). get_or (set new upto b) i false) e ∙ get_or-set_same new upto b false (omega (arith, h.len)) in
        let next : get_or new (upto + 1) false ≡ get_or old (p + 1) false = h.kept (upto + 1) (omega arith) ∙ ap (λ (i : ℕ). get_or old (i + 1) false) (sym e) in (
          λ said. let both = says.0 (sym here ∙ said) in (subst Fits (sym e) both.0, sym next ∙ both.1),
          λ both. here ∙ says.1 (subst Fits e both.0, next ∙ both.1),
        )
    | inr other ↦
        let same : get_or (set new upto b) p false ≡ get_or new p false = get_or-set_other new upto p b false other in (
          λ said. (h.done p (omega arith)).0 (sym same ∙ said),
          λ both. same ∙ (h.done p (omega arith)).1 both,
        )
  ];
  kept = λ p le. get_or-set_other new upto p b false (λ e. omega arith) ∙ h.kept p (omega arith);
}

pub stepped_all : (Fits : ℕ → Type 0) (upto : ℕ) (old new : List Bool) → length old ≡ upto + 1 → IsSteppedTo Fits upto old new → IsStepped Fits old (set new upto false)
stepped_all Fits upto old new len h = record {
  each = λ p below.
      let same : get_or (set new upto false) p false ≡ get_or new p false = get_or-set_other new upto p false false (λ e. omega arith) in (
        λ said. (h.done p (omega arith)).0 (sym same ∙ said),
        λ both. same ∙ (h.done p (omega arith)).1 both,
      );
  last = λ p at said.
      let e : p ≡ upto = omega arith in
      false≢true (sym (get_or-set_same new upto false false (omega (arith, h.len))) ∙ sym (ap (λ (i : ℕ). get_or (set new upto false) i false) e) ∙ said);
}

-- ---- the rows of a matching

spread_row : (Old New : ℕ → Type 0) (old new : List Bool) → length new ≡ length old → IsRow Old old → IsSpread old new
    → ((place : ℕ) → place < length old → New place → (later : ℕ) × (place ≤ later) × (later < length old) × Old later)
    → ((place later : ℕ) → place ≤ later → later < length old → Old later → New place) → IsRow New new
spread_row Old New old new len was spread down up place lt = (
  λ said. let found = (spread place (omega (arith, len))).0 said in up place found.0 found.1 found.2 ((was found.0 found.2).0 found.3),
  λ right. let found = down place (omega (arith, len)) right in (spread place (omega (arith, len))).1 (found.0, found.1, found.2, (was found.0 found.2).1 found.3),
)

step_row : (Fits Old New : ℕ → Type 0) (old new : List Bool) → length new ≡ length old → IsRow Old old → IsStepped Fits old new
    → ((place : ℕ) → place + 1 < length old → New place → Fits place × Old (place + 1))
    → ((place : ℕ) → place + 1 < length old → Fits place → Old (place + 1) → New place)
    → ((place : ℕ) → place + 1 ≡ length old → ¬ New place) → IsRow New new
step_row Fits Old New old new len was step down up ends place lt = elim (cases_eq (place + 1) (length old)) [
  | inl at ↦ (λ said. absurd (step.last place at said), λ right. absurd (ends place at right))
  | inr within ↦
      let below : place + 1 < length old = omega (arith, len) in (
        λ said. let both = (step.each place below).0 said in up place below both.0 ((was (place + 1) below).0 both.1),
        λ right. let both = down place below right in (step.each place below).1 (both.0, (was (place + 1) below).1 both.1),
      )
]

-- a row that says no but at its last place
first_row : (Rest : ℕ → Type 0) (n : ℕ) (row : List Bool) → length row ≡ n + 1 → ((place : ℕ) → get_or row place false ≡ false)
    → Rest n → ((place : ℕ) → place < n → ¬ Rest place) → IsRow Rest (set row n true)
first_row Rest n row whole unsaid right wrong place lt = elim (cases_eq place n) [
  | inl e ↦ (
    λ _. subst Rest (sym e) right,
    λ _. ap (λ (i : ℕ). get_or (set row n true) i false) e ∙ get_or-set_same row n true false (omega arith),
  )
  | inr other ↦ (
    λ said. absurd (false≢true (sym (unsaid place) ∙ sym (get_or-set_other row n place true false other) ∙ said)),
    λ there. absurd (wrong place (omega (arith, lt, length-set row n true)) there),
  )
]

rest_at : {X : Type 0} (xs : List X) (place : ℕ) (d : X) → place < length xs → drop place xs ≡ get_or xs place d ∷ drop (place + 1) xs
rest_at xs place d lt = drop_more xs place d lt

-- characters

pub byte_row_star : (p : ℕ) (ps part : List ℕ) (old new : List Bool) → p ≡ 42 → length old ≡ length part + 1 → length new ≡ length old → IsSpread old new
    → IsRow (λ (place : ℕ). MatchesQualifier ps (drop place part)) old → IsRow (λ (place : ℕ). MatchesQualifier (p ∷ ps) (drop place part)) new
byte_row_star p ps part old new star whole len spread was =
    spread_row (λ (place : ℕ). MatchesQualifier ps (drop place part)) (λ (place : ℕ). MatchesQualifier (p ∷ ps) (drop place part)) old new len was spread
    (λ place lt right.
    let found = star_rest p ps (drop place part) star right in
    (place + found.0, omega arith, omega (arith, found.1, length-drop place part), subst (λ (t : List ℕ). MatchesQualifier ps t) (drop-drop found.0 place part) found.2))
    (λ place later le lt right.
    let gap : ℕ = later - place in
    let at : place + gap ≡ later = omega arith in
    let there : drop gap (drop place part) ≡ drop later part = drop-drop gap place part ∙ ap (λ (i : ℕ). drop i part) at in
    rest_star p ps (drop place part) gap star (omega (arith, length-drop place part)) (subst (λ (t : List ℕ). MatchesQualifier ps t) (sym there) right))

one_byte : (p : ℕ) (ps cs : List ℕ) (c : ℕ) → (p ≡ 42 → ⊥) → MatchesQualifier (p ∷ ps) (c ∷ cs) → ((p ≡ 37) ⊎ (p ≡ c)) × MatchesQualifier ps cs
one_byte p ps cs c other (inl h) = absurd (other h.0)
one_byte p ps cs c other (inr h) = (h.1, h.2)

no_byte : (p : ℕ) (ps rest : List ℕ) → (p ≡ 42 → ⊥) → rest ≡ [] → MatchesQualifier (p ∷ ps) rest → ⊥
no_byte p ps rest other e h = other (subst (λ (t : List ℕ). MatchesQualifier (p ∷ ps) t) e h).0

pub byte_row_one : (p : ℕ) (ps part : List ℕ) (old new : List Bool) → (p ≡ 42 → ⊥) → length old ≡ length part + 1 → length new ≡ length old
    → IsStepped (λ (place : ℕ). (p ≡ 37) ⊎ (p ≡ get_or part place 0)) old new
    → IsRow (λ (place : ℕ). MatchesQualifier ps (drop place part)) old → IsRow (λ (place : ℕ). MatchesQualifier (p ∷ ps) (drop place part)) new
byte_row_one p ps part old new other whole len step was =
    step_row (λ (place : ℕ). (p ≡ 37) ⊎ (p ≡ get_or part place 0)) (λ (place : ℕ). MatchesQualifier ps (drop place part)) (λ (place : ℕ). MatchesQualifier (p ∷ ps) (drop place part)) old new len was step
    (λ place lt right. one_byte p ps (drop (place + 1) part) (get_or part place 0) other (subst (λ (t : List ℕ). MatchesQualifier (p ∷ ps) t) (rest_at part place 0 (omega arith)) right))
    (λ place lt fits right. subst (λ (t : List ℕ). MatchesQualifier (p ∷ ps) t) (sym (rest_at part place 0 (omega arith))) (inr (other, fits, right)))
    (λ place at right. no_byte p ps (drop place part) other (drop_all place part (omega arith)) right)

-- qualifiers

no_name_left : (rest : List (List ℕ)) → Matches [] rest → rest ≡ []
no_name_left [] h = refl
no_name_left (c ∷ cs) h = absurd h

pub name_row_none : (names : List (List ℕ)) (row : List Bool) → length row ≡ length names + 1 → ((place : ℕ) → get_or row place false ≡ false)
    → IsRow (λ (place : ℕ). Matches [] (drop place names)) (set row (length names) true)
name_row_none names row whole unsaid =
    first_row (λ (place : ℕ). Matches [] (drop place names)) (length names) row whole unsaid
    (subst (λ (t : List (List ℕ)). Matches [] t) (sym (drop_all (length names) names (omega arith))) tt)
    (λ place lt h. let gone : length (drop place names) ≡ 0 = ap length (no_name_left (drop place names) h) in omega (arith, gone, length-drop place names))

-- the row that a table begins with
no_says : (n place : ℕ) → get_or (replicate n false) place false ≡ false
no_says n place = elim (cases_lt place n) [
  | inl within ↦ get_or-replicate n place false false within
  | inr past ↦ get_or_past (replicate n false) place false (omega (arith, length-replicate n false))
]

pub name_row_start : (names : List (List ℕ)) (n : ℕ) → n ≡ length names → length names ≤ 22
    → (length (set (take (n + 1) (replicate 23 false)) n true) ≡ length names + 1) × IsRow (λ (place : ℕ). Matches [] (drop place names)) (set (take (n + 1) (replicate 23 false)) n true)
name_row_start names n is few =
    let row : List Bool = take (n + 1) (replicate 23 false) in
    let row-is : row ≡ replicate (n + 1) false = take-replicate (n + 1) 23 false (omega arith) in
    let whole : length row ≡ length names + 1 = ap length row-is ∙ length-replicate (n + 1) false ∙ (let e : n + 1 ≡ length names + 1 = omega arith in e) in
    let begins = name_row_none names row whole (λ place. ap (λ (r : List Bool). get_or r place false) row-is ∙ no_says (n + 1) place) in
    (length-set row n true ∙ whole, subst (λ (i : ℕ). IsRow (λ (place : ℕ). Matches [] (drop place names)) (set row i true)) (sym is) begins)

pub name_row_any : (p : List ℕ) (ps names : List (List ℕ)) (old new : List Bool) → p ≡ any → length old ≡ length names + 1 → length new ≡ length old → IsSpread old new
    → IsRow (λ (place : ℕ). Matches ps (drop place names)) old → IsRow (λ (place : ℕ). Matches (p ∷ ps) (drop place names)) new
name_row_any p ps names old new star whole len spread was =
    spread_row (λ (place : ℕ). Matches ps (drop place names)) (λ (place : ℕ). Matches (p ∷ ps) (drop place names)) old new len was spread
    (λ place lt right.
    let found = any_rest p ps (drop place names) star right in
    (place + found.0, omega arith, omega (arith, found.1, length-drop place names), subst (λ (t : List (List ℕ)). Matches ps t) (drop-drop found.0 place names) found.2))
    (λ place later le lt right.
    let gap : ℕ = later - place in
    let at : place + gap ≡ later = omega arith in
    let there : drop gap (drop place names) ≡ drop later names = drop-drop gap place names ∙ ap (λ (i : ℕ). drop i names) at in
    rest_any p ps (drop place names) gap star (omega (arith, length-drop place names)) (subst (λ (t : List (List ℕ)). Matches ps t) (sym there) right))

one_part : (p : List ℕ) (ps names : List (List ℕ)) (n : List ℕ) → ¬ (p ≡ any) → Matches (p ∷ ps) (n ∷ names) → MatchesQualifier p n × Matches ps names
one_part p ps names n other (inl h) = absurd (other h.0)
one_part p ps names n other (inr h) = (h.1, h.2)

no_part : (p : List ℕ) (ps rest : List (List ℕ)) → ¬ (p ≡ any) → rest ≡ [] → Matches (p ∷ ps) rest → ⊥
no_part p ps rest other e h = other (subst (λ (t : List (List ℕ)). Matches (p ∷ ps) t) e h).0

pub name_row_one : (p : List ℕ) (ps names : List (List ℕ)) (old new : List Bool) → ¬ (p ≡ any) → length old ≡ length names + 1 → length new ≡ length old
    → IsStepped (λ (place : ℕ). MatchesQualifier p (get_or names place [])) old new
    → IsRow (λ (place : ℕ). Matches ps (drop place names)) old → IsRow (λ (place : ℕ). Matches (p ∷ ps) (drop place names)) new
name_row_one p ps names old new other whole len step was =
    step_row (λ (place : ℕ). MatchesQualifier p (get_or names place [])) (λ (place : ℕ). Matches ps (drop place names)) (λ (place : ℕ). Matches (p ∷ ps) (drop place names)) old new len was step
    (λ place lt right. one_part p ps (drop (place + 1) names) (get_or names place []) other (subst (λ (t : List (List ℕ)). Matches (p ∷ ps) t) (rest_at names place [] (omega arith)) right))
    (λ place lt fits right. subst (λ (t : List (List ℕ)). Matches (p ∷ ps) t) (sym (rest_at names place [] (omega arith))) (inr (other, fits, right)))
    (λ place at right. no_part p ps (drop place names) other (drop_all place names (omega arith)) right)

-- one part more of the mask, from its end
pub row_at : (mask : List ℕ) (place : ℕ) (part : List ℕ) (old new : List Bool) → 0 < place
    → IsRow (λ (at : ℕ). MatchesQualifier (drop place mask) (drop at part)) old
    → ((ps : List ℕ) → IsRow (λ (at : ℕ). MatchesQualifier ps (drop at part)) old → IsRow (λ (at : ℕ). MatchesQualifier (get_or mask (place - 1) 0 ∷ ps) (drop at part)) new)
    → place ≤ length mask → IsRow (λ (at : ℕ). MatchesQualifier (drop (place - 1) mask) (drop at part)) new
row_at mask place part old new some was step within =
    let next : place - 1 + 1 ≡ place = omega arith in
    let parted : drop (place - 1) mask ≡ get_or mask (place - 1) 0 ∷ drop place mask =
    drop_more mask (place - 1) 0 (omega arith) ∙ ap (λ (i : ℕ). get_or mask (place - 1) 0 ∷ drop i mask) next in
    subst (λ (ps : List ℕ). IsRow (λ (at : ℕ). MatchesQualifier ps (drop at part)) new) (sym parted) (step (drop place mask) was)

pub row_at_part : (parts : List (List ℕ)) (place : ℕ) (names : List (List ℕ)) (part : List ℕ) (old new : List Bool) → 0 < place → place ≤ length parts
    → part ≡ get_or parts (place - 1) []
    → IsRow (λ (at : ℕ). Matches (drop place parts) (drop at names)) old
    → ((ps : List (List ℕ)) → IsRow (λ (at : ℕ). Matches ps (drop at names)) old → IsRow (λ (at : ℕ). Matches (part ∷ ps) (drop at names)) new)
    → IsRow (λ (at : ℕ). Matches (drop (place - 1) parts) (drop at names)) new
row_at_part parts place names part old new some within is was step =
    let next : place - 1 + 1 ≡ place = omega arith in
    let parted : drop (place - 1) parts ≡ part ∷ drop place parts =
    drop_more parts (place - 1) [] (omega arith) ∙ ap (λ (i : ℕ). get_or parts (place - 1) [] ∷ drop i parts) next ∙ ap (λ (p : List ℕ). p ∷ drop place parts) (sym is) in
    subst (λ (ps : List (List ℕ)). IsRow (λ (at : ℕ). Matches ps (drop at names)) new) (sym parted) (step (drop place parts) was)

-- ---- a step of a loop over the qualifiers

pub at_drop : {X : Type 0} (xs : List X) (place : ℕ) (x : X) (rest : List X) (d : X) → drop place xs ≡ x ∷ rest → (place < length xs) × (get_or xs place d ≡ x) × (drop (place + 1) xs ≡ rest)
at_drop xs place x rest d e =
    let len : length (drop place xs) ≡ length rest + 1 = ap length e ∙ (let l : length (x ∷ rest) ≡ length rest + 1 = omega arith in l) in
    let lt : place < length xs = omega (arith, len, length-drop place xs) in
    let both : get_or xs place d ∷ drop (place + 1) xs ≡ x ∷ rest = sym (drop_more xs place d lt) ∙ e in
    let head : get_or xs place d ≡ x = cc in
    let tail : drop (place + 1) xs ≡ rest = cc in
    (lt, head, tail)

pub both_asked : (P : Type 0) (b answer next : Bool) → b ≡ answer → IsTrue answer ↔ P → next ≡ true → IsTrue b ↔ (P × IsTrue next)
both_asked P b answer next is says was = (λ h. (says.0 (sym is ∙ h), was), λ both. is ∙ says.1 both.0)

pub next_no : (P : Type 0) (b next : Bool) → b ≡ next → next ≡ false → IsTrue b ↔ (P × IsTrue next)
next_no P b next is was = (λ h. absurd (false≢true (sym was ∙ sym is ∙ h)), λ both. absurd (false≢true (sym was ∙ both.1)))

pub stepped_part : (mask : List ℕ) (names : List (List ℕ)) (place : ℕ) (old new : List Bool) (b : Bool) (part : List ℕ) (behind : List (List ℕ))
    → length old ≡ length names + 1 → drop place names ≡ part ∷ behind
    → IsSteppedTo (λ (at : ℕ). MatchesQualifier mask (get_or names at [])) place old new → IsTrue b ↔ (MatchesQualifier mask part × Says new (place + 1))
    → IsSteppedTo (λ (at : ℕ). MatchesQualifier mask (get_or names at [])) (place + 1) old (set new place b)
stepped_part mask names place old new b part behind whole rest h says =
    let at = at_drop names place part behind [] rest in
    stepped_more (λ (i : ℕ). MatchesQualifier mask (get_or names i [])) place old new b (omega (arith, at.0)) h
    (subst (λ (q : List ℕ). IsTrue b ↔ (MatchesQualifier mask q × Says new (place + 1))) (sym at.1) says)
