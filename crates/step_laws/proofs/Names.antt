-- Data sets of which no two have one name.
use Rattle.std.proofs.Common.{◌≡◌, ◌≢◌, inl, inr, ℕ, ◌+◌, ◌<◌, List, [], ◌∷◌, ◌++◌, length, map, get_or, AllPairs, Contains, refl, sym, ap, subst, ◌∙◌, arith, length-append}
use Rattle.std.specs.Cmp.Lexicographic.{slice_cmp}
use Rattle.std.specs.Ordering.{is_lt, nat_cmp}
use Rattle.std.proofs.lemmas.Bool.{cases_lt}
use Rattle.std.proofs.lemmas.Grind.{same_number_lists}
use Rattle.std.proofs.lemmas.List.{get_or_at, get_or_default, get_or-map, length-map}
use Rattle.dsn_filter.specs.declared.dsn.Dsn.{Dsn}
use Rattle.vol_label.proofs.OneLabel.{one_code}
use Rattle.volume_model.specs.Pinned.{IsNameOf}
use Rattle.volume_model.specs.Unit.{DataSet, AreByName}
use Rattle.step_laws.proofs.Pairs.{parts_same}

-- a name has one text
pub one_text : (name : Dsn) (a b : List ℕ) → IsNameOf name a → IsNameOf name b → a ≡ b
one_text name a b one other =
    same_number_lists a b (one.long ∙ sym other.long) (λ place within. elim (cases_lt place name.len) [
      | inl inside ↦ one_code (get_or a place 0) (get_or b place 0) (get_or name.text place 0) (one.characters place inside) (other.characters place inside)
      | inr outside ↦ one.blanks place outside (omega (arith, within, one.long)) ∙ sym (other.blanks place outside (omega (arith, within, one.long)))
    ])

-- ---- names that differ

abbrev pub name_in : DataSet → List ℕ
name_in set = set.name

abbrev pub AreApart : List DataSet → Type 0
AreApart sets = AllPairs (λ one other. one.name ≢ other.name) sets

-- an element with this name doesn't stand earlier and later too
none_earlier : (front back : List DataSet) (set : DataSet) (ahead behind : List DataSet) (other : DataSet) → AreApart (front ++ (set ∷ back))
    → front ++ (set ∷ back) ≡ ahead ++ (other ∷ behind) → set.name ≡ other.name → ¬ (length front < length ahead)
none_earlier front back set ahead behind other apart same named less =
    let all : List DataSet = front ++ (set ∷ back) in
    let here : get_or all (length front) set ≡ set = get_or_at front set back set (length front) refl in
    let there : get_or all (length ahead) set ≡ other =
    ap (λ (sets : List DataSet). get_or sets (length ahead) set) same ∙ get_or_at ahead other behind set (length ahead) refl in
    apart (length front) (length ahead) set less (omega (arith, ap length same, length-append ahead (other ∷ behind))) (ap name_in here ∙ named ∙ sym (ap name_in there))

-- they are split at a name in one way
pub split_by_name : (front back : List DataSet) (set : DataSet) (ahead behind : List DataSet) (other : DataSet) → AreApart (front ++ (set ∷ back))
    → front ++ (set ∷ back) ≡ ahead ++ (other ∷ behind) → set.name ≡ other.name → (front ≡ ahead) × (set ≡ other) × (back ≡ behind)
split_by_name front back set ahead behind other apart same named =
    let no_less = none_earlier front back set ahead behind other apart same named in
    let no_more = none_earlier ahead behind other front back set (subst AreApart same apart) (sym same) (sym named) in
    parts_same front back set ahead behind other (omega (arith, no_less, no_more)) same

-- one of them has a name
pub one_named : (sets : List DataSet) (a b : DataSet) → AreApart sets → Contains sets a → Contains sets b → a.name ≡ b.name → a ≡ b
one_named sets a b apart (k, k_within, a_at) (l, l_within, b_at) named =
    let b_here : get_or sets l a ≡ b = get_or_default sets l a b l_within ∙ b_at in
    elim (cases_lt k l) [
      | inl less ↦ absurd (apart k l a less l_within (ap name_in a_at ∙ named ∙ sym (ap name_in b_here)))
      | inr from ↦ elim (cases_lt l k) [
        | inl more ↦ absurd (apart l k a more k_within (ap name_in b_here ∙ sym named ∙ sym (ap name_in a_at)))
        | inr to ↦ (let same : k ≡ l = omega (arith, from, to) in sym a_at ∙ ap (λ (n : ℕ). get_or sets n a) same ∙ b_here)
      ]
    ]

-- ---- the same names

module _ (a b : List DataSet) (same : map name_in a ≡ map name_in b) where
  as_long : length a ≡ length b
  as_long = sym (length-map a name_in) ∙ ap length same ∙ length-map b name_in

  name_at : (k : ℕ) (d : DataSet) → k < length b → (get_or a k d).name ≡ (get_or b k d).name
  name_at k d within =
      sym (get_or-map name_in a k d d.name (omega (arith, within, as_long))) ∙ ap (λ (names : List (List ℕ)). get_or names k d.name) same ∙ get_or-map name_in b k d d.name within

  pub still_apart : AreApart a → AreApart b
  still_apart apart i j d less within named =
      apart i j d less (omega (arith, within, as_long)) (name_at i d (omega (arith, less, within)) ∙ named ∙ sym (name_at j d within))

  pub still_by_name : AreByName a → AreByName b
  still_by_name order k d low within =
      (λ i. is_lt (slice_cmp nat_cmp (sym (name_at (k + 1) d within) i) (sym (name_at k d (omega (arith, within))) i)))
      ∙ order k d low (omega (arith, within, as_long))

-- another data set of the same name
pub renamed : (front back : List DataSet) (set next : DataSet) → set.name ≡ next.name → map name_in (front ++ (set ∷ back)) ≡ map name_in (front ++ (next ∷ back))
renamed [] back set next named = ap (λ (name : List ℕ). name ∷ map name_in back) named
renamed (first ∷ front) back set next named = ap (λ (names : List (List ℕ)). first.name ∷ names) (renamed front back set next named)
