-- Parts that stand once each.
use Rattle.std.proofs.Common.{◌≡◌, List, [], ◌∷◌, ◌++◌, refl, Bool, true, false}
use Rattle.std.specs.Prelude.{not, ◌&&◌, ◌||◌, All, map}
use Rattle.std.specs.List.{list_any}
use Rattle.std.proofs.lemmas.List.Elements.{All-append, All-cons, All-nil, All-head, All-tail}
use Rattle.ckd_image.proofs.Bools.{and_first}
use Rattle.sysin_words.specs.declared.keyword.Keyword.{Keyword}
use Rattle.sysin_forms.specs.declared.operand.Operand.{Operand}
use Rattle.sysin_forms.specs.Operand.{name_of, is_part, clash, StandOnce}
use Rattle.sysin_filters.specs.Progress.{may_stand}

-- whether one of these clashes with a keyword
abbrev pub one_clashes : List Operand → Keyword → Bool
one_clashes parts keyword = list_any (λ part. clash (name_of part) keyword) parts

pub none_clashes : (parts : List Operand) (keyword : Keyword) → may_stand parts keyword ≡ true → one_clashes parts keyword ≡ false
none_clashes parts keyword may = by_bools (is_part keyword) (one_clashes parts keyword) may
  where
    by_bools : (a b : Bool) → (a && not b) ≡ true → b ≡ false
    by_bools true true e = cc
    by_bools true false e = refl
    by_bools false b e = cc

pub is_a_part : (parts : List Operand) (keyword : Keyword) → may_stand parts keyword ≡ true → is_part keyword ≡ true
is_a_part parts keyword may = and_first (is_part keyword) (not (one_clashes parts keyword)) may

pub may : (parts : List Operand) (keyword : Keyword) → is_part keyword ≡ true → one_clashes parts keyword ≡ false → may_stand parts keyword ≡ true
may parts keyword part none = by_bools (is_part keyword) (one_clashes parts keyword) part none
  where
    by_bools : (a b : Bool) → a ≡ true → b ≡ false → (a && not b) ≡ true
    by_bools true true e f = cc
    by_bools true false e f = refl
    by_bools false b e f = cc

neither : (a b : Bool) → (a || b) ≡ false → (a ≡ false) × (b ≡ false)
neither true b e = cc
neither false b e = (refl, e)

-- one more that clashes with none
pub once_more : (parts : List Operand) (part : Operand) → StandOnce parts → one_clashes parts (name_of part) ≡ false → StandOnce (parts ++ part ∷ [])
once_more [] part once none = (All-nil (λ (other : Operand). clash (name_of part) (name_of other) ≡ false), tt)
once_more (first ∷ parts) part once none =
    let n = neither (clash (name_of first) (name_of part)) (one_clashes parts (name_of part)) none in
    let P : Operand → Type 0 = λ other. clash (name_of first) (name_of other) ≡ false in
    (All-append P parts (part ∷ []) once.0 (All-cons P part [] n.0 (All-nil P)), once_more parts part once.1 n.1)

-- the names alone count
pub by_names : (parts others : List Operand) (keyword : Keyword) → map name_of parts ≡ map name_of others → one_clashes others keyword ≡ false → one_clashes parts keyword ≡ false
by_names [] others keyword same none = refl
by_names (part ∷ parts) [] keyword same none = cc
by_names (part ∷ parts) (other ∷ others) keyword same none =
    let n = neither (clash (name_of other) keyword) (one_clashes others keyword) none in
    let first : name_of part ≡ name_of other = cc in
    let more : map name_of parts ≡ map name_of others = cc in
    rw (first, n.0) (by_names parts others keyword more n.1)

-- what stands behind clashes with none before
pub behind_clashes : (firsts : List Operand) (part : Operand) (others : List Operand) → StandOnce (firsts ++ part ∷ others) → one_clashes firsts (name_of part) ≡ false
behind_clashes [] part others once = refl
behind_clashes (first ∷ firsts) part others once =
    let P : Operand → Type 0 = λ other. clash (name_of first) (name_of other) ≡ false in
    let here : clash (name_of first) (name_of part) ≡ false = at_end P firsts once.0 in
    rw here (behind_clashes firsts part others once.1)
  where
    at_end : (P : Operand → Type 0) (list : List Operand) → All P (list ++ part ∷ others) → P part
    at_end P [] all = All-head P part others all
    at_end P (x ∷ list) all = at_end P list (All-tail P x (list ++ part ∷ others) all)
