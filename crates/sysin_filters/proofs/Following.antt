-- What stands behind parts: one that may.
use Rattle.std.proofs.Common.{◌≡◌, ◌≢◌, ◌⊎◌, inl, inr, ℕ, List, [], ◌∷◌, ◌++◌, refl, sym, ap, subst, ◌∙◌, Bool, true, append_assoc, append-nil}
use Rattle.std.proofs.lemmas.List.{map-id}
use Rattle.sysin_text.specs.declared.token.Token.{Token}
use Rattle.sysin_text.specs.declared.token.Token.TheVariants.{Comma, Word}
use Rattle.sysin_forms.specs.declared.operand.Operand.{Operand}
use Rattle.sysin_forms.specs.Operand.{name_of, StandOnce}
use Rattle.sysin_filters.specs.Filter.{IsSeriesOf, IsPart}
use Rattle.sysin_filters.specs.Progress.{may_stand, ComeBefore}
use Rattle.sysin_filters.proofs.Series.{behind, first_of_series, series_begins, EndsOrGoes, BeginsWithWord}
use Rattle.sysin_filters.proofs.Once.{may, by_names, behind_clashes}
use Rattle.sysin_filters.proofs.Parts.{agree, agree_whole, name_is_part, part_begins}

-- a part that may stand behind these, and maybe others
abbrev pub Follow : Bool → List Operand → List Token → Type 0
Follow limited list text = (part : Operand) × (others : List Operand) × IsSeriesOf (IsPart limited) (part ∷ others) text × (may_stand list (name_of part) ≡ true)

pub follow_begins : (limited : Bool) (list : List Operand) (text : List Token) → Follow limited list text → BeginsWithWord text
follow_begins limited list text f = series_begins (IsPart limited) (part_begins limited) f.0 f.1 text f.2

-- parts behind none
pub all_follow : (limited : Bool) (all : List Operand) (token : Token) (rest : List Token) → IsSeriesOf (IsPart limited) all (token ∷ rest) → Follow limited [] (token ∷ rest)
all_follow limited [] token rest s = cc
all_follow limited (part ∷ others) token rest s =
    let f = first_of_series (IsPart limited) part others (token ∷ rest) s in
    (part, others, s, may [] (name_of part) (name_is_part limited part f.0 f.3) refl)

-- nothing, a part, or a comma and a part
pub record IsCommaBehind (limited : Bool) (list : List Operand) (more : List Token) : Type 0 where
  pub rest : List Token
  pub comma : more ≡ Comma ∷ rest
  pub follow : Follow limited list rest

abbrev pub ComeBehind : Bool → List Operand → List Token → Type 0
ComeBehind limited list more = (more ≡ []) ⊎ (Follow limited list more ⊎ IsCommaBehind limited list more)

pub parts_behind : (limited : Bool) (list all : List Operand) (front more : List Token) → list ≢ [] → IsSeriesOf (IsPart true) list front → IsSeriesOf (IsPart limited) all (front ++ more) → StandOnce all
    → ComeBehind limited list more
parts_behind limited [] all front more some l a once = absurd (some refl)
parts_behind limited (part ∷ list) all front more some l a once =
    by_end (behind (IsPart true) (IsPart limited) name_of (agree limited) part list all front more l a)
  where
    by_end : EndsOrGoes (IsPart limited) name_of (part ∷ list) all more → ComeBehind limited (part ∷ list) more
    by_end (inl e) = inl e.0
    by_end (inr b) = by_comma b.joined
      where
        once' : StandOnce (b.firsts ++ b.following ∷ b.others)
        once' = subst (λ (z : List Operand). StandOnce z) b.all_is once

        first : (first : List Token) × (rest : List Token) × (b.rest ≡ first ++ rest) × IsPart limited b.following first
        first = first_of_series (IsPart limited) b.following b.others b.rest b.spelled

        stands : may_stand (part ∷ list) (name_of b.following) ≡ true
        stands = may (part ∷ list) (name_of b.following) (name_is_part limited b.following first.0 first.3)
            (by_names (part ∷ list) b.firsts (name_of b.following) b.same (behind_clashes b.firsts b.following b.others once'))

        by_comma : (more ≡ b.rest) ⊎ (more ≡ Comma ∷ b.rest) → ComeBehind limited (part ∷ list) more
        by_comma (inl e) = inr (inl (b.following, b.others, subst (λ (z : List Token). IsSeriesOf (IsPart limited) (b.following ∷ b.others) z) (sym e) b.spelled, stands))
        by_comma (inr e) = inr (inr (record { rest = b.rest; comma = e; follow = (b.following, b.others, b.spelled, stands) }))

-- behind a comma a part stands
pub comma_behind : (limited : Bool) (list all : List Operand) (front more : List Token) → list ≢ [] → IsSeriesOf (IsPart true) list front → IsSeriesOf (IsPart limited) all (front ++ Comma ∷ more) → StandOnce all
    → Follow limited list more
comma_behind limited list all front more some l a once = by_place (parts_behind limited list all front (Comma ∷ more) some l a once)
  where
    by_place : ComeBehind limited list (Comma ∷ more) → Follow limited list more
    by_place (inl none) = cc
    by_place (inr (inl f)) = let w = follow_begins limited list (Comma ∷ more) f in let e = w.2 in cc
    by_place (inr (inr c)) =
        let e = c.comma in
        let same : c.rest ≡ more = cc in
        subst (λ (z : List Token). Follow limited list z) same c.follow

-- a word behind parts begins one
pub word_behind : (limited : Bool) (list all : List Operand) (front : List Token) (word : List ℕ) (more : List Token) → ComeBefore list front → IsSeriesOf (IsPart limited) all (front ++ Word word ∷ more) → StandOnce all
    → Follow limited list (Word word ∷ more)
word_behind limited list all front word more (inl (none, e)) a once =
    subst (λ (z : List Operand). Follow limited z (Word word ∷ more)) (sym none)
    (all_follow limited all (Word word) more (subst (λ (z : List Token). IsSeriesOf (IsPart limited) all (z ++ Word word ∷ more)) e a))
word_behind limited list all front word more (inr (some, inl (l, alone))) a once = by_place (parts_behind limited list all front (Word word ∷ more) some l a once)
  where
    by_place : ComeBehind limited list (Word word ∷ more) → Follow limited list (Word word ∷ more)
    by_place (inl none) = cc
    by_place (inr (inl f)) = f
    by_place (inr (inr c)) = let e = c.comma in cc
word_behind limited list all front word more (inr (some, inr (before, e, (l, alone)))) a once =
    let same : front ++ Word word ∷ more ≡ before ++ Comma ∷ Word word ∷ more = ap (λ (t : List Token). t ++ Word word ∷ more) e ∙ append_assoc before (Comma ∷ []) (Word word ∷ more) in
    comma_behind limited list all before (Word word ∷ more) some l (subst (λ (z : List Token). IsSeriesOf (IsPart limited) all z) same a) once

-- tokens are of one series of parts at most
pub one_series : (list all : List Operand) (text : List Token) → IsSeriesOf (IsPart true) list text → IsSeriesOf (IsPart true) all text → list ≡ all
one_series [] [] text l a = refl
one_series [] (part ∷ all) text l a = let w = series_begins (IsPart true) (part_begins true) part all text a in let e = w.2 in cc
one_series (part ∷ list) all text l a =
    by_end (behind (IsPart true) (IsPart true) (λ (z : Operand). z) agree_whole part list all text [] l (subst (λ (z : List Token). IsSeriesOf (IsPart true) all z) (sym (append-nil text)) a))
  where
    by_end : EndsOrGoes (IsPart true) (λ (z : Operand). z) (part ∷ list) all [] → part ∷ list ≡ all
    by_end (inl e) = sym (map-id (part ∷ list)) ∙ e.1 ∙ map-id all
    by_end (inr b) = by_comma b.joined
      where
        by_comma : ([] ≡ b.rest) ⊎ ([] ≡ Comma ∷ b.rest) → part ∷ list ≡ all
        by_comma (inl e) = let w = series_begins (IsPart true) (part_begins true) b.following b.others b.rest b.spelled in let f = w.2 in cc
        by_comma (inr e) = cc
