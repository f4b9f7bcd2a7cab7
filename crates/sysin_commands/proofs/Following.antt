-- What stands behind operands: one that may.
use Rattle.std.proofs.Common.{◌≡◌, ◌≢◌, ◌⊎◌, inl, inr, ℕ, List, [], ◌∷◌, ◌++◌, refl, sym, ap, subst, ◌∙◌, Bool, true, append_assoc, append-nil}
use Rattle.std.proofs.lemmas.List.{map-id}
use Rattle.sysin_text.specs.declared.token.Token.{Token}
use Rattle.sysin_text.specs.declared.token.Token.TheVariants.{Comma, Word}
use Rattle.sysin_words.specs.declared.lead.Verb.{Verb}
use Rattle.sysin_forms.specs.declared.form.Form.{Form}
use Rattle.sysin_forms.specs.declared.operand.Operand.{Operand}
use Rattle.sysin_forms.specs.Operand.{name_of, StandOnce}
use Rattle.sysin_forms.specs.Form.{verb_of_form, keywords_of, is_one_of}
use Rattle.sysin_filters.specs.Filter.{IsSeriesOf}
use Rattle.sysin_filters.proofs.Series.{behind, series_begins, EndsOrGoes, BeginsWithWord}
use Rattle.sysin_filters.proofs.Once.{by_names, behind_clashes}
use Rattle.sysin_commands.specs.Operand.{IsOperand}
use Rattle.sysin_commands.specs.Command.{takes_all}
use Rattle.sysin_commands.specs.CommandProgress.{may_stand, ComeBefore}
use Rattle.sysin_commands.proofs.Agreeing.{agree, agree_whole, operand_begins}
use Rattle.sysin_commands.proofs.Standing.{may, takes_front, takes_names}

-- operands of one form of the verb, each once
pub record AreOne (verb : Verb) (all : List Operand) : Type 0 where
  pub form : Form
  pub own : verb_of_form form ≡ verb
  pub takes : takes_all form all ≡ true
  pub once : StandOnce all

-- an operand that may stand behind these, and maybe others
abbrev pub Follow : Verb → Bool → List Operand → List Token → Type 0
Follow verb limited list text = (operand : Operand) × (others : List Operand) × IsSeriesOf (IsOperand verb limited) (operand ∷ others) text × (may_stand verb list (name_of operand) ≡ true)

pub follow_begins : (verb : Verb) (limited : Bool) (list : List Operand) (text : List Token) → Follow verb limited list text → BeginsWithWord text
follow_begins verb limited list text f = series_begins (IsOperand verb limited) (operand_begins verb limited) f.0 f.1 text f.2

-- operands behind none
pub all_follow : (verb : Verb) (limited : Bool) (all : List Operand) (token : Token) (rest : List Token) → IsSeriesOf (IsOperand verb limited) all (token ∷ rest) → AreOne verb all
    → Follow verb limited [] (token ∷ rest)
all_follow verb limited [] token rest s one = cc
all_follow verb limited (operand ∷ others) token rest s one =
    let front = takes_front one.form [] operand others one.takes in
    (operand, others, s, may verb one.form [] (name_of operand) one.own refl front.1 refl)

-- nothing, an operand, or a comma and an operand
pub record IsCommaBehind (verb : Verb) (limited : Bool) (list : List Operand) (more : List Token) : Type 0 where
  pub rest : List Token
  pub comma : more ≡ Comma ∷ rest
  pub follow : Follow verb limited list rest

abbrev pub ComeBehind : Verb → Bool → List Operand → List Token → Type 0
ComeBehind verb limited list more = (more ≡ []) ⊎ (Follow verb limited list more ⊎ IsCommaBehind verb limited list more)

pub operands_behind : (verb : Verb) (limited : Bool) (list all : List Operand) (front more : List Token) → list ≢ [] → IsSeriesOf (IsOperand verb true) list front
    → IsSeriesOf (IsOperand verb limited) all (front ++ more) → AreOne verb all → ComeBehind verb limited list more
operands_behind verb limited [] all front more some l a one = absurd (some refl)
operands_behind verb limited (operand ∷ list) all front more some l a one =
    by_end (behind (IsOperand verb true) (IsOperand verb limited) name_of (agree verb limited) operand list all front more l a)
  where
    by_end : EndsOrGoes (IsOperand verb limited) name_of (operand ∷ list) all more → ComeBehind verb limited (operand ∷ list) more
    by_end (inl e) = inl e.0
    by_end (inr b) = by_comma b.joined
      where
        once' : StandOnce (b.firsts ++ b.following ∷ b.others)
        once' = subst (λ (z : List Operand). StandOnce z) b.all_is one.once

        front' : (takes_all one.form b.firsts ≡ true) × (is_one_of (keywords_of one.form) (name_of b.following) ≡ true)
        front' = takes_front one.form b.firsts b.following b.others (subst (λ (z : List Operand). takes_all one.form z ≡ true) b.all_is one.takes)

        stands : may_stand verb (operand ∷ list) (name_of b.following) ≡ true
        stands = may verb one.form (operand ∷ list) (name_of b.following) one.own (takes_names one.form (operand ∷ list) b.firsts b.same front'.0) front'.1
            (by_names (operand ∷ list) b.firsts (name_of b.following) b.same (behind_clashes b.firsts b.following b.others once'))

        by_comma : (more ≡ b.rest) ⊎ (more ≡ Comma ∷ b.rest) → ComeBehind verb limited (operand ∷ list) more
        by_comma (inl e) = inr (inl (b.following, b.others, subst (λ (z : List Token). IsSeriesOf (IsOperand verb limited) (b.following ∷ b.others) z) (sym e) b.spelled, stands))
        by_comma (inr e) = inr (inr (record { rest = b.rest; comma = e; follow = (b.following, b.others, b.spelled, stands) }))

-- behind a comma an operand stands
pub comma_behind : (verb : Verb) (limited : Bool) (list all : List Operand) (front more : List Token) → list ≢ [] → IsSeriesOf (IsOperand verb true) list front
    → IsSeriesOf (IsOperand verb limited) all (front ++ Comma ∷ more) → AreOne verb all → Follow verb limited list more
comma_behind verb limited list all front more some l a one = by_place (operands_behind verb limited list all front (Comma ∷ more) some l a one)
  where
    by_place : ComeBehind verb limited list (Comma ∷ more) → Follow verb limited list more
    by_place (inl none) = cc
    by_place (inr (inl f)) = let w = follow_begins verb limited list (Comma ∷ more) f in let e = w.2 in cc
    by_place (inr (inr c)) =
        let e = c.comma in
        let same : c.rest ≡ more = cc in
        subst (λ (z : List Token). Follow verb limited list z) same c.follow

-- a word behind operands begins one
pub word_behind : (verb : Verb) (limited : Bool) (list all : List Operand) (front : List Token) (word : List ℕ) (more : List Token) → ComeBefore verb list front
    → IsSeriesOf (IsOperand verb limited) all (front ++ Word word ∷ more) → AreOne verb all → Follow verb limited list (Word word ∷ more)
word_behind verb limited list all front word more (inl (none, e)) a one =
    subst (λ (z : List Operand). Follow verb limited z (Word word ∷ more)) (sym none)
    (all_follow verb limited all (Word word) more (subst (λ (z : List Token). IsSeriesOf (IsOperand verb limited) all (z ++ Word word ∷ more)) e a) one)
word_behind verb limited list all front word more (inr (some, inl (l, alone, form))) a one = by_place (operands_behind verb limited list all front (Word word ∷ more) some l a one)
  where
    by_place : ComeBehind verb limited list (Word word ∷ more) → Follow verb limited list (Word word ∷ more)
    by_place (inl none) = cc
    by_place (inr (inl f)) = f
    by_place (inr (inr c)) = let e = c.comma in cc
word_behind verb limited list all front word more (inr (some, inr (before, e, (l, alone, form)))) a one =
    let same : front ++ Word word ∷ more ≡ before ++ Comma ∷ Word word ∷ more = ap (λ (t : List Token). t ++ Word word ∷ more) e ∙ append_assoc before (Comma ∷ []) (Word word ∷ more) in
    comma_behind verb limited list all before (Word word ∷ more) some l (subst (λ (z : List Token). IsSeriesOf (IsOperand verb limited) all z) same a) one

-- tokens are of one series of operands at most
pub one_series : (verb : Verb) (list all : List Operand) (text : List Token) → IsSeriesOf (IsOperand verb true) list text → IsSeriesOf (IsOperand verb true) all text → list ≡ all
one_series verb [] [] text l a = refl
one_series verb [] (operand ∷ all) text l a = let w = series_begins (IsOperand verb true) (operand_begins verb true) operand all text a in let e = w.2 in cc
one_series verb (operand ∷ list) all text l a =
    by_end (behind (IsOperand verb true) (IsOperand verb true) (λ (z : Operand). z) (agree_whole verb) operand list all text [] l
    (subst (λ (z : List Token). IsSeriesOf (IsOperand verb true) all z) (sym (append-nil text)) a))
  where
    by_end : EndsOrGoes (IsOperand verb true) (λ (z : Operand). z) (operand ∷ list) all [] → operand ∷ list ≡ all
    by_end (inl e) = sym (map-id (operand ∷ list)) ∙ e.1 ∙ map-id all
    by_end (inr b) = by_comma b.joined
      where
        by_comma : ([] ≡ b.rest) ⊎ ([] ≡ Comma ∷ b.rest) → operand ∷ list ≡ all
        by_comma (inl e) = let w = series_begins (IsOperand verb true) (operand_begins verb true) b.following b.others b.rest b.spelled in let f = w.2 in cc
        by_comma (inr e) = cc
