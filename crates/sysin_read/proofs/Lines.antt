-- Where the line of a command, of SET and of an IF ends.
use Rattle.std.proofs.Common.{◌≡◌, ◌⊎◌, inl, inr, ℕ, List, [], ◌∷◌, ◌++◌, refl, sym, ap, subst, ◌∙◌, Bool, true, false, Some, append-nil}
use Rattle.std.proofs.lemmas.List.{map-append}
use Rattle.std.proofs.lemmas.List.Elements.{All-head, All-tail}
use Rattle.sysin_text.specs.declared.token.Token.{Token}
use Rattle.sysin_text.specs.declared.token.Token.TheVariants as tokens
use Rattle.sysin_text.specs.declared.token.Placed.{Placed}
use Rattle.sysin_words.specs.declared.keyword.Keyword.{Keyword}
use Rattle.sysin_words.specs.Keyword.{keyword_of}
use Rattle.sysin_words.specs.declared.lead.Verb.{Verb}
use Rattle.sysin_words.specs.declared.lead.Lead.{Lead}
use Rattle.sysin_words.specs.Lead.{is_else, is_end}
use Rattle.sysin_lang.specs.declared.command.Command.{Command}
use Rattle.sysin_lang.specs.Flow.{Plan}
use Rattle.sysin_forms.specs.declared.operand.Operand.{Operand}
use Rattle.sysin_forms.specs.Operand.{name_of}
use Rattle.sysin_heads.specs.declared.head.Head.{Head}
use Rattle.sysin_heads.specs.declared.head.Head.TheVariants as heads
use Rattle.sysin_heads.specs.Head.{IsHead}
use Rattle.sysin_heads.proofs.Exactness as head_laws
use Rattle.sysin_operands.specs.Operand.{IsKeyword}
use Rattle.sysin_filters.specs.Filter.{IsSeriesOf}
use Rattle.sysin_filters.proofs.Series.{Agree, EndsOrGoes, behind, first_of_series, series_map}
use Rattle.sysin_commands.specs.Operand.{IsOperand}
use Rattle.sysin_commands.specs.Command.{IsCommand}
use Rattle.sysin_commands.proofs.Agreeing.{agree, cut, named, operand_begins, loosen_to}
use Rattle.sysin_read.specs.declared.outline.Frame.{Frame}
use Rattle.sysin_read.specs.Statement.{tokens_of, StartNone, IsLead, IsElse, IsEnd}
use Rattle.sysin_read.specs.Rest.{Rest}
use Rattle.sysin_read.specs.Why.{around}
use Rattle.sysin_read.proofs.Words.{else_is_no_keyword, end_is_no_keyword}
use Rattle.sysin_read.proofs.Blocks.{statement_leads}
use Rattle.sysin_read.proofs.Ending.{no_else_here, room_around, closes, starts_here, must_start}
use Rattle.std.proofs.lemmas.Bool.{cases_Bool}
use Rattle.sysin_values.proofs.LongCriteria.{overlap}

-- ---- which token stands there

else_of : (placed : Placed) (token : Token) → placed.token ≡ token → IsElse placed ⊎ (¬ IsElse placed)
else_of placed (tokens.Word word) e = elim (cases_Bool (is_else word)) as (λ _. IsElse placed ⊎ (¬ IsElse placed)) [
  | inl t ↦ inl (word, e, t)
  | inr f ↦ inr (λ w.
      let same : tokens.Word w.0 ≡ tokens.Word word = sym w.1 ∙ e in
      let words : w.0 ≡ word = cc in
      let both : true ≡ false = sym w.2 ∙ ap is_else words ∙ f in
      cc)
]
else_of placed token e = inr (λ w. let same = w.1 in cc)

pub else_or_not : (placed : Placed) → IsElse placed ⊎ (¬ IsElse placed)
else_or_not placed = else_of placed placed.token refl

end_of : (placed : Placed) (token : Token) → placed.token ≡ token → IsEnd placed ⊎ (¬ IsEnd placed)
end_of placed (tokens.Word word) e = elim (cases_Bool (is_end word)) as (λ _. IsEnd placed ⊎ (¬ IsEnd placed)) [
  | inl t ↦ inl (word, e, t)
  | inr f ↦ inr (λ w.
      let same : tokens.Word w.0 ≡ tokens.Word word = sym w.1 ∙ e in
      let words : w.0 ≡ word = cc in
      let both : true ≡ false = sym w.2 ∙ ap is_end words ∙ f in
      cc)
]
end_of placed token e = inr (λ w. let same = w.1 in cc)

pub end_or_not : (placed : Placed) → IsEnd placed ⊎ (¬ IsEnd placed)
end_or_not placed = end_of placed placed.token refl

-- a token that may stand behind a statement
abbrev pub IsEnder : Placed → Type 0
IsEnder placed = IsElse placed ⊎ (IsEnd placed ⊎ ((placed.starts ≡ true) × ((lead : Lead) × IsLead lead placed)))

pub rest_ender : (limited : Bool) (room : ℕ) (open' : List Frame) (closed : Bool) (count : ℕ) (plans : List Plan) (first : Placed) (rest : List Placed)
    → Rest limited room open' closed count plans (first ∷ rest) → IsEnder first
rest_ender limited room open' closed count plans first rest r = by_else (else_or_not first)
  where
    by_end : (¬ IsElse first) → IsEnd first ⊎ (¬ IsEnd first) → IsEnder first
    by_end no_else (inl e) = inr (inl e)
    by_end no_else (inr n) =
        let m = closes limited count (first ∷ rest) (no_else_here first rest no_else) room open' closed plans r in
        let s = starts_here limited count first rest (room_around room open') open' true m.0 n m.2 in
        let l = statement_leads limited (room_around room open') (around open') count m.0 (first ∷ rest) s in
        let w = l.whole in
        let same : l.first ≡ first = cc in
        inr (inr (must_start limited count first rest (room_around room open') open' true m.0 n m.2, (l.lead, subst (λ (p : Placed). IsLead l.lead p) same l.leads)))

    by_else : IsElse first ⊎ (¬ IsElse first) → IsEnder first
    by_else (inl e) = inl e
    by_else (inr n) = by_end n (end_or_not first)

-- the first of these, if there is one, may stand behind a statement
abbrev pub Enders : List Placed → Type 0
Enders list = (first : Placed) (rest : List Placed) → list ≡ first ∷ rest → IsEnder first

pub rest_enders : (limited : Bool) (room : ℕ) (open' : List Frame) (closed : Bool) (count : ℕ) (plans : List Plan) (list : List Placed)
    → Rest limited room open' closed count plans list → Enders list
rest_enders limited room open' closed count plans list r first rest e =
    rest_ender limited room open' closed count plans first rest (subst (λ (l : List Placed). Rest limited room open' closed count plans l) e r)

pub one_ender : (first : Placed) (rest : List Placed) → IsEnder first → Enders (first ∷ rest)
one_ender first rest is other more e = let same : first ≡ other = cc in subst IsEnder same is

-- ---- commands

pub starts_none : (front : List Placed) (x : Placed) (rest : List Placed) → StartNone (front ++ x ∷ rest) → x.starts ≡ false
starts_none [] x rest a = All-head (λ (placed : Placed). placed.starts ≡ false) x rest a
starts_none (y ∷ front) x rest a = starts_none front x rest (All-tail (λ (placed : Placed). placed.starts ≡ false) y (front ++ x ∷ rest) a)

-- no operand begins with it, and it separates none
abbrev pub IsNoOperand : Token → Type 0
IsNoOperand token = ((token ≡ tokens.Comma) → ⊥) × ((keyword : Keyword) → ¬ IsKeyword keyword token)

pub else_no_operand : (placed : Placed) → IsElse placed → IsNoOperand placed.token
else_no_operand placed is = ((λ e. let word = is.1 in cc), (λ keyword k. else_is_no_keyword placed keyword is k))

pub end_no_operand : (placed : Placed) → IsEnd placed → IsNoOperand placed.token
end_no_operand placed is = ((λ e. let word = is.1 in cc), (λ keyword k. end_is_no_keyword placed keyword is k))

pub ender_in_line : (placed : Placed) → IsEnder placed → placed.starts ≡ false → IsNoOperand placed.token
ender_in_line placed (inl e) n = else_no_operand placed e
ender_in_line placed (inr (inl e)) n = end_no_operand placed e
ender_in_line placed (inr (inr (starts, lead))) n = let both : true ≡ false = sym starts ∙ n in cc

series_word : (verb : Verb) (limited : Bool) (x : Operand) (list : List Operand) (text : List Token) → IsSeriesOf (IsOperand verb limited) (x ∷ list) text
    → (word : List ℕ) × (rest : List Token) × (text ≡ tokens.Word word ∷ rest) × (keyword_of word ≡ Some (name_of x))
series_word verb limited x list text s =
    let f = first_of_series (IsOperand verb limited) x list text s in
    let n = named verb limited x f.0 f.3 in
    (n.word, n.tail ++ f.1, f.2 ∙ ap (λ (t : List Token). t ++ f.1) n.tokens, n.spelled)

no_series : (verb : Verb) (limited : Bool) (x : Operand) (list : List Operand) (text : List Token) (token : Token) (rest : List Token) → IsSeriesOf (IsOperand verb limited) (x ∷ list) text
    → token ∷ rest ≡ text → IsNoOperand token → ⊥
no_series verb limited x list text token rest s e none =
    let w = series_word verb limited x list text s in
    let both : token ∷ rest ≡ tokens.Word w.0 ∷ w.1 = e ∙ w.2 in
    let same : token ≡ tokens.Word w.0 = cc in
    none.1 (name_of x) (w.0, same, w.3)

abbrev pub Agrees : Verb → Bool → Bool → Type 0
Agrees verb one other = Agree (IsOperand verb one) (IsOperand verb other) name_of

pub agree_back : (verb : Verb) (limited : Bool) → Agrees verb limited true
agree_back verb limited = record {
  cut = λ x y s t a b p q same. let c = cut verb limited y x t s b a q p (sym same) in (sym c.0, sym c.1, sym c.2);
  word = operand_begins verb limited;
  other_word = operand_begins verb true;
}

no_more : (verb : Verb) (one other : Bool) → Agrees verb one other → (list all : List Operand) (front : List Token) (token : Token) (rest : List Token)
    → IsSeriesOf (IsOperand verb one) list front → IsSeriesOf (IsOperand verb other) all (front ++ token ∷ rest) → IsNoOperand token → ⊥
no_more verb one other g [] [] front token rest s a none = let both : [] ++ token ∷ rest ≡ [] = ap (λ (f : List Token). f ++ token ∷ rest) (sym s) ∙ a in cc
no_more verb one other g [] (x ∷ all) front token rest s a none = no_series verb other x all (front ++ token ∷ rest) token rest a (ap (λ (f : List Token). f ++ token ∷ rest) (sym s)) none
no_more verb one other g (x ∷ list) all front token rest s a none = by_end (behind (IsOperand verb one) (IsOperand verb other) name_of g x list all front (token ∷ rest) s a)
  where
    by_end : EndsOrGoes (IsOperand verb other) name_of (x ∷ list) all (token ∷ rest) → ⊥
    by_end (inl e) = let empty = e.0 in cc
    by_end (inr b) = by_comma b.joined
      where
        by_comma : (token ∷ rest ≡ b.rest) ⊎ (token ∷ rest ≡ tokens.Comma ∷ b.rest) → ⊥
        by_comma (inl e) = no_series verb other b.following b.others b.rest token rest b.spelled e none
        by_comma (inr e) = let same : token ≡ tokens.Comma = cc in none.0 same

-- no command goes on with such a token
pub no_command_behind : (verb : Verb) (one other : Bool) → Agrees verb one other → (left right : Command) (front : List Token) (token : Token) (rest : List Token)
    → IsCommand verb one left front → IsCommand verb other right (front ++ token ∷ rest) → IsNoOperand token → ⊥
no_command_behind verb one other g left right front token rest l r none = no_more verb one other g l.list r.list front token rest l.series r.series none

pub loosen_command : (verb : Verb) (limited : Bool) (said : Command) (text : List Token) → IsCommand verb true said text → IsCommand verb limited said text
loosen_command verb limited said text c = record {
  list = c.list;
  own = c.own;
  series = series_map (IsOperand verb true) (IsOperand verb limited) (loosen_to verb limited) c.list text c.series;
  once = c.once;
  takes = c.takes;
  made = c.made;
}

pub split_tokens : (front : List Placed) (x : Placed) (rest : List Placed) → tokens_of (front ++ x ∷ rest) ≡ tokens_of front ++ x.token ∷ tokens_of rest
split_tokens front x rest = map-append (λ (placed : Placed). placed.token) front (x ∷ rest)

-- behind a command a line ends
pub no_inside : (verb : Verb) (one other : Bool) → Agrees verb one other → (left right : Command) (front : List Placed) (x : Placed) (rest : List Placed)
    → IsCommand verb one left (tokens_of front) → IsCommand verb other right (tokens_of (front ++ x ∷ rest)) → StartNone (front ++ x ∷ rest) → IsEnder x → ⊥
no_inside verb one other g left right front x rest l r line is = no_command_behind verb one other g left right (tokens_of front) x.token (tokens_of rest) l
    (subst (λ (t : List Token). IsCommand verb other right t) (split_tokens front x rest) r) (ender_in_line x is (starts_none front x rest line))

-- two commands that stand in one line are the same tokens
pub same_line : (verb : Verb) (limited : Bool) (left right : Command) (more text a b : List Placed) → StartNone more → StartNone text → IsCommand verb true left (tokens_of more)
    → IsCommand verb limited right (tokens_of text) → more ++ a ≡ text ++ b → Enders a → Enders b → (text ≡ more) × (b ≡ a)
same_line verb limited left right more text a b m t l r same ends others = by_overlap (overlap more a text b same)
  where
    longer : (e : List Placed) → text ≡ more ++ e → a ≡ e ++ b → (text ≡ more) × (b ≡ a)
    longer [] f g = (f ∙ append-nil more, sym g)
    longer (x ∷ e) f g = absurd (no_inside verb true limited (agree verb limited) left right more x e l (subst (λ (z : List Placed). IsCommand verb limited right (tokens_of z)) f r)
        (subst StartNone f t) (ends x (e ++ b) g))

    shorter : (e : List Placed) → more ≡ text ++ e → b ≡ e ++ a → (text ≡ more) × (b ≡ a)
    shorter [] f g = (sym (f ∙ append-nil text), g)
    shorter (x ∷ e) f g = absurd (no_inside verb limited true (agree_back verb limited) right left text x e r (subst (λ (z : List Placed). IsCommand verb true left (tokens_of z)) f l)
        (subst StartNone f m) (others x (e ++ a) g))

    by_overlap : ((e : List Placed) × (text ≡ more ++ e) × (a ≡ e ++ b)) ⊎ ((e : List Placed) × (more ≡ text ++ e) × (b ≡ e ++ a)) → (text ≡ more) × (b ≡ a)
    by_overlap (inl o) = longer o.0 o.1 o.2
    by_overlap (inr o) = shorter o.0 o.1 o.2

-- ---- SET and IF

pub heads_end : (one other : Bool) (left right : Head) (text : List Token) (token : Token) (rest : List Token) → IsHead one left text → IsHead other right (text ++ token ∷ rest) → ⊥
heads_end one other (heads.Set w c) (heads.Set w' c') text token rest (s, n, v, e, lead, name, value) (s', n', v', e', lead', name', value') =
    let both : tokens.Word s ∷ tokens.Word n ∷ tokens.Equal ∷ tokens.Word v ∷ token ∷ rest ≡ tokens.Word s' ∷ tokens.Word n' ∷ tokens.Equal ∷ tokens.Word v' ∷ [] =
    ap (λ (t : List Token). t ++ token ∷ rest) (sym e) ∙ e' in
    cc
heads_end one other (heads.Set w c) (heads.If w' o' c') text token rest (s, n, v, e, lead, name, value) (s', n', q', v', t', e', lead', name', sign', value', last') =
    let both : tokens.Word s ∷ tokens.Word n ∷ tokens.Equal ∷ tokens.Word v ∷ token ∷ rest ≡ tokens.Word s' ∷ tokens.Word n' ∷ q' ∷ tokens.Word v' ∷ tokens.Word t' ∷ [] =
    ap (λ (t : List Token). t ++ token ∷ rest) (sym e) ∙ e' in
    let words : s ≡ s' = cc in
    cc
heads_end one other (heads.If w o c) (heads.Set w' c') text token rest (s, n, q, v, h, e, lead, name, sign, value, last) (s', n', v', e', lead', name', value') =
    let both : tokens.Word s ∷ tokens.Word n ∷ q ∷ tokens.Word v ∷ tokens.Word h ∷ token ∷ rest ≡ tokens.Word s' ∷ tokens.Word n' ∷ tokens.Equal ∷ tokens.Word v' ∷ [] =
    ap (λ (t : List Token). t ++ token ∷ rest) (sym e) ∙ e' in
    cc
heads_end one other (heads.If w o c) (heads.If w' o' c') text token rest (s, n, q, v, h, e, lead, name, sign, value, last) (s', n', q', v', h', e', lead', name', sign', value', last') =
    let both : tokens.Word s ∷ tokens.Word n ∷ q ∷ tokens.Word v ∷ tokens.Word h ∷ token ∷ rest ≡ tokens.Word s' ∷ tokens.Word n' ∷ q' ∷ tokens.Word v' ∷ tokens.Word h' ∷ [] =
    ap (λ (t : List Token). t ++ token ∷ rest) (sym e) ∙ e' in
    cc

pub loosen_head : (one other : Bool) (said : Head) (text : List Token) → IsHead one said text → IsHead other said text
loosen_head one other (heads.Set which code) text s = s
loosen_head one other (heads.If which op code) text s = s

pub same_head : (one other : Bool) (left right : Head) (first : Placed) (more text a b : List Placed) → IsHead one left (tokens_of (first ∷ more))
    → IsHead other right (tokens_of (first ∷ text)) → more ++ a ≡ text ++ b → (text ≡ more) × (b ≡ a) × (left ≡ right)
same_head one other left right first more text a b l r same = by_overlap (overlap more a text b same)
  where
    longer : (e : List Placed) → text ≡ more ++ e → a ≡ e ++ b → (text ≡ more) × (b ≡ a) × (left ≡ right)
    longer [] f g =
        let here : text ≡ more = f ∙ append-nil more in (
          here,
          sym g,
          head_laws.one_head left right (tokens_of (first ∷ more)) (loosen_head one true left (tokens_of (first ∷ more)) l)
              (loosen_head other true right (tokens_of (first ∷ more)) (subst (λ (z : List Placed). IsHead other right (tokens_of (first ∷ z))) here r)),
        )
    longer (x ∷ e) f g = absurd (heads_end one other left right (tokens_of (first ∷ more)) x.token (tokens_of e) l
        (subst (λ (t : List Token). IsHead other right (first.token ∷ t)) (split_tokens more x e) (subst (λ (z : List Placed). IsHead other right (tokens_of (first ∷ z))) f r)))

    shorter : (e : List Placed) → more ≡ text ++ e → b ≡ e ++ a → (text ≡ more) × (b ≡ a) × (left ≡ right)
    shorter [] f g = longer [] (sym (f ∙ append-nil text) ∙ sym (append-nil more)) (sym g)
    shorter (x ∷ e) f g = absurd (heads_end other one right left (tokens_of (first ∷ text)) x.token (tokens_of e) r
        (subst (λ (t : List Token). IsHead one left (first.token ∷ t)) (split_tokens text x e) (subst (λ (z : List Placed). IsHead one left (tokens_of (first ∷ z))) f l)))

    by_overlap : ((e : List Placed) × (text ≡ more ++ e) × (a ≡ e ++ b)) ⊎ ((e : List Placed) × (more ≡ text ++ e) × (b ≡ e ++ a)) → (text ≡ more) × (b ≡ a) × (left ≡ right)
    by_overlap (inl o) = longer o.0 o.1 o.2
    by_overlap (inr o) = shorter o.0 o.1 o.2
