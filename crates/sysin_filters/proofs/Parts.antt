-- What the tokens of a part are.
use Rattle.std.proofs.Common.{◌≡◌, ◌⊎◌, inl, inr, ℕ, List, [], ◌∷◌, ◌++◌, refl, sym, ap, subst, ◌∙◌, Bool, true, false, Some, append_assoc, append-nil}
use Rattle.std.specs.Prelude.{codes}
use Rattle.sysin_text.specs.declared.token.Token.{Token}
use Rattle.sysin_text.specs.declared.token.Token.TheVariants.{Comma, Open, Close, Word}
use Rattle.sysin_words.specs.declared.keyword.Keyword.{Keyword}
use Rattle.sysin_words.specs.declared.keyword.Keyword.TheVariants as keywords
use Rattle.sysin_words.specs.declared.lead.Verb.{Verb}
use Rattle.sysin_words.specs.declared.lead.Verb.TheVariants as verbs
use Rattle.sysin_words.specs.Keyword.{keyword_of}
use Rattle.sysin_forms.specs.declared.operand.Operand.{Operand}
use Rattle.sysin_forms.specs.Operand.{name_of, is_part}
use Rattle.sysin_operands.specs.declared.bracket.Bracket.{Bracket}
use Rattle.sysin_operands.specs.declared.bracket.Bracket.TheVariants as brackets
use Rattle.sysin_operands.specs.Bracket.{bracket_of, IsContent, IsPlainOperand}
use Rattle.sysin_operands.specs.Content.{start_of}
use Rattle.sysin_operands.proofs.Contents as contents
use Rattle.sysin_operands.proofs.Unlimited as unlimited
use Rattle.sysin_operands.proofs.Bracketed.{one, alone_has_none}
use Rattle.sysin_filters.specs.Filter.{IsPart, part_of}
use Rattle.sysin_filters.proofs.Series.{Agree, BeginsWithWord}
use Rattle.sysin_filters.proofs.Shorter.{no_shorter_patterns, no_shorter_criteria}
use Rattle.sysin_operands.proofs.Operands.{begin_nothing}
use Rattle.sysin_values.proofs.LongCriteria.{overlap}

-- ---- keywords

-- the keyword of a part's bracket
abbrev home : Bracket → Keyword
home brackets.Include = keywords.Include
home brackets.Exclude = keywords.Exclude
home brackets.By = keywords.By
home _ = keywords.Vtoc

-- a bracket that a part has
abbrev pub IsPartBracket : Bracket → Type 0
IsPartBracket bracket = (bracket ≡ brackets.Include) ⊎ ((bracket ≡ brackets.Exclude) ⊎ (bracket ≡ brackets.By))

pub is_part_bracket : (keyword : Keyword) (bracket : Bracket) → part_of keyword ≡ Some bracket → IsPartBracket bracket
is_part_bracket keywords.Vtoc bracket e = cc
is_part_bracket keywords.Full bracket e = cc
is_part_bracket keywords.Input bracket e = cc
is_part_bracket keywords.LogicalInput bracket e = cc
is_part_bracket keywords.Output bracket e = cc
is_part_bracket keywords.Dataset bracket e = cc
is_part_bracket keywords.Include bracket e = inl cc
is_part_bracket keywords.Exclude bracket e = inr (inl cc)
is_part_bracket keywords.By bracket e = inr (inr cc)
is_part_bracket keywords.Index bracket e = cc
is_part_bracket keywords.Limit bracket e = cc
is_part_bracket keywords.Delete bracket e = cc
is_part_bracket keywords.Purge bracket e = cc
is_part_bracket keywords.Reset bracket e = cc
is_part_bracket keywords.Replace bracket e = cc
is_part_bracket keywords.Rename bracket e = cc
is_part_bracket keywords.Tolerate bracket e = cc
is_part_bracket keywords.Wait bracket e = cc
is_part_bracket keywords.Optimize bracket e = cc

pub brackets_of_part : (verb : Verb) (keyword : Keyword) (bracket : Bracket) → part_of keyword ≡ Some bracket → bracket_of verb keyword ≡ Some bracket
brackets_of_part verb keywords.Vtoc bracket e = cc
brackets_of_part verb keywords.Full bracket e = cc
brackets_of_part verb keywords.Input bracket e = cc
brackets_of_part verb keywords.LogicalInput bracket e = cc
brackets_of_part verb keywords.Output bracket e = cc
brackets_of_part verb keywords.Dataset bracket e = cc
brackets_of_part verb keywords.Include bracket e = e
brackets_of_part verb keywords.Exclude bracket e = e
brackets_of_part verb keywords.By bracket e = e
brackets_of_part verb keywords.Index bracket e = cc
brackets_of_part verb keywords.Limit bracket e = cc
brackets_of_part verb keywords.Delete bracket e = cc
brackets_of_part verb keywords.Purge bracket e = cc
brackets_of_part verb keywords.Reset bracket e = cc
brackets_of_part verb keywords.Replace bracket e = cc
brackets_of_part verb keywords.Rename bracket e = cc
brackets_of_part verb keywords.Tolerate bracket e = cc
brackets_of_part verb keywords.Wait bracket e = cc
brackets_of_part verb keywords.Optimize bracket e = cc

at_home : (keyword : Keyword) (bracket : Bracket) → part_of keyword ≡ Some bracket → keyword ≡ home bracket
at_home keywords.Vtoc bracket e = cc
at_home keywords.Full bracket e = cc
at_home keywords.Input bracket e = cc
at_home keywords.LogicalInput bracket e = cc
at_home keywords.Output bracket e = cc
at_home keywords.Dataset bracket e = cc
at_home keywords.Include bracket e = let b : bracket ≡ brackets.Include = cc in ap home (sym b)
at_home keywords.Exclude bracket e = let b : bracket ≡ brackets.Exclude = cc in ap home (sym b)
at_home keywords.By bracket e = let b : bracket ≡ brackets.By = cc in ap home (sym b)
at_home keywords.Index bracket e = cc
at_home keywords.Limit bracket e = cc
at_home keywords.Delete bracket e = cc
at_home keywords.Purge bracket e = cc
at_home keywords.Reset bracket e = cc
at_home keywords.Replace bracket e = cc
at_home keywords.Rename bracket e = cc
at_home keywords.Tolerate bracket e = cc
at_home keywords.Wait bracket e = cc
at_home keywords.Optimize bracket e = cc

pub keyword_is_part : (keyword : Keyword) (bracket : Bracket) → part_of keyword ≡ Some bracket → is_part keyword ≡ true
keyword_is_part keywords.Vtoc bracket e = cc
keyword_is_part keywords.Full bracket e = cc
keyword_is_part keywords.Input bracket e = cc
keyword_is_part keywords.LogicalInput bracket e = cc
keyword_is_part keywords.Output bracket e = cc
keyword_is_part keywords.Dataset bracket e = cc
keyword_is_part keywords.Include bracket e = refl
keyword_is_part keywords.Exclude bracket e = refl
keyword_is_part keywords.By bracket e = refl
keyword_is_part keywords.Index bracket e = cc
keyword_is_part keywords.Limit bracket e = cc
keyword_is_part keywords.Delete bracket e = cc
keyword_is_part keywords.Purge bracket e = cc
keyword_is_part keywords.Reset bracket e = cc
keyword_is_part keywords.Replace bracket e = cc
keyword_is_part keywords.Rename bracket e = cc
keyword_is_part keywords.Tolerate bracket e = cc
keyword_is_part keywords.Wait bracket e = cc
keyword_is_part keywords.Optimize bracket e = cc

pub part_has_brackets : (keyword : Keyword) → is_part keyword ≡ true → (bracket : Bracket) × (part_of keyword ≡ Some bracket)
part_has_brackets keywords.Vtoc e = cc
part_has_brackets keywords.Full e = cc
part_has_brackets keywords.Input e = cc
part_has_brackets keywords.LogicalInput e = cc
part_has_brackets keywords.Output e = cc
part_has_brackets keywords.Dataset e = cc
part_has_brackets keywords.Include e = (brackets.Include, refl)
part_has_brackets keywords.Exclude e = (brackets.Exclude, refl)
part_has_brackets keywords.By e = (brackets.By, refl)
part_has_brackets keywords.Index e = cc
part_has_brackets keywords.Limit e = cc
part_has_brackets keywords.Delete e = cc
part_has_brackets keywords.Purge e = cc
part_has_brackets keywords.Reset e = cc
part_has_brackets keywords.Replace e = cc
part_has_brackets keywords.Rename e = cc
part_has_brackets keywords.Tolerate e = cc
part_has_brackets keywords.Wait e = cc
part_has_brackets keywords.Optimize e = cc

pub one_keyword : (keyword other : Keyword) (bracket : Bracket) → part_of keyword ≡ Some bracket → part_of other ≡ Some bracket → keyword ≡ other
one_keyword keyword other bracket p q = at_home keyword bracket p ∙ sym (at_home other bracket q)

no_output : (verb : Verb) (bracket : Bracket) → IsPartBracket bracket → bracket_of verb keywords.Output ≡ Some bracket → ⊥
no_output verbs.Print bracket (inl p) e = cc
no_output verbs.Print bracket (inr (inl p)) e = cc
no_output verbs.Print bracket (inr (inr p)) e = cc
no_output verbs.Release bracket (inl p) e = cc
no_output verbs.Release bracket (inr (inl p)) e = cc
no_output verbs.Release bracket (inr (inr p)) e = cc
no_output verbs.Consolidate bracket (inl p) e = cc
no_output verbs.Consolidate bracket (inr (inl p)) e = cc
no_output verbs.Consolidate bracket (inr (inr p)) e = cc
no_output verbs.Defrag bracket (inl p) e = cc
no_output verbs.Defrag bracket (inr (inl p)) e = cc
no_output verbs.Defrag bracket (inr (inr p)) e = cc
no_output verbs.Copy bracket (inl p) e = cc
no_output verbs.Copy bracket (inr (inl p)) e = cc
no_output verbs.Copy bracket (inr (inr p)) e = cc
no_output verbs.Dump bracket (inl p) e = cc
no_output verbs.Dump bracket (inr (inl p)) e = cc
no_output verbs.Dump bracket (inr (inr p)) e = cc
no_output verbs.Restore bracket (inl p) e = cc
no_output verbs.Restore bracket (inr (inl p)) e = cc
no_output verbs.Restore bracket (inr (inr p)) e = cc

pub part_of_brackets : (verb : Verb) (keyword : Keyword) (bracket : Bracket) → IsPartBracket bracket → bracket_of verb keyword ≡ Some bracket → part_of keyword ≡ Some bracket
part_of_brackets verb keywords.Vtoc bracket (inl p) e = cc
part_of_brackets verb keywords.Vtoc bracket (inr (inl p)) e = cc
part_of_brackets verb keywords.Vtoc bracket (inr (inr p)) e = cc
part_of_brackets verb keywords.Full bracket (inl p) e = cc
part_of_brackets verb keywords.Full bracket (inr (inl p)) e = cc
part_of_brackets verb keywords.Full bracket (inr (inr p)) e = cc
part_of_brackets verb keywords.Input bracket (inl p) e = cc
part_of_brackets verb keywords.Input bracket (inr (inl p)) e = cc
part_of_brackets verb keywords.Input bracket (inr (inr p)) e = cc
part_of_brackets verb keywords.LogicalInput bracket (inl p) e = cc
part_of_brackets verb keywords.LogicalInput bracket (inr (inl p)) e = cc
part_of_brackets verb keywords.LogicalInput bracket (inr (inr p)) e = cc
part_of_brackets verb keywords.Output bracket p e = absurd (no_output verb bracket p e)
part_of_brackets verb keywords.Dataset bracket (inl p) e = cc
part_of_brackets verb keywords.Dataset bracket (inr (inl p)) e = cc
part_of_brackets verb keywords.Dataset bracket (inr (inr p)) e = cc
part_of_brackets verb keywords.Include bracket p e = e
part_of_brackets verb keywords.Exclude bracket p e = e
part_of_brackets verb keywords.By bracket p e = e
part_of_brackets verb keywords.Index bracket (inl p) e = cc
part_of_brackets verb keywords.Index bracket (inr (inl p)) e = cc
part_of_brackets verb keywords.Index bracket (inr (inr p)) e = cc
part_of_brackets verb keywords.Limit bracket (inl p) e = cc
part_of_brackets verb keywords.Limit bracket (inr (inl p)) e = cc
part_of_brackets verb keywords.Limit bracket (inr (inr p)) e = cc
part_of_brackets verb keywords.Delete bracket (inl p) e = cc
part_of_brackets verb keywords.Delete bracket (inr (inl p)) e = cc
part_of_brackets verb keywords.Delete bracket (inr (inr p)) e = cc
part_of_brackets verb keywords.Purge bracket (inl p) e = cc
part_of_brackets verb keywords.Purge bracket (inr (inl p)) e = cc
part_of_brackets verb keywords.Purge bracket (inr (inr p)) e = cc
part_of_brackets verb keywords.Reset bracket (inl p) e = cc
part_of_brackets verb keywords.Reset bracket (inr (inl p)) e = cc
part_of_brackets verb keywords.Reset bracket (inr (inr p)) e = cc
part_of_brackets verb keywords.Replace bracket (inl p) e = cc
part_of_brackets verb keywords.Replace bracket (inr (inl p)) e = cc
part_of_brackets verb keywords.Replace bracket (inr (inr p)) e = cc
part_of_brackets verb keywords.Rename bracket (inl p) e = cc
part_of_brackets verb keywords.Rename bracket (inr (inl p)) e = cc
part_of_brackets verb keywords.Rename bracket (inr (inr p)) e = cc
part_of_brackets verb keywords.Tolerate bracket (inl p) e = cc
part_of_brackets verb keywords.Tolerate bracket (inr (inl p)) e = cc
part_of_brackets verb keywords.Tolerate bracket (inr (inr p)) e = cc
part_of_brackets verb keywords.Wait bracket (inl p) e = cc
part_of_brackets verb keywords.Wait bracket (inr (inl p)) e = cc
part_of_brackets verb keywords.Wait bracket (inr (inr p)) e = cc
part_of_brackets verb keywords.Optimize bracket (inl p) e = cc
part_of_brackets verb keywords.Optimize bracket (inr (inl p)) e = cc
part_of_brackets verb keywords.Optimize bracket (inr (inr p)) e = cc

-- ---- contents

content_name : (limited : Bool) (bracket : Bracket) (part : Operand) (text : List Token) → IsPartBracket bracket → IsContent bracket limited part text → name_of part ≡ home bracket
content_name limited brackets.Include part text p (list, s, e) = ap name_of e
content_name limited brackets.Exclude part text p (list, s, e) = ap name_of e
content_name limited brackets.By part text p (list, s, e) = ap name_of e
content_name limited (brackets.Single single) part text (inl e) s = cc
content_name limited (brackets.Single single) part text (inr (inl e)) s = cc
content_name limited (brackets.Single single) part text (inr (inr e)) s = cc
content_name limited brackets.Outputs part text (inl e) s = cc
content_name limited brackets.Outputs part text (inr (inl e)) s = cc
content_name limited brackets.Outputs part text (inr (inr e)) s = cc
content_name limited brackets.Rename part text (inl e) s = cc
content_name limited brackets.Rename part text (inr (inl e)) s = cc
content_name limited brackets.Rename part text (inr (inr e)) s = cc
content_name limited brackets.Wait part text (inl e) s = cc
content_name limited brackets.Wait part text (inr (inl e)) s = cc
content_name limited brackets.Wait part text (inr (inr e)) s = cc

shorter_at : (bracket known : Bracket) (part other : Operand) (front rest : List Token) → bracket ≡ known → IsContent bracket false part front → IsContent bracket true other (front ++ Close ∷ rest)
    → IsContent known false part front × IsContent known true other (front ++ Close ∷ rest)
shorter_at bracket known part other front rest e s t =
    (subst (λ (b : Bracket). IsContent b false part front) e s, subst (λ (b : Bracket). IsContent b true other (front ++ Close ∷ rest)) e t)

no_shorter : (bracket : Bracket) (part other : Operand) (front rest : List Token) → IsPartBracket bracket → IsContent bracket false part front → IsContent bracket true other (front ++ Close ∷ rest) → ⊥
no_shorter bracket part other front rest (inl e) s t =
    let b = shorter_at bracket brackets.Include part other front rest e s t in
    no_shorter_patterns b.0.0 b.1.0 front rest b.0.1 b.1.1
no_shorter bracket part other front rest (inr (inl e)) s t =
    let b = shorter_at bracket brackets.Exclude part other front rest e s t in
    no_shorter_patterns b.0.0 b.1.0 front rest b.0.1 b.1.1
no_shorter bracket part other front rest (inr (inr e)) s t =
    let b = shorter_at bracket brackets.By part other front rest e s t in
    no_shorter_criteria b.0.0 b.1.0 front rest b.0.1 b.1.1

-- no last bracket goes on with a content
pub no_longer : (limited : Bool) (bracket : Bracket) (part other : Operand) (front rest : List Token) → IsContent bracket true part front → IsContent bracket limited other (front ++ Close ∷ rest) → ⊥
no_longer true bracket part other front rest s t =
    contents.ends bracket part front s (inl (rest, other, subst (λ (z : List Token). IsContent bracket true other z) (sym (append_assoc front (Close ∷ []) rest)) t))
no_longer false bracket part other front rest s t =
    unlimited.ends bracket part front s (rest, other, subst (λ (z : List Token). IsContent bracket false other z) (sym (append_assoc front (Close ∷ []) rest)) t)

no_other : (limited : Bool) (bracket : Bracket) (part other : Operand) (front rest : List Token) → IsPartBracket bracket → IsContent bracket limited part front → IsContent bracket true other (front ++ Close ∷ rest) → ⊥
no_other true bracket part other front rest p s t = no_longer true bracket part other front rest s t
no_other false bracket part other front rest p s t = no_shorter bracket part other front rest p s t

-- two contents, each with the last bracket behind it, are the same
same_content : (limited : Bool) (bracket : Bracket) (part other : Operand) (first second a b : List Token) → IsPartBracket bracket → IsContent bracket true part first → IsContent bracket limited other second
    → first ++ Close ∷ a ≡ second ++ Close ∷ b → (first ≡ second) × (a ≡ b)
same_content limited bracket part other first second a b p s t same = by_overlap (overlap first (Close ∷ a) second (Close ∷ b) same)
  where
    by_overlap : ((e : List Token) × (second ≡ first ++ e) × (Close ∷ a ≡ e ++ Close ∷ b)) ⊎ ((e : List Token) × (first ≡ second ++ e) × (Close ∷ b ≡ e ++ Close ∷ a)) → (first ≡ second) × (a ≡ b)
    by_overlap (inl ([], f, g)) = (sym (f ∙ append-nil first), cc)
    by_overlap (inl (sign ∷ e, f, g)) =
        let close : sign ≡ Close = cc in
        absurd (no_longer limited bracket part other first e s (subst (λ (z : List Token). IsContent bracket limited other z) (f ∙ ap (λ (z : Token). first ++ z ∷ e) close) t))
    by_overlap (inr ([], f, g)) = (f ∙ append-nil second, cc)
    by_overlap (inr (sign ∷ e, f, g)) =
        let close : sign ≡ Close = cc in
        absurd (no_other limited bracket other part second e p t (subst (λ (z : List Token). IsContent bracket true part z) (f ∙ ap (λ (z : Token). second ++ z ∷ e) close) s))

loosen_content : (bracket : Bracket) (part : Operand) (text : List Token) → IsPartBracket bracket → IsContent bracket true part text → IsContent bracket false part text
loosen_content brackets.Include part text p (list, (l, few), e) = (list, (l, λ no'. cc), e)
loosen_content brackets.Exclude part text p (list, (l, few), e) = (list, (l, λ no'. cc), e)
loosen_content brackets.By part text p (list, (l, few), e) = (list, (l, λ no'. cc), e)
loosen_content (brackets.Single single) part text p s = s
loosen_content brackets.Outputs part text p (list, (l, few), e) = (list, (l, λ no'. cc), e)
loosen_content brackets.Rename part text (inl e) s = cc
loosen_content brackets.Rename part text (inr (inl e)) s = cc
loosen_content brackets.Rename part text (inr (inr e)) s = cc
loosen_content brackets.Wait part text p s = s

-- ---- parts

pub loosen : (part : Operand) (text : List Token) → IsPart true part text → IsPart false part text
loosen part text (keyword, bracket, p, r) = (
  keyword,
  bracket,
  p,
  record { word = r.word; content = r.content; tokens = r.tokens; spelled = r.spelled; inside = loosen_content bracket part r.content (is_part_bracket keyword bracket p) r.inside },
)

pub part_name : (limited : Bool) (part : Operand) (text : List Token) → (s : IsPart limited part text) → name_of part ≡ s.0
part_name limited part text (keyword, bracket, p, r) = content_name limited bracket part r.content (is_part_bracket keyword bracket p) r.inside ∙ sym (at_home keyword bracket p)

pub name_is_part : (limited : Bool) (part : Operand) (text : List Token) → IsPart limited part text → is_part (name_of part) ≡ true
name_is_part limited part text s = ap is_part (part_name limited part text s) ∙ keyword_is_part s.0 s.1 s.2

pub part_begins : (limited : Bool) (part : Operand) (text : List Token) → IsPart limited part text → BeginsWithWord text
part_begins limited part text (keyword, bracket, p, r) = (r.word, Open ∷ (r.content ++ Close ∷ []), r.tokens)

pub plain_of_part : (verb : Verb) (limited : Bool) (part : Operand) (text : List Token) → IsPart limited part text → IsPlainOperand verb limited part text
plain_of_part verb limited part text (keyword, bracket, p, r) = inr (keyword, bracket, brackets_of_part verb keyword bracket p, r)

-- an operand that begins with a part's keyword is one
pub part_of_plain : (verb : Verb) (limited : Bool) (part : Operand) (word : List ℕ) (keyword : Keyword) (bracket : Bracket) (tail : List Token) → keyword_of word ≡ Some keyword → part_of keyword ≡ Some bracket
    → IsPlainOperand verb limited part (Word word ∷ tail) → IsPart limited part (Word word ∷ tail)
part_of_plain verb limited part word keyword bracket tail k p (inl (other, a, (w, e, l))) =
    let words : w ≡ word = cc in
    let same : keyword ≡ other = cc in
    absurd (alone_has_none verb other part bracket a (sym (ap (bracket_of verb) same) ∙ brackets_of_part verb keyword bracket p))
part_of_plain verb limited part word keyword bracket tail k p (inr (other, its, b, r)) =
    let e = r.tokens in
    let l = r.spelled in
    let words : r.word ≡ word = cc in
    let same : keyword ≡ other = cc in
    let d : bracket_of verb other ≡ Some bracket = sym (ap (bracket_of verb) same) ∙ brackets_of_part verb keyword bracket p in
    let its_is : bracket ≡ its = cc in
    (other, its, subst (λ (z : Bracket). part_of other ≡ Some z) its_is (ap part_of (sym same) ∙ p), r)

pub bracketed : (text content more : List Token) (word : List ℕ) → text ≡ Word word ∷ Open ∷ (content ++ Close ∷ []) → text ++ more ≡ Word word ∷ Open ∷ (content ++ Close ∷ more)
bracketed text content more word e = ap (λ (t : List Token). t ++ more) e ∙ ap (λ (t : List Token). Word word ∷ Open ∷ t) (append_assoc content (Close ∷ []) more)

-- parts agree as far as both go
pub cut : (limited : Bool) (part other : Operand) (s t a b : List Token) → IsPart true part s → IsPart limited other t → s ++ a ≡ t ++ b → (s ≡ t) × (a ≡ b) × (name_of part ≡ name_of other)
cut limited part other s t a b (keyword, bracket, p, r) (keyword', bracket', p', r') same =
    let both : Word r.word ∷ Open ∷ (r.content ++ Close ∷ a) ≡ Word r'.word ∷ Open ∷ (r'.content ++ Close ∷ b) =
    sym (bracketed s r.content a r.word r.tokens) ∙ same ∙ bracketed t r'.content b r'.word r'.tokens in
    let words : r.word ≡ r'.word = cc in
    let tails : r.content ++ Close ∷ a ≡ r'.content ++ Close ∷ b = cc in
    let k = r.spelled in
    let k' = r'.spelled in
    let keys : keyword ≡ keyword' = cc in
    let inside : bracket' ≡ bracket = let q : part_of keyword ≡ Some bracket' = ap part_of keys ∙ p' in cc in
    let c = same_content limited bracket part other r.content r'.content a b (is_part_bracket keyword bracket p) r.inside
    (subst (λ (z : Bracket). IsContent z limited other r'.content) inside r'.inside) tails in
    let f = c.0 in
    let e = r.tokens in
    let e' = r'.tokens in (
      cc,
      c.1,
      part_name true part s (keyword, bracket, p, r) ∙ keys ∙ sym (part_name limited other t (keyword', bracket', p', r')),
    )

pub agree : (limited : Bool) → Agree (IsPart true) (IsPart limited) name_of
agree limited = record { cut = cut limited; word = part_begins true; other_word = part_begins limited }

-- limited ones are even the same
pub agree_whole : Agree (IsPart true) (IsPart true) (λ (part : Operand). part)
agree_whole = record {
  cut = λ part other s t a b p q same.
      let c = cut true part other s t a b p q same in
      (c.0, c.1, one verbs.Copy part other s (plain_of_part verbs.Copy true part s p) (plain_of_part verbs.Copy true other s (subst (λ (z : List Token). IsPart true other z) (sym c.0) q)));
  word = part_begins true;
  other_word = part_begins true;
}

-- ---- samples

pub no_comma : (front : List Token) → [] ≡ front ++ Comma ∷ [] → ⊥
no_comma [] e = cc
no_comma (sign ∷ front) e = cc

abbrev IsSample : Keyword → Type 0
IsSample keyword = (part : Operand) × (text : List Token) × IsPart true part text × (name_of part ≡ keyword)

a_part : (keyword : Keyword) (bracket : Bracket) (word : List ℕ) → part_of keyword ≡ Some bracket → keyword_of word ≡ Some keyword → IsSample keyword
a_part keyword bracket word p k =
    let c = begin_nothing bracket ((contents.exact bracket).right (start_of bracket) [] (contents.exact bracket).begins) in
    let s : IsPart true c.1 (Word word ∷ Open ∷ (c.0 ++ Close ∷ [])) = (keyword, bracket, p, record { word = word; content = c.0; tokens = refl; spelled = k; inside = c.2 }) in
    (c.1, Word word ∷ Open ∷ (c.0 ++ Close ∷ []), s, part_name true c.1 (Word word ∷ Open ∷ (c.0 ++ Close ∷ [])) s)

pub sample : (keyword : Keyword) → is_part keyword ≡ true → IsSample keyword
sample keywords.Vtoc e = cc
sample keywords.Full e = cc
sample keywords.Input e = cc
sample keywords.LogicalInput e = cc
sample keywords.Output e = cc
sample keywords.Dataset e = cc
sample keywords.Include e = a_part keywords.Include brackets.Include (codes "INCLUDE") refl refl
sample keywords.Exclude e = a_part keywords.Exclude brackets.Exclude (codes "EXCLUDE") refl refl
sample keywords.By e = a_part keywords.By brackets.By (codes "BY") refl refl
sample keywords.Index e = cc
sample keywords.Limit e = cc
sample keywords.Delete e = cc
sample keywords.Purge e = cc
sample keywords.Reset e = cc
sample keywords.Replace e = cc
sample keywords.Rename e = cc
sample keywords.Tolerate e = cc
sample keywords.Wait e = cc
sample keywords.Optimize e = cc
