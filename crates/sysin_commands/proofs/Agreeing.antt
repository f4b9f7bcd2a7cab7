-- Operands agree as far as both go.
use Rattle.std.proofs.Common.{◌≡◌, ◌⊎◌, inl, inr, ℕ, List, [], ◌∷◌, ◌++◌, sym, ap, subst, ◌∙◌, Bool, true, false, Some, None, append-nil}
use Rattle.sysin_text.specs.declared.token.Token.{Token}
use Rattle.sysin_text.specs.declared.token.Token.TheVariants.{Comma, Open, Close, Word}
use Rattle.sysin_words.specs.declared.keyword.Keyword.{Keyword}
use Rattle.sysin_words.specs.declared.keyword.Keyword.TheVariants as keywords
use Rattle.sysin_words.specs.declared.lead.Verb.{Verb}
use Rattle.sysin_words.specs.declared.lead.Verb.TheVariants as verbs
use Rattle.sysin_words.specs.Keyword.{keyword_of}
use Rattle.dd_names.specs.declared.dd.DdName.{DdName}
use Rattle.dsn_filter.specs.declared.rename.Rename.{Rename}
use Rattle.dsn_filter.specs.declared.rename.Rename.TheVariants as renames
use Rattle.sysin_forms.specs.declared.operand.Operand.{Operand}
use Rattle.sysin_forms.specs.declared.operand.Operand.TheVariants as operands
use Rattle.sysin_forms.specs.Operand.{name_of}
use Rattle.sysin_values.specs.Values.{IsWordOf, IsOutputs, IsPair, IsRename, SaysDdName}
use Rattle.sysin_values.proofs.Lists.{IsRest, behind_list}
use Rattle.sysin_values.proofs.WordLists.{closed_word}
use Rattle.sysin_values.proofs.PairLists.{closed_pair, first_pair}
use Rattle.sysin_operands.specs.declared.bracket.Single.{Single}
use Rattle.sysin_operands.specs.declared.bracket.Single.TheVariants as singles
use Rattle.sysin_operands.specs.declared.bracket.Bracket.{Bracket}
use Rattle.sysin_operands.specs.declared.bracket.Bracket.TheVariants as brackets
use Rattle.sysin_operands.specs.Bracket.{alone_of, bracket_of, SaysSingle, IsContent, IsBracketed, IsPlainOperand}
use Rattle.sysin_operands.proofs.Bracketed as plain
use Rattle.sysin_operands.proofs.Contents as contents
use Rattle.sysin_operands.proofs.Unlimited as unlimited
use Rattle.sysin_filters.specs.Filter.{IsFilter}
use Rattle.sysin_filters.proofs.Series.{Agree, BeginsWithWord}
use Rattle.sysin_filters.proofs.Shorter.{no_shorter_patterns, no_shorter_criteria}
use Rattle.sysin_filters.proofs.Closing as filters
use Rattle.sysin_commands.specs.Operand.{IsOperand}
use Rattle.sysin_commands.proofs.FirstWord.{IsOther, only_plain, one}
use Rattle.sysin_filters.proofs.Parts.{no_longer, bracketed}
use Rattle.sysin_values.proofs.LongCriteria.{overlap}

-- ---- names

-- the keyword of a bracket
abbrev pub home : Bracket → Keyword
home (brackets.Single singles.Unit) = keywords.Input
home (brackets.Single singles.LogicalUnit) = keywords.LogicalInput
home (brackets.Single singles.Input) = keywords.Input
home (brackets.Single singles.Target) = keywords.Output
home (brackets.Single singles.Index) = keywords.Index
home (brackets.Single singles.Limit) = keywords.Limit
home (brackets.Single singles.Tolerate) = keywords.Tolerate
home (brackets.Single singles.Optimize) = keywords.Optimize
home brackets.Include = keywords.Include
home brackets.Exclude = keywords.Exclude
home brackets.By = keywords.By
home brackets.Outputs = keywords.Output
home brackets.Rename = keywords.Rename
home brackets.Wait = keywords.Wait

at : (known bracket : Bracket) → Some known ≡ Some bracket → home known ≡ home bracket
at known bracket e = let same : known ≡ bracket = cc in ap home same

input_home : (verb : Verb) (bracket : Bracket) → bracket_of verb keywords.Input ≡ Some bracket → keywords.Input ≡ home bracket
input_home verbs.Print bracket e = at (brackets.Single singles.Unit) bracket e
input_home verbs.Release bracket e = at (brackets.Single singles.Unit) bracket e
input_home verbs.Consolidate bracket e = at (brackets.Single singles.Unit) bracket e
input_home verbs.Defrag bracket e = at (brackets.Single singles.Unit) bracket e
input_home verbs.Copy bracket e = at (brackets.Single singles.Unit) bracket e
input_home verbs.Dump bracket e = at (brackets.Single singles.Unit) bracket e
input_home verbs.Restore bracket e = at (brackets.Single singles.Input) bracket e

output_home : (verb : Verb) (bracket : Bracket) → bracket_of verb keywords.Output ≡ Some bracket → keywords.Output ≡ home bracket
output_home verbs.Print bracket e = at (brackets.Single singles.Target) bracket e
output_home verbs.Release bracket e = at (brackets.Single singles.Target) bracket e
output_home verbs.Consolidate bracket e = at (brackets.Single singles.Target) bracket e
output_home verbs.Defrag bracket e = at (brackets.Single singles.Target) bracket e
output_home verbs.Copy bracket e = at (brackets.Single singles.Target) bracket e
output_home verbs.Dump bracket e = at brackets.Outputs bracket e
output_home verbs.Restore bracket e = at (brackets.Single singles.Target) bracket e

pub at_home : (verb : Verb) (keyword : Keyword) (bracket : Bracket) → bracket_of verb keyword ≡ Some bracket → keyword ≡ home bracket
at_home verb keywords.Vtoc bracket e = cc
at_home verb keywords.Full bracket e = cc
at_home verb keywords.Input bracket e = input_home verb bracket e
at_home verb keywords.LogicalInput bracket e = at (brackets.Single singles.LogicalUnit) bracket e
at_home verb keywords.Output bracket e = output_home verb bracket e
at_home verb keywords.Dataset bracket e = cc
at_home verb keywords.Include bracket e = at brackets.Include bracket e
at_home verb keywords.Exclude bracket e = at brackets.Exclude bracket e
at_home verb keywords.By bracket e = at brackets.By bracket e
at_home verb keywords.Index bracket e = at (brackets.Single singles.Index) bracket e
at_home verb keywords.Limit bracket e = at (brackets.Single singles.Limit) bracket e
at_home verb keywords.Delete bracket e = cc
at_home verb keywords.Purge bracket e = cc
at_home verb keywords.Reset bracket e = cc
at_home verb keywords.Replace bracket e = cc
at_home verb keywords.Rename bracket e = at brackets.Rename bracket e
at_home verb keywords.Tolerate bracket e = at (brackets.Single singles.Tolerate) bracket e
at_home verb keywords.Wait bracket e = at brackets.Wait bracket e
at_home verb keywords.Optimize bracket e = at (brackets.Single singles.Optimize) bracket e

single_name : (single : Single) (word : List ℕ) (operand : Operand) → SaysSingle single word operand → name_of operand ≡ home (brackets.Single single)
single_name singles.Unit word operand (unit, s, e) = ap name_of e
single_name singles.LogicalUnit word operand (unit, s, e) = ap name_of e
single_name singles.Input word operand (input, s, e) = ap name_of e
single_name singles.Target word operand (unit, s, e) = ap name_of e
single_name singles.Index word operand (number, s, e) = ap name_of e
single_name singles.Limit word operand (number, s, e) = ap name_of e
single_name singles.Tolerate word operand (s, e) = ap name_of e
single_name singles.Optimize word operand (s, e) = ap name_of e

pub content_name : (limited : Bool) (bracket : Bracket) (operand : Operand) (text : List Token) → IsContent bracket limited operand text → name_of operand ≡ home bracket
content_name limited (brackets.Single single) operand text (word, e, s) = single_name single word operand s
content_name limited brackets.Include operand text (list, s, e) = ap name_of e
content_name limited brackets.Exclude operand text (list, s, e) = ap name_of e
content_name limited brackets.By operand text (list, s, e) = ap name_of e
content_name limited brackets.Outputs operand text (list, s, e) = ap name_of e
content_name limited brackets.Rename operand text (rename, s, e) = ap name_of e
content_name limited brackets.Wait operand text (s, e) = ap name_of e

pub alone_name : (keyword : Keyword) (operand : Operand) → alone_of keyword ≡ Some operand → name_of operand ≡ keyword
alone_name keywords.Vtoc operand e = let same : operand ≡ operands.Vtoc = cc in ap name_of same
alone_name keywords.Full operand e = let same : operand ≡ operands.Full = cc in ap name_of same
alone_name keywords.Input operand e = cc
alone_name keywords.LogicalInput operand e = cc
alone_name keywords.Output operand e = cc
alone_name keywords.Dataset operand e = cc
alone_name keywords.Include operand e = cc
alone_name keywords.Exclude operand e = cc
alone_name keywords.By operand e = cc
alone_name keywords.Index operand e = cc
alone_name keywords.Limit operand e = cc
alone_name keywords.Delete operand e = let same : operand ≡ operands.Delete = cc in ap name_of same
alone_name keywords.Purge operand e = let same : operand ≡ operands.Purge = cc in ap name_of same
alone_name keywords.Reset operand e = let same : operand ≡ operands.Reset = cc in ap name_of same
alone_name keywords.Replace operand e = let same : operand ≡ operands.Replace = cc in ap name_of same
alone_name keywords.Rename operand e = cc
alone_name keywords.Tolerate operand e = cc
alone_name keywords.Wait operand e = cc
alone_name keywords.Optimize operand e = cc

-- the first word of an operand is its keyword
pub record IsNamed (operand : Operand) (text : List Token) : Type 0 where
  pub word : List ℕ
  pub tail : List Token
  pub tokens : text ≡ Word word ∷ tail
  pub spelled : keyword_of word ≡ Some (name_of operand)

pub named : (verb : Verb) (limited : Bool) (operand : Operand) (text : List Token) → IsOperand verb limited operand text → IsNamed operand text
named verb limited operand text (inl (inl (keyword, a, (word, e, k)))) = record { word = word; tail = []; tokens = e; spelled = k ∙ ap Some (sym (alone_name keyword operand a)) }
named verb limited operand text (inl (inr (keyword, bracket, b, r))) = record {
  word = r.word;
  tail = Open ∷ (r.content ++ Close ∷ []);
  tokens = r.tokens;
  spelled = r.spelled ∙ ap Some (at_home verb keyword bracket b ∙ sym (content_name limited bracket operand r.content r.inside));
}
named verb limited operand text (inr (filter, is, r)) =
    record { word = r.word; tail = Open ∷ (r.content ++ Close ∷ []); tokens = r.tokens; spelled = r.spelled ∙ ap Some (sym (ap name_of is)) }

pub operand_begins : (verb : Verb) (limited : Bool) (operand : Operand) (text : List Token) → IsOperand verb limited operand text → BeginsWithWord text
operand_begins verb limited operand text s = let n = named verb limited operand text s in (n.word, n.tail, n.tokens)

-- ---- lists without a limit

no_shorter_outputs : (list all : List DdName) (front rest : List Token) → IsOutputs false list front → IsOutputs true all (front ++ Close ∷ rest) → ⊥
no_shorter_outputs list all front rest (l, few) (a, few') = by_rest (behind_list (IsWordOf SaysDdName) (closed_word SaysDdName) list all front (Close ∷ rest) l a)
  where
    by_rest : (Close ∷ rest ≡ []) ⊎ IsRest (IsWordOf SaysDdName) list all (Close ∷ rest) → ⊥
    by_rest (inl none) = cc
    by_rest (inr r) = let comma = r.comma in cc

no_shorter_rename : (rename other : Rename) (front rest : List Token) → IsRename false rename front → IsRename true other (front ++ Close ∷ rest) → ⊥
no_shorter_rename renames.Keep other front rest s t = s
no_shorter_rename (renames.Prefix name) renames.Keep front rest s t = t
no_shorter_rename (renames.Prefix name) (renames.Prefix other) front rest (word, e, says) (word', e', says') =
    let both : Word word ∷ Close ∷ rest ≡ Word word' ∷ [] = sym (ap (λ (z : List Token). z ++ Close ∷ rest) e) ∙ e' in
    cc
no_shorter_rename (renames.Prefix name) (renames.Listed all) front rest (word, e, says) t =
    let b = first_pair all (front ++ Close ∷ rest) t.0 in
    let both : Word word ∷ Close ∷ rest ≡ Open ∷ Word b.old ∷ Comma ∷ Word b.new ∷ Close ∷ b.tail = sym (ap (λ (z : List Token). z ++ Close ∷ rest) e) ∙ b.whole in
    cc
no_shorter_rename (renames.Listed list) renames.Keep front rest s t = t
no_shorter_rename (renames.Listed list) (renames.Prefix other) front rest s (word', e', says') =
    let b = first_pair list front s.0 in
    let both : Open ∷ Word b.old ∷ Comma ∷ Word b.new ∷ Close ∷ (b.tail ++ Close ∷ rest) ≡ Word word' ∷ [] = sym (ap (λ (z : List Token). z ++ Close ∷ rest) b.whole) ∙ e' in
    cc
no_shorter_rename (renames.Listed list) (renames.Listed all) front rest (l, few) (a, few') = by_rest (behind_list IsPair closed_pair list all front (Close ∷ rest) l a)
  where
    by_rest : (Close ∷ rest ≡ []) ⊎ IsRest IsPair list all (Close ∷ rest) → ⊥
    by_rest (inl none) = cc
    by_rest (inr r) = let comma = r.comma in cc

no_shorter : (bracket : Bracket) (operand other : Operand) (front rest : List Token) → IsContent bracket false operand front → IsContent bracket true other (front ++ Close ∷ rest) → ⊥
no_shorter (brackets.Single single) operand other front rest s t = no_longer true (brackets.Single single) operand other front rest s t
no_shorter brackets.Include operand other front rest (list, s, e) (all, t, f) = no_shorter_patterns list all front rest s t
no_shorter brackets.Exclude operand other front rest (list, s, e) (all, t, f) = no_shorter_patterns list all front rest s t
no_shorter brackets.By operand other front rest (list, s, e) (all, t, f) = no_shorter_criteria list all front rest s t
no_shorter brackets.Outputs operand other front rest (list, s, e) (all, t, f) = no_shorter_outputs list all front rest s t
no_shorter brackets.Rename operand other front rest (rename, s, e) (all, t, f) = no_shorter_rename rename all front rest s t
no_shorter brackets.Wait operand other front rest s t = no_longer true brackets.Wait operand other front rest s t

no_other : (limited : Bool) (bracket : Bracket) (operand other : Operand) (front rest : List Token) → IsContent bracket limited operand front → IsContent bracket true other (front ++ Close ∷ rest) → ⊥
no_other true bracket operand other front rest s t = no_longer true bracket operand other front rest s t
no_other false bracket operand other front rest s t = no_shorter bracket operand other front rest s t

-- two contents, each with the last bracket behind it, are the same
same_content : (limited : Bool) (bracket : Bracket) (operand other : Operand) (first second a b : List Token) → IsContent bracket true operand first → IsContent bracket limited other second
    → first ++ Close ∷ a ≡ second ++ Close ∷ b → (first ≡ second) × (a ≡ b)
same_content limited bracket operand other first second a b s t same = by_overlap (overlap first (Close ∷ a) second (Close ∷ b) same)
  where
    by_overlap : ((e : List Token) × (second ≡ first ++ e) × (Close ∷ a ≡ e ++ Close ∷ b)) ⊎ ((e : List Token) × (first ≡ second ++ e) × (Close ∷ b ≡ e ++ Close ∷ a)) → (first ≡ second) × (a ≡ b)
    by_overlap (inl ([], f, g)) = (sym (f ∙ append-nil first), cc)
    by_overlap (inl (sign ∷ e, f, g)) =
        let close : sign ≡ Close = cc in
        absurd (no_longer limited bracket operand other first e s (subst (λ (z : List Token). IsContent bracket limited other z) (f ∙ ap (λ (z : Token). first ++ z ∷ e) close) t))
    by_overlap (inr ([], f, g)) = (f ∙ append-nil second, cc)
    by_overlap (inr (sign ∷ e, f, g)) =
        let close : sign ≡ Close = cc in
        absurd (no_other limited bracket other operand second e t (subst (λ (z : List Token). IsContent bracket true operand z) (f ∙ ap (λ (z : Token). second ++ z ∷ e) close) s))

-- ---- operands

loosen_content : (bracket : Bracket) (operand : Operand) (text : List Token) → IsContent bracket true operand text → IsContent bracket false operand text
loosen_content (brackets.Single single) operand text s = s
loosen_content brackets.Include operand text (list, (l, few), e) = (list, (l, λ no'. cc), e)
loosen_content brackets.Exclude operand text (list, (l, few), e) = (list, (l, λ no'. cc), e)
loosen_content brackets.By operand text (list, (l, few), e) = (list, (l, λ no'. cc), e)
loosen_content brackets.Outputs operand text (list, (l, few), e) = (list, (l, λ no'. cc), e)
loosen_content brackets.Rename operand text (renames.Keep, s, e) = absurd s
loosen_content brackets.Rename operand text (renames.Prefix name, s, e) = (renames.Prefix name, s, e)
loosen_content brackets.Rename operand text (renames.Listed list, (l, few), e) = (renames.Listed list, (l, λ no'. cc), e)
loosen_content brackets.Wait operand text s = s

pub loosen : (verb : Verb) (operand : Operand) (text : List Token) → IsOperand verb true operand text → IsOperand verb false operand text
loosen verb operand text (inl (inl a)) = inl (inl a)
loosen verb operand text (inl (inr (keyword, bracket, b, r))) = inl (inr (
  keyword,
  bracket,
  b,
  record { word = r.word; content = r.content; tokens = r.tokens; spelled = r.spelled; inside = loosen_content bracket operand r.content r.inside },
))
loosen verb operand text (inr (filter, is, r)) =
    inr (filter, is, record { word = r.word; content = r.content; tokens = r.tokens; spelled = r.spelled; inside = filters.loosen_filter filter r.content r.inside })

pub loosen_to : (verb : Verb) (limited : Bool) (operand : Operand) (text : List Token) → IsOperand verb true operand text → IsOperand verb limited operand text
loosen_to verb true operand text s = s
loosen_to verb false operand text s = loosen verb operand text s

-- the same keyword stands in front
same_word : (verb : Verb) (limited : Bool) (operand other : Operand) (s t a b : List Token) → IsOperand verb true operand s → IsOperand verb limited other t → s ++ a ≡ t ++ b → name_of operand ≡ name_of other
same_word verb limited operand other s t a b p q same =
    let n = named verb true operand s p in
    let m = named verb limited other t q in
    let both : Word n.word ∷ (n.tail ++ a) ≡ Word m.word ∷ (m.tail ++ b) = sym (ap (λ (z : List Token). z ++ a) n.tokens) ∙ same ∙ ap (λ (z : List Token). z ++ b) m.tokens in
    let words : n.word ≡ m.word = cc in
    let k = n.spelled in
    let l = m.spelled in
    cc

cut_bracketed : (keyword other_keyword : Keyword) (Inside Other : List Token → Type 0) (s t a b : List Token) → (r : IsBracketed keyword Inside s) → (q : IsBracketed other_keyword Other t) → s ++ a ≡ t ++ b
    → (r.word ≡ q.word) × (r.content ++ Close ∷ a ≡ q.content ++ Close ∷ b)
cut_bracketed keyword other_keyword Inside Other s t a b r q same =
    let both : Word r.word ∷ Open ∷ (r.content ++ Close ∷ a) ≡ Word q.word ∷ Open ∷ (q.content ++ Close ∷ b) =
    sym (bracketed s r.content a r.word r.tokens) ∙ same ∙ bracketed t q.content b q.word q.tokens in
    (cc, cc)

whole_of : (s t a b first second : List Token) (word other : List ℕ) → s ≡ Word word ∷ Open ∷ (first ++ Close ∷ []) → t ≡ Word other ∷ Open ∷ (second ++ Close ∷ []) → word ≡ other → (first ≡ second) × (a ≡ b)
    → (s ≡ t) × (a ≡ b)
whole_of s t a b first second word other e f words c = let contents' = c.0 in (cc, c.1)

-- operands agree as far as both go
cut_text : (verb : Verb) (limited : Bool) (operand other : Operand) (s t a b : List Token) → IsOperand verb true operand s → IsOperand verb limited other t → s ++ a ≡ t ++ b → (s ≡ t) × (a ≡ b)
cut_text verb limited operand other s t a b (inl (inl (keyword, l, (word, e, k)))) q same =
    let n = named verb limited other t q in
    let whole : Word word ∷ a ≡ t ++ b = sym (ap (λ (z : List Token). z ++ a) e) ∙ same in
    let both : Word word ∷ a ≡ Word n.word ∷ (n.tail ++ b) = whole ∙ ap (λ (z : List Token). z ++ b) n.tokens in
    let words : word ≡ n.word = cc in
    let others : IsOther t = record {
      word = n.word;
      tail = n.tail;
      keyword = keyword;
      tokens = n.tokens;
      spelled = subst (λ (z : List ℕ). keyword_of z ≡ Some keyword) words k;
      other = not_dataset keyword operand l;
    } in
    let p = only_plain verb limited other t others q in
    let o = plain.only_word verb limited n.word keyword operand other n.tail (subst (λ (z : List ℕ). keyword_of z ≡ Some keyword) words k) l
    (subst (λ (z : List Token). IsPlainOperand verb limited other z) n.tokens p) in
    let none : n.tail ≡ [] = o.0 in
    let rest : a ≡ n.tail ++ b = cc in
    (e ∙ ap (λ (z : List ℕ). Word z ∷ []) words ∙ ap (λ (z : List Token). Word n.word ∷ z) (sym none) ∙ sym n.tokens, rest ∙ ap (λ (z : List Token). z ++ b) none)
  where
    not_dataset : (keyword : Keyword) (operand : Operand) → alone_of keyword ≡ Some operand → ¬ (keyword ≡ keywords.Dataset)
    not_dataset keyword operand l e = let none : alone_of keyword ≡ None = ap alone_of e in cc
cut_text verb limited operand other s t a b (inl (inr (keyword, bracket, d, r))) (inl (inl (keyword', l, (word, e, k)))) same =
    let both : Word r.word ∷ Open ∷ (r.content ++ Close ∷ a) ≡ Word word ∷ b = sym (bracketed s r.content a r.word r.tokens) ∙ same ∙ ap (λ (z : List Token). z ++ b) e in
    let words : r.word ≡ word = cc in
    let m = r.spelled in
    let keys : keyword ≡ keyword' = cc in
    absurd (plain.alone_has_none verb keyword' other bracket l (sym (ap (bracket_of verb) keys) ∙ d))
cut_text verb limited operand other s t a b (inl (inr (keyword, bracket, d, r))) (inl (inr (keyword', bracket', d', q))) same =
    let c = cut_bracketed keyword keyword' (IsContent bracket true operand) (IsContent bracket' limited other) s t a b r q same in
    let words = c.0 in
    let m = r.spelled in
    let m' = q.spelled in
    let keys : keyword ≡ keyword' = cc in
    let inside : bracket' ≡ bracket = let f : bracket_of verb keyword ≡ Some bracket' = ap (bracket_of verb) keys ∙ d' in cc in
    whole_of s t a b r.content q.content r.word q.word r.tokens q.tokens words
    (same_content limited bracket operand other r.content q.content a b r.inside (subst (λ (z : Bracket). IsContent z limited other q.content) inside q.inside) c.1)
cut_text verb limited operand other s t a b (inl (inr (keyword, bracket, d, r))) (inr (filter, is, q)) same =
    let c = cut_bracketed keyword keywords.Dataset (IsContent bracket true operand) (IsFilter limited filter) s t a b r q same in
    let words = c.0 in
    let m = r.spelled in
    let m' = q.spelled in
    let keys : keyword ≡ keywords.Dataset = cc in
    let none : bracket_of verb keyword ≡ None = ap (bracket_of verb) keys in
    cc
cut_text verb limited operand other s t a b (inr (filter, is, r)) (inl (inl (keyword', l, (word, e, k)))) same =
    let both : Word r.word ∷ Open ∷ (r.content ++ Close ∷ a) ≡ Word word ∷ b = sym (bracketed s r.content a r.word r.tokens) ∙ same ∙ ap (λ (z : List Token). z ++ b) e in
    let words : r.word ≡ word = cc in
    let m = r.spelled in
    let keys : keyword' ≡ keywords.Dataset = cc in
    let none : alone_of keyword' ≡ None = ap alone_of keys in
    cc
cut_text verb limited operand other s t a b (inr (filter, is, r)) (inl (inr (keyword', bracket', d', q))) same =
    let c = cut_bracketed keywords.Dataset keyword' (IsFilter true filter) (IsContent bracket' limited other) s t a b r q same in
    let words = c.0 in
    let m = r.spelled in
    let m' = q.spelled in
    let keys : keyword' ≡ keywords.Dataset = cc in
    let none : bracket_of verb keyword' ≡ None = ap (bracket_of verb) keys in
    cc
cut_text verb limited operand other s t a b (inr (filter, is, r)) (inr (filter', is', q)) same =
    let c = cut_bracketed keywords.Dataset keywords.Dataset (IsFilter true filter) (IsFilter limited filter') s t a b r q same in
    whole_of s t a b r.content q.content r.word q.word r.tokens q.tokens c.0 (filters.same_filter limited filter filter' r.content q.content a b r.inside q.inside c.1)

pub cut : (verb : Verb) (limited : Bool) (operand other : Operand) (s t a b : List Token) → IsOperand verb true operand s → IsOperand verb limited other t → s ++ a ≡ t ++ b
    → (s ≡ t) × (a ≡ b) × (name_of operand ≡ name_of other)
cut verb limited operand other s t a b p q same =
    let c = cut_text verb limited operand other s t a b p q same in
    (c.0, c.1, same_word verb limited operand other s t a b p q same)

pub agree : (verb : Verb) (limited : Bool) → Agree (IsOperand verb true) (IsOperand verb limited) name_of
agree verb limited = record { cut = cut verb limited; word = operand_begins verb true; other_word = operand_begins verb limited }

-- limited ones are even the same
pub agree_whole : (verb : Verb) → Agree (IsOperand verb true) (IsOperand verb true) (λ (operand : Operand). operand)
agree_whole verb = record {
  cut = λ operand other s t a b p q same.
      let c = cut_text verb true operand other s t a b p q same in
      (c.0, c.1, one verb operand other s p (subst (λ (z : List Token). IsOperand verb true other z) (sym c.0) q));
  word = operand_begins verb true;
  other_word = operand_begins verb true;
}
