-- What the tokens of an operand are.
use Rattle.std.proofs.Common.{◌≡◌, ◌⊎◌, inl, inr, ℕ, List, [], ◌∷◌, ◌++◌, refl, sym, ap, subst, ◌∙◌, Bool, true, false, Some, append_assoc}
use Rattle.std.proofs.lemmas.List.{append_cancel_right}
use Rattle.sysin_text.specs.declared.token.Token.{Token}
use Rattle.sysin_text.specs.declared.token.Token.TheVariants.{Open, Close, Word}
use Rattle.sysin_words.specs.declared.keyword.Keyword.{Keyword}
use Rattle.sysin_words.specs.declared.keyword.Keyword.TheVariants as keywords
use Rattle.sysin_words.specs.declared.lead.Verb.{Verb}
use Rattle.sysin_words.specs.Keyword.{keyword_of}
use Rattle.sysin_forms.specs.declared.operand.Operand.{Operand}
use Rattle.sysin_values.specs.Begun.{CanGoOn}
use Rattle.sysin_values.specs.Exact.{OneValue}
use Rattle.sysin_operands.specs.declared.bracket.Bracket.{Bracket}
use Rattle.sysin_operands.specs.Bracket.{alone_of, bracket_of, IsContent, IsPlainOperand}
use Rattle.sysin_operands.proofs.Contents as contents
use Rattle.sysin_operands.proofs.Unlimited as unlimited

-- a keyword is an operand alone, or has brackets
pub alone_has_none : (verb : Verb) (keyword : Keyword) (operand : Operand) (bracket : Bracket) → alone_of keyword ≡ Some operand → bracket_of verb keyword ≡ Some bracket → ⊥
alone_has_none verb keywords.Vtoc operand bracket a b = cc
alone_has_none verb keywords.Full operand bracket a b = cc
alone_has_none verb keywords.Input operand bracket a b = cc
alone_has_none verb keywords.LogicalInput operand bracket a b = cc
alone_has_none verb keywords.Output operand bracket a b = cc
alone_has_none verb keywords.Dataset operand bracket a b = cc
alone_has_none verb keywords.Include operand bracket a b = cc
alone_has_none verb keywords.Exclude operand bracket a b = cc
alone_has_none verb keywords.By operand bracket a b = cc
alone_has_none verb keywords.Index operand bracket a b = cc
alone_has_none verb keywords.Limit operand bracket a b = cc
alone_has_none verb keywords.Delete operand bracket a b = cc
alone_has_none verb keywords.Purge operand bracket a b = cc
alone_has_none verb keywords.Reset operand bracket a b = cc
alone_has_none verb keywords.Replace operand bracket a b = cc
alone_has_none verb keywords.Rename operand bracket a b = cc
alone_has_none verb keywords.Tolerate operand bracket a b = cc
alone_has_none verb keywords.Wait operand bracket a b = cc
alone_has_none verb keywords.Optimize operand bracket a b = cc

-- a token in brackets: the last one, or one of what stands in them
pub last_or_inside : (front : List Token) (token : Token) (rest content : List Token) → front ++ token ∷ rest ≡ content ++ Close ∷ []
    → ((token ≡ Close) × (rest ≡ []) × (front ≡ content)) ⊎ ((more : List Token) × (content ≡ front ++ token ∷ more))
last_or_inside [] token rest [] e = inl (cc, cc, refl)
last_or_inside [] token rest (sign ∷ content) e =
    let heads : token ≡ sign = cc in
    inr (content, ap (λ (t : Token). t ∷ content) (sym heads))
last_or_inside (sign ∷ []) token rest [] e = let none : token ∷ rest ≡ [] = cc in cc
last_or_inside (sign ∷ second ∷ front) token rest [] e = let none : second ∷ (front ++ token ∷ rest) ≡ [] = cc in cc
last_or_inside (sign ∷ front) token rest (other ∷ content) e =
    let heads : sign ≡ other = cc in
    let tails : front ++ token ∷ rest ≡ content ++ Close ∷ [] = cc in
    elim (last_or_inside front token rest content tails) [
      | inl l ↦ let same = l.2 in inl (l.0, l.1, cc)
      | inr m ↦ let same = m.1 in inr (m.0, cc)
    ]

-- an operand whose first word is a keyword alone is that word
pub only_word : (verb : Verb) (limited : Bool) (word : List ℕ) (keyword : Keyword) (said operand : Operand) (tail : List Token) → keyword_of word ≡ Some keyword → alone_of keyword ≡ Some said
    → IsPlainOperand verb limited operand (Word word ∷ tail) → (tail ≡ []) × (said ≡ operand)
only_word verb limited word keyword said operand tail k a (inl (other, b, (w, e, l))) =
    let words : w ≡ word = cc in
    let same : keyword ≡ other = cc in
    (cc, cc)
only_word verb limited word keyword said operand tail k a (inr (other, bracket, b, r)) =
    let e = r.tokens in
    let l = r.spelled in
    let words : r.word ≡ word = cc in
    let same : keyword ≡ other = cc in
    absurd (alone_has_none verb other said bracket (sym (ap alone_of same) ∙ a) b)

-- an operand whose first word has brackets goes on with one
pub next_opens : (verb : Verb) (limited : Bool) (word : List ℕ) (keyword : Keyword) (bracket : Bracket) (operand : Operand) (tail : List Token) → keyword_of word ≡ Some keyword
    → bracket_of verb keyword ≡ Some bracket → IsPlainOperand verb limited operand (Word word ∷ tail)
    → (content : List Token) × (tail ≡ Open ∷ (content ++ Close ∷ [])) × IsContent bracket limited operand content
next_opens verb limited word keyword bracket operand tail k b (inl (other, a, (w, e, l))) =
    let words : w ≡ word = cc in
    let same : keyword ≡ other = cc in
    absurd (alone_has_none verb other operand bracket a (sym (ap (bracket_of verb) same) ∙ b))
next_opens verb limited word keyword bracket operand tail k b (inr (other, its, c, r)) =
    let e = r.tokens in
    let l = r.spelled in
    let words : r.word ≡ word = cc in
    let same : keyword ≡ other = cc in
    let brackets' : its ≡ bracket = let d : bracket_of verb other ≡ Some bracket = sym (ap (bracket_of verb) same) ∙ b in cc in
    (r.content, cc, subst (λ (z : Bracket). IsContent z limited operand r.content) brackets' r.inside)

pub inside_of : (verb : Verb) (limited : Bool) (word : List ℕ) (keyword : Keyword) (bracket : Bracket) (operand : Operand) (tail : List Token) → keyword_of word ≡ Some keyword
    → bracket_of verb keyword ≡ Some bracket → IsPlainOperand verb limited operand (Word word ∷ Open ∷ tail)
    → (content : List Token) × (tail ≡ content ++ Close ∷ []) × IsContent bracket limited operand content
inside_of verb limited word keyword bracket operand tail k b p =
    let n = next_opens verb limited word keyword bracket operand (Open ∷ tail) k b p in
    let e = n.1 in
    (n.0, cc, n.2)

-- what goes on in brackets does so with the last one behind it
pub goes_out : (verb : Verb) (limited : Bool) (word : List ℕ) (keyword : Keyword) (bracket : Bracket) (front : List Token) → keyword_of word ≡ Some keyword → bracket_of verb keyword ≡ Some bracket
    → CanGoOn (IsContent bracket) limited front → CanGoOn (IsPlainOperand verb) limited (Word word ∷ Open ∷ front)
goes_out verb limited word keyword bracket front k b (rest, operand, s) = (
  rest ++ Close ∷ [],
  operand,
  inr (
    keyword,
    bracket,
    b,
    record {
      word = word;
      content = front ++ rest;
      tokens = ap (λ (t : List Token). Word word ∷ Open ∷ t) (sym (append_assoc front rest (Close ∷ [])));
      spelled = k;
      inside = s;
    },
  ),
)

-- and the other way round, but for the last bracket
pub goes_in : (verb : Verb) (limited : Bool) (word : List ℕ) (keyword : Keyword) (bracket : Bracket) (front : List Token) (token : Token) → keyword_of word ≡ Some keyword
    → bracket_of verb keyword ≡ Some bracket → CanGoOn (IsPlainOperand verb) limited (Word word ∷ Open ∷ (front ++ token ∷ []))
    → ((operand : Operand) × (token ≡ Close) × IsContent bracket limited operand front) ⊎ CanGoOn (IsContent bracket) limited (front ++ token ∷ [])
goes_in verb limited word keyword bracket front token k b (rest, operand, p) =
    let i = inside_of verb limited word keyword bracket operand ((front ++ token ∷ []) ++ rest) k b p in
    elim (last_or_inside front token rest i.0 (sym (append_assoc front (token ∷ []) rest) ∙ i.1)) [
      | inl l ↦ inl (operand, l.0, subst (λ (t : List Token). IsContent bracket limited operand t) (sym l.2) i.2)
      | inr m ↦ inr (m.0, operand, subst (λ (t : List Token). IsContent bracket limited operand t) (m.1 ∙ sym (append_assoc front (token ∷ []) m.0)) i.2)
    ]

-- tokens are of one operand at most
pub one : (verb : Verb) → OneValue (IsPlainOperand verb)
one verb left right text (inl (keyword, a, (word, e, k))) other =
    let o = only_word verb true word keyword left right [] k a (subst (λ (t : List Token). IsPlainOperand verb true right t) e other) in
    o.1
one verb left right text (inr (keyword, bracket, b, r)) other =
    let i = inside_of verb true r.word keyword bracket right (r.content ++ Close ∷ []) r.spelled b (subst (λ (t : List Token). IsPlainOperand verb true right t) r.tokens other) in
    let same : i.0 ≡ r.content = append_cancel_right i.0 r.content (Close ∷ []) (sym i.1) in
    contents.one bracket left right r.content r.inside (subst (λ (t : List Token). IsContent bracket true right t) same i.2)

-- no token goes on with one
pub none_behind : (verb : Verb) (limited : Bool) (operand : Operand) (text : List Token) (token : Token) → IsPlainOperand verb true operand text → ¬ CanGoOn (IsPlainOperand verb) limited (text ++ token ∷ [])
none_behind verb limited operand text token (inl (keyword, a, (word, e, k))) (rest, other, p) =
    let same : (text ++ token ∷ []) ++ rest ≡ Word word ∷ token ∷ rest = ap (λ (t : List Token). (t ++ token ∷ []) ++ rest) e in
    let o = only_word verb limited word keyword operand other (token ∷ rest) k a (subst (λ (t : List Token). IsPlainOperand verb limited other t) same p) in
    let none = o.0 in
    cc
none_behind verb limited operand text token (inr (keyword, bracket, b, r)) (rest, other, p) =
    let same : (text ++ token ∷ []) ++ rest ≡ Word r.word ∷ Open ∷ (((r.content ++ Close ∷ []) ++ token ∷ []) ++ rest) = ap (λ (t : List Token). (t ++ token ∷ []) ++ rest) r.tokens in
    let i = inside_of verb limited r.word keyword bracket other (((r.content ++ Close ∷ []) ++ token ∷ []) ++ rest) r.spelled b (subst (λ (t : List Token). IsPlainOperand verb limited other t) same p) in
    let whole : r.content ++ Close ∷ token ∷ rest ≡ ((r.content ++ Close ∷ []) ++ token ∷ []) ++ rest =
    sym (append_assoc (r.content ++ Close ∷ []) (token ∷ []) rest ∙ append_assoc r.content (Close ∷ []) (token ∷ rest)) in
    by_place i.0 i.2 (last_or_inside r.content Close (token ∷ rest) i.0 (whole ∙ i.1))
  where
    inside_ends : (limited : Bool) → ¬ CanGoOn (IsContent bracket) limited (r.content ++ Close ∷ [])
    inside_ends true g = contents.ends bracket operand r.content r.inside (inl g)
    inside_ends false g = unlimited.ends bracket operand r.content r.inside g

    by_place : (content : List Token) → IsContent bracket limited other content → ((Close ≡ Close) × (token ∷ rest ≡ []) × (r.content ≡ content)) ⊎ ((more : List Token) × (content ≡ r.content ++ Close ∷ more)) → ⊥
    by_place content s (inl l) = let none = l.1 in cc
    by_place content s (inr m) =
        inside_ends limited (m.0, other, subst (λ (t : List Token). IsContent bracket limited other t) (m.1 ∙ sym (append_assoc r.content (Close ∷ []) m.0)) s)
