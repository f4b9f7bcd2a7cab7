-- Operands are read exactly.
use Rattle.std.proofs.Common.{◌≡◌, ◌⊎◌, inl, inr, List, [], ◌∷◌, ◌++◌, refl, sym, ap, subst, Bool, true, false, None, append-nil}
use Rattle.std.specs.Prelude.{codes}
use Rattle.std.proofs.lemmas.List.{same_from_push}
use Rattle.sysin_text.specs.declared.token.Token.{Token}
use Rattle.sysin_text.specs.declared.token.Token.TheVariants.{Comma, Open, Close, Word}
use Rattle.sysin_text.proofs.OneMore.{one_more}
use Rattle.sysin_words.specs.declared.keyword.Keyword.{Keyword}
use Rattle.sysin_words.specs.declared.keyword.Keyword.TheVariants as keywords
use Rattle.sysin_words.specs.declared.lead.Verb.{Verb}
use Rattle.sysin_forms.specs.declared.operand.Operand.{Operand}
use Rattle.sysin_forms.specs.declared.operand.Operand.TheVariants as operands
use Rattle.sysin_values.specs.declared.fault.ValueFault.{ValueFault}
use Rattle.sysin_values.specs.declared.fault.ValueFault.TheVariants as faults
use Rattle.sysin_values.specs.Begun.{CanGoOn, Begin}
use Rattle.sysin_values.specs.Exact.{IsExact}
use Rattle.sysin_operands.specs.declared.bracket.Bracket.{Bracket}
use Rattle.sysin_operands.specs.declared.content.Content.{Content}
use Rattle.sysin_operands.specs.declared.content.Content.TheVariants as contents
use Rattle.sysin_operands.specs.declared.operand.OperandPlace.{OperandPlace}
use Rattle.sysin_operands.specs.declared.operand.OperandPlace.TheVariants as places
use Rattle.sysin_operands.specs.Bracket.{alone_of, bracket_of, IsContent, IsPlainOperand}
use Rattle.sysin_operands.specs.Content.{start_of, CanEnd, ContentStops, ContentGives, ContentReads}
use Rattle.sysin_operands.specs.Operand.{IsKeyword, OperandGoes, OperandStops, OperandGives, OperandReads}
use Rattle.sysin_operands.proofs.Contents as inner
use Rattle.sysin_operands.proofs.Unlimited as unlimited
use Rattle.sysin_operands.proofs.Bracketed.{one, none_behind, next_opens, inside_of, goes_in, goes_out}

goes : (verb : Verb) (old new : OperandPlace) (text : List Token) (token : Token) → OperandReads verb old text → OperandGoes verb old token new → OperandReads verb new (text ++ token ∷ [])
goes verb places.Start new text token r (keyword, (word, sign, k), inl (operand, a, is)) =
    subst (λ (p : OperandPlace). OperandReads verb p (text ++ token ∷ [])) (sym is) (inl (keyword, a, (word, one_more text [] token (Word word) r sign, k)))
goes verb places.Start new text token r (keyword, (word, sign, k), inr (bracket, b, is)) =
    subst (λ (p : OperandPlace). OperandReads verb p (text ++ token ∷ [])) (sym is) (word, keyword, one_more text [] token (Word word) r sign, k, b)
goes verb (places.Named bracket) new text token (word, keyword, e, k, b) (sign, is) =
    subst (λ (p : OperandPlace). OperandReads verb p (text ++ token ∷ [])) (sym is) (word, keyword, [], one_more text (Word word ∷ []) token Open e sign, k, b, (inner.exact bracket).begins)
goes verb (places.Inside bracket content) new text token (word, keyword, front, e, k, b, r) (inl (operand, sign, ended, gives, is)) =
    subst (λ (p : OperandPlace). OperandReads verb p (text ++ token ∷ [])) (sym is) (inr (
      keyword,
      bracket,
      b,
      record {
        word = word;
        content = front;
        tokens = one_more text (Word word ∷ Open ∷ front) token Close e sign;
        spelled = k;
        inside = (inner.exact bracket).spelled content front operand r gives;
      },
    ))
goes verb (places.Inside bracket content) new text token (word, keyword, front, e, k, b, r) (inr (more, open', g, is)) =
    subst (λ (p : OperandPlace). OperandReads verb p (text ++ token ∷ [])) (sym is)
    (word, keyword, front ++ token ∷ [], ap (λ (t : List Token). t ++ token ∷ []) e, k, b, (inner.exact bracket).goes content more front token r g)
goes verb (places.Ended operand) new text token r g = absurd g

-- a bracket that gives an operand may be closed
can_end : (content : Content) (operand : Operand) → ContentGives content operand → CanEnd content
can_end (contents.Single single) operand g = absurd g
can_end (contents.Said said) operand g = tt
can_end (contents.Include old) operand (list, (ended, same), e) = ended
can_end (contents.Exclude old) operand (list, (ended, same), e) = ended
can_end (contents.By old) operand ((ended, same), e) = ended
can_end (contents.Outputs old) operand (list, (ended, same), e) = ended
can_end (contents.Rename old) operand (ended, e) = ended
can_end (contents.Wait old) operand (ended, e) = ended

nothing_is_none : (verb : Verb) (limited : Bool) (operand : Operand) → IsPlainOperand verb limited operand [] → ⊥
nothing_is_none verb limited operand (inl (keyword, a, (word, e, k))) = cc
nothing_is_none verb limited operand (inr (keyword, bracket, b, r)) = let e = r.tokens in cc

given : (verb : Verb) (place : OperandPlace) (text : List Token) (operand : Operand) → OperandReads verb place text → IsPlainOperand verb true operand text → place ≡ places.Ended operand
given verb places.Start text operand r s = absurd (nothing_is_none verb true operand (subst (λ (t : List Token). IsPlainOperand verb true operand t) r s))
given verb (places.Named bracket) text operand (word, keyword, e, k, b) s =
    let n = next_opens verb true word keyword bracket operand [] k b (subst (λ (t : List Token). IsPlainOperand verb true operand t) e s) in
    let none = n.1 in
    cc
given verb (places.Inside bracket content) text operand (word, keyword, front, e, k, b, r) s =
    let i = inside_of verb true word keyword bracket operand front k b (subst (λ (t : List Token). IsPlainOperand verb true operand t) e s) in
    absurd (inner.ends bracket operand i.0 i.2 (subst (λ (t : List Token). Begin (IsContent bracket) t) i.1 ((inner.exact bracket).right content front r)))
given verb (places.Ended said) text operand r s = ap places.Ended (one verb said operand text r s)

-- ---- what is read is right

pub begin_nothing : (bracket : Bracket) → Begin (IsContent bracket) [] → CanGoOn (IsContent bracket) true []
begin_nothing bracket (inl g) = g
begin_nothing bracket (inr e) = absurd (no_comma e.front e.comma)
  where
    no_comma : (front : List Token) → [] ≡ front ++ Comma ∷ [] → ⊥
    no_comma [] e = cc
    no_comma (sign ∷ front) e = cc

moved : (verb : Verb) (text same : List Token) → text ≡ same → Begin (IsPlainOperand verb) same → Begin (IsPlainOperand verb) text
moved verb text same e b = subst (λ (t : List Token). Begin (IsPlainOperand verb) t) (sym e) b

right : (verb : Verb) (place : OperandPlace) (text : List Token) → OperandReads verb place text → Begin (IsPlainOperand verb) text
right verb places.Start text r =
    moved verb text [] r (inl (Word (codes "VTOC") ∷ [], operands.Vtoc, inl (keywords.Vtoc, refl, (codes "VTOC", refl, refl))))
right verb (places.Named bracket) text (word, keyword, e, k, b) =
    let g = goes_out verb true word keyword bracket [] k b (begin_nothing bracket ((inner.exact bracket).right (start_of bracket) [] (inner.exact bracket).begins)) in
    moved verb text (Word word ∷ []) e (inl (Open ∷ g.0, g.1, g.2))
right verb (places.Inside bracket content) text (word, keyword, front, e, k, b, r) =
    moved verb text (Word word ∷ Open ∷ front) e (by_content ((inner.exact bracket).right content front r))
  where
    by_content : Begin (IsContent bracket) front → Begin (IsPlainOperand verb) (Word word ∷ Open ∷ front)
    by_content (inl g) = inl (goes_out verb true word keyword bracket front k b g)
    by_content (inr c) = inr (record {
      front = Word word ∷ Open ∷ c.front;
      comma = ap (λ (t : List Token). Word word ∷ Open ∷ t) c.comma;
      before = goes_out verb true word keyword bracket c.front k b c.before;
      longer = goes_out verb false word keyword bracket front k b c.longer;
    })
right verb (places.Ended operand) text r = inl ([], operand, subst (λ (t : List Token). IsPlainOperand verb true operand t) (sym (append-nil text)) r)

-- ---- what is refused is wrong

-- lists have their limit, or the token is a comma
abbrev pub IsBound : Bool → Token → Type 0
IsBound limited token = (limited ≡ true) ⊎ (token ≡ Comma)

no_keyword : (verb : Verb) (limited : Bool) (token : Token) (rest : List Token) (operand : Operand) → ((keyword : Keyword) → IsKeyword keyword token → (alone_of keyword ≡ None) × (bracket_of verb keyword ≡ None))
    → IsPlainOperand verb limited operand (token ∷ rest) → ⊥
no_keyword verb limited token rest operand none (inl (keyword, a, (word, e, k))) =
    let n = (none keyword (word, cc, k)).0 in
    cc
no_keyword verb limited token rest operand none (inr (keyword, bracket, b, r)) =
    let e = r.tokens in
    let n = (none keyword (r.word, cc, r.spelled)).1 in
    cc

no_more_inside : (bracket : Bracket) (content : Content) (front : List Token) (token : Token) (fault : ValueFault) (limited : Bool) → IsBound limited token → ContentReads bracket content front
    → ContentStops content token fault → ¬ (fault ≡ faults.NoMemory) → ¬ CanGoOn (IsContent bracket) limited (front ++ token ∷ [])
no_more_inside bracket content front token fault limited (inl bound) r stop real g =
    (inner.exact bracket).wrong content front token fault r stop real (inl (subst (λ (l : Bool). CanGoOn (IsContent bracket) l (front ++ token ∷ [])) bound g))
no_more_inside bracket content front token fault true (inr sign) r stop real g = (inner.exact bracket).wrong content front token fault r stop real (inl g)
no_more_inside bracket content front token fault false (inr sign) r stop real g = unlimited.stopped bracket content front token fault (inl sign) r stop real g

no_more : (verb : Verb) (place : OperandPlace) (text : List Token) (token : Token) (fault : ValueFault) (limited : Bool) → IsBound limited token → OperandReads verb place text → OperandStops verb place token fault
    → ¬ (fault ≡ faults.NoMemory) → ¬ CanGoOn (IsPlainOperand verb) limited (text ++ token ∷ [])
no_more verb places.Start text token fault limited bound r (wrong, none) real (rest, operand, p) =
    no_keyword verb limited token rest operand none (subst (λ (t : List Token). IsPlainOperand verb limited operand ((t ++ token ∷ []) ++ rest)) r p)
no_more verb (places.Named bracket) text token fault limited bound (word, keyword, e, k, b) (wrong, none) real (rest, operand, p) =
    let n = next_opens verb limited word keyword bracket operand (token ∷ rest) k b (subst (λ (t : List Token). IsPlainOperand verb limited operand ((t ++ token ∷ []) ++ rest)) e p) in
    let opens = n.1 in
    none cc
no_more verb (places.Inside bracket content) text token fault limited bound (word, keyword, front, e, k, b, r) (closed, stop) real g =
    by_place bound (goes_in verb limited word keyword bracket front token k b (subst (λ (t : List Token). CanGoOn (IsPlainOperand verb) limited (t ++ token ∷ [])) e g))
  where
    by_place : IsBound limited token → ((operand : Operand) × (token ≡ Close) × IsContent bracket limited operand front) ⊎ CanGoOn (IsContent bracket) limited (front ++ token ∷ []) → ⊥
    by_place bound (inr i) = no_more_inside bracket content front token fault limited bound r stop real i
    by_place (inr sign) (inl l) = let close = l.1 in cc
    by_place (inl true') (inl (operand, sign, s)) =
        let s' : IsContent bracket true operand front = subst (λ (l : Bool). IsContent bracket l operand front) true' s in
        closed sign (can_end content operand ((inner.exact bracket).given content front operand r s'))
no_more verb (places.Ended operand) text token fault limited bound r stop real g = none_behind verb limited operand text token r g

wrong : (verb : Verb) (place : OperandPlace) (text : List Token) (token : Token) (fault : ValueFault) → OperandReads verb place text → OperandStops verb place token fault → ¬ (fault ≡ faults.NoMemory)
    → ¬ Begin (IsPlainOperand verb) (text ++ token ∷ [])
wrong verb place text token fault r stop real (inl g) = no_more verb place text token fault true (inl refl) r stop real g
wrong verb place text token fault r stop real (inr e) =
    no_more verb place text token fault false (inr (same_from_push text e.front token Comma e.comma).1) r stop real e.longer

pub exact : (verb : Verb) → IsExact (IsPlainOperand verb) places.Start (OperandGoes verb) (OperandStops verb) OperandGives (OperandReads verb)
exact verb = record {
  begins = refl;
  goes = goes verb;
  spelled = λ place text operand r ended. subst (λ (p : OperandPlace). OperandReads verb p text) ended r;
  given = given verb;
  right = right verb;
  wrong = wrong verb;
}
