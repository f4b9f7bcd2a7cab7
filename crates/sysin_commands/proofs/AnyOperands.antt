-- Operands are read exactly, DATASET among them.
use Rattle.std.proofs.Common.{◌≡◌, ◌≢◌, ◌⊎◌, inl, inr, ℕ, List, [], ◌∷◌, ◌++◌, refl, sym, ap, subst, ◌∙◌, Bool, true, false, Some, append-nil}
use Rattle.std.proofs.lemmas.List.{same_from_push}
use Rattle.sysin_text.specs.declared.token.Token.{Token}
use Rattle.sysin_text.specs.declared.token.Token.TheVariants.{Comma, Open, Close, Word}
use Rattle.sysin_text.proofs.OneMore.{one_more}
use Rattle.sysin_words.specs.declared.keyword.Keyword.TheVariants as keywords
use Rattle.sysin_words.specs.declared.lead.Verb.{Verb}
use Rattle.sysin_words.specs.Keyword.{keyword_of}
use Rattle.sysin_lang.specs.declared.command.Filter.{Filter}
use Rattle.sysin_forms.specs.declared.operand.Operand.{Operand}
use Rattle.sysin_forms.specs.declared.operand.Operand.TheVariants as operands
use Rattle.sysin_forms.specs.Made.{said, filter_made}
use Rattle.sysin_values.specs.declared.fault.ValueFault.{ValueFault}
use Rattle.sysin_values.specs.declared.fault.ValueFault.TheVariants as faults
use Rattle.sysin_values.specs.Begun.{CanGoOn, Begin}
use Rattle.sysin_values.specs.Exact.{IsExact}
use Rattle.sysin_operands.specs.declared.operand.OperandPlace.{OperandPlace}
use Rattle.sysin_operands.specs.declared.operand.OperandPlace.TheVariants as plains
use Rattle.sysin_operands.specs.Bracket.{IsPlainOperand}
use Rattle.sysin_operands.specs.Operand.{OperandStops, OperandReads}
use Rattle.sysin_operands.proofs.Bracketed as plain_tokens
use Rattle.sysin_operands.proofs.Operands as plain
use Rattle.sysin_filters.specs.declared.filter.FilterReading.{FilterReading}
use Rattle.sysin_filters.specs.Filter.{IsFilter}
use Rattle.sysin_filters.specs.Progress.{CanEnd, FilterStops, FilterReads}
use Rattle.sysin_filters.proofs.Filters as filters
use Rattle.sysin_filters.proofs.Closing as closing
use Rattle.sysin_commands.specs.declared.operand.AnyPlace.{AnyPlace}
use Rattle.sysin_commands.specs.declared.operand.AnyPlace.TheVariants as places
use Rattle.sysin_commands.specs.Operand.{IsOperand}
use Rattle.sysin_commands.specs.AnyOperand.{StartsDataset, AnyGoes, AnyStops, AnyGives, AnyReads, AnyIsRead}
use Rattle.sysin_commands.proofs.FirstWord.{IsOther, plain_is_other, read_is_other, other_more, only_plain, behind_dataset, inside_dataset, goes_out, goes_in, none_behind, one}

pub goes : (verb : Verb) (old new : AnyPlace) (text : List Token) (token : Token) → AnyReads verb old text → AnyGoes verb old token new → AnyReads verb new (text ++ token ∷ [])
goes verb (places.Plain place) new text token r (inl ((start, (word, sign, k)), is)) =
    let none : text ≡ [] = subst (λ (p : OperandPlace). OperandReads verb p text) start r in
    subst (λ (p : AnyPlace). AnyReads verb p (text ++ token ∷ [])) (sym is) (word, one_more text [] token (Word word) none sign, k)
goes verb (places.Plain place) new text token r (inr (next', g, is)) =
    subst (λ (p : AnyPlace). AnyReads verb p (text ++ token ∷ [])) (sym is) ((plain.exact verb).goes place next' text token r g)
goes verb places.Named new text token (word, e, k) (sign, is) =
    subst (λ (p : AnyPlace). AnyReads verb p (text ++ token ∷ [])) (sym is) (word, [], one_more text (Word word ∷ []) token Open e sign, k, (filters.exact verb).begins)
goes verb (places.Inside filter) new text token (word, front, e, k, r) (inl (whole, sign, gives, is)) =
    subst (λ (p : AnyPlace). AnyReads verb p (text ++ token ∷ [])) (sym is)
    (record { word = word; content = front; tokens = one_more text (Word word ∷ Open ∷ front) token Close e sign; spelled = k; inside = (filters.exact verb).spelled filter front whole r gives })
goes verb (places.Inside filter) new text token (word, front, e, k, r) (inr (more, open', g, is)) =
    subst (λ (p : AnyPlace). AnyReads verb p (text ++ token ∷ [])) (sym is)
    (word, front ++ token ∷ [], ap (λ (t : List Token). t ++ token ∷ []) e, k, (filters.exact verb).goes filter more front token r g)
goes verb (places.Whole filter) new text token r g = absurd g

-- what is read goes on
pub read_on : (verb : Verb) (old new : AnyPlace) (token : Token) → AnyIsRead verb old → AnyGoes verb old token new → AnyIsRead verb new
read_on verb old new token (text, r) g = (text ++ token ∷ [], goes verb old new text token r g)

-- ---- its end

spelled : (verb : Verb) (place : AnyPlace) (text : List Token) (operand : Operand) → AnyReads verb place text → AnyGives place operand → IsOperand verb true operand text
spelled verb (places.Plain place) text operand r g = inl ((plain.exact verb).spelled place text operand r g)
spelled verb places.Named text operand r g = absurd g
spelled verb (places.Inside filter) text operand r g = absurd g
spelled verb (places.Whole filter) text operand r g = inr (filter, g, r)

nothing_is_none : (verb : Verb) (limited : Bool) (operand : Operand) → IsOperand verb limited operand [] → ⊥
nothing_is_none verb limited operand (inl p) = let o = plain_is_other verb limited operand [] p in let e = o.tokens in cc
nothing_is_none verb limited operand (inr (filter, is, r)) = let e = r.tokens in cc

is_start : (place : OperandPlace) → (place ≡ plains.Start) ⊎ (place ≢ plains.Start)
is_start plains.Start = inl refl
is_start (plains.Named bracket) = inr (λ e. cc)
is_start (plains.Inside bracket content) = inr (λ e. cc)
is_start (plains.Ended operand) = inr (λ e. cc)

given : (verb : Verb) (place : AnyPlace) (text : List Token) (operand : Operand) → AnyReads verb place text → IsOperand verb true operand text → AnyGives place operand
given verb (places.Plain place) text operand r s = by_start (is_start place)
  where
    by_start : (place ≡ plains.Start) ⊎ (place ≢ plains.Start) → AnyGives (places.Plain place) operand
    by_start (inl start) =
        let none : text ≡ [] = subst (λ (p : OperandPlace). OperandReads verb p text) start r in
        absurd (nothing_is_none verb true operand (subst (λ (t : List Token). IsOperand verb true operand t) none s))
    by_start (inr some) = (plain.exact verb).given place text operand r (only_plain verb true operand text (read_is_other verb place text some r) s)
given verb places.Named text operand (word, e, k) s =
    let d = behind_dataset verb true word operand [] k (subst (λ (t : List Token). IsOperand verb true operand t) e s) in
    let none = d.2 in
    cc
given verb (places.Inside filter) text operand (word, front, e, k, r) s =
    let i = inside_dataset verb true word operand front k (subst (λ (t : List Token). IsOperand verb true operand t) e s) in
    absurd (closing.ends i.0 i.1 i.3 (subst (λ (t : List Token). Begin IsFilter t) i.2 ((filters.exact verb).right filter front r)))
given verb (places.Whole filter) text operand r s =
    let same = one verb operand (operands.Dataset filter) text s (inr (filter, refl, r)) in
    same

-- ---- what is read is right

begin_up : (verb : Verb) (text : List Token) → Begin (IsPlainOperand verb) text → Begin (IsOperand verb) text
begin_up verb text (inl (rest, operand, p)) = inl (rest, operand, inl p)
begin_up verb text (inr c) =
    let before = c.before in
    let longer = c.longer in
    inr (record { front = c.front; comma = c.comma; before = (before.0, before.1, inl before.2); longer = (longer.0, longer.1, inl longer.2) })

moved : (verb : Verb) (text same : List Token) → text ≡ same → Begin (IsOperand verb) same → Begin (IsOperand verb) text
moved verb text same e b = subst (λ (t : List Token). Begin (IsOperand verb) t) (sym e) b

no_parts : CanGoOn IsFilter true []
no_parts = ([], filter_made (said []), ([], refl, tt, refl))

right : (verb : Verb) (place : AnyPlace) (text : List Token) → AnyReads verb place text → Begin (IsOperand verb) text
right verb (places.Plain place) text r = begin_up verb text ((plain.exact verb).right place text r)
right verb places.Named text (word, e, k) = let g = goes_out verb true word [] k no_parts in moved verb text (Word word ∷ []) e (inl (Open ∷ g.0, g.1, g.2))
right verb (places.Inside filter) text (word, front, e, k, r) = moved verb text (Word word ∷ Open ∷ front) e (by_filter ((filters.exact verb).right filter front r))
  where
    by_filter : Begin IsFilter front → Begin (IsOperand verb) (Word word ∷ Open ∷ front)
    by_filter (inl g) = inl (goes_out verb true word front k g)
    by_filter (inr c) = inr (record {
      front = Word word ∷ Open ∷ c.front;
      comma = ap (λ (t : List Token). Word word ∷ Open ∷ t) c.comma;
      before = goes_out verb true word c.front k c.before;
      longer = goes_out verb false word front k c.longer;
    })
right verb (places.Whole filter) text r =
    inl ([], operands.Dataset filter, subst (λ (t : List Token). IsOperand verb true (operands.Dataset filter) t) (sym (append-nil text)) (inr (filter, refl, r)))

-- ---- what is refused is wrong

-- a token that stands in neither kind of text stands in none
either_goes : (verb : Verb) (text : List Token) → Begin (IsOperand verb) text → (limited : Bool) × CanGoOn (IsOperand verb) limited text
either_goes verb text (inl g) = (true, g)
either_goes verb text (inr c) = (false, c.longer)

begin_down : (verb : Verb) (text : List Token) (token : Token) → IsOther text → Begin (IsOperand verb) (text ++ token ∷ []) → Begin (IsPlainOperand verb) (text ++ token ∷ [])
begin_down verb text token o (inl (rest, operand, s)) =
    inl (rest, operand, only_plain verb true operand ((text ++ token ∷ []) ++ rest) (other_more (text ++ token ∷ []) rest (other_more text (token ∷ []) o)) s)
begin_down verb text token o (inr c) =
    let same = same_from_push text c.front token Comma c.comma in
    let o' : IsOther c.front = subst (λ (t : List Token). IsOther t) same.0 o in
    let before = c.before in
    let longer = c.longer in
    inr (record {
      front = c.front;
      comma = c.comma;
      before = (before.0, before.1, only_plain verb true before.1 (c.front ++ before.0) (other_more c.front before.0 o') before.2);
      longer = (
        longer.0,
        longer.1,
        only_plain verb false longer.1 ((text ++ token ∷ []) ++ longer.0) (other_more (text ++ token ∷ []) longer.0 (other_more text (token ∷ []) o)) longer.2,
      );
    })

-- no operand begins with the token
wrong_first : (verb : Verb) (token : Token) (fault : ValueFault) → ¬ StartsDataset plains.Start token → OperandStops verb plains.Start token fault → ¬ (fault ≡ faults.NoMemory)
    → ¬ Begin (IsOperand verb) (token ∷ [])
wrong_first verb token fault out stop real begun = by_limit (either_goes verb (token ∷ []) begun)
  where
    no_other : (limited : Bool) (rest : List Token) (operand : Operand) → IsPlainOperand verb limited operand (token ∷ rest) → ⊥
    no_other limited rest operand (inl (keyword, a, (word, e, k))) = let n = (stop.1 keyword (word, cc, k)).0 in cc
    no_other limited rest operand (inr (keyword, bracket, b, r)) =
        let e = r.tokens in
        let n = (stop.1 keyword (r.word, cc, r.spelled)).1 in
        cc

    by_limit : (limited : Bool) × CanGoOn (IsOperand verb) limited (token ∷ []) → ⊥
    by_limit (limited, (rest, operand, inl p)) = no_other limited rest operand p
    by_limit (limited, (rest, operand, inr (filter, is, r))) = let e = r.tokens in out (refl, (r.word, cc, r.spelled))

-- tokens before a comma that may stand go on themselves
before_comma : (verb : Verb) (filter : FilterReading) (word : List ℕ) (front : List Token) → keyword_of word ≡ Some keywords.Dataset → (filter.verb ≡ verb) × FilterReads filter front
    → CanGoOn (IsOperand verb) true (Word word ∷ Open ∷ front) → CanGoOn IsFilter true front
before_comma verb filter word front k r (rest, operand, s) =
    let i = inside_dataset verb true word operand (front ++ rest) k s in
    by_rest rest i.0 i.1 i.2 i.3
  where
    by_rest : (rest : List Token) (value : Filter) (content : List Token) → front ++ rest ≡ content ++ Close ∷ [] → IsFilter true value content → CanGoOn IsFilter true front
    by_rest [] value content e t =
        absurd (closing.ends value content t (subst (λ (z : List Token). Begin IsFilter z) (sym (append-nil front) ∙ e) ((filters.exact verb).right filter front r)))
    by_rest (token ∷ rest) value content e t = by_place (plain_tokens.last_or_inside front token rest content e)
      where
        by_place : ((token ≡ Close) × (rest ≡ []) × (front ≡ content)) ⊎ ((more : List Token) × (content ≡ front ++ token ∷ more)) → CanGoOn IsFilter true front
        by_place (inl l) = ([], value, subst (λ (z : List Token). IsFilter true value z) (sym l.2 ∙ sym (append-nil front)) t)
        by_place (inr m) = (token ∷ m.0, value, subst (λ (z : List Token). IsFilter true value z) m.1 t)

wrong_inside : (verb : Verb) (filter : FilterReading) (word : List ℕ) (front : List Token) (token : Token) (fault : ValueFault) → keyword_of word ≡ Some keywords.Dataset
    → (filter.verb ≡ verb) × FilterReads filter front → (token ≡ Close → ¬ CanEnd filter) → FilterStops filter token fault → ¬ (fault ≡ faults.NoMemory)
    → ¬ Begin (IsOperand verb) (Word word ∷ Open ∷ (front ++ token ∷ []))
wrong_inside verb filter word front token fault k r closed stop real (inl g) = by_place (goes_in verb true word front token k g)
  where
    by_place : ((whole : Filter) × (token ≡ Close) × IsFilter true whole front) ⊎ CanGoOn IsFilter true (front ++ token ∷ []) → ⊥
    by_place (inl (whole, sign, s)) = closed sign ((filters.exact verb).given filter front whole r s).0
    by_place (inr i) = (filters.exact verb).wrong filter front token fault r stop real (inl i)
wrong_inside verb filter word front token fault k r closed stop real (inr c) =
    let same = same_from_push (Word word ∷ Open ∷ front) c.front token Comma c.comma in
    by_place same.0 same.1 (goes_in verb false word front token k c.longer)
  where
    by_place : Word word ∷ Open ∷ front ≡ c.front → token ≡ Comma → ((whole : Filter) × (token ≡ Close) × IsFilter false whole front) ⊎ CanGoOn IsFilter false (front ++ token ∷ []) → ⊥
    by_place e comma (inl (whole, sign, s)) = cc
    by_place e comma (inr i) = (filters.exact verb).wrong filter front token fault r stop real (inr (record {
      front = front;
      comma = ap (λ (t : Token). front ++ t ∷ []) comma;
      before = before_comma verb filter word front k r (subst (λ (t : List Token). CanGoOn (IsOperand verb) true t) (sym e) c.before);
      longer = i;
    }))

pub wrong : (verb : Verb) (place : AnyPlace) (text : List Token) (token : Token) (fault : ValueFault) → AnyReads verb place text → AnyStops verb place token fault → ¬ (fault ≡ faults.NoMemory)
    → ¬ Begin (IsOperand verb) (text ++ token ∷ [])
wrong verb (places.Plain place) text token fault r (out, stop) real begun = by_start (is_start place)
  where
    by_start : (place ≡ plains.Start) ⊎ (place ≢ plains.Start) → ⊥
    by_start (inl start) =
        let none : text ≡ [] = subst (λ (p : OperandPlace). OperandReads verb p text) start r in
        wrong_first verb token fault (subst (λ (p : OperandPlace). ¬ StartsDataset p token) start out) (subst (λ (p : OperandPlace). OperandStops verb p token fault) start stop) real
        (subst (λ (t : List Token). Begin (IsOperand verb) (t ++ token ∷ [])) none begun)
    by_start (inr some) = (plain.exact verb).wrong place text token fault r stop real (begin_down verb text token (read_is_other verb place text some r) begun)
wrong verb places.Named text token fault (word, e, k) (wrong', none) real begun = by_limit (either_goes verb (text ++ token ∷ []) begun)
  where
    by_limit : (limited : Bool) × CanGoOn (IsOperand verb) limited (text ++ token ∷ []) → ⊥
    by_limit (limited, (rest, operand, s)) =
        let d = behind_dataset verb limited word operand (token ∷ rest) k (subst (λ (t : List Token). IsOperand verb limited operand ((t ++ token ∷ []) ++ rest)) e s) in
        let opens = d.2 in
        none cc
wrong verb (places.Inside filter) text token fault (word, front, e, k, r) (closed, stop) real begun =
    wrong_inside verb filter word front token fault k r closed stop real (subst (λ (t : List Token). Begin (IsOperand verb) (t ++ token ∷ [])) e begun)
wrong verb (places.Whole filter) text token fault r stop real begun =
    let g = either_goes verb (text ++ token ∷ []) begun in
    none_behind verb g.0 (operands.Dataset filter) text token (inr (filter, refl, r)) g.1

pub exact : (verb : Verb) → IsExact (IsOperand verb) (places.Plain plains.Start) (AnyGoes verb) (AnyStops verb) AnyGives (AnyReads verb)
exact verb = record {
  begins = refl;
  goes = goes verb;
  spelled = spelled verb;
  given = given verb;
  right = right verb;
  wrong = wrong verb;
}

-- no token goes on with an operand
pub ends : (verb : Verb) (operand : Operand) (text : List Token) (token : Token) → IsOperand verb true operand text → ¬ Begin (IsOperand verb) (text ++ token ∷ [])
ends verb operand text token s begun = let g = either_goes verb (text ++ token ∷ []) begun in none_behind verb g.0 operand text token s g.1
