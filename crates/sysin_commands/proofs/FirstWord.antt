-- The first word of an operand tells whether it is DATASET.
use Rattle.std.proofs.Common.{◌≡◌, ◌≢◌, ◌⊎◌, inl, inr, ℕ, List, [], ◌∷◌, ◌++◌, refl, sym, ap, subst, ◌∙◌, Bool, true, Some, None, append_assoc}
use Rattle.std.proofs.lemmas.List.{append_cancel_right}
use Rattle.sysin_text.specs.declared.token.Token.{Token}
use Rattle.sysin_text.specs.declared.token.Token.TheVariants.{Open, Close, Word}
use Rattle.sysin_words.specs.declared.keyword.Keyword.{Keyword}
use Rattle.sysin_words.specs.declared.keyword.Keyword.TheVariants as keywords
use Rattle.sysin_words.specs.declared.lead.Verb.{Verb}
use Rattle.sysin_words.specs.Keyword.{keyword_of}
use Rattle.sysin_lang.specs.declared.command.Filter.{Filter}
use Rattle.sysin_forms.specs.declared.operand.Operand.{Operand}
use Rattle.sysin_forms.specs.declared.operand.Operand.TheVariants as operands
use Rattle.sysin_values.specs.Begun.{CanGoOn}
use Rattle.sysin_values.specs.Exact.{OneValue}
use Rattle.sysin_operands.specs.declared.bracket.Bracket.{Bracket}
use Rattle.sysin_operands.specs.declared.operand.OperandPlace.{OperandPlace}
use Rattle.sysin_operands.specs.declared.operand.OperandPlace.TheVariants as places
use Rattle.sysin_operands.specs.Bracket.{alone_of, bracket_of, IsPlainOperand}
use Rattle.sysin_operands.specs.Operand.{OperandReads}
use Rattle.sysin_operands.proofs.Bracketed as plain
use Rattle.sysin_filters.specs.Filter.{IsFilter}
use Rattle.sysin_filters.proofs.Closing as filters
use Rattle.sysin_commands.specs.Operand.{IsDataset, IsOperand}

-- a keyword that isn't DATASET, and more behind it
pub record IsOther (text : List Token) : Type 0 where
  pub word : List ℕ
  pub tail : List Token
  pub keyword : Keyword
  pub tokens : text ≡ Word word ∷ tail
  pub spelled : keyword_of word ≡ Some keyword
  pub other : keyword ≢ keywords.Dataset

not_alone : (keyword : Keyword) (operand : Operand) → alone_of keyword ≡ Some operand → keyword ≢ keywords.Dataset
not_alone keyword operand a same = let none : alone_of keyword ≡ None = ap alone_of same in cc

not_bracketed : (verb : Verb) (keyword : Keyword) (bracket : Bracket) → bracket_of verb keyword ≡ Some bracket → keyword ≢ keywords.Dataset
not_bracketed verb keyword bracket b same = let none : bracket_of verb keyword ≡ None = ap (bracket_of verb) same in cc

pub plain_is_other : (verb : Verb) (limited : Bool) (operand : Operand) (text : List Token) → IsPlainOperand verb limited operand text → IsOther text
plain_is_other verb limited operand text (inl (keyword, a, (word, e, k))) =
    record { word = word; tail = []; keyword = keyword; tokens = e; spelled = k; other = not_alone keyword operand a }
plain_is_other verb limited operand text (inr (keyword, bracket, b, r)) =
    record { word = r.word; tail = Open ∷ (r.content ++ Close ∷ []); keyword = keyword; tokens = r.tokens; spelled = r.spelled; other = not_bracketed verb keyword bracket b }

pub read_is_other : (verb : Verb) (place : OperandPlace) (text : List Token) → place ≢ places.Start → OperandReads verb place text → IsOther text
read_is_other verb places.Start text some r = absurd (some refl)
read_is_other verb (places.Named bracket) text some (word, keyword, e, k, b) =
    record { word = word; tail = []; keyword = keyword; tokens = e; spelled = k; other = not_bracketed verb keyword bracket b }
read_is_other verb (places.Inside bracket content) text some (word, keyword, front, e, k, b, r) =
    record { word = word; tail = Open ∷ front; keyword = keyword; tokens = e; spelled = k; other = not_bracketed verb keyword bracket b }
read_is_other verb (places.Ended operand) text some r = plain_is_other verb true operand text r

pub other_more : (text more : List Token) → IsOther text → IsOther (text ++ more)
other_more text more o =
    record { word = o.word; tail = o.tail ++ more; keyword = o.keyword; tokens = ap (λ (t : List Token). t ++ more) o.tokens; spelled = o.spelled; other = o.other }

pub no_dataset : (limited : Bool) (operand : Operand) (text : List Token) → IsOther text → IsDataset limited operand text → ⊥
no_dataset limited operand text o (filter, is, r) =
    let e = o.tokens in
    let f = r.tokens in
    let words : o.word ≡ r.word = cc in
    let k = o.spelled in
    let l = r.spelled in
    o.other cc

pub only_plain : (verb : Verb) (limited : Bool) (operand : Operand) (text : List Token) → IsOther text → IsOperand verb limited operand text → IsPlainOperand verb limited operand text
only_plain verb limited operand text o (inl p) = p
only_plain verb limited operand text o (inr d) = absurd (no_dataset limited operand text o d)

-- DATASET goes on with a bracket, and a filter in it
pub behind_dataset : (verb : Verb) (limited : Bool) (word : List ℕ) (operand : Operand) (tail : List Token) → keyword_of word ≡ Some keywords.Dataset → IsOperand verb limited operand (Word word ∷ tail)
    → (filter : Filter) × (content : List Token) × (tail ≡ Open ∷ (content ++ Close ∷ [])) × IsFilter limited filter content × (operand ≡ operands.Dataset filter)
behind_dataset verb limited word operand tail k (inl p) =
    let o = plain_is_other verb limited operand (Word word ∷ tail) p in
    let e = o.tokens in
    let words : word ≡ o.word = cc in
    let l = o.spelled in
    absurd (o.other cc)
behind_dataset verb limited word operand tail k (inr (filter, is, r)) = let e = r.tokens in (filter, r.content, cc, r.inside, is)

pub inside_dataset : (verb : Verb) (limited : Bool) (word : List ℕ) (operand : Operand) (tail : List Token) → keyword_of word ≡ Some keywords.Dataset → IsOperand verb limited operand (Word word ∷ Open ∷ tail)
    → (filter : Filter) × (content : List Token) × (tail ≡ content ++ Close ∷ []) × IsFilter limited filter content × (operand ≡ operands.Dataset filter)
inside_dataset verb limited word operand tail k s =
    let d = behind_dataset verb limited word operand (Open ∷ tail) k s in
    let e = d.2 in
    (d.0, d.1, cc, d.3, d.4)

-- a filter that goes on does so with the last bracket behind it
pub goes_out : (verb : Verb) (limited : Bool) (word : List ℕ) (front : List Token) → keyword_of word ≡ Some keywords.Dataset → CanGoOn IsFilter limited front
    → CanGoOn (IsOperand verb) limited (Word word ∷ Open ∷ front)
goes_out verb limited word front k (rest, filter, s) = (
  rest ++ Close ∷ [],
  operands.Dataset filter,
  inr (
    filter,
    refl,
    record { word = word; content = front ++ rest; tokens = ap (λ (t : List Token). Word word ∷ Open ∷ t) (sym (append_assoc front rest (Close ∷ []))); spelled = k; inside = s },
  ),
)

-- and the other way round, but for the last bracket
pub goes_in : (verb : Verb) (limited : Bool) (word : List ℕ) (front : List Token) (token : Token) → keyword_of word ≡ Some keywords.Dataset
    → CanGoOn (IsOperand verb) limited (Word word ∷ Open ∷ (front ++ token ∷ []))
    → ((filter : Filter) × (token ≡ Close) × IsFilter limited filter front) ⊎ CanGoOn IsFilter limited (front ++ token ∷ [])
goes_in verb limited word front token k (rest, operand, s) =
    let i = inside_dataset verb limited word operand ((front ++ token ∷ []) ++ rest) k s in
    by_place i.0 i.1 i.3 (plain.last_or_inside front token rest i.1 (sym (append_assoc front (token ∷ []) rest) ∙ i.2))
  where
    by_place : (filter : Filter) (content : List Token) → IsFilter limited filter content
        → ((token ≡ Close) × (rest ≡ []) × (front ≡ content)) ⊎ ((more : List Token) × (content ≡ front ++ token ∷ more))
        → ((filter : Filter) × (token ≡ Close) × IsFilter limited filter front) ⊎ CanGoOn IsFilter limited (front ++ token ∷ [])
    by_place filter content t (inl l) = inl (filter, l.0, subst (λ (z : List Token). IsFilter limited filter z) (sym l.2) t)
    by_place filter content t (inr m) = inr (m.0, filter, subst (λ (z : List Token). IsFilter limited filter z) (m.1 ∙ sym (append_assoc front (token ∷ []) m.0)) t)

-- ---- operands end, and are one

-- no token goes on with one
pub none_behind : (verb : Verb) (limited : Bool) (operand : Operand) (text : List Token) (token : Token) → IsOperand verb true operand text → ¬ CanGoOn (IsOperand verb) limited (text ++ token ∷ [])
none_behind verb limited operand text token (inl p) (rest, other, s) =
    let o = other_more (text ++ token ∷ []) rest (other_more text (token ∷ []) (plain_is_other verb true operand text p)) in
    plain.none_behind verb limited operand text token p (rest, other, only_plain verb limited other ((text ++ token ∷ []) ++ rest) o s)
none_behind verb limited operand text token (inr (filter, is, r)) (rest, other, s) =
    let same : (text ++ token ∷ []) ++ rest ≡ Word r.word ∷ Open ∷ (((r.content ++ Close ∷ []) ++ token ∷ []) ++ rest) = ap (λ (t : List Token). (t ++ token ∷ []) ++ rest) r.tokens in
    let i = inside_dataset verb limited r.word other (((r.content ++ Close ∷ []) ++ token ∷ []) ++ rest) r.spelled (subst (λ (t : List Token). IsOperand verb limited other t) same s) in
    let whole : r.content ++ Close ∷ token ∷ rest ≡ ((r.content ++ Close ∷ []) ++ token ∷ []) ++ rest =
    sym (append_assoc (r.content ++ Close ∷ []) (token ∷ []) rest ∙ append_assoc r.content (Close ∷ []) (token ∷ rest)) in
    let c = filters.same_filter limited filter i.0 r.content i.1 (token ∷ rest) [] r.inside i.3 (whole ∙ i.2) in
    let none : token ∷ rest ≡ [] = c.1 in
    cc

-- tokens are of one operand at most
pub one : (verb : Verb) → OneValue (IsOperand verb)
one verb left right text (inl p) s = plain.one verb left right text p (only_plain verb true right text (plain_is_other verb true left text p) s)
one verb left right text (inr (filter, is, r)) s =
    let i = inside_dataset verb true r.word right (r.content ++ Close ∷ []) r.spelled (subst (λ (t : List Token). IsOperand verb true right t) r.tokens s) in
    let same : i.1 ≡ r.content = append_cancel_right i.1 r.content (Close ∷ []) (sym i.2) in
    is ∙ ap operands.Dataset (filters.one filter i.0 r.content r.inside (subst (λ (t : List Token). IsFilter true i.0 t) same i.3)) ∙ sym i.4
