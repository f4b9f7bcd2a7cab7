-- The first tokens of a part, as they are read.
use Rattle.std.proofs.Common.{◌≡◌, ◌⊎◌, inl, inr, ℕ, List, [], ◌∷◌, ◌++◌, refl, sym, ap, subst, ◌∙◌, Bool, true, false, Some, append_assoc, append-nil}
use Rattle.std.proofs.lemmas.List.{same_from_push}
use Rattle.sysin_text.specs.declared.token.Token.{Token}
use Rattle.sysin_text.specs.declared.token.Token.TheVariants.{Comma, Open, Close, Word}
use Rattle.sysin_words.specs.declared.keyword.Keyword.{Keyword}
use Rattle.sysin_words.specs.declared.lead.Verb.{Verb}
use Rattle.sysin_words.specs.Keyword.{keyword_of}
use Rattle.sysin_forms.specs.declared.operand.Operand.{Operand}
use Rattle.sysin_forms.specs.Operand.{name_of}
use Rattle.sysin_values.specs.Begun.{CanGoOn, Begin}
use Rattle.sysin_operands.specs.declared.bracket.Bracket.{Bracket}
use Rattle.sysin_operands.specs.declared.operand.OperandPlace.{OperandPlace}
use Rattle.sysin_operands.specs.declared.operand.OperandPlace.TheVariants as places
use Rattle.sysin_operands.specs.Bracket.{IsPlainOperand}
use Rattle.sysin_operands.specs.Operand.{OperandReads}
use Rattle.sysin_operands.proofs.Operands as operands
use Rattle.sysin_filters.specs.Filter.{IsPart, part_of}
use Rattle.sysin_filters.specs.Progress.{may_stand, MayStandAt}
use Rattle.sysin_filters.proofs.Series.{first_of_series}
use Rattle.sysin_filters.proofs.Parts.{is_part_bracket, part_of_brackets, one_keyword, part_of_plain, plain_of_part, part_name, cut}
use Rattle.sysin_filters.proofs.Following.{Follow}
use Rattle.sysin_values.proofs.LongCriteria.{overlap}

-- a keyword of a part that may stand, and more behind it
pub record IsBegun (parts : List Operand) (text : List Token) : Type 0 where
  pub word : List ℕ
  pub tail : List Token
  pub keyword : Keyword
  pub bracket : Bracket
  pub tokens : text ≡ Word word ∷ tail
  pub spelled : keyword_of word ≡ Some keyword
  pub has : part_of keyword ≡ Some bracket
  pub stands : may_stand parts keyword ≡ true

pub begun : (verb : Verb) (parts : List Operand) (place : OperandPlace) (text : List Token) → OperandReads verb place text → MayStandAt parts place → IsBegun parts text
begun verb parts places.Start text r m = absurd m
begun verb parts (places.Named bracket) text (word, keyword, e, k, b) (other, p, may) =
    let q = part_of_brackets verb keyword bracket (is_part_bracket other bracket p) b in
    record {
      word = word;
      tail = [];
      keyword = keyword;
      bracket = bracket;
      tokens = e;
      spelled = k;
      has = q;
      stands = ap (may_stand parts) (one_keyword keyword other bracket q p) ∙ may;
    }
begun verb parts (places.Inside bracket content) text (word, keyword, front, e, k, b, r) (other, p, may) =
    let q = part_of_brackets verb keyword bracket (is_part_bracket other bracket p) b in
    record {
      word = word;
      tail = Open ∷ front;
      keyword = keyword;
      bracket = bracket;
      tokens = e;
      spelled = k;
      has = q;
      stands = ap (may_stand parts) (one_keyword keyword other bracket q p) ∙ may;
    }
begun verb parts (places.Ended part) text r m = absurd m

-- an operand that begins so is a part
pub begun_part : (verb : Verb) (limited : Bool) (parts : List Operand) (part : Operand) (text more : List Token) → IsBegun parts text → IsPlainOperand verb limited part (text ++ more) → IsPart limited part (text ++ more)
begun_part verb limited parts part text more b s =
    let same : text ++ more ≡ Word b.word ∷ (b.tail ++ more) = ap (λ (t : List Token). t ++ more) b.tokens in
    subst (λ (t : List Token). IsPart limited part t) (sym same)
    (part_of_plain verb limited part b.word b.keyword b.bracket (b.tail ++ more) b.spelled b.has (subst (λ (t : List Token). IsPlainOperand verb limited part t) same s))

-- which may stand
pub begun_stands : (limited : Bool) (parts : List Operand) (part : Operand) (text more : List Token) → IsBegun parts text → IsPart limited part (text ++ more) → may_stand parts (name_of part) ≡ true
begun_stands limited parts part text more b (keyword, bracket, p, r) =
    let tokens = b.tokens in
    let tokens' = r.tokens in
    let both : Word b.word ∷ (b.tail ++ more) ≡ Word r.word ∷ Open ∷ (r.content ++ Close ∷ []) = sym (ap (λ (t : List Token). t ++ more) tokens) ∙ tokens' in
    let words : r.word ≡ b.word = cc in
    let spelled = b.spelled in
    let spelled' = r.spelled in
    let keys : keyword ≡ b.keyword = cc in
    ap (may_stand parts) (part_name limited part (text ++ more) (keyword, bracket, p, r) ∙ keys) ∙ b.stands

-- the same without a comma behind it
pub begun_front : (parts : List Operand) (front : List Token) → IsBegun parts (front ++ Comma ∷ []) → IsBegun parts front
begun_front parts [] b = let e = b.tokens in cc
begun_front parts (sign ∷ front) b =
    let e = b.tokens in
    let heads : sign ≡ Word b.word = cc in
    record {
      word = b.word;
      tail = front;
      keyword = b.keyword;
      bracket = b.bracket;
      tokens = ap (λ (s : Token). s ∷ front) heads;
      spelled = b.spelled;
      has = b.has;
      stands = b.stands;
    }

ends_in_bracket : (limited : Bool) (part : Operand) (text front : List Token) → IsPart limited part text → text ≡ front ++ Comma ∷ [] → ⊥
ends_in_bracket limited part text front (keyword, bracket, p, r) e =
    let same : (Word r.word ∷ Open ∷ r.content) ++ Close ∷ [] ≡ front ++ Comma ∷ [] = sym r.tokens ∙ e in
    let last : Close ≡ Comma = (same_from_push (Word r.word ∷ Open ∷ r.content) front Close Comma same).1 in
    cc

pub none_left : (a b : List Token) → [] ≡ a ++ b → (a ≡ []) × (b ≡ [])
none_left [] b e = (refl, sym e)
none_left (sign ∷ a) b e = cc

-- tokens that go on as a part and have a part in front are that part
whole_front : (limited : Bool) (part other : Operand) (text more first behind : List Token) → IsPart true part (text ++ more) → IsPart limited other first → text ≡ first ++ behind → IsPart true part text
whole_front limited part other text more first behind s t e =
    let whole : (text ++ more) ++ [] ≡ first ++ (behind ++ more) = append-nil (text ++ more) ∙ ap (λ (z : List Token). z ++ more) e ∙ append_assoc first behind more in
    let c = cut limited part other (text ++ more) first [] (behind ++ more) s t whole in
    let none = none_left behind more c.1 in
    subst (λ (z : List Token). IsPart true part z) (ap (λ (z : List Token). text ++ z) none.1 ∙ append-nil text) s

-- no comma stands behind a part within a longer one
no_comma_on : (verb : Verb) (parts : List Operand) (part : Operand) (front : List Token) → IsBegun parts (front ++ Comma ∷ []) → IsPart true part front → CanGoOn (IsPlainOperand verb) false (front ++ Comma ∷ []) → ⊥
no_comma_on verb parts part front b s (more, other, t) =
    let whole : front ++ Comma ∷ more ≡ ((front ++ Comma ∷ []) ++ more) ++ [] = sym (append-nil ((front ++ Comma ∷ []) ++ more) ∙ append_assoc front (Comma ∷ []) more) in
    let c = cut false part other front ((front ++ Comma ∷ []) ++ more) (Comma ∷ more) [] s (begun_part verb false parts other (front ++ Comma ∷ []) more b t) whole in
    let none : Comma ∷ more ≡ [] = c.1 in
    cc

-- what is read has no part in front
pub not_whole : (verb : Verb) (limited : Bool) (parts : List Operand) (place : OperandPlace) (text : List Token) (part : Operand) (first behind : List Token) → OperandReads verb place text → MayStandAt parts place
    → IsPart limited part first → text ≡ first ++ behind → ⊥
not_whole verb limited parts place text part first behind r m p e = by_begin ((operands.exact verb).right place text r)
  where
    b : IsBegun parts text
    b = begun verb parts place text r m

    not_ended : (other : Operand) (place : OperandPlace) → MayStandAt parts place → place ≡ places.Ended other → ⊥
    not_ended other place m e = subst (λ (z : OperandPlace). MayStandAt parts z) e m

    by_begin : Begin (IsPlainOperand verb) text → ⊥
    by_begin (inl (more, other, s)) =
        let w = whole_front limited other part text more first behind (begun_part verb true parts other text more b s) p e in
        not_ended other place m ((operands.exact verb).given place text other r (plain_of_part verb true other text w))
    by_begin (inr c) = by_overlap (overlap c.front (Comma ∷ []) first behind (sym c.comma ∙ e))
      where
        b' : IsBegun parts (c.front ++ Comma ∷ [])
        b' = subst (λ (z : List Token). IsBegun parts z) c.comma b

        short : (behind' : List Token) → c.front ≡ first ++ behind' → ⊥
        short behind' f =
            let s = begun_part verb true parts c.before.1 c.front c.before.0 (begun_front parts c.front b') c.before.2 in
            let w = whole_front limited c.before.1 part c.front c.before.0 first behind' s p f in
            no_comma_on verb parts c.before.1 c.front b' w (subst (λ (z : List Token). CanGoOn (IsPlainOperand verb) false z) c.comma c.longer)

        by_overlap : ((d : List Token) × (first ≡ c.front ++ d) × (Comma ∷ [] ≡ d ++ behind)) ⊎ ((d : List Token) × (c.front ≡ first ++ d) × (behind ≡ d ++ Comma ∷ [])) → ⊥
        by_overlap (inl ([], f, g)) = short [] (sym (append-nil c.front) ∙ sym f ∙ sym (append-nil first))
        by_overlap (inl (sign ∷ d, f, g)) =
            let heads : sign ≡ Comma = cc in
            let none : [] ≡ d ++ behind = cc in
            let last = none_left d behind none in
            ends_in_bracket limited part first c.front p (f ∙ ap (λ (z : List Token). c.front ++ sign ∷ z) last.0 ∙ ap (λ (z : Token). c.front ++ z ∷ []) heads)
        by_overlap (inr (d, f, g)) = short d f

-- a part that follows goes on with what is read
pub record GoesOn (limited : Bool) (text tail : List Token) : Type 0 where
  pub part : Operand
  pub token : Token
  pub more : List Token
  pub others : List Token
  pub spelled : IsPart limited part (text ++ token ∷ more)
  pub tail_is : tail ≡ token ∷ (more ++ others)

pub goes_on : (verb : Verb) (limited : Bool) (parts : List Operand) (place : OperandPlace) (text tail : List Token) → OperandReads verb place text → MayStandAt parts place → Follow limited parts (text ++ tail)
    → GoesOn limited text tail
goes_on verb limited parts place text tail r m (part, others, s, stands) =
    let f = first_of_series (IsPart limited) part others (text ++ tail) s in
    by_overlap f.0 f.1 f.3 (overlap f.0 f.1 text tail (sym f.2))
  where
    by_overlap : (first rest : List Token) → IsPart limited part first
        → ((e : List Token) × (text ≡ first ++ e) × (rest ≡ e ++ tail)) ⊎ ((e : List Token) × (first ≡ text ++ e) × (tail ≡ e ++ rest)) → GoesOn limited text tail
    by_overlap first rest p (inl (e, f, g)) = absurd (not_whole verb limited parts place text part first e r m p f)
    by_overlap first rest p (inr ([], f, g)) = absurd (not_whole verb limited parts place text part first [] r m p (sym (append-nil text) ∙ sym f ∙ sym (append-nil first)))
    by_overlap first rest p (inr (token ∷ more, f, g)) =
        record { part = part; token = token; more = more; others = rest; spelled = subst (λ (z : List Token). IsPart limited part z) f p; tail_is = g }
