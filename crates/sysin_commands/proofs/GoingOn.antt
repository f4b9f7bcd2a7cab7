-- How an operand that is read in part goes on.
use Rattle.std.proofs.Common.{◌≡◌, ◌⊎◌, inl, inr, List, [], ◌∷◌, ◌++◌, sym, ap, subst, ◌∙◌, Bool, true, false, append_assoc, append-nil}
use Rattle.std.proofs.lemmas.List.{same_from_push}
use Rattle.sysin_text.specs.declared.token.Token.{Token}
use Rattle.sysin_text.specs.declared.token.Token.TheVariants.{Comma, Open, Close, Word}
use Rattle.sysin_words.specs.declared.lead.Verb.{Verb}
use Rattle.sysin_forms.specs.declared.operand.Operand.{Operand}
use Rattle.sysin_forms.specs.Operand.{name_of}
use Rattle.sysin_values.specs.Begun.{CanGoOn, Begin}
use Rattle.sysin_filters.proofs.Series.{first_of_series}
use Rattle.sysin_commands.specs.declared.operand.AnyPlace.{AnyPlace}
use Rattle.sysin_commands.specs.Operand.{IsOperand}
use Rattle.sysin_commands.specs.AnyOperand.{AnyGives, AnyReads}
use Rattle.sysin_commands.specs.CommandProgress.{may_stand, IsBegun}
use Rattle.sysin_commands.proofs.FirstWord.{none_behind}
use Rattle.sysin_commands.proofs.AnyOperands as operands
use Rattle.sysin_commands.proofs.Agreeing.{named, cut}
use Rattle.sysin_commands.proofs.Following.{Follow}
use Rattle.sysin_filters.proofs.Begun.{none_left}
use Rattle.sysin_values.proofs.LongCriteria.{overlap}

-- an operand that begins so may stand
pub begun_stands : (verb : Verb) (limited : Bool) (list : List Operand) (operand : Operand) (text more : List Token) → IsBegun verb list text → IsOperand verb limited operand (text ++ more)
    → may_stand verb list (name_of operand) ≡ true
begun_stands verb limited list operand text more b s =
    let n = named verb limited operand (text ++ more) s in
    let both : Word b.word ∷ (b.tail ++ more) ≡ Word n.word ∷ n.tail = sym (ap (λ (t : List Token). t ++ more) b.tokens) ∙ n.tokens in
    let words : n.word ≡ b.word = cc in
    let k = b.spelled in
    let l = n.spelled in
    let keys : name_of operand ≡ b.keyword = cc in
    ap (may_stand verb list) keys ∙ b.stands

pub begun_more : (verb : Verb) (list : List Operand) (text more : List Token) → IsBegun verb list text → IsBegun verb list (text ++ more)
begun_more verb list text more b =
    record { word = b.word; tail = b.tail ++ more; keyword = b.keyword; tokens = ap (λ (t : List Token). t ++ more) b.tokens; spelled = b.spelled; stands = b.stands }

-- the same without a comma behind it
pub begun_front : (verb : Verb) (list : List Operand) (front : List Token) → IsBegun verb list (front ++ Comma ∷ []) → IsBegun verb list front
begun_front verb list [] b = let e = b.tokens in cc
begun_front verb list (sign ∷ front) b =
    let e = b.tokens in
    let heads : sign ≡ Word b.word = cc in
    record { word = b.word; tail = front; keyword = b.keyword; tokens = ap (λ (s : Token). s ∷ front) heads; spelled = b.spelled; stands = b.stands }

-- ---- no operand ends in a comma

no_last : (front text : List Token) (last : Token) → ¬ (last ≡ Comma) → text ++ last ∷ [] ≡ front ++ Comma ∷ [] → ⊥
no_last front text last other e = other (same_from_push text front last Comma e).1

ends_otherwise : (verb : Verb) (limited : Bool) (operand : Operand) (text front : List Token) → IsOperand verb limited operand text → text ≡ front ++ Comma ∷ [] → ⊥
ends_otherwise verb limited operand text front (inl (inl (keyword, a, (word, e, k)))) f = no_last front [] (Word word) (λ same. cc) (sym e ∙ f)
ends_otherwise verb limited operand text front (inl (inr (keyword, bracket, b, r))) f = no_last front (Word r.word ∷ Open ∷ r.content) Close (λ same. cc) (sym r.tokens ∙ f)
ends_otherwise verb limited operand text front (inr (filter, is, r)) f = no_last front (Word r.word ∷ Open ∷ r.content) Close (λ same. cc) (sym r.tokens ∙ f)

-- tokens that go on as an operand and have one in front are that operand
whole_front : (verb : Verb) (limited : Bool) (operand other : Operand) (text more first behind : List Token) → IsOperand verb true operand (text ++ more) → IsOperand verb limited other first
    → text ≡ first ++ behind → IsOperand verb true operand text
whole_front verb limited operand other text more first behind s t e =
    let whole : (text ++ more) ++ [] ≡ first ++ (behind ++ more) = append-nil (text ++ more) ∙ ap (λ (z : List Token). z ++ more) e ∙ append_assoc first behind more in
    let c = cut verb limited operand other (text ++ more) first [] (behind ++ more) s t whole in
    let none = none_left behind more c.1 in
    subst (λ (z : List Token). IsOperand verb true operand z) (ap (λ (z : List Token). text ++ z) none.1 ∙ append-nil text) s

-- what is read in part has no operand in front
not_whole : (verb : Verb) (limited : Bool) (place : AnyPlace) (text : List Token) (operand : Operand) (first behind : List Token) → AnyReads verb place text
    → ((given : Operand) → ¬ AnyGives place given) → IsOperand verb limited operand first → text ≡ first ++ behind → ⊥
not_whole verb limited place text operand first behind r part p e = by_begin ((operands.exact verb).right place text r)
  where
    by_begin : Begin (IsOperand verb) text → ⊥
    by_begin (inl (more, other, s)) = part other ((operands.exact verb).given place text other r (whole_front verb limited other operand text more first behind s p e))
    by_begin (inr c) = by_overlap (overlap c.front (Comma ∷ []) first behind (sym c.comma ∙ e))
      where
        short : (behind' : List Token) → c.front ≡ first ++ behind' → ⊥
        short behind' f =
            let w = whole_front verb limited c.before.1 operand c.front c.before.0 first behind' c.before.2 p f in
            none_behind verb false c.before.1 c.front Comma w (subst (λ (z : List Token). CanGoOn (IsOperand verb) false z) c.comma c.longer)

        by_overlap : ((d : List Token) × (first ≡ c.front ++ d) × (Comma ∷ [] ≡ d ++ behind)) ⊎ ((d : List Token) × (c.front ≡ first ++ d) × (behind ≡ d ++ Comma ∷ [])) → ⊥
        by_overlap (inl ([], f, g)) = short [] (sym (append-nil c.front) ∙ sym f ∙ sym (append-nil first))
        by_overlap (inl (sign ∷ d, f, g)) =
            let heads : sign ≡ Comma = cc in
            let none : [] ≡ d ++ behind = cc in
            let last = none_left d behind none in
            ends_otherwise verb limited operand first c.front p (f ∙ ap (λ (z : List Token). c.front ++ sign ∷ z) last.0 ∙ ap (λ (z : Token). c.front ++ z ∷ []) heads)
        by_overlap (inr (d, f, g)) = short d f

-- an operand that follows goes on with what is read
pub record GoesOn (verb : Verb) (limited : Bool) (text tail : List Token) : Type 0 where
  pub operand : Operand
  pub token : Token
  pub more : List Token
  pub others : List Token
  pub spelled : IsOperand verb limited operand (text ++ token ∷ more)
  pub tail_is : tail ≡ token ∷ (more ++ others)

pub goes_on : (verb : Verb) (limited : Bool) (list : List Operand) (place : AnyPlace) (text tail : List Token) → AnyReads verb place text → ((given : Operand) → ¬ AnyGives place given)
    → Follow verb limited list (text ++ tail) → GoesOn verb limited text tail
goes_on verb limited list place text tail r part (operand, others, s, stands) =
    let f = first_of_series (IsOperand verb limited) operand others (text ++ tail) s in
    by_overlap f.0 f.1 f.3 (overlap f.0 f.1 text tail (sym f.2))
  where
    by_overlap : (first rest : List Token) → IsOperand verb limited operand first
        → ((e : List Token) × (text ≡ first ++ e) × (rest ≡ e ++ tail)) ⊎ ((e : List Token) × (first ≡ text ++ e) × (tail ≡ e ++ rest)) → GoesOn verb limited text tail
    by_overlap first rest p (inl (e, f, g)) = absurd (not_whole verb limited place text operand first e r part p f)
    by_overlap first rest p (inr ([], f, g)) = absurd (not_whole verb limited place text operand first [] r part p (sym (append-nil text) ∙ sym f ∙ sym (append-nil first)))
    by_overlap first rest p (inr (token ∷ more, f, g)) =
        record { operand = operand; token = token; more = more; others = rest; spelled = subst (λ (z : List Token). IsOperand verb limited operand z) f p; tail_is = g }
