-- One word in brackets is read exactly.
use Rattle.std.proofs.Common.{◌≡◌, inl, inr, ℕ, List, [], ◌∷◌, ◌++◌, refl, sym, ap, subst, ◌∙◌, Bool, true, false, append-nil}
use Rattle.sysin_text.specs.declared.token.Token.{Token}
use Rattle.sysin_text.specs.declared.token.Token.TheVariants.{Close, Word}
use Rattle.sysin_forms.specs.declared.operand.Operand.{Operand}
use Rattle.sysin_forms.specs.declared.operand.Operand.TheVariants as operands
use Rattle.sysin_values.specs.declared.fault.ValueFault.{ValueFault}
use Rattle.sysin_values.specs.declared.fault.ValueFault.TheVariants as faults
use Rattle.sysin_values.specs.Begun.{CanGoOn, Begin}
use Rattle.sysin_values.specs.Exact.{IsExact, OneValue, EndsAtClose, MayStand, IsWhy, TellsWhy}
use Rattle.sysin_values.proofs.Said.{one_serial, one_dd_name, one_number}
use Rattle.sysin_operands.specs.declared.bracket.Single.{Single}
use Rattle.sysin_operands.specs.declared.bracket.Single.TheVariants as singles
use Rattle.sysin_operands.specs.declared.bracket.Bracket.TheVariants as brackets
use Rattle.sysin_operands.specs.declared.content.Content.{Content}
use Rattle.sysin_operands.specs.declared.content.Content.TheVariants as contents
use Rattle.sysin_operands.specs.Bracket.{SaysSingle, IsContent}
use Rattle.sysin_operands.specs.Content.{ContentGoes, ContentStops, ContentGives, ContentReads}
use Rattle.sysin_operands.proofs.Samples.{sample}

-- a word says one operand at most
says_one : (single : Single) (word : List ℕ) (x y : Operand) → SaysSingle single word x → SaysSingle single word y → x ≡ y
says_one singles.Unit word x y (a, s, e) (b, t, f) = e ∙ ap operands.Unit (one_serial word a b s t) ∙ sym f
says_one singles.LogicalUnit word x y (a, s, e) (b, t, f) = e ∙ ap operands.LogicalUnit (one_serial word a b s t) ∙ sym f
says_one singles.Input word x y (a, s, e) (b, t, f) = e ∙ ap operands.Input (one_dd_name word a b s t) ∙ sym f
says_one singles.Target word x y (a, s, e) (b, t, f) = e ∙ ap operands.Target (one_serial word a b s t) ∙ sym f
says_one singles.Index word x y (a, s, e) (b, t, f) = e ∙ ap operands.Index (one_number 1 999 word a b s t) ∙ sym f
says_one singles.Limit word x y (a, s, e) (b, t, f) = e ∙ ap operands.Limit (one_number 1 65535 word a b s t) ∙ sym f
says_one singles.Tolerate word x y (a, e) (b, f) = e ∙ sym f
says_one singles.Optimize word x y (a, e) (b, f) = e ∙ sym f

abbrev pub Spells : Single → Bool → Operand → List Token → Type 0
Spells single = IsContent (brackets.Single single)

abbrev pub ReadsBy : Single → Content → List Token → Type 0
ReadsBy single = ContentReads (brackets.Single single)

pub one : (single : Single) → OneValue (Spells single)
one single x y text (w, e, s) (v, f, t) =
    let both : Word w ∷ [] ≡ Word v ∷ [] = sym e ∙ f in
    let same : v ≡ w = cc in
    says_one single w x y s (subst (λ (z : List ℕ). SaysSingle single z y) same t)

goes : (single : Single) (old new : Content) (text : List Token) (token : Token) → ReadsBy single old text → ContentGoes old token new → ReadsBy single new (text ++ token ∷ [])
goes single (contents.Single other) new text token (same, e) (word, operand, sign, says, is) =
    subst (λ (c : Content). ReadsBy single c (text ++ token ∷ [])) (sym is) (
      word,
      ap (λ (t : List Token). t ++ token ∷ []) e ∙ ap (λ (t : Token). t ∷ []) sign,
      subst (λ (z : Single). SaysSingle z word operand) same says,
    )
goes single (contents.Said operand) new text token r g = absurd g
goes single (contents.Include old) new text token r g = absurd r
goes single (contents.Exclude old) new text token r g = absurd r
goes single (contents.By old) new text token r g = absurd r
goes single (contents.Outputs old) new text token r g = absurd r
goes single (contents.Rename old) new text token r g = absurd r
goes single (contents.Wait old) new text token r g = absurd r

spelled : (single : Single) (progress : Content) (text : List Token) (value : Operand) → ReadsBy single progress text → ContentGives progress value → Spells single true value text
spelled single (contents.Single other) text value r g = absurd g
spelled single (contents.Said operand) text value (word, e, says) g = (word, e, subst (SaysSingle single word) g says)
spelled single (contents.Include old) text value r g = absurd r
spelled single (contents.Exclude old) text value r g = absurd r
spelled single (contents.By old) text value r g = absurd r
spelled single (contents.Outputs old) text value r g = absurd r
spelled single (contents.Rename old) text value r g = absurd r
spelled single (contents.Wait old) text value r g = absurd r

given : (single : Single) (progress : Content) (text : List Token) (value : Operand) → ReadsBy single progress text → Spells single true value text → ContentGives progress value
given single (contents.Single other) text value (same, e) (word, f, says) = let both : [] ≡ Word word ∷ [] = sym e ∙ f in cc
given single (contents.Said operand) text value r s = one single operand value text r s
given single (contents.Include old) text value r s = absurd r
given single (contents.Exclude old) text value r s = absurd r
given single (contents.By old) text value r s = absurd r
given single (contents.Outputs old) text value r s = absurd r
given single (contents.Rename old) text value r s = absurd r
given single (contents.Wait old) text value r s = absurd r

-- with a word it is whole
sample_stands : (single : Single) (text : List Token) → text ≡ [] → CanGoOn (Spells single) true (text ++ Word (sample single).0 ∷ [])
sample_stands single text e =
    let s = sample single in
    ([], s.1, (s.0, append-nil (text ++ Word s.0 ∷ []) ∙ ap (λ (t : List Token). t ++ Word s.0 ∷ []) e, s.2))

right : (single : Single) (progress : Content) (text : List Token) → ReadsBy single progress text → CanGoOn (Spells single) true text
right single (contents.Single other) text (same, e) =
    let s = sample single in
    (Word s.0 ∷ [], s.1, (s.0, ap (λ (t : List Token). t ++ Word s.0 ∷ []) e, s.2))
right single (contents.Said operand) text (word, e, says) = ([], operand, (word, append-nil text ∙ e, says))
right single (contents.Include old) text r = absurd r
right single (contents.Exclude old) text r = absurd r
right single (contents.By old) text r = absurd r
right single (contents.Outputs old) text r = absurd r
right single (contents.Rename old) text r = absurd r
right single (contents.Wait old) text r = absurd r

-- which token may stand
abbrev Fits : Single → Content → Token → Type 0
Fits single (contents.Single other) token = (word : List ℕ) × (operand : Operand) × (token ≡ Word word) × SaysSingle single word operand
Fits single _ token = ⊥

needs : (single : Single) (progress : Content) (text : List Token) (token : Token) (limited : Bool) → ReadsBy single progress text → CanGoOn (Spells single) limited (text ++ token ∷ []) → Fits single progress token
needs single (contents.Single other) text token limited (same, e) (rest, operand, (word, f, says)) =
    let both : token ∷ rest ≡ Word word ∷ [] = ap (λ (t : List Token). (t ++ token ∷ []) ++ rest) (sym e) ∙ f in
    (word, operand, cc, says)
needs single (contents.Said said) text token limited (w, e, s) (rest, operand, (word, f, says)) =
    let both : Word w ∷ token ∷ rest ≡ Word word ∷ [] = ap (λ (t : List Token). (t ++ token ∷ []) ++ rest) (sym e) ∙ f in
    cc
needs single (contents.Include old) text token limited r g = absurd r
needs single (contents.Exclude old) text token limited r g = absurd r
needs single (contents.By old) text token limited r g = absurd r
needs single (contents.Outputs old) text token limited r g = absurd r
needs single (contents.Rename old) text token limited r g = absurd r
needs single (contents.Wait old) text token limited r g = absurd r

fits_no_more : (single : Single) (progress : Content) (text : List Token) (token : Token) (fault : ValueFault) → ReadsBy single progress text → ContentStops progress token fault → Fits single progress token → ⊥
fits_no_more single (contents.Single other) text token faults.Count r stop f = stop
fits_no_more single (contents.Single other) text token faults.Value (same, e) (word, sign, none) (w, operand, is, says) =
    let words : w ≡ word = cc in
    none operand (subst (λ (z : Single). SaysSingle z word operand) (sym same) (subst (λ (z : List ℕ). SaysSingle single z operand) words says))
fits_no_more single (contents.Single other) text token faults.Word r stop (w, operand, is, says) = stop w is
fits_no_more single (contents.Single other) text token faults.NoMemory r stop f = stop
fits_no_more single (contents.Said said) text token fault r stop f = f
fits_no_more single (contents.Include old) text token fault r stop f = f
fits_no_more single (contents.Exclude old) text token fault r stop f = f
fits_no_more single (contents.By old) text token fault r stop f = f
fits_no_more single (contents.Outputs old) text token fault r stop f = f
fits_no_more single (contents.Rename old) text token fault r stop f = f
fits_no_more single (contents.Wait old) text token fault r stop f = f

-- not even where no list has a limit
pub stopped : (single : Single) (limited : Bool) (progress : Content) (text : List Token) (token : Token) (fault : ValueFault) → ReadsBy single progress text → ContentStops progress token fault
    → ¬ CanGoOn (Spells single) limited (text ++ token ∷ [])
stopped single limited progress text token fault r stop g = fits_no_more single progress text token fault r stop (needs single progress text token limited r g)

wrong : (single : Single) (progress : Content) (text : List Token) (token : Token) (fault : ValueFault) → ReadsBy single progress text → ContentStops progress token fault → ¬ (fault ≡ faults.NoMemory)
    → ¬ Begin (Spells single) (text ++ token ∷ [])
wrong single progress text token fault r stop real (inl g) = stopped single true progress text token fault r stop g
wrong single progress text token fault r stop real (inr e) = stopped single false progress text token fault r stop e.longer

pub exact : (single : Single) → IsExact (Spells single) (contents.Single single) ContentGoes ContentStops ContentGives (ReadsBy single)
exact single = record {
  begins = (refl, refl);
  goes = goes single;
  spelled = spelled single;
  given = given single;
  right = λ progress text r. inl (right single progress text r);
  wrong = wrong single;
}

why : (single : Single) (progress : Content) (text : List Token) (token : Token) (fault : ValueFault) → ReadsBy single progress text → ContentStops progress token fault → IsWhy (Spells single) text token fault
why single (contents.Single other) text token faults.Count r stop = absurd stop
why single (contents.Single other) text token faults.Value (same, e) (word, sign, none) =
    (inl (word, (sample single).0, sign, sample_stands single text e), word, sign)
why single (contents.Single other) text token faults.Word r stop = λ m. stands_not m
  where
    stands_not : MayStand (Spells single) false text token → ⊥
    stands_not (inl (word, o, sign, g)) = stop word sign
    stands_not (inr g) = let f = needs single (contents.Single other) text token false r g in stop f.0 f.2
why single (contents.Single other) text token faults.NoMemory r stop = absurd stop
why single (contents.Said said) text token faults.Count r stop = cc
why single (contents.Said said) text token faults.Value r stop = cc
why single (contents.Said said) text token faults.Word r stop = λ m. stands_not m
  where
    stands_not : MayStand (Spells single) false text token → ⊥
    stands_not (inl (word, o, sign, g)) = needs single (contents.Said said) text (Word o) false r g
    stands_not (inr g) = needs single (contents.Said said) text token false r g
why single (contents.Said said) text token faults.NoMemory r stop = cc
why single (contents.Include old) text token fault r stop = absurd r
why single (contents.Exclude old) text token fault r stop = absurd r
why single (contents.By old) text token fault r stop = absurd r
why single (contents.Outputs old) text token fault r stop = absurd r
why single (contents.Rename old) text token fault r stop = absurd r
why single (contents.Wait old) text token fault r stop = absurd r

pub tells_why : (single : Single) → TellsWhy (Spells single) ContentStops (ReadsBy single)
tells_why = why

-- what is spelled is read
pub read : (single : Single) (value : Operand) (text : List Token) → Spells single true value text → ReadsBy single (contents.Said value) text
read single value text s = s

pub ends : (single : Single) → EndsAtClose (Spells single)
ends single value text s = wrong single (contents.Said value) text Close faults.Word s refl (λ e. cc)
