-- A value that is an operand is read as it is by itself.
use Rattle.std.proofs.Common.{◌≡◌, inl, inr, List, [], ◌∷◌, ◌++◌, sym, ap, subst, ◌∙◌, Bool, true, false}
use Rattle.sysin_text.specs.declared.token.Token.{Token}
use Rattle.sysin_text.specs.declared.token.Token.TheVariants.{Close}
use Rattle.sysin_values.specs.declared.fault.ValueFault.{ValueFault}
use Rattle.sysin_values.specs.declared.fault.ValueFault.TheVariants as faults
use Rattle.sysin_values.specs.Begun.{CanGoOn, Begin}
use Rattle.sysin_values.specs.Exact.{IsExact, OneValue, EndsAtClose, MayStand, IsWhy, TellsWhy}

-- the same tokens spell a value, and what is made of it
pub record IsMadeOf {X Y : Type 0} (Spells : Bool → X → List Token → Type 0) (Other : Bool → Y → List Token → Type 0) : Type 0 where
  pub wrap : X → Y
  pub inner : (limited : Bool) (y : Y) (text : List Token) → Other limited y text → (x : X) × Spells limited x text × (y ≡ wrap x)
  pub outer : (limited : Bool) (x : X) (text : List Token) → Spells limited x text → Other limited (wrap x) text

pub goes_in : {X Y : Type 0} (Spells : Bool → X → List Token → Type 0) (Other : Bool → Y → List Token → Type 0) → IsMadeOf Spells Other → (limited : Bool) (text : List Token)
    → CanGoOn Other limited text → CanGoOn Spells limited text
goes_in Spells Other made limited text (rest, y, s) = let i = made.inner limited y (text ++ rest) s in (rest, i.0, i.1)

pub goes_out : {X Y : Type 0} (Spells : Bool → X → List Token → Type 0) (Other : Bool → Y → List Token → Type 0) → IsMadeOf Spells Other → (limited : Bool) (text : List Token)
    → CanGoOn Spells limited text → CanGoOn Other limited text
goes_out Spells Other made limited text (rest, x, s) = (rest, made.wrap x, made.outer limited x (text ++ rest) s)

pub begin_in : {X Y : Type 0} (Spells : Bool → X → List Token → Type 0) (Other : Bool → Y → List Token → Type 0) → IsMadeOf Spells Other → (text : List Token) → Begin Other text → Begin Spells text
begin_in Spells Other made text (inl g) = inl (goes_in Spells Other made true text g)
begin_in Spells Other made text (inr e) =
    inr (record { front = e.front; comma = e.comma; before = goes_in Spells Other made true e.front e.before; longer = goes_in Spells Other made false text e.longer })

pub begin_out : {X Y : Type 0} (Spells : Bool → X → List Token → Type 0) (Other : Bool → Y → List Token → Type 0) → IsMadeOf Spells Other → (text : List Token) → Begin Spells text → Begin Other text
begin_out Spells Other made text (inl g) = inl (goes_out Spells Other made true text g)
begin_out Spells Other made text (inr e) =
    inr (record { front = e.front; comma = e.comma; before = goes_out Spells Other made true e.front e.before; longer = goes_out Spells Other made false text e.longer })

stands_in : {X Y : Type 0} (Spells : Bool → X → List Token → Type 0) (Other : Bool → Y → List Token → Type 0) → IsMadeOf Spells Other → (limited : Bool) (text : List Token) (token : Token)
    → MayStand Other limited text token → MayStand Spells limited text token
stands_in Spells Other made limited text token (inl (word, other, sign, g)) = inl (word, other, sign, goes_in Spells Other made limited _ g)
stands_in Spells Other made limited text token (inr g) = inr (goes_in Spells Other made limited _ g)

stands_out : {X Y : Type 0} (Spells : Bool → X → List Token → Type 0) (Other : Bool → Y → List Token → Type 0) → IsMadeOf Spells Other → (limited : Bool) (text : List Token) (token : Token)
    → MayStand Spells limited text token → MayStand Other limited text token
stands_out Spells Other made limited text token (inl (word, other, sign, g)) = inl (word, other, sign, goes_out Spells Other made limited _ g)
stands_out Spells Other made limited text token (inr g) = inr (goes_out Spells Other made limited _ g)

pub why_out : {X Y : Type 0} (Spells : Bool → X → List Token → Type 0) (Other : Bool → Y → List Token → Type 0) → IsMadeOf Spells Other → (text : List Token) (token : Token) (fault : ValueFault)
    → IsWhy Spells text token fault → IsWhy Other text token fault
why_out Spells Other made text token faults.Count (free, bound) = (stands_out Spells Other made false text token free, λ m. bound (stands_in Spells Other made true text token m))
why_out Spells Other made text token faults.Value (m, word, sign) = (stands_out Spells Other made true text token m, word, sign)
why_out Spells Other made text token faults.Word none = λ m. none (stands_in Spells Other made false text token m)
why_out Spells Other made text token faults.NoMemory w = tt

pub one_out : {X Y : Type 0} (Spells : Bool → X → List Token → Type 0) (Other : Bool → Y → List Token → Type 0) → IsMadeOf Spells Other → OneValue Spells → OneValue Other
one_out Spells Other made one left right text a b =
    let i = made.inner true left text a in
    let j = made.inner true right text b in
    i.2 ∙ ap made.wrap (one i.0 j.0 text i.1 j.1) ∙ sym j.2

pub ends_out : {X Y : Type 0} (Spells : Bool → X → List Token → Type 0) (Other : Bool → Y → List Token → Type 0) → IsMadeOf Spells Other → EndsAtClose Spells → EndsAtClose Other
ends_out Spells Other made ends value text s b =
    let i = made.inner true value text s in
    ends i.0 text i.1 (begin_in Spells Other made (text ++ Close ∷ []) b)

-- what is read of a value is what is read of what is made of it
pub record IsReadAs {X Y M N : Type 0} {Spells : Bool → X → List Token → Type 0} {Other : Bool → Y → List Token → Type 0} (made : IsMadeOf Spells Other) (put : M → N)
    (Goes : M → Token → M → Type 0) (Stops : M → Token → ValueFault → Type 0) (Gives : M → X → Type 0) (Reads : M → List Token → Type 0)
    (OtherGoes : N → Token → N → Type 0) (OtherStops : N → Token → ValueFault → Type 0) (OtherGives : N → Y → Type 0) (OtherReads : N → List Token → Type 0) : Type 0 where
  pub read_in : (n : N) (text : List Token) → OtherReads n text → (m : M) × (n ≡ put m) × Reads m text
  pub read_out : (m : M) (text : List Token) → Reads m text → OtherReads (put m) text
  pub goes : (m : M) (token : Token) (n : N) → OtherGoes (put m) token n → (more : M) × Goes m token more × (n ≡ put more)
  pub stops : (m : M) (token : Token) (fault : ValueFault) → OtherStops (put m) token fault → Stops m token fault
  pub gives_in : (m : M) (y : Y) → OtherGives (put m) y → (x : X) × Gives m x × (y ≡ made.wrap x)
  pub gives_out : (m : M) (x : X) → Gives m x → OtherGives (put m) (made.wrap x)

pub exact_out : {X Y M N : Type 0} (Spells : Bool → X → List Token → Type 0) (Other : Bool → Y → List Token → Type 0) (made : IsMadeOf Spells Other) (put : M → N) (start : M)
    (Goes : M → Token → M → Type 0) (Stops : M → Token → ValueFault → Type 0) (Gives : M → X → Type 0) (Reads : M → List Token → Type 0)
    (OtherGoes : N → Token → N → Type 0) (OtherStops : N → Token → ValueFault → Type 0) (OtherGives : N → Y → Type 0) (OtherReads : N → List Token → Type 0)
    → IsReadAs made put Goes Stops Gives Reads OtherGoes OtherStops OtherGives OtherReads → IsExact Spells start Goes Stops Gives Reads
    → IsExact Other (put start) OtherGoes OtherStops OtherGives OtherReads
exact_out {X} {Y} {M} {N} Spells Other made put start Goes Stops Gives Reads OtherGoes OtherStops OtherGives OtherReads as' exact = record {
  begins = as'.read_out start [] exact.begins;
  goes = λ old new text token r g.
      let i = as'.read_in old text r in
      let more = as'.goes i.0 token new (subst (λ (n : N). OtherGoes n token new) i.1 g) in
      subst (λ (n : N). OtherReads n (text ++ token ∷ [])) (sym more.2) (as'.read_out more.0 (text ++ token ∷ []) (exact.goes i.0 more.0 text token i.2 more.1));
  spelled = λ progress text value r g.
      let i = as'.read_in progress text r in
      let x = as'.gives_in i.0 value (subst (λ (n : N). OtherGives n value) i.1 g) in
      subst (λ (y : Y). Other true y text) (sym x.2) (made.outer true x.0 text (exact.spelled i.0 text x.0 i.2 x.1));
  given = λ progress text value r s.
      let i = as'.read_in progress text r in
      let x = made.inner true value text s in
      let g = as'.gives_out i.0 x.0 (exact.given i.0 text x.0 i.2 x.1) in
      subst (λ (n : N). OtherGives n value) (sym i.1) (subst (λ (y : Y). OtherGives (put i.0) y) (sym x.2) g);
  right = λ progress text r. let i = as'.read_in progress text r in begin_out Spells Other made text (exact.right i.0 text i.2);
  wrong = λ progress text token fault r stop real begun.
      let i = as'.read_in progress text r in
      exact.wrong i.0 text token fault i.2 (as'.stops i.0 token fault (subst (λ (n : N). OtherStops n token fault) i.1 stop)) real (begin_in Spells Other made (text ++ token ∷ []) begun);
}

pub tells_out : {X Y M N : Type 0} (Spells : Bool → X → List Token → Type 0) (Other : Bool → Y → List Token → Type 0) (made : IsMadeOf Spells Other) (put : M → N)
    (Goes : M → Token → M → Type 0) (Stops : M → Token → ValueFault → Type 0) (Gives : M → X → Type 0) (Reads : M → List Token → Type 0)
    (OtherGoes : N → Token → N → Type 0) (OtherStops : N → Token → ValueFault → Type 0) (OtherGives : N → Y → Type 0) (OtherReads : N → List Token → Type 0)
    → IsReadAs made put Goes Stops Gives Reads OtherGoes OtherStops OtherGives OtherReads → TellsWhy Spells Stops Reads → TellsWhy Other OtherStops OtherReads
tells_out {X} {Y} {M} {N} Spells Other made put Goes Stops Gives Reads OtherGoes OtherStops OtherGives OtherReads as' why progress text token fault r stop =
    let i = as'.read_in progress text r in
    why_out Spells Other made text token fault (why i.0 text token fault i.2 (as'.stops i.0 token fault (subst (λ (n : N). OtherStops n token fault) i.1 stop)))
