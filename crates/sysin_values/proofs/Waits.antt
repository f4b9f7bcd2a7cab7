-- The numbers of WAIT are read exactly.
use Rattle.std.proofs.Common.{◌≡◌, inl, inr, ℕ, List, [], ◌∷◌, ◌++◌, refl, sym, ap, subst, ◌∙◌, Bool, true, false, arith, append-nil}
use Rattle.std.specs.Prelude.{codes}
use Rattle.sysin_text.specs.declared.token.Token.{Token}
use Rattle.sysin_text.specs.declared.token.Token.TheVariants.{Comma, Word}
use Rattle.sysin_values.specs.declared.fault.ValueFault.{ValueFault}
use Rattle.sysin_values.specs.declared.fault.ValueFault.TheVariants as faults
use Rattle.sysin_values.specs.declared.place.WaitPlace.{WaitPlace}
use Rattle.sysin_values.specs.declared.place.WaitPlace.TheVariants as places
use Rattle.sysin_values.specs.Values.{IsWaiting}
use Rattle.sysin_values.specs.Begun.{CanGoOn, Begin}
use Rattle.sysin_values.specs.Exact.{IsExact, MayStand, IsWhy, TellsWhy}
use Rattle.sysin_values.specs.Wait.{SaysWait, WaitFits, NumberToken, NumbersNone, WantsNumber, WaitGoes, WaitStops, WaitReads, SpellsWait, WaitGives}

-- the three tokens of both numbers
pub waiting_is : (text : List Token) → IsWaiting text → WaitReads places.Ended text
waiting_is text ([], two, l) = absurd l
waiting_is text (a ∷ [], two, l) = absurd (omega arith)
waiting_is text (a ∷ b ∷ [], two, (front, rest, e, (w, f, s), (v, g, u))) =
    let same : text ≡ Word w ∷ Comma ∷ rest = e ∙ ap (λ (t : List Token). t ++ Comma ∷ rest) f in
    (w, a, v, b, same ∙ ap (λ (t : List Token). Word w ∷ Comma ∷ t) g, s, u)
waiting_is text (a ∷ b ∷ c ∷ more, two, l) = absurd (omega arith)

is_waiting : (text : List Token) → WaitReads places.Ended text → IsWaiting text
is_waiting text (w, a, v, b, e, s, u) = (a ∷ b ∷ [], refl, (Word w ∷ [], Word v ∷ [], e, (w, refl, s), (v, refl, u)))

known : (text more : List Token) (token : Token) → text ≡ more → text ++ token ∷ [] ≡ more ++ token ∷ []
known text more token e = ap (λ (t : List Token). t ++ token ∷ []) e

goes : (old new : WaitPlace) (text : List Token) (token : Token) → WaitReads old text → WaitGoes old token new → WaitReads new (text ++ token ∷ [])
goes places.First new text token r (t, is) =
    subst (λ (p : WaitPlace). WaitReads p (text ++ token ∷ [])) (sym is) (t.word, t.number, known text [] token r ∙ ap (λ (s : Token). s ∷ []) t.sign, t.says)
goes places.Between new text token (w, a, e, s) (sign, is) =
    subst (λ (p : WaitPlace). WaitReads p (text ++ token ∷ [])) (sym is) (w, a, known text (Word w ∷ []) token e ∙ ap (λ (s : Token). Word w ∷ s ∷ []) sign, s)
goes places.Second new text token (w, a, e, s) (t, is) =
    subst (λ (p : WaitPlace). WaitReads p (text ++ token ∷ [])) (sym is) (
      w,
      a,
      t.word,
      t.number,
      known text (Word w ∷ Comma ∷ []) token e ∙ ap (λ (s : Token). Word w ∷ Comma ∷ s ∷ []) t.sign,
      s,
      t.says,
    )
goes places.Ended new text token r g = absurd g

a_word : List ℕ
a_word = codes "0"

a_number : SaysWait a_word 0
unfolding a_word
a_number = refl

-- what can still come
right : (place : WaitPlace) (text : List Token) → WaitReads place text → CanGoOn SpellsWait true text
right places.First text r =
    let rest : List Token = Word a_word ∷ Comma ∷ Word a_word ∷ [] in
    (rest, tt, is_waiting (text ++ rest) (a_word, 0, a_word, 0, ap (λ (t : List Token). t ++ rest) r, a_number, a_number))
right places.Between text (w, a, e, s) =
    let rest : List Token = Comma ∷ Word a_word ∷ [] in
    (rest, tt, is_waiting (text ++ rest) (w, a, a_word, 0, ap (λ (t : List Token). t ++ rest) e, s, a_number))
right places.Second text (w, a, e, s) =
    let rest : List Token = Word a_word ∷ [] in
    (rest, tt, is_waiting (text ++ rest) (w, a, a_word, 0, ap (λ (t : List Token). t ++ rest) e, s, a_number))
right places.Ended text (w, a, v, b, e, s, u) =
    ([], tt, is_waiting (text ++ []) (w, a, v, b, append-nil text ∙ e, s, u))

-- which token must stand next
abbrev pub IsNext : WaitPlace → Token → Type 0
IsNext places.First token = NumberToken token
IsNext places.Between token = token ≡ Comma
IsNext places.Second token = NumberToken token
IsNext places.Ended token = ⊥

needs : (place : WaitPlace) (text : List Token) (token : Token) (limited : Bool) → WaitReads place text → CanGoOn SpellsWait limited (text ++ token ∷ []) → IsNext place token
needs places.First text token limited r (rest, nothing, waiting) =
    let w = waiting_is ((text ++ token ∷ []) ++ rest) waiting in
    let both : token ∷ rest ≡ Word w.0 ∷ Comma ∷ Word w.2 ∷ [] = ap (λ (t : List Token). (t ++ token ∷ []) ++ rest) (sym r) ∙ w.4 in
    record { word = w.0; number = w.1; sign = cc; says = w.5 }
needs places.Between text token limited (v, a, e, s) (rest, nothing, waiting) =
    let w = waiting_is ((text ++ token ∷ []) ++ rest) waiting in
    let both : Word v ∷ token ∷ rest ≡ Word w.0 ∷ Comma ∷ Word w.2 ∷ [] = ap (λ (t : List Token). (t ++ token ∷ []) ++ rest) (sym e) ∙ w.4 in
    cc
needs places.Second text token limited (v, a, e, s) (rest, nothing, waiting) =
    let w = waiting_is ((text ++ token ∷ []) ++ rest) waiting in
    let both : Word v ∷ Comma ∷ token ∷ rest ≡ Word w.0 ∷ Comma ∷ Word w.2 ∷ [] = ap (λ (t : List Token). (t ++ token ∷ []) ++ rest) (sym e) ∙ w.4 in
    record { word = w.2; number = w.3; sign = cc; says = w.6 }
needs places.Ended text token limited (v, a, u, b, e, s, t) (rest, nothing, waiting) =
    let w = waiting_is ((text ++ token ∷ []) ++ rest) waiting in
    let both : Word v ∷ Comma ∷ Word u ∷ token ∷ rest ≡ Word w.0 ∷ Comma ∷ Word w.2 ∷ [] = ap (λ (t : List Token). (t ++ token ∷ []) ++ rest) (sym e) ∙ w.4 in
    cc

fits : (place : WaitPlace) (token : Token) → IsNext place token → WaitFits place token
fits places.First token n = (n.word, n.sign)
fits places.Between token n = n
fits places.Second token n = (n.word, n.sign)
fits places.Ended token n = n

no_number : (token : Token) → NumberToken token → NumbersNone token → ⊥
no_number token t none =
    let a = t.sign in
    let b = none.sign in
    let same : t.word ≡ none.word = cc in
    none.none t.number (subst (λ (w : List ℕ). SaysWait w t.number) same t.says)

stopped : (place : WaitPlace) (token : Token) (fault : ValueFault) → WaitStops place token fault → IsNext place token → ⊥
stopped place token faults.Count stop n = stop
stopped place token faults.Value (inl first, none) n = no_number token (subst (λ (p : WaitPlace). IsNext p token) first n) none
stopped place token faults.Value (inr second, none) n = no_number token (subst (λ (p : WaitPlace). IsNext p token) second n) none
stopped place token faults.Word stop n = stop (fits place token n)
stopped place token faults.NoMemory stop n = stop

wrong : (place : WaitPlace) (text : List Token) (token : Token) (fault : ValueFault) → WaitReads place text → WaitStops place token fault → ¬ (fault ≡ faults.NoMemory) → ¬ Begin SpellsWait (text ++ token ∷ [])
wrong place text token fault r stop real (inl g) = stopped place token fault stop (needs place text token true r g)
wrong place text token fault r stop real (inr e) = stopped place token fault stop (needs place text token false r e.longer)

given : (place : WaitPlace) (text : List Token) → WaitReads place text → IsWaiting text → place ≡ places.Ended
given places.First text r waiting = let w = waiting_is text waiting in let e = w.4 in cc
given places.Between text r waiting = let w = waiting_is text waiting in let e = w.4 in let f = r.2 in cc
given places.Second text r waiting = let w = waiting_is text waiting in let e = w.4 in let f = r.2 in cc
given places.Ended text r waiting = refl

-- ---- why

number_stands : (place : WaitPlace) (text : List Token) → WantsNumber place → WaitReads place text → CanGoOn SpellsWait true (text ++ Word a_word ∷ [])
number_stands places.First text wants r =
    right places.Between (text ++ Word a_word ∷ []) (goes places.First places.Between text (Word a_word) r (record { word = a_word; number = 0; sign = refl; says = a_number }, refl))
number_stands places.Between text (inl first) r = cc
number_stands places.Between text (inr second) r = cc
number_stands places.Second text wants r =
    right places.Ended (text ++ Word a_word ∷ []) (goes places.Second places.Ended text (Word a_word) r (record { word = a_word; number = 0; sign = refl; says = a_number }, refl))
number_stands places.Ended text (inl first) r = cc
number_stands places.Ended text (inr second) r = cc

fits_too : (place : WaitPlace) (word other : List ℕ) → WaitFits place (Word other) → WaitFits place (Word word)
fits_too places.First word other f = (word, refl)
fits_too places.Between word other f = cc
fits_too places.Second word other f = (word, refl)
fits_too places.Ended word other f = f

may_stand_fits : (place : WaitPlace) (text : List Token) (token : Token) → WaitReads place text → MayStand SpellsWait false text token → WaitFits place token
may_stand_fits place text token r (inl (word, other, sign, g)) =
    subst (λ (t : Token). WaitFits place t) (sym sign) (fits_too place word other (fits place (Word other) (needs place text (Word other) false r g)))
may_stand_fits place text token r (inr g) = fits place token (needs place text token false r g)

why : (place : WaitPlace) (text : List Token) (token : Token) (fault : ValueFault) → WaitReads place text → WaitStops place token fault → IsWhy SpellsWait text token fault
why place text token faults.Count r stop = absurd stop
why place text token faults.Value r (wants, none) = (inl (none.word, a_word, none.sign, number_stands place text wants r), none.word, none.sign)
why place text token faults.Word r stop = λ m. stop (may_stand_fits place text token r m)
why place text token faults.NoMemory r stop = tt

pub exact : IsExact SpellsWait places.First WaitGoes WaitStops WaitGives WaitReads
exact = record {
  begins = refl;
  goes = goes;
  spelled = λ place text nothing r ended. is_waiting text (subst (λ (p : WaitPlace). WaitReads p text) ended r);
  given = λ place text nothing r waiting. given place text r waiting;
  right = λ place text r. inl (right place text r);
  wrong = wrong;
}

pub tells_why : TellsWhy SpellsWait WaitStops WaitReads
tells_why = why
