-- Lists of words are read exactly.
use Rattle.std.proofs.Common.{◌≡◌, ◌⊎◌, inl, inr, ℕ, ◌+◌, ◌<◌, ◌≤◌, List, [], ◌∷◌, ◌++◌, length, refl, sym, ap, subst, ◌∙◌, Bool, true, false, arith, append_assoc, append-nil}
use Rattle.std.specs.Prelude.{IsTrue}
use Rattle.std.proofs.lemmas.List.{same_from_push, length_push}
use Rattle.std.proofs.Math.Nat.{eq-or-lt_of_le}
use Rattle.sysin_text.specs.declared.token.Token.{Token}
use Rattle.sysin_text.specs.declared.token.Token.TheVariants.{Comma, Word}
use Rattle.sysin_values.specs.declared.fault.ValueFault.{ValueFault}
use Rattle.sysin_values.specs.declared.fault.ValueFault.TheVariants as faults
use Rattle.sysin_values.specs.Series.{IsListOf, IsFew, IsBefore}
use Rattle.sysin_values.specs.Values.{IsWordOf}
use Rattle.sysin_values.specs.Begun.{CanGoOn, Begin, EndWithComma}
use Rattle.sysin_values.specs.Exact.{IsExact, MayStand, IsWhy, TellsWhy}
use Rattle.sysin_values.specs.Progress.{Progress, start, Goes, Stops, Reads, Gives}
use Rattle.sysin_values.proofs.Lists.{IsClosed, IsOne, before_more, behind_list, behind_before, one_list, IsRest}

-- each word says one value at most, and some word says one
pub record IsSaid {X : Type 0} (Says : List ℕ → X → Type 0) (most : ℕ) : Type 0 where
  pub one : (word : List ℕ) (x y : X) → Says word x → Says word y → x ≡ y
  pub sample : List ℕ
  pub value : X
  pub says : Says sample value
  pub some : 0 < most

-- lists of at most so many words
abbrev pub AreWords : {X : Type 0} → (List ℕ → X → Type 0) → ℕ → Bool → List X → List Token → Type 0
AreWords Says most limited list text = IsListOf (IsWordOf Says) list text × IsFew limited most list

pub closed_word : {X : Type 0} (Says : List ℕ → X → Type 0) → IsClosed (IsWordOf Says)
closed_word Says x y s t a b (w, e, sx) (v, f, sy) same =
    let both : Word w ∷ a ≡ Word v ∷ b = sym (ap (λ (u : List Token). u ++ a) e) ∙ same ∙ ap (λ (u : List Token). u ++ b) f in
    let heads : w ≡ v = cc in
    let tails : a ≡ b = cc in
    (e ∙ ap (λ (z : List ℕ). Word z ∷ []) heads ∙ sym f, tails)

pub one_word : {X : Type 0} (Says : List ℕ → X → Type 0) → ((word : List ℕ) (x y : X) → Says word x → Says word y → x ≡ y) → IsOne (IsWordOf Says)
one_word Says one x y text (w, e, sx) (v, f, sy) =
    let both : Word w ∷ [] ≡ Word v ∷ [] = sym e ∙ f in
    let heads : v ≡ w = cc in
    one w x y sx (subst (λ (z : List ℕ). Says z y) heads sy)

-- a list has a token, and the first says its first entry
first_word : {X : Type 0} (Says : List ℕ → X → Type 0) (list : List X) (token : Token) (rest : List Token) → IsListOf (IsWordOf Says) list (token ∷ rest)
    → (word : List ℕ) × (x : X) × (token ≡ Word word) × Says word x
first_word Says [] token rest l = absurd l
first_word Says (x ∷ []) token rest (w, e, s) = (w, x, cc, s)
first_word Says (x ∷ next ∷ list) token rest (front, more, e, (w, f, s), l) =
    let both : token ∷ rest ≡ Word w ∷ Comma ∷ more = e ∙ ap (λ (u : List Token). u ++ Comma ∷ more) f in
    (w, x, cc, s)

some_word : {X : Type 0} (Says : List ℕ → X → Type 0) (list : List X) → IsListOf (IsWordOf Says) list [] → ⊥
some_word Says [] l = l
some_word Says (x ∷ []) (w, e, s) = cc
some_word Says (x ∷ next ∷ list) (front, more, e, (w, f, s), l) =
    let both : [] ≡ Word w ∷ Comma ∷ more = e ∙ ap (λ (u : List Token). u ++ Comma ∷ more) f in
    cc

goes : {X : Type 0} (Says : List ℕ → X → Type 0) (most : ℕ) (old new : Progress X) (text : List Token) (token : Token) → Reads Says most old text → Goes Says most old token new
    → Reads Says most new (text ++ token ∷ [])
goes {X} Says most old new text token (few, inl (unwanted, l)) (inl entry) = let wanted = entry.wanted in cc
goes {X} Says most old new text token (few, inr (wanted, b)) (inl entry) =
    let long : length new.list ≡ length old.list + 1 = ap length entry.list ∙ length_push old.list entry.entry in
    let below : length old.list < most = entry.few in
    let more : IsListOf (IsWordOf Says) (old.list ++ entry.entry ∷ []) (text ++ token ∷ []) =
    before_more (IsWordOf Says) old.list text entry.entry (token ∷ []) b (entry.word, ap (λ (t : Token). t ∷ []) entry.sign, entry.says) in
    (omega arith, inl (entry.wants, subst (λ (z : List X). IsListOf (IsWordOf Says) z (text ++ token ∷ [])) (sym entry.list) more))
goes {X} Says most old new text token (few, inl (unwanted, l)) (inr comma) =
    let long : length new.list ≡ length old.list = ap length comma.list in
    (omega arith, inr (comma.wants, inr (text, ap (λ (t : Token). text ++ t ∷ []) comma.sign, subst (λ (z : List X). IsListOf (IsWordOf Says) z text) (sym comma.list) l)))
goes {X} Says most old new text token (few, inr (wanted, b)) (inr comma) = let unwanted = comma.unwanted in cc

given : {X : Type 0} (Says : List ℕ → X → Type 0) (most : ℕ) → IsSaid Says most → (progress : Progress X) (text : List Token) (list : List X) → Reads Says most progress text
    → IsListOf (IsWordOf Says) list text → Gives progress list
given Says most said progress text list (few, inl (unwanted, l)) s = (unwanted, one_list (IsWordOf Says) (closed_word Says) (one_word Says said.one) progress.list list text l s)
given Says most said progress text list (few, inr (wanted, b)) s =
    let whole = subst (λ (t : List Token). IsListOf (IsWordOf Says) list t) (sym (append-nil text)) s in
    let behind = behind_before (IsWordOf Says) (closed_word Says) progress.list list text [] b whole in
    absurd (some_word Says behind.0 behind.1)

-- which token must stand next
pub record IsNextWord {X : Type 0} (Says : List ℕ → X → Type 0) (progress : Progress X) (token : Token) (list : List X) : Type 0 where
  pub wanted : progress.wants ≡ true
  pub word : List ℕ
  pub value : X
  pub sign : token ≡ Word word
  pub says : Says word value
  pub longer : length progress.list < length list

needs : {X : Type 0} (Says : List ℕ → X → Type 0) (most : ℕ) (progress : Progress X) (text : List Token) (token : Token) (rest : List Token) (list : List X) → Reads Says most progress text
    → IsListOf (IsWordOf Says) list ((text ++ token ∷ []) ++ rest) → ((progress.wants ≡ false) × (token ≡ Comma)) ⊎ IsNextWord Says progress token list
needs {X} Says most progress text token rest list (few, inl (unwanted, l)) s =
    let whole = subst (λ (t : List Token). IsListOf (IsWordOf Says) list t) (append_assoc text (token ∷ []) rest) s in
    by_comma (behind_list (IsWordOf Says) (closed_word Says) progress.list list text (token ∷ rest) l whole)
  where
    by_comma : (token ∷ rest ≡ []) ⊎ IsRest (IsWordOf Says) progress.list list (token ∷ rest) → ((progress.wants ≡ false) × (token ≡ Comma)) ⊎ IsNextWord Says progress token list
    by_comma (inl none) = cc
    by_comma (inr r) = let comma = r.comma in inl (unwanted, cc)
needs {X} Says most progress text token rest list (few, inr (wanted, b)) s =
    let whole = subst (λ (t : List Token). IsListOf (IsWordOf Says) list t) (append_assoc text (token ∷ []) rest) s in
    let behind = behind_before (IsWordOf Says) (closed_word Says) progress.list list text (token ∷ rest) b whole in
    let first = first_word Says behind.0 token rest behind.1 in
    let long = some_length (IsWordOf Says) behind.0 (token ∷ rest) behind.1 in
    let count = behind.2 in
    inr (record { wanted = wanted; word = first.0; value = first.1; sign = first.2; says = first.3; longer = omega arith })
  where
    some_length : {Y : Type 0} (Spells : Y → List Token → Type 0) (others : List Y) (t : List Token) → IsListOf Spells others t → 0 < length others
    some_length Spells [] t l = absurd l
    some_length Spells (x ∷ others) t l = omega arith

-- with a sample word behind them the tokens are a list
one_more : {X : Type 0} (Says : List ℕ → X → Type 0) (most : ℕ) (said : IsSaid Says most) (limited : Bool) (list : List X) (text : List Token) → IsBefore (IsWordOf Says) list text
    → IsFew limited most (list ++ said.value ∷ []) → CanGoOn (AreWords Says most) limited text
one_more Says most said limited list text b few =
    (Word said.sample ∷ [], list ++ said.value ∷ [], (before_more (IsWordOf Says) list text said.value (Word said.sample ∷ []) b (said.sample, refl, said.says), few))

whole : {X : Type 0} (Says : List ℕ → X → Type 0) (most : ℕ) (limited : Bool) (list : List X) (text : List Token) → IsListOf (IsWordOf Says) list text → length list ≤ most
    → CanGoOn (AreWords Says most) limited text
whole Says most limited list text l few = ([], list, (subst (λ (t : List Token). IsListOf (IsWordOf Says) list t) (sym (append-nil text)) l, λ _. few))

-- behind these tokens a list can go on, or they end with the comma of a full one
can_go_on : {X : Type 0} (Says : List ℕ → X → Type 0) (most : ℕ) (said : IsSaid Says most) (progress : Progress X) (text : List Token) → Reads Says most progress text
    → CanGoOn (AreWords Says most) true text
    ⊎ ((progress.wants ≡ true) × (most ≤ length progress.list) × EndWithComma (AreWords Says most) text)
can_go_on Says most said progress text (few, inl (unwanted, l)) = inl (whole Says most true progress.list text l few)
can_go_on {X} Says most said progress text (few, inr (wanted, b)) = by_length b (eq-or-lt_of_le few)
  where
    by_length : IsBefore (IsWordOf Says) progress.list text → (length progress.list ≡ most) ⊎ (length progress.list < most)
        → CanGoOn (AreWords Says most) true text ⊎ ((progress.wants ≡ true) × (most ≤ length progress.list) × EndWithComma (AreWords Says most) text)
    by_length b (inr below) = let long = length_push progress.list said.value in inl (one_more Says most said true progress.list text b (λ _. omega arith))
    by_length (inl none) (inl full) = let empty : length progress.list ≡ 0 = ap length none.0 in let some = said.some in absurd (omega arith)
    by_length (inr some) (inl full) = inr (
      wanted,
      omega arith,
      record {
        front = some.0;
        comma = some.1;
        before = whole Says most true progress.list some.0 some.2 few;
        longer = one_more Says most said false progress.list text (inr some) (λ free. cc);
      },
    )

right : {X : Type 0} (Says : List ℕ → X → Type 0) (most : ℕ) → IsSaid Says most → (progress : Progress X) (text : List Token) → Reads Says most progress text → Begin (AreWords Says most) text
right Says most said progress text r =
    elim (can_go_on Says most said progress text r) [
      | inl g ↦ inl g
      | inr full ↦ inr full.2
    ]

-- a token with which tokens are right is a comma behind an entry, or a word that is one; with no limit the same holds
next_is : {X : Type 0} (Says : List ℕ → X → Type 0) (most : ℕ) (limited : Bool) (progress : Progress X) (text : List Token) (token : Token) → Reads Says most progress text
    → CanGoOn (AreWords Says most) limited (text ++ token ∷ [])
    → ((progress.wants ≡ false) × (token ≡ Comma)) ⊎ ((list : List X) × IsNextWord Says progress token list × IsFew limited most list)
next_is {X} Says most limited progress text token r (rest, list, (l, few)) =
    elim (needs Says most progress text token rest list r l) [
      | inl comma ↦ inl comma
      | inr next ↦ inr (list, next, few)
    ]

-- a token that stops is neither
stopped : {X : Type 0} (Says : List ℕ → X → Type 0) (most : ℕ) (progress : Progress X) (token : Token) (list : List X) (fault : ValueFault) → Stops Says most progress token fault → ¬ (fault ≡ faults.NoMemory)
    → IsNextWord Says progress token list → (fault ≡ faults.Count) × (most < length list)
stopped Says most progress token list faults.Count stop real next = let longer = next.longer in let full = stop.1 in (refl, omega arith)
stopped {X} Says most progress token list faults.Value stop real next =
    let sign = next.sign in
    let other : token ≡ Word stop.2 = stop.3 in
    let same : next.word ≡ stop.2 = cc in
    absurd (stop.4 next.value (subst (λ (w : List ℕ). Says w next.value) same next.says))
stopped Says most progress token list faults.Word (inl stop) real next = absurd (stop.1 next.word next.sign)
stopped Says most progress token list faults.Word (inr stop) real next = let wanted = next.wanted in let unwanted = stop.0 in cc
stopped Says most progress token list faults.NoMemory stop real next = absurd (real refl)

no_comma : {X : Type 0} (Says : List ℕ → X → Type 0) (most : ℕ) (progress : Progress X) (token : Token) (fault : ValueFault) → Stops Says most progress token fault → ¬ (fault ≡ faults.NoMemory)
    → progress.wants ≡ false → token ≡ Comma → ⊥
no_comma Says most progress token faults.Count stop real unwanted comma = let wanted = stop.0 in cc
no_comma Says most progress token faults.Value stop real unwanted comma = let wanted = stop.0 in cc
no_comma Says most progress token faults.Word (inl stop) real unwanted comma = let wanted = stop.0 in cc
no_comma Says most progress token faults.Word (inr stop) real unwanted comma = stop.1 comma
no_comma Says most progress token faults.NoMemory stop real unwanted comma = real refl

wrong : {X : Type 0} (Says : List ℕ → X → Type 0) (most : ℕ) (progress : Progress X) (text : List Token) (token : Token) (fault : ValueFault) → Reads Says most progress text → Stops Says most progress token fault
    → ¬ (fault ≡ faults.NoMemory) → ¬ Begin (AreWords Says most) (text ++ token ∷ [])
wrong {X} Says most progress text token fault r stop real (inl g) =
    elim (next_is Says most true progress text token r g) [
      | inl comma ↦ no_comma Says most progress token fault stop real comma.0 comma.1
      | inr next ↦ let over = stopped Says most progress token next.0 fault stop real next.1 in let few = next.2 refl in absurd (omega arith)
    ]
wrong {X} Says most progress text token fault r stop real (inr e) =
    let comma : token ≡ Comma = (same_from_push text e.front token Comma e.comma).1 in
    elim (next_is Says most false progress text token r e.longer) [
      | inl behind ↦ no_comma Says most progress token fault stop real behind.0 comma
      | inr next ↦ let sign = next.1.sign in cc
    ]

-- ---- why

-- a word may stand wherever one is wanted and the list isn't full
may_stand : {X : Type 0} (Says : List ℕ → X → Type 0) (most : ℕ) (said : IsSaid Says most) (limited : Bool) (progress : Progress X) (text : List Token) (token : Token) (word : List ℕ) → Reads Says most progress text
    → progress.wants ≡ true → (IsTrue limited → length progress.list < most) → token ≡ Word word → MayStand (AreWords Says most) limited text token
may_stand Says most said limited progress text token word (few, inl (unwanted, l)) wanted below sign = cc
may_stand {X} Says most said limited progress text token word (few, inr (w, b)) wanted below sign =
    let more : IsListOf (IsWordOf Says) (progress.list ++ said.value ∷ []) (text ++ Word said.sample ∷ []) =
    before_more (IsWordOf Says) progress.list text said.value (Word said.sample ∷ []) b (said.sample, refl, said.says) in
    let long = length_push progress.list said.value in
    inl (
      word,
      said.sample,
      sign,
      (
        [],
        progress.list ++ said.value ∷ [],
        (subst (λ (t : List Token). IsListOf (IsWordOf Says) (progress.list ++ said.value ∷ []) t) (sym (append-nil (text ++ Word said.sample ∷ []))) more, λ limit. let room = below limit in omega arith),
      ),
    )

-- behind the comma of a full list no token is right
full : {X : Type 0} (Says : List ℕ → X → Type 0) (most : ℕ) (progress : Progress X) (text : List Token) (token : Token) → Reads Says most progress text → progress.wants ≡ true → most ≤ length progress.list
    → ¬ CanGoOn (AreWords Says most) true (text ++ token ∷ [])
full Says most progress text token r wanted long g =
    elim (next_is Says most true progress text token r g) [
      | inl comma ↦ let unwanted = comma.0 in cc
      | inr next ↦ let longer = next.1.longer in let few = next.2 refl in omega arith
    ]

not_full : {X : Type 0} (Says : List ℕ → X → Type 0) (most : ℕ) (progress : Progress X) (text : List Token) (token : Token) → Reads Says most progress text → progress.wants ≡ true → most ≤ length progress.list
    → MayStand (AreWords Says most) true text token → ⊥
not_full Says most progress text token r wanted long (inl (word, other, sign, g)) = full Says most progress text (Word other) r wanted long g
not_full Says most progress text token r wanted long (inr g) = full Says most progress text token r wanted long g

why : {X : Type 0} (Says : List ℕ → X → Type 0) (most : ℕ) → IsSaid Says most → (progress : Progress X) (text : List Token) (token : Token) (fault : ValueFault) → Reads Says most progress text
    → Stops Says most progress token fault → IsWhy (AreWords Says most) text token fault
why Says most said progress text token faults.Count r stop =
    (may_stand Says most said false progress text token stop.2 r stop.0 (λ free. cc) stop.3, not_full Says most progress text token r stop.0 stop.1)
why Says most said progress text token faults.Value r stop = (may_stand Says most said true progress text token stop.2 r stop.0 (λ _. stop.1) stop.3, stop.2, stop.3)
why {X} Says most said progress text token faults.Word r stop = by_kind stop
  where
    by_kind : ((progress.wants ≡ true) × ((word : List ℕ) → ¬ (token ≡ Word word))) ⊎ ((progress.wants ≡ false) × ¬ (token ≡ Comma)) → MayStand (AreWords Says most) false text token → ⊥
    by_kind (inl kind) (inl (word, other, sign, g)) = kind.1 word sign
    by_kind (inr kind) (inl (word, other, sign, g)) =
        elim (next_is Says most false progress text (Word other) r g) [
          | inl comma ↦ let e = comma.1 in cc
          | inr next ↦ let wanted = next.1.wanted in let unwanted = kind.0 in cc
        ]
    by_kind (inl kind) (inr g) =
        elim (next_is Says most false progress text token r g) [
          | inl comma ↦ let wanted = kind.0 in let unwanted = comma.0 in cc
          | inr next ↦ kind.1 next.1.word next.1.sign
        ]
    by_kind (inr kind) (inr g) =
        elim (next_is Says most false progress text token r g) [
          | inl comma ↦ kind.1 comma.1
          | inr next ↦ let wanted = next.1.wanted in let unwanted = kind.0 in cc
        ]
why Says most said progress text token faults.NoMemory r stop = tt

-- lists of words are read exactly
pub exact : {X : Type 0} (Says : List ℕ → X → Type 0) (most : ℕ) → IsSaid Says most → IsExact (AreWords Says most) start (Goes Says most) (Stops Says most) Gives (Reads Says most)
exact {X} Says most said = record {
  begins = (omega arith, inr (refl, inl (refl, refl)));
  goes = goes Says most;
  spelled = λ progress text list r g. spelled progress text list r g;
  given = λ progress text list r s. given Says most said progress text list r s.0;
  right = right Says most said;
  wrong = wrong Says most;
}
  where
    spelled : (progress : Progress X) (text : List Token) (list : List X) → Reads Says most progress text → Gives progress list → AreWords Says most true list text
    spelled progress text list (few, inl (unwanted, l)) (ended, same) =
        (subst (λ (z : List X). IsListOf (IsWordOf Says) z text) same l, λ _. let long : length progress.list ≡ length list = ap length same in omega arith)
    spelled progress text list (few, inr (wanted, b)) (ended, same) = cc

pub tells_why : {X : Type 0} (Says : List ℕ → X → Type 0) (most : ℕ) → IsSaid Says most → TellsWhy (AreWords Says most) (Stops Says most) (Reads Says most)
tells_why Says most said = why Says most said
