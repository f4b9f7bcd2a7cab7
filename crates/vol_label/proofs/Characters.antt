-- Characters of serials.
use Rattle.std.proofs.Common.{All, subst, ◌≡◌, ◌≢◌, ℕ, ◌+◌, ◌-◌, ◌<◌, ◌≤◌, List, length, Option, Some, None, get_or, inl, inr, sym, ap, arith, below_more, get_or-set_other, get_or-set_same}
use Rattle.std.proofs.Math.ListN.{set}
use Rattle.std.proofs.lemmas.List.{get_or_default}
use Rattle.std.specs.Prelude.{IfNone}
use Rattle.std.proofs.lemmas.Bool.Decides.{nat_tests}
use Rattle.std.proofs.lemmas.Bool.{cases_lt}
use Rattle.vol_label.specs.CodePage.{ascii_of}
use Rattle.vol_label.specs.Serial.{IsSerialCharacter, IsSerialByte, IsSerial}

pub letter_low : (c : ℕ) → 65 ≤ c → c ≤ 73 → ascii_of (0xC1 + (c - 65)) ≡ Some c
letter_low c p q = grind (arith, nat_tests)

pub letter_middle : (c : ℕ) → 74 ≤ c → c ≤ 82 → ascii_of (0xD1 + (c - 74)) ≡ Some c
letter_middle c p q = grind (arith, nat_tests)

pub letter_high : (c : ℕ) → 83 ≤ c → c ≤ 90 → ascii_of (0xE2 + (c - 83)) ≡ Some c
letter_high c p q = grind (arith, nat_tests)

pub digit : (c : ℕ) → 48 ≤ c → c ≤ 57 → ascii_of (0xF0 + (c - 48)) ≡ Some c
digit c p q = grind (arith, nat_tests)

-- a character of a serial is in the code page
pub has_code : (c : ℕ) → IsSerialCharacter c → ((code : ℕ) → ¬ (ascii_of code ≡ Some c)) → ⊥
has_code c (inl h) none =
    elim (cases_lt c 74) [
      | inl low ↦ none (0xC1 + (c - 65)) (letter_low c h.0 (omega arith))
      | inr more ↦ elim (cases_lt c 83) [
        | inl middle ↦ none (0xD1 + (c - 74)) (letter_middle c more (omega arith))
        | inr high ↦ none (0xE2 + (c - 83)) (letter_high c high h.1)
      ]
    ]
has_code c (inr (inl h)) none = none (0xF0 + (c - 48)) (digit c h.0 h.1)
has_code c (inr (inr (inl h))) none = none 0x5B (ap Some (sym h))
has_code c (inr (inr (inr (inl h)))) none = none 0x7B (ap Some (sym h))
has_code c (inr (inr (inr (inr (inl h))))) none = none 0x7C (ap Some (sym h))
has_code c (inr (inr (inr (inr (inr h))))) none = none 0x60 (ap Some (sym h))

-- where no byte is found, the character isn't one of a serial
pub none_of : (c : ℕ) (r : Option ℕ) → IfNone r ((code : ℕ) → ¬ (ascii_of code ≡ Some c)) → IfNone r (¬ IsSerialCharacter c)
none_of c None h = λ p. has_code c p h
none_of c (Some x) h = tt

-- a blank is none
pub blank_is_none : ¬ IsSerialByte 0x40
blank_is_none h =
    let blank : Some 32 ≡ Some h.0 = h.1 in
    let c : 32 ≡ h.0 = cc in
    elim h.2 [
      | inl p ↦ omega (arith, c, p.0)
      | inr q ↦ elim q [
        | inl p ↦ omega (arith, c, p.0)
        | inr r ↦ elim r [
          | inl p ↦ omega (arith, c, p)
          | inr s ↦ elim s [ inl p ↦ omega (arith, c, p) | inr t ↦ elim t [ inl p ↦ omega (arith, c, p) | inr p ↦ omega (arith, c, p) ] ]
        ]
      ]
    ]

-- six bytes are a serial where blanks stand behind all bytes that may stand in one, and only there
pub no_serial : (text : List ℕ) (count : ℕ) → count ≤ 6
    → (count < 6 → ¬ IsSerialByte (get_or text count 0)) → ((k : ℕ) → k < count → IsSerialByte (get_or text k 0))
    → IsSerial text → (k : ℕ) → count ≤ k → k < 6 → get_or text k 0 ≡ 0x40
no_serial text count within ended characters h k from to =
    elim (cases_lt count h.0) [
      | inl more ↦ absurd (ended (omega (arith, more, h.1.few)) (h.1.characters count more))
      | inr less ↦ h.1.blanks k (omega (arith, less, from)) to
    ]

pub none_at_first : (text : List ℕ) → ¬ IsSerialByte (get_or text 0 0) → ¬ IsSerial text
none_at_first text ended h = ended (h.1.characters 0 h.1.some)

-- ---- one more character is put in

pub pushed_code : (name text : List ℕ) (place code : ℕ) → place < length text
    → ((k : ℕ) → k < place → ascii_of (get_or text k 0) ≡ Some (get_or name k 0)) → ascii_of code ≡ Some (get_or name place 0)
    → (k : ℕ) → k < place + 1 → ascii_of (get_or (set text place code) k 0) ≡ Some (get_or name k 0)
pushed_code name text place code within before here =
    below_more _ _
    (λ k lt. let other : k ≢ place = omega arith in rw get_or-set_other (before k lt))
    (rw get_or-set_same here)

pub pushed_blank : (text : List ℕ) (place code : ℕ)
    → ((k : ℕ) → place ≤ k → k < 6 → get_or text k 0 ≡ 0x40)
    → (k : ℕ) → place + 1 ≤ k → k < 6 → get_or (set text place code) k 0 ≡ 0x40
pushed_blank text place code before k from to =
    let other : k ≢ place = omega arith in rw get_or-set_other (before k (omega arith) to)

pub all_of : (P : ℕ → Type 0) (xs : List ℕ) → ((k : ℕ) → k < length xs → P (get_or xs k 0)) → All P xs
all_of P xs h k d lt = subst P (get_or_default xs k 0 d lt) (h k lt)
