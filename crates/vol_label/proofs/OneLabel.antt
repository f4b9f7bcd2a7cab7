-- A name is spelled in one way, and track 0 holds one label at most, or breaks one rule first.
use Rattle.std.proofs.Common.{◌≡◌, ℕ, ◌+◌, ◌<◌, ◌≤◌, List, [], ◌∷◌, length, get_or, Some, sym, subst, ◌∙◌, arith, inl, inr}
use Rattle.std.proofs.lemmas.Bool.{cases_lt}
use Rattle.std.proofs.lemmas.Bool.Decides.{nat_tests}
use Rattle.std.proofs.lemmas.Grind.{same_number_lists}
use Rattle.std.proofs.lemmas.Option.{same_Some}
use Rattle.ckd_image.specs.declared.track.Rec.{Rec}
use Rattle.ckd_image.specs.declared.head.Head.{Head}
use Rattle.ckd_image.proofs.OneHead.{one_number}
use Rattle.vol_label.specs.declared.label.Label.{Label}
use Rattle.vol_label.specs.declared.fault.LabelFault.{LabelFault}
use Rattle.vol_label.specs.declared.fault.LabelFault.TheVariants.{BadLabel}
use Rattle.vol_label.specs.declared.fault.LabelRule.{LabelRule}
use Rattle.vol_label.specs.declared.fault.LabelRule.TheVariants as rules
use Rattle.vol_label.specs.CodePage.{ascii_of}
use Rattle.vol_label.specs.Serial.{Spells}
use Rattle.vol_label.specs.Label.{label_key, IsLabelText, IsLabel, IsFirstNumbered, IsLabelFault, IsFirstBroken, number_of}
use Rattle.vol_label.proofs.LabelText.{IsSame, same_label}

-- ---- the byte of a character, range by range

at_0 : (b c : ℕ) → ascii_of b ≡ Some c → c < 32 → ⊥
at_0 b c e q = grind (arith, nat_tests)

at_1 : (b c : ℕ) → ascii_of b ≡ Some c → 32 ≤ c → c < 33 → b ≡ 0x40
at_1 b c e p q = grind (arith, nat_tests)

at_2 : (b c : ℕ) → ascii_of b ≡ Some c → 33 ≤ c → c < 35 → ⊥
at_2 b c e p q = grind (arith, nat_tests)

at_3 : (b c : ℕ) → ascii_of b ≡ Some c → 35 ≤ c → c < 36 → b ≡ 0x7B
at_3 b c e p q = grind (arith, nat_tests)

at_4 : (b c : ℕ) → ascii_of b ≡ Some c → 36 ≤ c → c < 37 → b ≡ 0x5B
at_4 b c e p q = grind (arith, nat_tests)

at_5 : (b c : ℕ) → ascii_of b ≡ Some c → 37 ≤ c → c < 45 → ⊥
at_5 b c e p q = grind (arith, nat_tests)

at_6 : (b c : ℕ) → ascii_of b ≡ Some c → 45 ≤ c → c < 46 → b ≡ 0x60
at_6 b c e p q = grind (arith, nat_tests)

at_7 : (b c : ℕ) → ascii_of b ≡ Some c → 46 ≤ c → c < 47 → b ≡ 0x4B
at_7 b c e p q = grind (arith, nat_tests)

at_8 : (b c : ℕ) → ascii_of b ≡ Some c → 47 ≤ c → c < 48 → ⊥
at_8 b c e p q = grind (arith, nat_tests)

at_9 : (b c : ℕ) → ascii_of b ≡ Some c → 48 ≤ c → c < 58 → b ≡ c + 192
at_9 b c e p q = grind (arith, nat_tests)

at_10 : (b c : ℕ) → ascii_of b ≡ Some c → 58 ≤ c → c < 64 → ⊥
at_10 b c e p q = grind (arith, nat_tests)

at_11 : (b c : ℕ) → ascii_of b ≡ Some c → 64 ≤ c → c < 65 → b ≡ 0x7C
at_11 b c e p q = grind (arith, nat_tests)

at_12 : (b c : ℕ) → ascii_of b ≡ Some c → 65 ≤ c → c < 74 → b ≡ c + 128
at_12 b c e p q = grind (arith, nat_tests)

at_13 : (b c : ℕ) → ascii_of b ≡ Some c → 74 ≤ c → c < 83 → b ≡ c + 135
at_13 b c e p q = grind (arith, nat_tests)

at_14 : (b c : ℕ) → ascii_of b ≡ Some c → 83 ≤ c → c < 91 → b ≡ c + 143
at_14 b c e p q = grind (arith, nat_tests)

at_15 : (b c : ℕ) → ascii_of b ≡ Some c → 91 ≤ c → ⊥
at_15 b c e p = grind (arith, nat_tests)

-- two bytes of one character are one
pub one_code : (a b c : ℕ) → ascii_of a ≡ Some c → ascii_of b ≡ Some c → a ≡ b
one_code a b c p q =
    elim (cases_lt c 32) [
      | inl l0 ↦ absurd (at_0 a c p l0)
      | inr m1 ↦ elim (cases_lt c 33) [
        | inl l1 ↦ omega (arith, at_1 a c p m1 l1, at_1 b c q m1 l1)
        | inr m2 ↦ elim (cases_lt c 35) [
          | inl l2 ↦ absurd (at_2 a c p m2 l2)
          | inr m3 ↦ elim (cases_lt c 36) [
            | inl l3 ↦ omega (arith, at_3 a c p m3 l3, at_3 b c q m3 l3)
            | inr m4 ↦ elim (cases_lt c 37) [
              | inl l4 ↦ omega (arith, at_4 a c p m4 l4, at_4 b c q m4 l4)
              | inr m5 ↦ elim (cases_lt c 45) [
                | inl l5 ↦ absurd (at_5 a c p m5 l5)
                | inr m6 ↦ elim (cases_lt c 46) [
                  | inl l6 ↦ omega (arith, at_6 a c p m6 l6, at_6 b c q m6 l6)
                  | inr m7 ↦ elim (cases_lt c 47) [
                    | inl l7 ↦ omega (arith, at_7 a c p m7 l7, at_7 b c q m7 l7)
                    | inr m8 ↦ elim (cases_lt c 48) [
                      | inl l8 ↦ absurd (at_8 a c p m8 l8)
                      | inr m9 ↦ elim (cases_lt c 58) [
                        | inl l9 ↦ omega (arith, at_9 a c p m9 l9, at_9 b c q m9 l9)
                        | inr m10 ↦ elim (cases_lt c 64) [
                          | inl l10 ↦ absurd (at_10 a c p m10 l10)
                          | inr m11 ↦ elim (cases_lt c 65) [
                            | inl l11 ↦ omega (arith, at_11 a c p m11 l11, at_11 b c q m11 l11)
                            | inr m12 ↦ elim (cases_lt c 74) [
                              | inl l12 ↦ omega (arith, at_12 a c p m12 l12, at_12 b c q m12 l12)
                              | inr m13 ↦ elim (cases_lt c 83) [
                                | inl l13 ↦ omega (arith, at_13 a c p m13 l13, at_13 b c q m13 l13)
                                | inr m14 ↦ elim (cases_lt c 91) [
                                  | inl l14 ↦ omega (arith, at_14 a c p m14 l14, at_14 b c q m14 l14)
                                  | inr m15 ↦ absurd (at_15 a c p m15)
                                ]
                              ]
                            ]
                          ]
                        ]
                      ]
                    ]
                  ]
                ]
              ]
            ]
          ]
        ]
      ]
    ]

pub one_spelling : (name a b : List ℕ) → Spells name a → Spells name b → a ≡ b
one_spelling name a b p q = same_number_lists a b (p.six ∙ sym q.six) (λ k lt. same_byte k lt)
  where
    same_byte : (k : ℕ) → k < length a → get_or a k 0 ≡ get_or b k 0
    same_byte k lt =
        elim (cases_lt k (length name)) [
          | inl low ↦ one_code (get_or a k 0) (get_or b k 0) (get_or name k 0) (p.characters k low) (q.characters k low)
          | inr behind ↦ p.blanks k behind (omega (arith, lt, p.six)) ∙ sym (q.blanks k behind (omega (arith, lt, p.six)))
        ]

-- ---- the label

same_parts : (a b : Label) → a.serial.text ≡ b.serial.text → a.vtoc ≡ b.vtoc → a ≡ b
same_parts a b text vtoc = (λ i. record { serial = record { text = text i }; vtoc = vtoc i })

pub one_label : (head : Head) (recs : List Rec) (a b : Label) → IsLabel head recs a → IsLabel head recs b → a ≡ b
one_label head recs a b p q =
    let rec : p.rec ≡ q.rec = same_Some p.rec q.rec (sym p.numbered ∙ q.numbered) in
    let t = q.text in
    let P : Rec → Type 0 = λ r. IsLabelText head r.body a in
    let same : IsSame a b.serial.text b.vtoc = same_label head q.rec.body b.serial.text t.security b.vtoc t.rest a t.spelled t.serial.1.six t.numbers (subst P rec p.text) in
    same_parts a b same.serial same.vtoc_is

-- where a rule of the label fails, none stands there
pub no_label : (head : Head) (recs : List Rec) (fault : LabelFault) → IsLabelFault head recs fault → (label : Label) → ¬ IsLabel head recs label
no_label head recs (BadLabel why) (rules.NoRecord, number, none) label h = none h.rec h.numbered
no_label head recs (BadLabel why) (rules.Key, number, f) label h =
    let P : Rec → Type 0 = λ r. r.key ≡ 0xE5 ∷ 0xD6 ∷ 0xD3 ∷ 0xF1 ∷ [] in
    f.2 (subst P (same_Some h.rec f.0 (sym h.numbered ∙ f.1)) h.key)
no_label head recs (BadLabel why) (rules.Length, number, f) label h =
    let P : Rec → Type 0 = λ r. length r.body ≡ 80 in
    f.3 (subst P (same_Some h.rec f.0 (sym h.numbered ∙ f.1)) h.long)
no_label head recs (BadLabel why) (rules.Serial, number, f) label h =
    let P : Rec → Type 0 = λ r. IsLabelText head r.body label in
    f.4 label (subst P (same_Some h.rec f.0 (sym h.numbered ∙ f.1)) h.text)

-- ---- of the rules of a label the first that fails is one

module _ (head : Head) (recs : List Rec) where
  at_rec : (P : Rec → Type 0) (from to : Rec) → IsFirstNumbered 3 recs from → IsFirstNumbered 3 recs to → P from → P to
  at_rec P from to one other holds = subst P (same_Some from to (sym one ∙ other)) holds

  labels_apart : (a b : LabelRule) → number_of a < number_of b → IsFirstBroken head recs a → IsFirstBroken head recs b → ⊥
  labels_apart rules.NoRecord rules.NoRecord less one other = absurd (omega (arith, less))
  labels_apart rules.Key rules.NoRecord less one other = absurd (omega (arith, less))
  labels_apart rules.Length rules.NoRecord less one other = absurd (omega (arith, less))
  labels_apart rules.Serial rules.NoRecord less one other = absurd (omega (arith, less))
  labels_apart rules.NoRecord rules.Key less one other = one other.0 other.1
  labels_apart rules.Key rules.Key less one other = absurd (omega (arith, less))
  labels_apart rules.Length rules.Key less one other = absurd (omega (arith, less))
  labels_apart rules.Serial rules.Key less one other = absurd (omega (arith, less))
  labels_apart rules.NoRecord rules.Length less one other = one other.0 other.1
  labels_apart rules.Key rules.Length less one other = one.2 (at_rec (λ r. r.key ≡ label_key) other.0 one.0 other.1 one.1 other.2)
  labels_apart rules.Length rules.Length less one other = absurd (omega (arith, less))
  labels_apart rules.Serial rules.Length less one other = absurd (omega (arith, less))
  labels_apart rules.NoRecord rules.Serial less one other = one other.0 other.1
  labels_apart rules.Key rules.Serial less one other = one.2 (at_rec (λ r. r.key ≡ label_key) other.0 one.0 other.1 one.1 other.2)
  labels_apart rules.Length rules.Serial less one other = one.3 (at_rec (λ r. length r.body ≡ 80) other.0 one.0 other.1 one.1 other.3)
  labels_apart rules.Serial rules.Serial less one other = absurd (omega (arith, less))

  pub one_label_fault : (a b : ℕ) → IsLabelFault head recs (BadLabel a) → IsLabelFault head recs (BadLabel b) → a ≡ b
  one_label_fault a b one other =
      one.1 ∙ one_number number_of (IsFirstBroken head recs) labels_apart one.0 other.0 one.2 other.2 ∙ sym other.1
