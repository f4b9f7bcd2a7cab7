-- Names in the code page: each character has a code, and one text is a name's.
use Rattle.std.proofs.Common.{◌≡◌, ◌≢◌, ◌⊎◌, inl, inr, ℕ, ◌+◌, ◌-◌, ◌<◌, ◌≤◌, ◌==◌, Bool, true, false, List, [], ◌∷◌, ◌++◌, length, replicate, get_or, Option, Some, None, refl, sym, ap, subst, ◌∙◌, arith, below_more, get_or-set_other, get_or-set_same}
use Rattle.std.specs.Prelude.{nat_lt, if◌then◌else◌}
use Rattle.std.proofs.Math.ListN.{set}
use Rattle.std.specs.Char.{to_ascii_uppercase}
use Rattle.std.specs.List.{AllByRecursion}
use Rattle.std.proofs.lemmas.Bool.{cases_lt}
use Rattle.std.proofs.lemmas.Bool.Decides.{nat_tests}
use Rattle.std.proofs.lemmas.Grind.{same_number_lists}
use Rattle.std.proofs.lemmas.List.{length-map, get_or_append_left, get_or-replicate}
use Rattle.std.proofs.lemmas.List.Elements.{recursion_from_All, All-from_recursion, All-weaker, All-get_or}
use Rattle.dsn_filter.specs.declared.dsn.Dsn.{Dsn}
use Rattle.dsn_filter.specs.Dsn.{dsn_of, IsNameText, IsDsn}
use Rattle.dsn_filter.specs.Qualifier.{IsLetter, IsInner, IsQualifier}
use Rattle.dsn_filter.specs.Text.{capitals, dotted}
use Rattle.vol_label.specs.CodePage.{ascii_of, is_between}
use Rattle.volume_model.specs.Pinned.{IsNameOf}
use Rattle.vol_label.proofs.OneLabel.{one_code}
use Rattle.vol_label.proofs.Characters.{letter_low, letter_middle, letter_high, digit}

-- ---- each character of a name has a code

abbrev pub HasCode : ℕ → Type 0
HasCode character = (code : ℕ) × (ascii_of code ≡ Some character)

letter_code : (c : ℕ) → IsLetter c → HasCode c
letter_code c (inl h) =
    elim (cases_lt c 74) [
      | inl low ↦ (0xC1 + (c - 65), letter_low c h.0 (omega arith))
      | inr more ↦ elim (cases_lt c 83) [
        | inl middle ↦ (0xD1 + (c - 74), letter_middle c more (omega arith))
        | inr high ↦ (0xE2 + (c - 83), letter_high c high h.1)
      ]
    ]
letter_code c (inr (inl h)) = (0x5B, ap Some (sym h))
letter_code c (inr (inr (inl h))) = (0x7B, ap Some (sym h))
letter_code c (inr (inr (inr h))) = (0x7C, ap Some (sym h))

inner_code : (c : ℕ) → IsInner c → HasCode c
inner_code c (inl h) = letter_code c h
inner_code c (inr (inl h)) = (0xF0 + (c - 48), digit c h.0 h.1)
inner_code c (inr (inr h)) = (0x60, ap Some (sym h))

qualifier_codes : (q : List ℕ) → IsQualifier q → AllByRecursion HasCode q
qualifier_codes [] h = absurd h
qualifier_codes (c ∷ r) h = (letter_code c h.0, recursion_from_All HasCode r (All-weaker IsInner HasCode inner_code r h.1))

both_codes : (xs ys : List ℕ) → AllByRecursion HasCode xs → AllByRecursion HasCode ys → AllByRecursion HasCode (xs ++ ys)
both_codes [] ys h k = k
both_codes (x ∷ xs) ys h k = (h.0, both_codes xs ys h.1 k)

joined_codes : (qs : List (List ℕ)) → AllByRecursion IsQualifier qs → AllByRecursion HasCode (dotted qs)
joined_codes [] h = tt
joined_codes (q ∷ []) h = qualifier_codes q h.0
joined_codes (q ∷ r ∷ rs) h = both_codes q (46 ∷ dotted (r ∷ rs)) (qualifier_codes q h.0) ((0x4B, refl), joined_codes (r ∷ rs) h.1)

text_codes : (text : List ℕ) → IsNameText text → (k : ℕ) → k < length text → HasCode (get_or (dsn_of text).text k 0)
text_codes text name k lt =
    let all = joined_codes name.0 (recursion_from_All IsQualifier name.0 name.1.each) in
    let here : AllByRecursion HasCode (capitals text) = subst (AllByRecursion HasCode) (sym name.1.joins) all in
    let below : k < length (capitals text) = omega (arith, lt, length-map text to_ascii_uppercase) in
    let same : get_or (capitals text ++ replicate (44 - length text) 0) k 0 ≡ get_or (capitals text) k 0 = get_or_append_left (capitals text) (replicate (44 - length text) 0) 0 k below in
    subst HasCode (sym same) (All-get_or HasCode (capitals text) k 0 below (All-from_recursion HasCode (capitals text) here))

pub has_code : (name : Dsn) → IsDsn name → (k : ℕ) → k < name.len → HasCode (get_or name.text k 0)
has_code name d k lt =
    let long : name.len ≡ length d.0 = ap (λ (n : Dsn). n.len) d.2 in
    subst (λ (n : Dsn). HasCode (get_or n.text k 0)) (sym d.2) (text_codes d.0 d.1 k (omega (arith, lt, long)))

pub short_name : (name : Dsn) → IsDsn name → name.len ≤ 44
short_name name d =
    let long : name.len ≡ length d.0 = ap (λ (n : Dsn). n.len) d.2 in
    omega (arith, long, d.1.1.short)

-- ---- one text

-- the code of a character
abbrev nothing : Option ℕ
nothing = None

abbrev page : ℕ → ℕ
page c =
    if nat_lt c 33 then 0x40
    else if nat_lt c 36 then 0x7B
    else if nat_lt c 37 then 0x5B
    else if nat_lt c 46 then 0x60
    else if nat_lt c 47 then 0x4B
    else if nat_lt c 64 then c + 192
    else if nat_lt c 65 then 0x7C
    else if nat_lt c 74 then c + 128
    else if nat_lt c 83 then c + 135
    else c + 143

picked : (t : Bool) (x c : ℕ) (r : Option ℕ) → (if t then Some x else r) ≡ Some c → ((t ≡ true) × (x ≡ c)) ⊎ (r ≡ Some c)
picked true x c r e = let q : Some x ≡ Some c = e in inl (refl, cc)
picked false x c r e = inr e

in_low : (a c : ℕ) → is_between 0xC1 0xC9 a ≡ true → 65 + (a - 0xC1) ≡ c → a ≡ page c
in_low a c t e = grind (arith, nat_tests)

in_middle : (a c : ℕ) → is_between 0xD1 0xD9 a ≡ true → 74 + (a - 0xD1) ≡ c → a ≡ page c
in_middle a c t e = grind (arith, nat_tests)

in_high : (a c : ℕ) → is_between 0xE2 0xE9 a ≡ true → 83 + (a - 0xE2) ≡ c → a ≡ page c
in_high a c t e = grind (arith, nat_tests)

in_digits : (a c : ℕ) → is_between 0xF0 0xF9 a ≡ true → 48 + (a - 0xF0) ≡ c → a ≡ page c
in_digits a c t e = grind (arith, nat_tests)

at_one : (a c code character : ℕ) → (a == code) ≡ true → character ≡ c → code ≡ page character → a ≡ page c
at_one a c code character t e is = let same : a ≡ code = grind (arith, nat_tests) in same ∙ is ∙ ap page e

-- what the code page says of a byte that isn't of the first ranges
abbrev rest_9 : ℕ → Option ℕ
rest_9 a = nothing

abbrev rest_8 : ℕ → Option ℕ
rest_8 a = if a == 0x40 then Some 32 else rest_9 a

abbrev rest_7 : ℕ → Option ℕ
rest_7 a = if a == 0x60 then Some 45 else rest_8 a

abbrev rest_6 : ℕ → Option ℕ
rest_6 a = if a == 0x4B then Some 46 else rest_7 a

abbrev rest_5 : ℕ → Option ℕ
rest_5 a = if a == 0x7C then Some 64 else rest_6 a

abbrev rest_4 : ℕ → Option ℕ
rest_4 a = if a == 0x7B then Some 35 else rest_5 a

abbrev rest_3 : ℕ → Option ℕ
rest_3 a = if a == 0x5B then Some 36 else rest_4 a

abbrev rest_2 : ℕ → Option ℕ
rest_2 a = if is_between 0xF0 0xF9 a then Some (48 + (a - 0xF0)) else rest_3 a

abbrev rest_1 : ℕ → Option ℕ
rest_1 a = if is_between 0xE2 0xE9 a then Some (83 + (a - 0xE2)) else rest_2 a

abbrev rest_0 : ℕ → Option ℕ
rest_0 a = if is_between 0xD1 0xD9 a then Some (74 + (a - 0xD1)) else rest_1 a

page_is : (a c : ℕ) → ascii_of a ≡ Some c → a ≡ page c
page_is a c e0 = elim (picked (is_between 0xC1 0xC9 a) (65 + (a - 0xC1)) c (rest_0 a) e0) [
  | inl h ↦ in_low a c h.0 h.1
  | inr e1 ↦ elim (picked (is_between 0xD1 0xD9 a) (74 + (a - 0xD1)) c (rest_1 a) e1) [
    | inl h ↦ in_middle a c h.0 h.1
    | inr e2 ↦ elim (picked (is_between 0xE2 0xE9 a) (83 + (a - 0xE2)) c (rest_2 a) e2) [
      | inl h ↦ in_high a c h.0 h.1
      | inr e3 ↦ elim (picked (is_between 0xF0 0xF9 a) (48 + (a - 0xF0)) c (rest_3 a) e3) [
        | inl h ↦ in_digits a c h.0 h.1
        | inr e4 ↦ elim (picked (a == 0x5B) 36 c (rest_4 a) e4) [
          | inl h ↦ at_one a c 0x5B 36 h.0 h.1 refl
          | inr e5 ↦ elim (picked (a == 0x7B) 35 c (rest_5 a) e5) [
            | inl h ↦ at_one a c 0x7B 35 h.0 h.1 refl
            | inr e6 ↦ elim (picked (a == 0x7C) 64 c (rest_6 a) e6) [
              | inl h ↦ at_one a c 0x7C 64 h.0 h.1 refl
              | inr e7 ↦ elim (picked (a == 0x4B) 46 c (rest_7 a) e7) [
                | inl h ↦ at_one a c 0x4B 46 h.0 h.1 refl
                | inr e8 ↦ elim (picked (a == 0x60) 45 c (rest_8 a) e8) [
                  | inl h ↦ at_one a c 0x60 45 h.0 h.1 refl
                  | inr e9 ↦ elim (picked (a == 0x40) 32 c (rest_9 a) e9) [
                    | inl h ↦ at_one a c 0x40 32 h.0 h.1 refl
                    | inr e10 ↦ absurd (no_character c e10)
                  ]
                ]
              ]
            ]
          ]
        ]
      ]
    ]
  ]
]
  where
    no_character : (c : ℕ) → nothing ≡ Some c → ⊥
    no_character c e = let q : nothing ≡ Some c = e in cc

pub one_text : (name : Dsn) (a b : List ℕ) → IsNameOf name a → IsNameOf name b → a ≡ b
one_text name a b h k =
    same_number_lists a b (h.long ∙ sym k.long) (λ place lt. elim (cases_lt place name.len) [
      | inl inside ↦ one_code (get_or a place 0) (get_or b place 0) (get_or name.text place 0) (h.characters place inside) (k.characters place inside)
      | inr outside ↦ h.blanks place outside (omega (arith, lt, h.long)) ∙ sym (k.blanks place outside (omega (arith, lt, h.long)))
    ])

-- ---- the bytes of a name, one by one

abbrev pub AreCoded : Dsn → List ℕ → ℕ → Type 0
AreCoded name bytes place = (k : ℕ) → k < place → ascii_of (get_or bytes k 0) ≡ Some (get_or name.text k 0)

abbrev pub AreBlank : List ℕ → ℕ → Type 0
AreBlank bytes place = (k : ℕ) → place ≤ k → k < 44 → get_or bytes k 0 ≡ 0x40

pub all_blank : AreBlank (replicate 44 0x40) 0
all_blank k from lt = get_or-replicate 44 k 0x40 0 lt

pub coded_more : (name : Dsn) (bytes : List ℕ) (place code : ℕ) → place < length bytes → AreCoded name bytes place → ascii_of code ≡ Some (get_or name.text place 0)
    → AreCoded name (set bytes place code) (place + 1)
coded_more name bytes place code within before here =
    below_more _ _ (λ k lt. let other : k ≢ place = omega arith in rw get_or-set_other (before k lt)) (rw get_or-set_same here)

pub blank_more : (bytes : List ℕ) (place code : ℕ) → AreBlank bytes place → AreBlank (set bytes place code) (place + 1)
blank_more bytes place code before k from lt = let other : k ≢ place = omega (arith, from) in rw get_or-set_other (before k (omega (arith, from)) lt)
