-- 44 bytes are one data set name at most.
use Rattle.std.proofs.Common.{◌≡◌, ◌≢◌, inl, inr, ℕ, zero, suc, ◌-◌, ◌<◌, ◌≤◌, List, length, take, replicate, get_or, Some, sym, ap, subst, ◌∙◌, arith}
use Rattle.std.specs.Char.{to_ascii_uppercase}
use Rattle.std.proofs.lemmas.Bool.{cases_eq}
use Rattle.std.proofs.lemmas.Grind.{same_number_lists}
use Rattle.std.proofs.lemmas.List.{length-append, length-map, length-take-le, get_or-take}
use Rattle.dsn_filter.specs.declared.dsn.Dsn.{Dsn}
use Rattle.dsn_filter.specs.Dsn.{IsDsn}
use Rattle.dsn_filter.specs.Text.{capitals}
use Rattle.dsn_filter.proofs.OneReading.{one_name}
use Rattle.volume_model.specs.Pinned.{IsNameOf}
use Rattle.vtoc_core.proofs.Spelled.{AreBlanks, IsLength, same_len}

-- where the blanks begin that fill a name
length_from : (bytes : List ℕ) (n : ℕ) → n ≤ 44 → AreBlanks bytes n → (len : ℕ) × IsLength bytes len
length_from bytes zero within blanks = (0, record { within = omega arith; blanks = blanks; last = λ less. absurd (omega (arith, less)) })
length_from bytes (suc n) within blanks = elim (cases_eq (get_or bytes n 0) 0x40) [
  | inl blank ↦ length_from bytes n (omega (arith, within)) (λ k from to. elim (cases_eq k n) [
    | inl same ↦ subst (λ (m : ℕ). get_or bytes m 0 ≡ 0x40) (sym same) blank
    | inr apart ↦ blanks k (omega (arith, from, apart)) to
  ])
  | inr other ↦
      let at : suc n - 1 ≡ n = omega arith in
      (suc n, record { within = within; blanks = blanks; last = λ less. subst (λ (m : ℕ). get_or bytes m 0 ≢ 0x40) (sym at) other })
]

own_len : (bytes : List ℕ) (name : Dsn) → IsDsn name → IsNameOf name bytes → (len : ℕ) → IsLength bytes len → name.len ≡ len
own_len bytes name (text, spelled, is) named len found =
    ap (λ (d : Dsn). d.len) is ∙ sym (same_len bytes text spelled name is named len found.within found.blanks found.last)

long_text : (name : Dsn) → IsDsn name → name.len ≤ length name.text
long_text name (text, spelled, is) =
    omega (
      arith,
      ap (λ (d : Dsn). d.len) is,
      ap (λ (d : Dsn). length d.text) is,
      length-append (capitals text) (replicate (44 - length text) 0),
      length-map text to_ascii_uppercase,
    )

pub one_named : (bytes : List ℕ) (a b : Dsn) → IsDsn a → IsDsn b → IsNameOf a bytes → IsNameOf b bytes → a ≡ b
one_named bytes a b lawful other named also =
    one_name a b lawful other (same_number_lists (take a.len a.text) (take b.len b.text) (a_long ∙ same ∙ sym b_long) each)
  where
    found : (len : ℕ) × IsLength bytes len
    found = length_from bytes 44 (omega arith) (λ k from to. absurd (omega (arith, from, to)))

    same : a.len ≡ b.len
    same = own_len bytes a lawful named found.0 found.1 ∙ sym (own_len bytes b other also found.0 found.1)

    a_long : length (take a.len a.text) ≡ a.len
    a_long = length-take-le a.len a.text (long_text a lawful)

    b_long : length (take b.len b.text) ≡ b.len
    b_long = length-take-le b.len b.text (long_text b other)

    each : (k : ℕ) → k < length (take a.len a.text) → get_or (take a.len a.text) k 0 ≡ get_or (take b.len b.text) k 0
    each k lt =
        let here : k < a.len = omega (arith, lt, a_long) in
        let there : k < b.len = omega (arith, here, same) in
        let both : Some (get_or a.text k 0) ≡ Some (get_or b.text k 0) = sym (named.characters k here) ∙ also.characters k there in
        let one : get_or a.text k 0 ≡ get_or b.text k 0 = cc in
        get_or-take a.len a.text k 0 here ∙ one ∙ sym (get_or-take b.len b.text k 0 there)
