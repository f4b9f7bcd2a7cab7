-- What a DSCB says after a change wrote some of its fields.
use Rattle.std.proofs.Common.{◌≡◌, ℕ, ◌+◌, ◌*◌, ◌/◌, ◌%◌, ◌≤◌, List, take, get_or, Bool, true, false, cond, ◌==◌, ◌&&◌, sym, ap, subst, ◌∙◌, arith}
use Rattle.std.specs.List.{list_all}
use Rattle.std.proofs.lemmas.List.{take-take}
use Rattle.volume_model.specs.declared.format.Format.{Format}
use Rattle.volume_model.specs.declared.format.Format.TheVariants.{Broken, Free, F1, F3, F4, F5}
use Rattle.volume_model.specs.Dscbs.{format_of, format_by, is_filled}

-- two bytes of a number of two bytes
pub two_bytes : (n : ℕ) → n ≤ 65535 → 256 * ((n / 256) % 256) + n % 256 ≡ n
two_bytes n fits = omega (arith, fits)

-- ---- the format

-- a format with an identifier
abbrev pub IsNamed : Format → Type 0
IsNamed Broken = ⊥
IsNamed Free = ⊥
IsNamed _ = Unit {0}

-- zeros decide only where nothing else does
zeros_apart : (p q r s z y : Bool) (f : Format) → IsNamed f → cond p F1 (cond q F3 (cond r F4 (cond s F5 (cond z Free Broken)))) ≡ f
    → cond p F1 (cond q F3 (cond r F4 (cond s F5 (cond y Free Broken)))) ≡ f
zeros_apart true q r s z y f named is = is
zeros_apart false true r s z y f named is = is
zeros_apart false false true s z y f named is = is
zeros_apart false false false true z y f named is = is
zeros_apart false false false false true y f named is = absurd (let P : Format → Type 0 = IsNamed in subst P (sym is) named)
zeros_apart false false false false false y f named is = absurd (let P : Format → Type 0 = IsNamed in subst P (sym is) named)

-- bytes with the same front of 45 have the same format
pub same_format : (old new : List ℕ) (f : Format) → take 44 new ≡ take 44 old → get_or new 44 0 ≡ get_or old 44 0 → IsNamed f → format_of old ≡ f → format_of new ≡ f
same_format old new f front code named is =
    (λ i. format_by (code i) (list_all (λ byte. byte == 0x03) (four i)) (list_all (λ byte. byte == 0x04) (front i)) (list_all (λ byte. byte == 0x05) (four i)) (is_filled 140 0 new))
    ∙ zeros_apart (get_or old 44 0 == 0xF1) ((get_or old 44 0 == 0xF3) && is_filled 4 0x03 old) ((get_or old 44 0 == 0xF4) && is_filled 44 0x04 old) ((get_or old 44 0 == 0xF5) && is_filled 4 0x05 old)
    (is_filled 140 0 old) (is_filled 140 0 new) f named is
  where
    four : take 4 new ≡ take 4 old
    four = sym (take-take 4 44 new (omega arith)) ∙ ap (take 4) front ∙ take-take 4 44 old (omega arith)
