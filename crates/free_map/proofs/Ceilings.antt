-- A number of tracks in whole cylinders.
use Rattle.std.proofs.Common.{◌≡◌, ℕ, zero, suc, ◌+◌, ◌-◌, ◌*◌, ◌/◌, ◌%◌, ◌<◌, ◌≤◌, sym, ap, ◌∙◌, arith}
use Rattle.std.specs.Prelude.{min}
use Rattle.std.specs.Int.{div_ceil}
use Rattle.std.proofs.lemmas.Nat.{div-add-mod', div-mul-add}
use Rattle.std.proofs.Math.Nat.{mod-lt, suc-mul}
use Rattle.ckd_image.specs.Device.{ceil_div}

by_rest : (q r n d : ℕ) → 1 ≤ d → r < d → q * d + r ≡ n → ceil_div n d ≡ q + min 1 r
by_rest q zero n d some less is =
    let sum : n + (d - 1) ≡ q * d + (d - 1) = omega (arith, is) in
    ap (λ (m : ℕ). m / d) sum ∙ div-mul-add q d (d - 1) (omega (arith, some)) ∙ omega arith
by_rest q (suc r) n d some less is =
    let more : suc q * d ≡ q * d + d = suc-mul q d in
    let sum : n + (d - 1) ≡ suc q * d + r = omega (arith, is, more, some) in
    ap (λ (m : ℕ). m / d) sum ∙ div-mul-add (suc q) d r (omega (arith, less)) ∙ omega arith

pub ceiling_is : (n d : ℕ) → 1 ≤ d → div_ceil n d ≡ ceil_div n d
ceiling_is n d some = sym (by_rest (n / d) (n % d) n d some (mod-lt n some) (div-add-mod' n d))
