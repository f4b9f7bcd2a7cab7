use Rattle.std.proofs.Common.{◌≡◌, ◌≢◌, inl, inr, ℕ, ◌+◌, ◌<◌, subst, sym, ap, ◌∙◌, arith, w64}
use Rattle.std.specs.Prelude.{◌==◌}
use Rattle.std.specs.Int.{bit_at}
use Rattle.std.proofs.lemmas.Bool.{cases_lt}
use Rattle.std.proofs.lemmas.Nat.Bits.{bit_at_set_same, bit_at_set_other}
use Rattle.redo_core.specs.Reading.{fills_of}
use Rattle.redo_core.proofs.journal.bits_of.Goals as goal
use Rattle.redo_core.proofs.journal.bits_of.Goals.{then-fills-unit, else-fills-unit}

-- what holds of the numbers below one, and of it
one_more : (P : ℕ → Type 0) (unit : ℕ) → ((u : ℕ) → u < unit → P u) → P unit → (u : ℕ) → u < unit + 1 → P u
one_more P unit each last u less = elim (cases_lt u unit) [
  | inl below ↦ each u below
  | inr above ↦ let same : unit ≡ u = omega (arith, above, less) in subst P same last
]

pub loop-unit-preserved : goal.loop-unit-preserved
loop-unit-preserved c =
    let old = c.loop-unit.filling in
    let new = c.if-fills-unit.filling in
    let unit = c.loop-unit.unit in
    let inv = c.loop-unit.invariant in
    let within : unit < 64 = omega (arith, c.loop-unit-test.true, c.requires) in
    let P : ℕ → Type 0 = λ u. (bit_at new u == 1) ≡ fills_of c.args.fills.now u in
    elim c.if-fills-unit.branch [
      | then-fills-unit w ↦
          let others : (u : ℕ) → u ≢ unit → bit_at new u ≡ bit_at old u = λ u apart. ap (λ (n : ℕ). bit_at n u) w.filling-is ∙ bit_at_set_other w64 old unit within u apart in
          record {
            flags = one_more P unit
                (λ u below. ap (λ (b : ℕ). b == 1) (others u (λ same. omega (arith, below, same))) ∙ inv.flags u below)
                (ap (λ (n : ℕ). bit_at n unit == 1) w.filling-is ∙ ap (λ (b : ℕ). b == 1) (bit_at_set_same w64 old unit within) ∙ sym w.if-fills-unit.true);
            none = λ u past. others u (λ same. omega (arith, past, same)) ∙ inv.none u (omega (arith, past));
          }
      | else-fills-unit w ↦
          record {
            flags = one_more P unit
                (λ u below. ap (λ (n : ℕ). bit_at n u == 1) w.filling-is ∙ inv.flags u below)
                (ap (λ (n : ℕ). bit_at n unit == 1) w.filling-is ∙ ap (λ (b : ℕ). b == 1) (inv.none unit (omega arith)) ∙ sym w.if-fills-unit.false);
            none = λ u past. ap (λ (n : ℕ). bit_at n u) w.filling-is ∙ inv.none u (omega (arith, past));
          }
    ]
