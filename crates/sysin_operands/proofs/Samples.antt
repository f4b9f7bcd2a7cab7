-- Words that say something.
use Rattle.std.proofs.Common.{◌≡◌, ◌<◌, ◌≤◌, inl, ℕ, zero, suc, List, [], ◌∷◌, refl, arith, Some}
use Rattle.std.specs.Prelude.{codes, slice_index}
use Rattle.std.proofs.lemmas.List.Elements.{All-from_recursion}
use Rattle.vol_label.specs.declared.serial.Serial.{Serial}
use Rattle.vol_label.specs.CodePage.{ascii_of}
use Rattle.vol_label.specs.Serial.{IsSerialCharacter}
use Rattle.sysin_values.specs.Values.{SaysSerial}
use Rattle.sysin_values.proofs.Said.{outputs_said}
use Rattle.sysin_forms.specs.declared.operand.Operand.{Operand}
use Rattle.sysin_forms.specs.declared.operand.Operand.TheVariants as operands
use Rattle.sysin_operands.specs.declared.bracket.Single.{Single}
use Rattle.sysin_operands.specs.declared.bracket.Single.TheVariants as singles
use Rattle.sysin_operands.specs.Bracket.{SaysSingle}

abbrev serial_word : List ℕ
serial_word = 65 ∷ []

abbrev serial_text : List ℕ
serial_text = 0xC1 ∷ 0x40 ∷ 0x40 ∷ 0x40 ∷ 0x40 ∷ 0x40 ∷ []

character : (k : ℕ) → k < 1 → ascii_of (slice_index serial_text k) ≡ Some (slice_index serial_word k)
character zero below = refl
character (suc k) below = absurd (omega arith)

blank : (k : ℕ) → 1 ≤ k → k < 6 → slice_index serial_text k ≡ 0x40
blank zero some below = absurd (omega arith)
blank (suc zero) some below = refl
blank (suc (suc zero)) some below = refl
blank (suc (suc (suc zero))) some below = refl
blank (suc (suc (suc (suc zero)))) some below = refl
blank (suc (suc (suc (suc (suc zero))))) some below = refl
blank (suc (suc (suc (suc (suc (suc k)))))) some below = absurd (omega arith)

a_serial : Serial
a_serial = record { text = serial_text }

serial_says : SaysSerial serial_word a_serial
unfolding a_serial
serial_says = (
  record { some = omega arith; few = omega arith; characters = All-from_recursion IsSerialCharacter serial_word (inl (omega arith, omega arith), tt) },
  record { six = refl; characters = character; blanks = blank },
)

-- a word for each kind
pub sample : (single : Single) → (word : List ℕ) × (operand : Operand) × SaysSingle single word operand
sample singles.Unit = (serial_word, operands.Unit a_serial, (a_serial, serial_says, refl))
sample singles.LogicalUnit = (serial_word, operands.LogicalUnit a_serial, (a_serial, serial_says, refl))
sample singles.Input = (outputs_said.sample, operands.Input outputs_said.value, (outputs_said.value, outputs_said.says, refl))
sample singles.Target = (serial_word, operands.Target a_serial, (a_serial, serial_says, refl))
sample singles.Index = (codes "1", operands.Index 1, (1, refl, refl))
sample singles.Limit = (codes "1", operands.Limit 1, (1, refl, refl))
sample singles.Tolerate = (codes "ENQF", operands.Tolerate, (refl, refl))
sample singles.Optimize = (codes "1", operands.Optimize, ((1, refl), refl))
