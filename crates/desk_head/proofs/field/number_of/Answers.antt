use Rattle.std.proofs.Common.{◌∙◌, ◌≡◌, ℕ, ◌+◌, ◌*◌, ap, sym, rules, arith, get_or, take}
use Rattle.std.proofs.lemmas.List.Elements.{All-more}
use Rattle.std.proofs.lemmas.Int.Digits.{digits_value_more}
use Rattle.std.proofs.lemmas.Str.{digit_value_digit}
use Rattle.std.specs.Char.{digit_value, is_ascii_digit}
use Rattle.std.specs.Prelude.{min, IsTrue}
use Rattle.desk_head.specs.Fields.{number}
use Rattle.desk_head.proofs.FieldLemmas.{min_more}
use Rattle.desk_head.proofs.field.number_of.Goals as goal

pub loop-byte-preserved : goal.loop-byte-preserved
loop-byte-preserved c =
    let text = c.args.text.now in
    let i = c.loop-byte.byte-index in
    let said : digit_value (get_or text i 0) + 48 ≡ get_or text i 0 = digit_value_digit (get_or text i 0) (search rules) in
    record {
      value = min_more (number (take i text)) c.args.limit (digit_value (get_or text i 0)) c.loop-byte.value c.min-value.result c.loop-byte.invariant.value
          (c.min-value.ensures ∙ ap (λ (n : ℕ). min (c.loop-byte.value * 10 + n) c.args.limit) (omega (arith, c.from.ensures, said)))
          ∙ ap (λ (n : ℕ). min n c.args.limit) (ap (λ (n : ℕ). n) (omega (arith, digits_value_more 10 text i (omega arith))));
      digits = All-more (λ (b : ℕ). IsTrue (is_ascii_digit b)) text i 0 (omega arith) c.loop-byte.invariant.digits (sym c.is_ascii_digit.ensures.value ∙ c.if-not-is_ascii_digit.false);
    }
