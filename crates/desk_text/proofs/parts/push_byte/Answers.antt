use Rattle.std.proofs.Common.{◌∙◌, ◌++◌, ◌∷◌, [], List, ℕ, ap, arith}
use Rattle.std.proofs.lemmas.Result.{on_ok_weaker}
use Rattle.desk_text.proofs.Escapes.{escape_short, escape_long, escape_plain}
use Rattle.desk_text.proofs.parts.push_byte.Goals as goal

pub returns-then-short-gt0 : goal.returns-then-short-gt0
returns-then-short-gt0 c =
    on_ok_weaker c.extend_from_slice.result (λ e. e ∙ ap (λ (l : List ℕ). c.args.out.now ++ l) (escape_short c.args.byte c.letter-short.result c.letter-short.ensures (omega arith))) c.extend_from_slice.ensures.ok

pub returns-then-byte-lt32 : goal.returns-then-byte-lt32
returns-then-byte-lt32 c = on_ok_weaker c.extend_from_slice-then-byte-lt32.result (λ e. e ∙ ap (λ (l : List ℕ). c.args.out.now ++ l) ((λ i. 92 ∷ 117 ∷ 48 ∷ 48 ∷ c.digit.ensures i ∷ c.digit-then-byte-lt32.ensures i ∷ []) ∙ escape_long c.args.byte c.letter-short.result c.letter-short.ensures (omega arith) (omega arith))) c.extend_from_slice-then-byte-lt32.ensures.ok

pub returns : goal.returns
returns c =
    on_ok_weaker c.push.result (λ e. e ∙ ap (λ (l : List ℕ). c.args.out.now ++ l) (escape_plain c.args.byte c.letter-short.result c.letter-short.ensures (omega arith) (omega arith))) c.push.ensures.ok
