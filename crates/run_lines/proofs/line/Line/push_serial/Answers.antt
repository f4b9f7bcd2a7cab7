use Rattle.std.proofs.Common.{◌≡◌, ◌++◌, ◌∷◌, [], ℕ, List, take, map, sym, ap, ◌∙◌, append_assoc, arith}
use Rattle.std.specs.Prelude.{unwrap_or}
use Rattle.std.proofs.lemmas.List.{append-nil, map_more, take_all}
use Rattle.vol_label.specs.CodePage.{ascii_of}
use Rattle.run_lines.proofs.line.Line.push_serial.Goals as goal

printed_byte : ℕ → ℕ
printed_byte byte = unwrap_or (ascii_of byte) 63

pub loop-byte-init : goal.loop-byte-init
loop-byte-init c = record { text = sym (append-nil c.args.self.now); length = omega arith }

pub push-requires : goal.push-requires
push-requires c = omega (arith, c.requires, c.loop-byte.invariant.length, c.loop-byte-test.true, c.trimmed-text.ensures.short)

pub loop-byte-preserved : goal.loop-byte-preserved
unfolding printed_byte
loop-byte-preserved c =
    let text = c.trimmed-text.result.now in
    let i = c.loop-byte.byte-index in
    record {
      text =
          c.push.ensures.text
          ∙ (λ k. c.loop-byte.invariant.text k ++ (c.printed_byte.ensures.value k ∷ []))
          ∙ append_assoc c.args.self.now (map printed_byte (take i text)) (_ ∷ [])
          ∙ ap (λ (t : List ℕ). c.args.self.now ++ t) (sym (map_more printed_byte text i 0 c.loop-byte-test.true));
      length = omega (arith, c.push.ensures.length, c.loop-byte.invariant.length);
    }

pub returns-clause-text : goal.returns-clause-text
returns-clause-text c =
    let all : take c.loop-byte.byte-index c.trimmed-text.result.now ≡ c.trimmed-text.result.now =
    take_all c.loop-byte.byte-index c.trimmed-text.result.now (omega (arith, c.loop-byte-test.false)) in
    c.loop-byte.invariant.text ∙ ap (λ (t : List ℕ). c.args.self.now ++ map (λ byte. unwrap_or (ascii_of byte) 63) t) (all ∙ c.trimmed-text.ensures.text)

pub returns-clause-length : goal.returns-clause-length
returns-clause-length c = omega (arith, c.loop-byte.invariant.length, c.loop-byte.auto.byte-index-end, c.trimmed-text.ensures.short)
