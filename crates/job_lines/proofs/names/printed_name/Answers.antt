use Rattle.std.proofs.Common.{◌≡◌, ◌++◌, ◌∷◌, [], ℕ, List, take, map, sym, ap, ◌∙◌, arith}
use Rattle.std.specs.Prelude.{unwrap_or}
use Rattle.std.proofs.lemmas.List.{map_more, take_all}
use Rattle.vol_label.specs.CodePage.{ascii_of}
use Rattle.job_lines.proofs.names.printed_name.Goals as goal

printed_byte : ℕ → ℕ
printed_byte byte = unwrap_or (ascii_of byte) 63

pub loop-byte-preserved : goal.loop-byte-preserved
unfolding printed_byte
loop-byte-preserved c =
    let bytes = c.trimmed-byte-items.result.now in
    let i = c.loop-byte.byte-index in
    c.in_ok-push.ensures.bytes
    ∙ (λ k. c.loop-byte.invariant k ++ c.in_ok-push.ensures.ascii c.printed_character.ensures.ascii k)
    ∙ (λ k. map printed_byte (take i bytes) ++ (c.printed_character.ensures.value k ∷ []))
    ∙ sym (map_more printed_byte bytes i 0 c.loop-byte-test.true)

pub returns : goal.returns
returns c =
    let bytes = c.trimmed-byte-items.result.now in
    let all : take c.loop-byte.byte-index bytes ≡ bytes = take_all c.loop-byte.byte-index bytes (omega (arith, c.loop-byte-test.false)) in
    c.loop-byte.invariant
    ∙ ap (λ (t : List ℕ). map (λ byte. unwrap_or (ascii_of byte) 63) t) (all ∙ c.trimmed-byte-items.ensures.text)
