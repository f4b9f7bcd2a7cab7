use Rattle.std.proofs.Common.{rules, ◌≡◌, ◌/◌, ◌%◌, true, Some, ◌∙◌, get_or, arith}
use Rattle.std.specs.Fmt.{digits, digits_output, styled_digits_output}
use Rattle.job_lines.specs.Lines.{hex}
use Rattle.job_lines.proofs.Digits.{hex_hole}
use Rattle.job_lines.proofs.texts.last_text.Goals as goal

pub returns : goal.returns
returns c =
    let h = c.format.ensures.ok in
    let track = c.args.track in
    let bytes = c.to_be_bytes.ensures in
    let high : get_or c.to_be_bytes.result 0 0 ≡ track / 256 = (λ i. get_or (bytes i) 0 0) ∙ omega (arith, c.ranges.track.fits) in
    let low : get_or c.to_be_bytes.result 1 0 ≡ track % 256 = (λ i. get_or (bytes i) 1 0) in
    let one : styled_digits_output c.in_radix.result c.laid_out.result ≡ Some (hex (track / 256)) =
    (λ i. styled_digits_output c.in_radix.result (c.laid_out.ensures i))
    ∙ hex_hole (digits_output c.in_radix.result) (track / 256) (omega (arith, c.ranges.track.fits)) (c.in_radix.ensures ∙ (λ i. Some (digits 16 true (high i)))) in
    let two : styled_digits_output c.in_radix-2.result c.laid_out-2.result ≡ Some (hex (track % 256)) =
    (λ i. styled_digits_output c.in_radix-2.result (c.laid_out-2.ensures i))
    ∙ hex_hole (digits_output c.in_radix-2.result) (track % 256) (omega arith) (c.in_radix-2.ensures ∙ (λ i. Some (digits 16 true (low i)))) in
    let three : styled_digits_output c.in_radix-3.result c.laid_out-3.result ≡ Some (hex c.args.record_number) =
    (λ i. styled_digits_output c.in_radix-3.result (c.laid_out-3.ensures i)) ∙ hex_hole (digits_output c.in_radix-3.result) c.args.record_number (search rules) c.in_radix-3.ensures in
    rw (one, two, three) at h
