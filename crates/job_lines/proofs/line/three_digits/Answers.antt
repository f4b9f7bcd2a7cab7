use Rattle.std.proofs.Common.{◌≡◌, ◌%◌, ◌∙◌}
use Rattle.std.specs.Fmt.{styled_decimal}
use Rattle.job_lines.specs.Lines.{three}
use Rattle.job_lines.proofs.Digits.{last_hole}
use Rattle.job_lines.proofs.line.three_digits.Goals as goal

pub returns : goal.returns
returns c =
    let h = c.format.ensures.ok in
    let shown : styled_decimal c.laid_out.result (c.args.number % 1000) ≡ three c.args.number =
    (λ i. styled_decimal (c.laid_out.ensures i) (c.args.number % 1000)) ∙ last_hole c.args.number in
    rw shown at h
