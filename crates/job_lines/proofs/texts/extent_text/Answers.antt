use Rattle.std.proofs.Common.{rules, ◌≡◌, Some, ◌∙◌}
use Rattle.std.specs.Fmt.{digits_output, styled_digits_output}
use Rattle.std.specs.Prelude.{string_bytes}
use Rattle.std.proofs.lemmas.Result.{IfOk-weaker}
use Rattle.job_lines.specs.Lines.{hex}
use Rattle.job_lines.proofs.Digits.{hex_hole}
use Rattle.job_lines.proofs.Pieces.{extent_together}
use Rattle.job_lines.proofs.texts.extent_text.Goals as goal

pub returns : goal.returns
returns c =
    let h = c.format.ensures.ok in
    let kind : styled_digits_output c.in_radix.result c.laid_out.result ≡ Some (hex c.args.extent.kind) =
    (λ i. styled_digits_output c.in_radix.result (c.laid_out.ensures i)) ∙ hex_hole (digits_output c.in_radix.result) c.args.extent.kind (search rules) c.in_radix.ensures in
    IfOk-weaker c.format.result _ _ (λ text is. extent_together (string_bytes text) c.args.extent is) (rw kind at h)
