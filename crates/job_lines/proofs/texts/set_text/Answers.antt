use Rattle.std.specs.Prelude.{string_bytes}
use Rattle.std.proofs.lemmas.Result.{IfOk-weaker}
use Rattle.job_lines.proofs.Pieces.{set_together}
use Rattle.job_lines.proofs.texts.set_text.Goals as goal

pub returns : goal.returns
returns c =
    IfOk-weaker c.format.result _ _
    (λ text is. set_together (string_bytes text) (string_bytes c.in_ok-name.name) (string_bytes c.in_ok-organization.organization) (string_bytes c.in_ok-last.last) c.args.set is
    c.in_ok-name.ensures c.in_ok-organization.ensures c.in_ok-last.ensures)
    c.format.ensures.ok
