use Rattle.std.specs.Prelude.{string_bytes}
use Rattle.std.proofs.lemmas.Result.{IfOk-weaker}
use Rattle.job_lines.specs.Names.{printed}
use Rattle.job_lines.proofs.Pieces.{consolidated_together}
use Rattle.job_lines.proofs.texts.consolidated_text.Goals as goal

pub returns : goal.returns
returns c =
    IfOk-weaker c.format.result _ _
    (λ text is. consolidated_together (string_bytes text) (string_bytes c.in_ok-name.name) (printed c.args.name.now) c.args.extents c.args.first is c.in_ok-name.ensures)
    c.format.ensures.ok
