use Rattle.std.specs.Prelude.{string_bytes, codes}
use Rattle.std.specs.Fmt.{decimal}
use Rattle.std.proofs.lemmas.Result.{IfOk-weaker}
use Rattle.job_lines.specs.Names.{printed}
use Rattle.job_lines.proofs.Pieces.{three_pieces}
use Rattle.job_lines.proofs.texts.released_text.Goals as goal
use Rattle.std.proofs.Common.{refl}

pub returns : goal.returns
returns c =
    IfOk-weaker c.format.result _ _
    (λ text is. three_pieces (string_bytes text) (string_bytes c.in_ok-name.name) (decimal c.args.tracks) (printed c.args.name.now) (codes " RELEASED ") (decimal c.args.tracks) is
    c.in_ok-name.ensures refl)
    c.format.ensures.ok
