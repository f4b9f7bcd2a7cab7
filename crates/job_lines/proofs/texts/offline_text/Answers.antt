use Rattle.std.specs.Prelude.{string_bytes, codes}
use Rattle.std.proofs.lemmas.Result.{IfOk-weaker}
use Rattle.job_lines.specs.Names.{printed}
use Rattle.job_lines.specs.Lines.{why_words}
use Rattle.job_lines.proofs.Pieces.{led_pieces}
use Rattle.job_lines.proofs.texts.offline_text.Goals as goal

pub returns : goal.returns
returns c =
    IfOk-weaker c.format.result _ _
    (λ text is. led_pieces (codes "UNIT ") (codes " OFFLINE: ") (string_bytes text) (string_bytes c.in_ok-serial.serial) (string_bytes c.in_ok-why.why) (printed c.args.serial.text) (why_words c.args.why) is
    c.in_ok-serial.ensures c.in_ok-why.ensures)
    c.format.ensures.ok
