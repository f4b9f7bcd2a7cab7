use Rattle.std.specs.Prelude.{string_bytes, codes}
use Rattle.std.proofs.lemmas.Result.{IfOk-weaker}
use Rattle.job_lines.specs.Names.{dd_text}
use Rattle.job_lines.specs.Lines.{flaw_words}
use Rattle.job_lines.proofs.Pieces.{led_pieces}
use Rattle.job_lines.proofs.texts.bad_dump_text.Goals as goal

pub returns : goal.returns
returns c =
    let words = c.flaw_words-words.result.now in
    IfOk-weaker c.format.result _ _
    (λ text is. led_pieces (codes "INPUT ") (codes " BAD DUMP ") (string_bytes text) (string_bytes c.in_ok-name.name) words (dd_text c.args.name) (flaw_words c.args.flaw) is
    c.in_ok-name.ensures c.flaw_words-words.ensures)
    c.format.ensures.ok
