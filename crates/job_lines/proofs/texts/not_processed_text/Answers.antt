use Rattle.std.specs.Prelude.{string_bytes, codes}
use Rattle.std.proofs.lemmas.Result.{IfOk-weaker}
use Rattle.job_lines.specs.Names.{printed}
use Rattle.job_lines.specs.Lines.{reason_words}
use Rattle.job_lines.proofs.Pieces.{three_pieces}
use Rattle.job_lines.proofs.texts.not_processed_text.Goals as goal

pub returns : goal.returns
returns c =
    let words = c.reason_words-words.result.now in
    IfOk-weaker c.format.result _ _
    (λ text is. three_pieces (string_bytes text) (string_bytes c.in_ok-name.name) words (printed c.args.name.now) (codes " NOT PROCESSED: ") (reason_words c.args.reason) is
    c.in_ok-name.ensures c.reason_words-words.ensures)
    c.format.ensures.ok
