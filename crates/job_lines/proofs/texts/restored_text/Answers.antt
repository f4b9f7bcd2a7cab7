use Rattle.std.proofs.Common.{ℕ, List, Option, ap, sym, ◌∙◌, ◌++◌}
use Rattle.std.specs.Prelude.{string_bytes, codes}
use Rattle.std.proofs.lemmas.Result.{IfOk-weaker}
use Rattle.job_lines.specs.Names.{printed}
use Rattle.job_lines.specs.Lines.{renamed}
use Rattle.job_lines.proofs.Pieces.{renamed_together, stands_together}
use Rattle.job_lines.proofs.texts.restored_text.Goals as goal

pub returns-in-None : goal.returns-in-None
returns-in-None c =
    IfOk-weaker c.format.result _ _
    (λ text is.
    stands_together (codes " RESTORED TO ") (string_bytes text) (string_bytes c.in_ok-name.name) (printed c.args.name.now) (string_bytes c.in_ok-serial.serial) (printed c.args.serial.text) is c.in_ok-name.ensures c.in_ok-serial.ensures
    ∙ ap (λ (new : Option (List ℕ)). printed c.args.name.now ++ codes " RESTORED TO " ++ printed c.args.serial.text ++ renamed new) (sym c.in-None.is))
    c.format.ensures.ok

pub returns : goal.returns
returns c =
    IfOk-weaker c.format-in-Some.result _ _
    (λ text is.
    renamed_together (codes " RESTORED TO ") (string_bytes text) (string_bytes c.in_ok-name.name) (printed c.args.name.now) (string_bytes c.in_ok-serial.serial) (printed c.args.serial.text)
    (string_bytes c.in_ok-new-in-Some.new) (printed c.in-Some.new) is c.in_ok-name.ensures c.in_ok-serial.ensures c.in_ok-new-in-Some.ensures
    ∙ ap (λ (new : Option (List ℕ)). printed c.args.name.now ++ codes " RESTORED TO " ++ printed c.args.serial.text ++ renamed new) (sym c.in-Some.is))
    c.format-in-Some.ensures.ok
