use Rattle.std.proofs.Common.{◌+◌, List, ℕ, length, subst, sym}
use Rattle.std.proofs.lemmas.Result.{err_from_is_err_and}
use Rattle.dsn_filter.specs.Text.{IsFirstWrong}
use Rattle.enq_table.specs.Lines.{IsTail, IsCut}
use Rattle.enq_table.proofs.LineText.{cut_wrong, name_ends, holder_wrong}
use Rattle.enq_table.proofs.line.tail_of.Goals as goal

pub returns-in_err-name-clause-refused : goal.returns-in_err-name-clause-refused
returns-in_err-name-clause-refused c =
    let p = err_from_is_err_and c.from_residual.result c.from_residual.ensures.1 in
    rw (p.1, p.2) (cut_wrong c.args.text.now c.first_word.result.0.now c.first_word.result.1 c.in_err-name.field-0.0 c.first_word.ensures.cut c.first_word.ensures.word c.in_err-name.ensures.refused)

pub returns-in_default-clause-refused : goal.returns-in_default-clause-refused
returns-in_default-clause-refused c =
    let whole = subst (λ b. IsCut c.args.text.now c.first_word.result.0.now b) c.in_default.is c.first_word.ensures.cut in
    subst (λ (t : List ℕ). IsFirstWrong IsTail t (length t)) (sym whole) (name_ends c.first_word.result.0.now c.first_word.ensures.word c.in_ok-name.ensures.read.0)

pub returns-in-Err-clause-refused : goal.returns-in-Err-clause-refused
returns-in-Err-clause-refused c =
    let whole = subst (λ b. IsCut c.args.text.now c.first_word.result.0.now b) c.in-Some.is c.first_word.ensures.cut in
    subst (λ (t : List ℕ). IsFirstWrong IsTail t (length c.first_word.result.0.now + 1 + c.in-Err.place)) (sym whole)
    (holder_wrong c.first_word.result.0.now c.in-Some.rest.now c.in-Err.place c.first_word.ensures.word c.in_ok-name.ensures.read.0 c.in-Err.ensures.refused)
