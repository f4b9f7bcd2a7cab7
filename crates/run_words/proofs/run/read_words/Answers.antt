use Rattle.std.proofs.Common.{List, sym, subst}
use Rattle.run_words.specs.Parts.{Gives}
use Rattle.run_words.specs.declared.given.Given.{Given}
use Rattle.run_words.proofs.Refused.{read_by, refused_by, refused_on}
use Rattle.run_words.proofs.run.read_words.Goals as goal

pub returns-in_err-options-clause-refused : goal.returns-in_err-options-clause-refused
returns-in_err-options-clause-refused c = refused_on c.args.words.now c.from_residual.result c.in_err-options.field-0.0 c.from_residual.ensures.1 c.in_err-options.ensures

pub returns-clause-read : goal.returns-clause-read
returns-clause-read c = read_by c.args.words.now c.as_slice.result.now c.run_of.result
    (subst (λ (t : List Given). Gives c.args.words.now t) (sym c.as_slice.ensures) c.in_ok-options.ensures) c.run_of.ensures

pub returns-clause-refused : goal.returns-clause-refused
returns-clause-refused c = refused_by c.args.words.now c.as_slice.result.now c.run_of.result
    (subst (λ (t : List Given). Gives c.args.words.now t) (sym c.as_slice.ensures) c.in_ok-options.ensures) c.run_of.ensures
