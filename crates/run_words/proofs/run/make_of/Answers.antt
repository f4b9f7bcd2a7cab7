use Rattle.run_words.specs.Words.{values_of, IsNumber, IsRun}
use Rattle.run_words.specs.declared.name.Name.TheVariants as names
use Rattle.run_words.proofs.Passed.{passed}
use Rattle.run_words.proofs.Refused.{no_make}
use Rattle.run_words.proofs.run.make_of.Goals as goal

pub returns-in_err-number : goal.returns-in_err-number
returns-in_err-number c =
    passed (IsNumber 1 200 (values_of names.Make c.args.options.now)) (IsRun c.args.options.now) c.from_residual.result c.in_err-number.field-0.0 c.from_residual.ensures.1 c.in_err-number.ensures
    (λ none. no_make c.args.options.now c.requires (λ number is. none number is.number_is))
