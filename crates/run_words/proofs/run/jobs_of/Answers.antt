use Rattle.run_words.specs.Words.{values_of, AreUnits, AreDds, IsPath, IsPathOrNone, IsRun}
use Rattle.run_words.specs.declared.name.Name.TheVariants as names
use Rattle.run_words.proofs.Passed.{passed}
use Rattle.run_words.proofs.Refused.{no_jobs, both_missing}
use Rattle.run_words.proofs.run.jobs_of.Goals as goal

pub returns-in_err-units : goal.returns-in_err-units
returns-in_err-units c =
    passed (AreUnits (values_of names.Unit c.args.options.now)) (IsRun c.args.options.now) c.from_residual.result c.in_err-units.field-0.0 c.from_residual.ensures.1 c.in_err-units.ensures
    (λ none. no_jobs c.args.options.now c.requires.no_format c.requires.no_make (λ u j s h o n is. none u is.units_are))

pub returns-in_err-journal : goal.returns-in_err-journal
returns-in_err-journal c =
    passed (IsPath (values_of names.Journal c.args.options.now)) (IsRun c.args.options.now) c.from_residual-in_err-journal.result c.in_err-journal.field-0.0 c.from_residual-in_err-journal.ensures.1 c.in_err-journal.ensures
    (λ none. no_jobs c.args.options.now c.requires.no_format c.requires.no_make (λ u j s h o n is. none j is.journal_is))

pub returns-in_err-sysin : goal.returns-in_err-sysin
returns-in_err-sysin c =
    passed (IsPath (values_of names.Sysin c.args.options.now)) (IsRun c.args.options.now) c.from_residual-in_err-sysin.result c.in_err-sysin.field-0.0 c.from_residual-in_err-sysin.ensures.1 c.in_err-sysin.ensures
    (λ none. no_jobs c.args.options.now c.requires.no_format c.requires.no_make (λ u j s h o n is. none s is.sysin_is))

pub returns-in_err-held : goal.returns-in_err-held
returns-in_err-held c =
    passed (IsPathOrNone (values_of names.Held c.args.options.now)) (IsRun c.args.options.now) c.from_residual-in_err-held.result c.in_err-held.field-0.0 c.from_residual-in_err-held.ensures.1 c.in_err-held.ensures
    (λ none. no_jobs c.args.options.now c.requires.no_format c.requires.no_make (λ u j s h o n is. none h is.held_is))

pub returns-in_err-outs : goal.returns-in_err-outs
returns-in_err-outs c =
    passed (AreDds (values_of names.Out c.args.options.now)) (IsRun c.args.options.now) c.from_residual-in_err-outs.result c.in_err-outs.field-0.0 c.from_residual-in_err-outs.ensures.1 c.in_err-outs.ensures
    (λ none. no_jobs c.args.options.now c.requires.no_format c.requires.no_make (λ u j s h o n is. none o is.outs_are))

pub returns-in_err-ins : goal.returns-in_err-ins
returns-in_err-ins c =
    passed (AreDds (values_of names.In c.args.options.now)) (IsRun c.args.options.now) c.from_residual-in_err-ins.result c.in_err-ins.field-0.0 c.from_residual-in_err-ins.ensures.1 c.in_err-ins.ensures
    (λ none. no_jobs c.args.options.now c.requires.no_format c.requires.no_make (λ u j s h o n is. none n is.ins_are))

pub returns : goal.returns
returns c = record {
  units_are = c.in_ok-units.ensures;
  journal_is = c.in_ok-journal.ensures;
  sysin_is = c.in_ok-sysin.ensures;
  held_is = c.in_ok-held.ensures;
  outs_are = c.in_ok-outs.ensures;
  ins_are = c.in_ok-ins.ensures;
  no_other = both_missing c.args.options.now names.FormatJournal names.Make c.requires.no_format c.requires.no_make;
}
