use Rattle.std.proofs.Common.{[], ◌∷◌, refl}
use Rattle.run_words.specs.Words.{values_of, AreUnits, IsPath, IsNumber, IsRun}
use Rattle.run_words.specs.declared.name.Name.TheVariants as names
use Rattle.run_words.proofs.Ends.{not_false}
use Rattle.run_words.proofs.Passed.{passed}
use Rattle.run_words.proofs.Refused.{no_format, more_missing, less_missing}
use Rattle.std.proofs.Common.{List}
use Rattle.run_words.specs.declared.name.Name.{Name}
use Rattle.run_words.proofs.run.format_of.Goals as goal

abbrev others : List Name
others = names.Sysin ∷ names.Held ∷ names.Out ∷ names.In ∷ []

pub returns-in_err-units : goal.returns-in_err-units
returns-in_err-units c =
    passed (AreUnits (values_of names.Unit c.args.options.now)) (IsRun c.args.options.now) c.from_residual.result c.in_err-units.field-0.0 c.from_residual.ensures.1 c.in_err-units.ensures
    (λ none. no_format c.args.options.now c.requires.asked c.requires.no_make (λ u j r is. none u is.units_are))

pub returns-in_err-journal : goal.returns-in_err-journal
returns-in_err-journal c =
    passed (IsPath (values_of names.Journal c.args.options.now)) (IsRun c.args.options.now) c.from_residual-in_err-journal.result c.in_err-journal.field-0.0 c.from_residual-in_err-journal.ensures.1 c.in_err-journal.ensures
    (λ none. no_format c.args.options.now c.requires.asked c.requires.no_make (λ u j r is. none j is.journal_is))

pub returns-in_err-room : goal.returns-in_err-room
returns-in_err-room c =
    passed (IsNumber 3 8191 (values_of names.FormatJournal c.args.options.now)) (IsRun c.args.options.now) c.from_residual-in_err-room.result c.in_err-room.field-0.0 c.from_residual-in_err-room.ensures.1 c.in_err-room.ensures
    (λ none. no_format c.args.options.now c.requires.asked c.requires.no_make (λ u j r is. none r is.room_is))

pub returns-then-not-are_missing : goal.returns-then-not-are_missing
returns-then-not-are_missing c = λ blamed. no_format c.args.options.now c.requires.asked c.requires.no_make
    (λ u j r is. not_false (c.if-not-are_missing.ensures.1 (less_missing c.args.options.now names.Make others is.no_other)))

pub returns : goal.returns
returns c = record {
  units_are = c.in_ok-units.ensures;
  journal_is = c.in_ok-journal.ensures;
  room_is = c.in_ok-room.ensures;
  no_other = more_missing c.args.options.now names.Make others c.requires.no_make (c.if-not-are_missing.ensures.0 refl);
}
