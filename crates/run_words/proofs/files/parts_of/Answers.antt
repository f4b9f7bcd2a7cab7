use Rattle.run_words.proofs.Ends.{if_none, is_empty, not_parted, no_path}
use Rattle.run_words.proofs.files.parts_of.Goals as goal

pub returns-in_err-name-clause-none : goal.returns-in_err-name-clause-none
returns-in_err-name-clause-none c = if_none _ _ (not_parted c.args.value.now c.in_err-name.ensures.none)

pub returns-then-is_empty-clause-none : goal.returns-then-is_empty-clause-none
returns-then-is_empty-clause-none c =
    let found = c.in_ok-name.ensures.found in
    no_path c.args.value.now c.in_ok-name.name.now c.in_ok-name.path.now found.0 found.1 (is_empty c.in_ok-name.path.now c.if-is_empty.ensures)
