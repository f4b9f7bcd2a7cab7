use Rattle.run_words.proofs.Signs.{found, not_found}
use Rattle.run_words.proofs.files.split_at_sign.Goals as goal

pub returns-clause-found : goal.returns-clause-found
returns-clause-found c = found c.args.value.now c.split_once.result c.split_once.ensures.cases

pub returns-clause-none : goal.returns-clause-none
returns-clause-none c = not_found c.args.value.now c.split_once.result c.split_once.ensures.cases
