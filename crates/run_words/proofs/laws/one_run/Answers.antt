use Rattle.run_words.proofs.OneRun as runs
use Rattle.run_words.proofs.laws.one_run.Goals as goal

pub returns : goal.returns
returns c = runs.words_have_one_run
