use Rattle.vtoc_render.proofs.Few.{few_runs}
use Rattle.vtoc_render.proofs.space.count_runs.Goals as goal

pub returns-clause-few : goal.returns-clause-few
returns-clause-few c = few_runs c.args.free.now.usable c.args.free.now.heads c.args.free.now.runs c.runs.ensures.kept
