use Rattle.run_laws.proofs.Made.{makings_are_whole}
use Rattle.run_laws.proofs.Whole.{runs_are_whole}
use Rattle.run_laws.proofs.laws.run_laws.Goals as goal

pub returns-clause-texts : goal.returns-clause-texts
returns-clause-texts g c = runs_are_whole g.P.Pool

pub returns-clause-makings : goal.returns-clause-makings
returns-clause-makings g c = makings_are_whole g.P.Pool
