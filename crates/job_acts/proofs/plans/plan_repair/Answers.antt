use Rattle.job_acts.proofs.PlansMade.{repair_made, where_ok}
use Rattle.job_acts.proofs.plans.plan_repair.Goals as goal

pub volume-requires : goal.volume-requires
volume-requires g c = (c.requires.volume, c.requires.loaded)

pub returns : goal.returns
returns g c = where_ok c.repair_space.result (λ plan is. repair_made c.args.unit c.volume.result.now c.volume.ensures plan c.requires is) c.repair_space.ensures
