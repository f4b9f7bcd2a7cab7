use Rattle.step_plans.proofs.Makers.{way_there, way_none}
use Rattle.step_plans.proofs.copies.is_in_the_way.Goals as goal

pub returns-in-Some-clause-way : goal.returns-in-Some-clause-way
returns-in-Some-clause-way c = (way_there c.args.target.now c.args.name.now c.in-Some._row.now c.in-Some.ensures.found c.args.replaced).0

pub returns-in-Some-clause-clear : goal.returns-in-Some-clause-clear
returns-in-Some-clause-clear c = (way_there c.args.target.now c.args.name.now c.in-Some._row.now c.in-Some.ensures.found c.args.replaced).1

pub returns-in-None-clause-way : goal.returns-in-None-clause-way
returns-in-None-clause-way c = (way_none c.args.target.now c.args.name.now c.in-None.ensures.none c.args.replaced).0

pub returns-in-None-clause-clear : goal.returns-in-None-clause-clear
returns-in-None-clause-clear c = (way_none c.args.target.now c.args.name.now c.in-None.ensures.none c.args.replaced).1
