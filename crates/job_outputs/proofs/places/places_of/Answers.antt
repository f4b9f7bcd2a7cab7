use Rattle.job_outputs.proofs.Placed.{are_known, are_distinct, are_within, are_unused}
use Rattle.job_outputs.proofs.places.places_of.Goals as goal

pub returns-in-Some-clause-refused : goal.returns-in-Some-clause-refused
returns-in-Some-clause-refused g c = (are_known _ c.args.names.now c.in_ok-places.places.items c.in_ok-places.ensures.places, c.in-Some.ensures.used)

pub returns-in-None-clause-lets : goal.returns-in-None-clause-lets
returns-in-None-clause-lets g c = record {
  known = are_known _ c.args.names.now c.in_ok-places.places.items c.in_ok-places.ensures.places;
  unused = c.in-None.ensures.none;
}

pub returns-in-None-clause-within : goal.returns-in-None-clause-within
returns-in-None-clause-within g c = are_within _ c.args.outs.now c.args.names.now c.in_ok-places.places.items c.in_ok-places.ensures.places

pub returns-in-None-clause-distinct : goal.returns-in-None-clause-distinct
returns-in-None-clause-distinct g c = are_distinct _ c.args.names.now c.in_ok-places.places.items c.in_ok-places.ensures.places c.in-None.ensures.none

pub returns-in-None-clause-unused : goal.returns-in-None-clause-unused
returns-in-None-clause-unused g c = are_unused _ c.args.outs.now c.args.names.now c.in_ok-places.places.items c.in_ok-places.ensures.places c.in-None.ensures.none
