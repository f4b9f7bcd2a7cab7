use Rattle.layout_found.proofs.Gathered.{IsGathered}
use Rattle.layout_found.proofs.linked.add_linked.Given as goal

abbrev pub invariant-loop-step : goal.invariant-loop-step
invariant-loop-step l = IsGathered l.directory.heads l.directory.records.items l.bytes l.fn.found l.step l.found l.at
