use Rattle.std.proofs.Common.{◌≢◌, drop}
use Rattle.std.specs.Prelude.{AllPairs}
use Rattle.job_dumps.proofs.job_turns.Turning.{LeadsTo}
use Rattle.dump_sets.specs.Changing.{ChangesSet, MayChangeSets}
use Rattle.dump_sets.proofs.changing.change_all.Given as goal

-- what is left of the names leads to all
abbrev pub invariant-loop-name : goal.invariant-loop-name
invariant-loop-name g l = record {
  to : LeadsTo g.P.Pool (ChangesSet l.wish l.unit) l.names (drop l.name-index l.names) l.fn.session l.session l.fn.log.steps.items l.log.steps.items l.fn.log.messages.items
      l.log.messages.items;
  may : MayChangeSets l.session.room l.session.units l.unit (drop l.name-index l.names);
  apart : AllPairs (λ name other. name ≢ other) (drop l.name-index l.names);
}
