use Rattle.std.proofs.Common.{drop}
use Rattle.job_ops.specs.Asked.{MayProcess}
use Rattle.job_ops.specs.Meaning.{TurnOf}
use Rattle.dump_sets.proofs.job_turns.Turning.{LeadsTo}
use Rattle.job_ops.proofs.sets.take_turns.Given as goal

-- what is left of the names leads to all
abbrev pub invariant-loop-name : goal.invariant-loop-name
invariant-loop-name g l = record {
  to : LeadsTo g.P.Pool (TurnOf l.task l.scene.held.now l.scene.unit) l.names (drop l.name-index l.names) l.fn.session l.session l.fn.log.steps.items l.log.steps.items l.fn.log.messages.items
      l.log.messages.items;
  may : MayProcess l.session.room l.session.units l.scene.unit (drop l.name-index l.names);
}
