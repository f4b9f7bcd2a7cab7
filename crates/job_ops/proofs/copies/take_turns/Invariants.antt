use Rattle.std.proofs.Common.{◌≢◌, drop}
use Rattle.std.specs.Prelude.{AllPairs}
use Rattle.job_ops.specs.Copy.{CopiesSet}
use Rattle.job_ops.specs.Copying.{request_in, MayBeCopied}
use Rattle.dump_sets.proofs.job_turns.Turning.{LeadsTo}
use Rattle.job_ops.proofs.copies.take_turns.Given as goal

-- what is left of the names leads to all
abbrev pub invariant-loop-name : goal.invariant-loop-name
invariant-loop-name g l = record {
  to : LeadsTo g.P.Pool (CopiesSet (request_in l.scene)) l.names (drop l.name-index l.names) l.fn.session l.session l.fn.log.steps.items l.log.steps.items l.fn.log.messages.items
      l.log.messages.items;
  may : MayBeCopied l.scene.wish.delete l.session.room l.session.units l.scene.from l.scene.to (drop l.name-index l.names);
  apart : AllPairs (λ name other. name ≢ other) (drop l.name-index l.names);
}
