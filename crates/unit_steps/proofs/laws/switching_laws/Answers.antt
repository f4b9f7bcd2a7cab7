use Rattle.unit_steps.proofs.Small.{plans_small}
use Rattle.unit_steps.proofs.Anew.{no_entry}
use Rattle.unit_steps.proofs.Readying.{entries_ready}
use Rattle.unit_steps.proofs.Switching.{patched_are_kept, switched_load}
use Rattle.unit_steps.proofs.Taking.{plans_take, parts_take}
use Rattle.unit_steps.proofs.Fitting.{switched_keep_fills}
use Rattle.unit_steps.proofs.laws.switching_laws.Goals as goal

pub returns-clause-small : goal.returns-clause-small
returns-clause-small c = plans_small

pub returns-clause-ready : goal.returns-clause-ready
returns-clause-ready c = entries_ready

pub returns-clause-kept : goal.returns-clause-kept
returns-clause-kept c = patched_are_kept

pub returns-clause-loads : goal.returns-clause-loads
returns-clause-loads c = switched_load

pub returns-clause-fills : goal.returns-clause-fills
returns-clause-fills c = switched_keep_fills

pub returns-clause-parts : goal.returns-clause-parts
returns-clause-parts c = parts_take

pub returns-clause-takes : goal.returns-clause-takes
returns-clause-takes c = plans_take

pub returns-clause-unchanged : goal.returns-clause-unchanged
returns-clause-unchanged c = no_entry
