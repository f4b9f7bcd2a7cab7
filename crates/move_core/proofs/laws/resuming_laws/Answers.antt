use Rattle.redo_core.proofs.Closed.{allowed_closed, formatted_closed}
use Rattle.move_core.proofs.Resuming.{formatted_settled, synced_settled, standing_may_open}
use Rattle.move_core.proofs.SameBlocks.{stands_there, closed_there}
use Rattle.move_core.proofs.laws.resuming_laws.Goals as goal

pub returns-clause-formatted : goal.returns-clause-formatted
returns-clause-formatted c = formatted_settled

pub returns-clause-synced : goal.returns-clause-synced
returns-clause-synced c = synced_settled

pub returns-clause-blocks : goal.returns-clause-blocks
returns-clause-blocks c = λ facts one other units same stands. (stands_there facts one other units stands same, closed_there facts one other units stands same)

pub returns-clause-closed : goal.returns-clause-closed
returns-clause-closed c = (
  λ facts old new made. formatted_closed facts.shape old facts.names facts.room new made,
  λ facts image names allowed. allowed_closed facts.shape image names allowed,
)

pub returns-clause-opens : goal.returns-clause-opens
returns-clause-opens c = standing_may_open
