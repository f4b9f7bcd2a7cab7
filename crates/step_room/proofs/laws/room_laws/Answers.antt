use Rattle.step_room.proofs.Rooms.{lacking, fitting}
use Rattle.step_room.proofs.Repairs.{repaired_fits, repaired_extents, alike_fits}
use Rattle.step_room.proofs.Stated.{stated_fits, states_again}
use Rattle.step_room.proofs.laws.room_laws.Goals as goal

pub returns-clause-full : goal.returns-clause-full
returns-clause-full c = lacking

pub returns-clause-fits : goal.returns-clause-fits
returns-clause-fits c = fitting

pub returns-clause-repaired : goal.returns-clause-repaired
returns-clause-repaired c = repaired_fits

pub returns-clause-extents : goal.returns-clause-extents
returns-clause-extents c = repaired_extents

pub returns-clause-alike : goal.returns-clause-alike
returns-clause-alike c = alike_fits

pub returns-clause-stated : goal.returns-clause-stated
returns-clause-stated c = stated_fits

pub returns-clause-states : goal.returns-clause-states
returns-clause-states c = states_again
