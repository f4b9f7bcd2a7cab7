use Rattle.desk_state.proofs.LawLemmas.{life_keeps}
use Rattle.desk_state.proofs.laws.desk_laws.Goals as goal

pub returns-clause-numbered : goal.returns-clause-numbered
returns-clause-numbered c = λ old new events numbered lives. (life_keeps old new events lives).numbered numbered

pub returns-clause-ended : goal.returns-clause-ended
returns-clause-ended c = λ old new events lives. (life_keeps old new events lives).ended

pub returns-clause-coded : goal.returns-clause-coded
returns-clause-coded c = λ old new events coded lives. (life_keeps old new events lives).coded coded

pub returns-clause-units : goal.returns-clause-units
returns-clause-units c = λ old new events lives. (life_keeps old new events lives).units

pub returns-clause-broken : goal.returns-clause-broken
returns-clause-broken c = λ old new events number lives. (life_keeps old new events lives).broken number
