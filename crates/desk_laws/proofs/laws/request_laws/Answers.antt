use Rattle.desk_laws.proofs.Paths.{one_place}
use Rattle.desk_laws.proofs.Requests.{one_request}
use Rattle.desk_laws.proofs.Readings.{one_reading}
use Rattle.desk_laws.proofs.Steps.{one_answer}
use Rattle.desk_laws.proofs.laws.request_laws.Goals as goal

pub returns-clause-place : goal.returns-clause-place
returns-clause-place c = one_place

pub returns-clause-request : goal.returns-clause-request
returns-clause-request c = one_request

pub returns-clause-reading : goal.returns-clause-reading
returns-clause-reading c = one_reading

pub returns-clause-answer : goal.returns-clause-answer
returns-clause-answer c = one_answer
