use Rattle.move_core.proofs.Standing.{keeps_meaning, image_stands, opening_stands, opened_settled, commit_stands, committed_settled}
use Rattle.move_core.proofs.OneMeaning.{found_is, one_meaning}
use Rattle.move_core.proofs.laws.standing_laws.Goals as goal

pub returns-clause-meaning : goal.returns-clause-meaning
returns-clause-meaning c = keeps_meaning

pub returns-clause-image : goal.returns-clause-image
returns-clause-image c = image_stands

pub returns-clause-opening : goal.returns-clause-opening
returns-clause-opening c = opening_stands

pub returns-clause-opened : goal.returns-clause-opened
returns-clause-opened c = opened_settled

pub returns-clause-commit : goal.returns-clause-commit
returns-clause-commit c = commit_stands

pub returns-clause-committed : goal.returns-clause-committed
returns-clause-committed c = committed_settled

pub returns-clause-one : goal.returns-clause-one
returns-clause-one c = λ facts image a b one other. (found_is facts image a b one other, one_meaning facts image a b one other)
