use Rattle.slide_places.proofs.Bounds.{next_may_be_lost, one_more}
use Rattle.slide_places.proofs.Places.{next_unused}
use Rattle.slide_places.proofs.slide_places.Goals as goal

pub returns : goal.returns
returns c = record { unused = next_unused; lost = next_may_be_lost; bound = one_more }
