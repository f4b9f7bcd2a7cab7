use Rattle.std.proofs.Common.{ap}
use Rattle.std.proofs.Common.{Option, List, ℕ, []}
use Rattle.std.specs.Prelude.{unwrap_or}
use Rattle.desk_text.specs.Answers.{phrase}
use Rattle.desk_text.proofs.head.phrase_of.Goals as goal

pub returns-in-Some : goal.returns-in-Some
unfolding phrase
returns-in-Some c = ap (λ (o : Option (List ℕ)). unwrap_or o []) c.in-Some.ensures.value

pub returns-in-None : goal.returns-in-None
unfolding phrase
returns-in-None c = ap (λ (o : Option (List ℕ)). unwrap_or o []) c.in-None.ensures.value
