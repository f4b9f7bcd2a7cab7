use Rattle.slide_laws.proofs.OneList.{one_list}
use Rattle.slide_laws.proofs.slide_laws.Goals as goal

pub returns : goal.returns
returns c = record { one = one_list }
