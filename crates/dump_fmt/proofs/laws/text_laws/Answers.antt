use Rattle.dump_fmt.proofs.Fronts.{text_grows}
use Rattle.dump_fmt.proofs.laws.text_laws.Goals as goal

pub returns : goal.returns
returns c = text_grows
