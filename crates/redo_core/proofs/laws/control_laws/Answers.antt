use Rattle.redo_core.proofs.ControlTexts.{lawful_block}
use Rattle.redo_core.proofs.laws.control_laws.Goals as goal

pub returns : goal.returns
returns c = lawful_block
