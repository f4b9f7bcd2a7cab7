use Rattle.layout_found.proofs.Found.{found_layout}
use Rattle.layout_found.proofs.laws.sound_laws.Goals as goal

pub returns : goal.returns
returns c = record { layout = found_layout }
