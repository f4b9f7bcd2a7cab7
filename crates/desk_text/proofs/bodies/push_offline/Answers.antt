use Rattle.json.specs.Print.{escape_byte}
use Rattle.desk_text.proofs.Pieces.{more}
use Rattle.desk_text.proofs.bodies.push_offline.Goals as goal

pub returns : goal.returns
unfolding escape_byte
returns c = more c.in_ok-push_text.ensures (more c.in_ok-push_string.ensures c.in_ok-push_text-2.ensures)
