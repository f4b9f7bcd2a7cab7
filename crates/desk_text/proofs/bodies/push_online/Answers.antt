use Rattle.json.specs.Print.{escape_byte}
use Rattle.desk_text.proofs.Pieces.{more}
use Rattle.desk_text.proofs.bodies.push_online.Goals as goal

pub returns : goal.returns
unfolding escape_byte
returns c =
    more c.in_ok-push_field.ensures (more c.in_ok-push_field-2.ensures (more c.in_ok-push_field-3.ensures (more c.in_ok-push_text.ensures (more c.in_ok-push_string.ensures
    (more c.in_ok-push_field-4.ensures c.in_ok-push_text-2.ensures)))))
