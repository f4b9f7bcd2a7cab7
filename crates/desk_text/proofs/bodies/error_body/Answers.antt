use Rattle.json.specs.Print.{escape_byte}
use Rattle.std.proofs.Common.{ap}
use Rattle.std.specs.Fmt.{decimal}
use Rattle.desk_text.proofs.Pieces.{more, from_none, adds_as}
use Rattle.desk_text.proofs.bodies.error_body.Goals as goal

pub returns : goal.returns
unfolding escape_byte
returns c = from_none (more c.in_ok-push_text.ensures (more (adds_as (decimal c.args.status) c.in_ok-push_number.ensures (ap decimal c.from.ensures)) c.in_ok-push_text-2.ensures)) c.new-body.ensures
