use Rattle.json.specs.Print.{escape_byte, quoted}
use Rattle.std.proofs.Common.{ap}
use Rattle.std.specs.Fmt.{decimal}
use Rattle.desk_text.proofs.Pieces.{more, adds_as}
use Rattle.desk_text.proofs.bodies.push_ended.Goals as goal

pub returns : goal.returns
unfolding escape_byte
returns c =
    more c.in_ok-push_text.ensures (more (adds_as (decimal c.args.code) c.in_ok-push_number.ensures (ap decimal c.from.ensures)) (more c.in_ok-push_text-2.ensures
    (more (adds_as (quoted c.args.job.now.key) c.in_ok-push_string.ensures (ap quoted c.as_slice.ensures.same)) (more c.in_ok-push_text-3.ensures (more c.in_ok-push_number-2.ensures
    (more c.in_ok-push_text-4.ensures (more c.in_ok-push_string-2.ensures c.in_ok-push_text-5.ensures)))))))
