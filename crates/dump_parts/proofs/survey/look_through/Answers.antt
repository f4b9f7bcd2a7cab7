use Rattle.std.proofs.Common.{◌∙◌, sym}
use Rattle.dump_parts.proofs.Surveyed.{full_surveyed, parts_surveyed}
use Rattle.dump_parts.proofs.survey.look_through.Goals as goal

pub returns-then-head-clause-found : goal.returns-then-head-clause-found
returns-then-head-clause-found g c =
    let (front, whole) = c.in_ok-pass_all.ensures.whole in
    full_surveyed c.args.filter.now c.args.today (g.R.Tape.seen c.pass_all.new.reel).held c.head-head.result c.pass_all.new.reader.head front c.new.result.items
    (c.in_ok-pass_all.ensures.head ∙ sym c.head-head.ensures.value) c.if-head.true whole

pub returns-clause-found : goal.returns-clause-found
returns-clause-found g c =
    parts_surveyed c.args.filter.now c.args.today (g.R.Tape.seen c.taken_parts.new.reel).held c.head-head.result c.taken_parts.new.reader.head c.in_ok-taken.taken.items
    (c.in_ok-taken.ensures.head ∙ sym c.head-head.ensures.value) c.in_ok-taken.ensures.taken
