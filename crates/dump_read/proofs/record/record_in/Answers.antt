use Rattle.std.proofs.Common.{rules, ◌<◌, ◌+◌, length}
use Rattle.dump_read.proofs.TrackChain.{text_cut}
use Rattle.dump_read.proofs.record.record_in.Goals as goal

pub returns-in_default-clause-stops : goal.returns-in_default-clause-stops
returns-in_default-clause-stops c =
    let short : length c.in_ok-head.rest.now < c.in_ok-head.head.key + c.in_ok-head.head.body = search rules in
    text_cut c.args.room c.args.bytes.now c.in_ok-head.rest.now c.in_ok-head.head c.requires.room c.in_ok-head.ensures.read short
