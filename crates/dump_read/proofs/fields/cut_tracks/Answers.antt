use Rattle.std.proofs.Common.{◌<◌, ◌^◌, arith}
use Rattle.dump_read.proofs.Numbers.{tracks_cut}
use Rattle.dump_read.proofs.fields.cut_tracks.Goals as goal

pub returns-then-padded-le65535 : goal.returns-then-padded-le65535
returns-then-padded-le65535 c =
    let small : c.padded.result < 2 ^ 32 = omega arith in
    (c.requires, tracks_cut c.args.device c.args.bytes.now c.padded.result small c.requires c.padded.ensures c.if-padded-le65535.true)
