use Rattle.dump_read.proofs.Chains.{put_filled}
use Rattle.dump_read.proofs.fields.filled_up.Goals as goal

pub returns : goal.returns
returns c = put_filled c.put.new.bytes c.args.bytes.now c.put.result 6 0x40 c.put.ensures.end c.put.ensures.written c.put.ensures.behind
