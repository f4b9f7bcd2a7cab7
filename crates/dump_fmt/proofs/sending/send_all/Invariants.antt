use Rattle.std.proofs.Common.{take}
use Rattle.dump_fmt.specs.Outs.{EachAt, IsSentTo}
use Rattle.dump_fmt.proofs.sending.send_all.Given as goal

abbrev pub invariant-loop-place : goal.invariant-loop-place
invariant-loop-place g l = EachAt (IsSentTo g.O.Seen.seen l.text) (take l.place-index l.places) l.fn.outs l.outs
