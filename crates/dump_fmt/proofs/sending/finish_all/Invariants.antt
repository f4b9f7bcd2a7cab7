use Rattle.std.proofs.Common.{take}
use Rattle.dump_fmt.specs.Outs.{EachAt, IsFinished}
use Rattle.dump_fmt.proofs.sending.finish_all.Given as goal

abbrev pub invariant-loop-place : goal.invariant-loop-place
invariant-loop-place g l = EachAt (IsFinished g.O.Seen.seen) (take l.place-index l.places) l.fn.outs l.outs
