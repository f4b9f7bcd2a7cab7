use Rattle.std.proofs.Common.{◌≡◌, take}
use Rattle.dump_fmt.specs.declared.outs.OutState.TheVariants.{Cut}
use Rattle.dump_fmt.specs.Outs.{EachAt, marked}
use Rattle.dump_fmt.proofs.sending.begin_all.Given as goal

abbrev pub invariant-loop-place : goal.invariant-loop-place
invariant-loop-place g l = EachAt (λ a b. g.O.Seen.seen b ≡ marked Cut (g.O.Seen.seen a)) (take l.place-index l.places) l.fn.outs l.outs
