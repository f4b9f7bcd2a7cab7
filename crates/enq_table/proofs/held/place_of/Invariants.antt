use Rattle.std.proofs.Common.{All, take}
use Rattle.enq_table.specs.Table.{Has}
use Rattle.enq_table.proofs.held.place_of.Given as goal

abbrev pub invariant-loop-place : goal.invariant-loop-place
invariant-loop-place l = All (λ held. ¬ Has l.name l.holder held) (take l.place l.holds)
