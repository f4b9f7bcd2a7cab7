use Rattle.std.proofs.Common.{◌≡◌, map, take}
use Rattle.adr_top.proofs.agreement.are_ins.Given as goal

abbrev pub invariant-loop-place : goal.invariant-loop-place
invariant-loop-place g l = map (λ one. one.name) (take l.place l.ins) ≡ map (λ dd. dd.0) (take l.place l.named)
