use Rattle.std.proofs.Common.{◌≡◌, take, max, fold}
use Rattle.volume_model.specs.Space.{end_of}
use Rattle.vtoc_check.proofs.space.greatest_end.Given as goal

abbrev pub invariant-loop-run : goal.invariant-loop-run
invariant-loop-run l = l.end ≡ fold (λ end run. max end (end_of run)) l.fn.end (take l.run-index l.runs)
