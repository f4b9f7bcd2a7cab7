use Rattle.std.proofs.Common.{ℕ, ◌≢◌, ◌<◌, length, slice_index_or}
use Rattle.redo_core.specs.declared.target.Target.{Target}
use Rattle.redo_core.proofs.survey.are_apart.Given as goal

abbrev pub invariant-loop-place : goal.invariant-loop-place
invariant-loop-place l = (i j : ℕ) (d : Target) → i < l.place → i < j → j < length l.targets → slice_index_or l.targets i d ≢ slice_index_or l.targets j d
