use Rattle.std.proofs.Common.{◌≡◌, ◌≢◌, ℕ, ◌<◌, Some}
use Rattle.std.specs.Prelude.{slice_get}
use Rattle.dump_fmt.specs.declared.outs.OutDd.{OutDd}
use Rattle.job_outputs.proofs.places.place_of.Given as goal

-- no output so far has the name
abbrev pub invariant-loop-place : goal.invariant-loop-place
invariant-loop-place g l = (other : ℕ) (earlier : OutDd _ _) → other < l.place → slice_get l.outs other ≡ Some earlier → earlier.name ≢ l.name
