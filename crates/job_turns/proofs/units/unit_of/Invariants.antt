use Rattle.std.proofs.Common.{◌≢◌, ℕ, ◌<◌, Some}
use Rattle.std.specs.Prelude.{slice_get}
use Rattle.job_turns.proofs.units.unit_of.Given as goal

-- none of the units so far is registered under the serial
abbrev pub invariant-loop-unit : goal.invariant-loop-unit
invariant-loop-unit g l = (other : ℕ) → other < l.unit → slice_get l.session.names other ≢ Some l.serial
