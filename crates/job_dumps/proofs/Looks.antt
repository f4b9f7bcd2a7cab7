-- Sessions that are only read.
use Rattle.dasd_pool.specs.declared.pool.Pool.{Ghosts}
use Rattle.move_core.proofs.Running.{run_idle, run_then}
use Rattle.job_turns.specs.job_steps.unit_session.Sessions.{SessionView}
use Rattle.job_turns.proofs.job_acts.Sessions.{same_itself, same_then}
use Rattle.job_dumps.specs.Texts.{OnlyLooks}

module _ {P : Type 0} (pools : Ghosts P) where
  -- nothing was done
  pub looks_itself : (session : SessionView P) → OnlyLooks pools session session
  looks_itself session = record { run = run_idle (tt {0}); same = same_itself pools session }

  -- it was read, and read again
  pub looks_then : {old mid new : SessionView P} → OnlyLooks pools old mid → OnlyLooks pools mid new → OnlyLooks pools old new
  looks_then {old} {mid} {new} one other = record { run = run_then one.run (tt {0}) other.run; same = same_then pools one.same other.same }
