use Rattle.move_core.proofs.Running.{run_then, calls_then, call_of, run_of, run_any, run_still, run_quiet, run_behind, run_demoted, run_stops, run_closed, switch_done, switch_failed, commit_kept, commit_broken}
use Rattle.move_core.proofs.laws.running_laws.Goals as goal

pub returns-clause-then : goal.returns-clause-then
returns-clause-then g c = λ inputs steps more pending. run_then

pub returns-clause-calls_then : goal.returns-clause-calls_then
returns-clause-calls_then g c = λ inputs steps more pending. calls_then

pub returns-clause-runs_and_calls : goal.returns-clause-runs_and_calls
returns-clause-runs_and_calls g c = λ inputs steps pending. (call_of, run_of)

pub returns-clause-allows : goal.returns-clause-allows
returns-clause-allows g c = λ inputs steps pending. run_any

pub returns-clause-still : goal.returns-clause-still
returns-clause-still g c = run_still

pub returns-clause-quiet : goal.returns-clause-quiet
returns-clause-quiet g c = λ may. run_quiet

pub returns-clause-behind : goal.returns-clause-behind
returns-clause-behind g c = λ inputs steps pending. run_behind

pub returns-clause-demoted : goal.returns-clause-demoted
returns-clause-demoted g c = λ inputs steps step. run_demoted

pub returns-clause-switched : goal.returns-clause-switched
returns-clause-switched g c = λ inputs step room fills entries shape later idle takes moments. (
  λ end committed. switch_done shape later idle takes moments end committed,
  λ never rose. switch_failed shape later idle takes moments never rose,
)

pub returns-clause-kept : goal.returns-clause-kept
returns-clause-kept g c = λ inputs entries shape later keep moments. (
  λ end committed. commit_kept shape later keep moments end committed,
  λ never rose. commit_broken shape later keep moments never rose,
)

pub returns-clause-stops : goal.returns-clause-stops
returns-clause-stops g c = λ inputs steps pending run told facts units same allowed settled image left. (
  run_stops run told facts same allowed units settled image left,
  λ closed. run_closed run told facts same allowed units settled closed image left,
)
