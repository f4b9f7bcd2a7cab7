use Rattle.rows_headline.proofs.Stopping.{runs_on}
use Rattle.rows_headline.proofs.stopped.run_again.Goals as goal

pub returns : goal.returns
returns g c = record {
  begins = record { left = c.in_ok-stopped.stopped.left; is_left = c.in_ok-stopped.ensures.left; run = λ none. c.run-second.ensures.headline none };
  on = λ none some from facts units same settled.
      runs_on c.in_ok-stopped.stopped.left c.in_ok-stopped.stopped.ran c.run-second.result (c.run-second.ensures.headline none) facts units _ _
      (c.in_ok-stopped.ensures.ready none some from facts units same settled);
}
