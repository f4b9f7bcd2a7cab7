use Rattle.rows_headline.proofs.Stopping.{stop_stands, stop_is_ready}
use Rattle.rows_headline.proofs.stopped.run_and_stop.Goals as goal

pub returns-clause-left : goal.returns-clause-left
returns-clause-left g c = record { torn = c.in_ok-left.ensures.torn; whole = c.in_ok-left.ensures.whole }

pub returns-clause-stands : goal.returns-clause-stands
returns-clause-stands g c = λ none some facts units same settled.
    stop_stands c.args.pool c.run-ran.result.pool _ _ _ (c.run-ran.ensures.headline none) some facts units same settled c.args.calls c.args.tear

pub returns-clause-ready : goal.returns-clause-ready
returns-clause-ready g c = λ none.
    stop_is_ready c.args.pool c.run-ran.result.pool c.in_ok-left.left _ _ _ (c.run-ran.ensures.headline none) c.args.calls c.args.tear
    c.in_ok-left.ensures.torn c.in_ok-left.ensures.whole c.in_ok-left.ensures.shape c.in_ok-left.ensures.state
