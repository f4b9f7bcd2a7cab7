use Rattle.std.proofs.Common.{refl}
use Rattle.move_core.proofs.Running.{run_stops, run_closed}
use Rattle.job_script.specs.Ends.{after_of}
use Rattle.adr_top.proofs.Endings.{code_of_run, headline_of_run, shape_of_run, still_of_run}
use Rattle.adr_top.proofs.runner.batch.Goals as goal

pub returns-clause-ended : goal.returns-clause-ended
returns-clause-ended g c =
    let back = c.hand_back.ensures in
    let left = c.run_words-left.result in
    rw (back.pool, back.outs, back.ins, back.steps, back.pending, back.status)
    (left.end, refl, code_of_run g.P.Pool _ c.args.pool (after_of left) c.run_words-left.ensures.ends, c.run_words-left.ensures.ends)

pub returns-clause-headline : goal.returns-clause-headline
returns-clause-headline g c =
    let back = c.hand_back.ensures in
    rw (back.pool, back.steps, back.pending, back.status) (headline_of_run g.P.Pool _ c.args.pool (after_of c.run_words-left.result) c.run_words-left.ensures.ends)

pub returns-clause-stops : goal.returns-clause-stops
returns-clause-stops g c = λ told none facts same units settled image left.
    let run = returns-clause-headline g c none in
    (run_stops run told facts same (tt {0}) units settled image left, λ closed. run_closed run told facts same (tt {0}) units settled closed image left)

pub returns-clause-shape : goal.returns-clause-shape
returns-clause-shape g c = rw (c.hand_back.ensures.pool) (shape_of_run g.P.Pool _ c.args.pool (after_of c.run_words-left.result) c.run_words-left.ensures.ends)

pub returns-clause-still : goal.returns-clause-still
returns-clause-still g c =
    let back = c.hand_back.ensures in
    rw (back.pool, back.steps, back.pending)
    (λ told not empty never. still_of_run g.P.Pool _ c.args.pool (after_of c.run_words-left.result) c.run_words-left.ensures.ends not told empty never)
