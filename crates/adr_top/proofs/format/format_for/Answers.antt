use Rattle.job_script.specs.Ends.{after_of}
use Rattle.adr_top.specs.Parts.{sink_seen}
use Rattle.adr_top.proofs.Unmade.{formats_not}
use Rattle.adr_top.proofs.format.format_for.Goals as goal

pub returns-in-Err-clause-ends : goal.returns-in-Err-clause-ends
returns-in-Err-clause-ends g c =
    let does = c.in-Err.ensures in
    let stop = c.in-Err.stop in
    formats_not g.P.Pool (sink_seen g.O.Sink c.args.out.now c.refuse.new.out) c.args.pool stop.pool stop.cause c.from.result c.args.serials.now c.args.room (after_of c.refuse.result)
    c.refuse.ensures.ends c.from.ensures does.shape does.faults (λ told. does.runs told) (λ told. does.any_moment told) (λ told. does.left told) (λ told. does.refused told)
    does.cause (λ told other. does.untouched told other) (λ told. does.careful told)
