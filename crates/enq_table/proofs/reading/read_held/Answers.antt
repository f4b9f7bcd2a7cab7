use Rattle.std.proofs.Common.{ap, ◌∙◌}
use Rattle.std.proofs.lemmas.Result.{err_from_is_err_and}
use Rattle.enq_table.specs.Lines.{lines_behind}
use Rattle.enq_table.proofs.Taking.{taking_more, taking_stops, rest_fits}
use Rattle.enq_table.proofs.reading.read_held.Goals as goal

pub returns-in_err-take_line-clause-refused : goal.returns-in_err-take_line-clause-refused
returns-in_err-take_line-clause-refused c =
    let p = err_from_is_err_and c.from_residual.result c.from_residual.ensures.1 in
    rw (p.1, p.2)
    (taking_stops c.in_err-take_line.field-0.0 c.args.text.now c.loop-rest.held c.loop-rest.number c.first_line.result.0.now (lines_behind c.loop-rest.rest) (lines_behind c.first_line.result.1)
    c.loop-rest.invariant.0 (ap lines_behind c.in-Some.is ∙ c.first_line.ensures.lines) c.in_err-take_line.ensures.refused)

pub loop-rest-preserved : goal.loop-rest-preserved
loop-rest-preserved c = (
  taking_more c.args.text.now c.loop-rest.held c.take_line.new.held c.loop-rest.number c.first_line.result.0.now (lines_behind c.loop-rest.rest) (lines_behind c.first_line.result.1)
      c.loop-rest.invariant.0 (ap lines_behind c.in-Some.is ∙ c.first_line.ensures.lines) c.in_ok-take_line.ensures.taken,
  rest_fits c.loop-rest.rest c.first_line.result.1 c.in-Some.text c.loop-rest.number c.in-Some.is c.loop-rest.invariant.1 c.first_line.ensures.behind,
)
