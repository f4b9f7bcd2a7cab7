use Rattle.std.proofs.lemmas.Result.{err_from_is_err_and}
use Rattle.dump_read.proofs.Ends.{first_stop, second_stop, counts_read}
use Rattle.dump_read.proofs.ending.check_counts.Goals as goal

pub returns-in_err-rest-clause-stops : goal.returns-in_err-rest-clause-stops
returns-in_err-rest-clause-stops c =
    let p = err_from_is_err_and c.from_residual.result c.from_residual.ensures.1 in
    rw (p.1, p.2) (first_stop c.args.parts c.args.tracks c.args.bytes.now c.in_err-rest.field-0.0 c.in_err-rest.ensures.stops)

pub returns-in_err-fixed_count-clause-stops : goal.returns-in_err-fixed_count-clause-stops
returns-in_err-fixed_count-clause-stops c =
    let p = err_from_is_err_and c.from_residual-in_err-fixed_count.result c.from_residual-in_err-fixed_count.ensures.1 in
    rw (p.1, p.2) (second_stop c.args.parts c.args.tracks c.args.bytes.now c.in_ok-rest.rest.now c.in_err-fixed_count.field-0.0 c.in_ok-rest.ensures.read c.in_err-fixed_count.ensures.stops)

pub returns-clause-read : goal.returns-clause-read
returns-clause-read c =
    counts_read c.args.parts c.args.tracks c.args.bytes.now c.in_ok-rest.rest.now c.in_ok-fixed_count.field-0.now c.in_ok-rest.ensures.read c.in_ok-fixed_count.ensures.read c.requires
