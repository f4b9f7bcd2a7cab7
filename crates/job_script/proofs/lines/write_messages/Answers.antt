use Rattle.std.proofs.Common.{arith}
use Rattle.std.proofs.lemmas.Result.{err_from_is_err_and}
use Rattle.job_script.specs.Runs.{lines_in}
use Rattle.job_script.proofs.Printing.{parted, written_piece, written_front, written_front_less}
use Rattle.job_script.proofs.lines.write_messages.Goals as goal

pub loop-rest-preserved : goal.loop-rest-preserved
loop-rest-preserved g c =
    let now = c.split_at.result.0.now in
    let later = c.split_at.result.1.now in
    record {
      later = omega (arith, c.loop-rest.invariant.later, c.write_together.ensures.later);
      written = written_piece (g.O.Sink.taken c.args.out.now) (g.O.Sink.taken c.loop-rest.out) _ (lines_in c.args.statement c.args.messages.now) (lines_in c.args.statement now) (lines_in c.args.statement later)
          (parted (g.O.Sink.taken c.args.out.now) (g.O.Sink.taken c.loop-rest.out) c.args.statement c.args.messages.now c.loop-rest.rest.now now later c.split_at.ensures.by_index.0 c.loop-rest.invariant.written)
          c.in_ok-write_together.ensures.written;
    }

pub returns-in_err-write_together-clause-some : goal.returns-in_err-write_together-clause-some
returns-in_err-write_together-clause-some g c =
    let now = c.split_at.result.0.now in
    let later = c.split_at.result.1.now in
    written_front (g.O.Sink.taken c.args.out.now) (g.O.Sink.taken c.loop-rest.out) _ (lines_in c.args.statement c.args.messages.now) (lines_in c.args.statement now) (lines_in c.args.statement later)
    (parted (g.O.Sink.taken c.args.out.now) (g.O.Sink.taken c.loop-rest.out) c.args.statement c.args.messages.now c.loop-rest.rest.now now later c.split_at.ensures.by_index.0 c.loop-rest.invariant.written)
    c.write_together.ensures.some

pub returns-in_err-write_together-clause-less : goal.returns-in_err-write_together-clause-less
returns-in_err-write_together-clause-less g c =
    let now = c.split_at.result.0.now in
    let later = c.split_at.result.1.now in
    let p = err_from_is_err_and c.from_residual.result c.from_residual.ensures.1 in
    rw (p.1, p.2) (λ sink.
    written_front_less (g.O.Sink.taken c.args.out.now) (g.O.Sink.taken c.loop-rest.out) _ (lines_in c.args.statement c.args.messages.now) (lines_in c.args.statement now) (lines_in c.args.statement later)
    (parted (g.O.Sink.taken c.args.out.now) (g.O.Sink.taken c.loop-rest.out) c.args.statement c.args.messages.now c.loop-rest.rest.now now later c.split_at.ensures.by_index.0 c.loop-rest.invariant.written)
    (c.in_err-write_together.ensures.less sink))
