use Rattle.std.proofs.Common.{inl, List, subst}
use Rattle.dasd_pool.specs.Stream.{AppendsSome}
use Rattle.run_lines.specs.Texts.{AppendsLess}
use Rattle.job_lines.specs.declared.message.Message.{Message}
use Rattle.job_script.specs.Runs.{lines_in}
use Rattle.job_script.proofs.run.report.Goals as goal

pub returns-in-Err-Sink : goal.returns-in-Err-Sink
returns-in-Err-Sink g c =
    let wrote = c.in-Err-Sink.ensures in
    let end = c.stopped.ensures in
    let before = g.O.Sink.taken c.args.out.now in
    let after = g.O.Sink.taken c.write_messages.new.out in
    let number = c.args.statement.now.number in (
      end.pool,
      end.steps,
      end.pending,
      subst (λ (l : List Message). AppendsSome before after (lines_in number l)) c.as_slice.ensures wrote.some,
      wrote.later,
      inl (end.end, wrote.cause c.in-Err-Sink.field-0-is, subst (λ (l : List Message). AppendsLess before after (lines_in number l)) c.as_slice.ensures (wrote.less c.in-Err-Sink.field-0-is)),
      end.outs,
    )
