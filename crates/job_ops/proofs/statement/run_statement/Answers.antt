use Rattle.std.proofs.Common.{List, subst}
use Rattle.job_ops.specs.Ends.{HasOuts}
use Rattle.job_ops.proofs.Endings.{ends_done, ends_cut, unchanged_done, unchanged_cut, outs_done, outs_cut, used_cut, used_done}
use Rattle.job_ops.proofs.statement.run_statement.Goals as goal

pub returns-in-Ok-clause-ends : goal.returns-in-Ok-clause-ends
returns-in-Ok-clause-ends g c =
    ends_done g.P.Pool _ _ _ c.whole.new.outs.items c.args.session c.in-Ok.session c.args.statement.now.command c.args.held.now c.args.today c.args.steps.items c.whole.new.log.steps.items
    c.whole.new.log.messages.items c.in-Ok.ensures.ends c.in-Ok.ensures.framed c.done.result c.done.ensures

pub returns-in-Ok-clause-outs : goal.returns-in-Ok-clause-outs
returns-in-Ok-clause-outs g c = λ none.
    subst (λ (list : List _). HasOuts list c.done.result) (c.in-Ok.ensures.same none) (outs_done c.in-Ok.session c.whole.new.outs.items _ _ c.done.result c.done.ensures)

pub returns-in-Ok-clause-reads : goal.returns-in-Ok-clause-reads
returns-in-Ok-clause-reads g c = λ reads. unchanged_done c.args.session c.in-Ok.session c.whole.new.outs.items _ _ (c.in-Ok.ensures.reads reads) c.done.result c.done.ensures

pub returns-in-Err-clause-reads : goal.returns-in-Err-clause-reads
returns-in-Err-clause-reads g c = λ reads. unchanged_cut c.args.session c.in-Err.cut c.whole.new.outs.items _ _ (c.in-Err.ensures.reads reads) c.cut_short.result c.cut_short.ensures

pub returns-in-Err-clause-outs : goal.returns-in-Err-clause-outs
returns-in-Err-clause-outs g c = λ none.
    subst (λ (list : List _). HasOuts list c.cut_short.result) (c.in-Err.ensures.same none) (outs_cut c.in-Err.cut c.whole.new.outs.items _ _ c.cut_short.result c.cut_short.ensures)

pub returns-in-Err-clause-ends : goal.returns-in-Err-clause-ends
returns-in-Err-clause-ends g c =
    ends_cut g.P.Pool _ _ _ c.whole.new.outs.items c.args.session c.in-Err.cut c.args.statement.now.command c.args.held.now c.args.today c.args.steps.items c.whole.new.log.steps.items
    c.whole.new.log.messages.items c.in-Err.ensures.ends c.in-Err.ensures.begins c.cut_short.result c.cut_short.ensures

pub returns-in-Ok-clause-used : goal.returns-in-Ok-clause-used
returns-in-Ok-clause-used g c = used_done _ c.in-Ok.session c.args.outs.items c.whole.new.outs.items _ _ c.in-Ok.ensures.outs c.done.result c.done.ensures

pub returns-in-Err-clause-used : goal.returns-in-Err-clause-used
returns-in-Err-clause-used g c = used_cut _ c.in-Err.cut c.args.outs.items c.whole.new.outs.items _ _ c.in-Err.ensures.outs c.cut_short.result c.cut_short.ensures
