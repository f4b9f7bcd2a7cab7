use Rattle.std.proofs.Common.{◌∙◌}
use Rattle.job_dumps.specs.Passing.{request_in}
use Rattle.job_dumps.proofs.Looks.{looks_itself}
use Rattle.dump_sets.proofs.Written.{may_end, writes_all, leaves_front}
use Rattle.dump_sets.proofs.writing.write_dump.Goals as goal

pub returns-in-Err-clause-looks : goal.returns-in-Err-clause-looks
returns-in-Err-clause-looks g c = looks_itself g.P.Pool c.args.session.now

pub end-requires : goal.end-requires
end-requires g c =
    may_end g.P.Pool _ c.args.session.now (request_in c.args.scene) c.args.dump.head c.args.dump.names.now c.requires.logical c.requires.order c.replace.result.items c.in-Ok.writer.outs.items
    c.in-Ok.writer.progress c.put_parts.new.writer.progress c.in-Ok.ensures.begun c.args.dump.places.now (c.put_parts.ensures.places ∙ c.in-Ok.ensures.places) c.put_parts.new.writer.outs.items
    c.in-Ok-put_parts.told.items c.in-Ok-put_parts.ensures.put

pub returns-in-Ok-put_parts-clause-written : goal.returns-in-Ok-put_parts-clause-written
returns-in-Ok-put_parts-clause-written g c =
    writes_all g.P.Pool _ c.args.session.now (request_in c.args.scene) c.args.dump.head c.args.dump.names.now c.requires.logical c.requires.order c.replace.result.items c.in-Ok.writer.outs.items
    c.in-Ok.writer.progress c.put_parts.new.writer.progress c.in-Ok.ensures.begun c.args.dump.places.now (c.put_parts.ensures.places ∙ c.in-Ok.ensures.places) c.put_parts.new.writer.outs.items
    c.in-Ok-put_parts.told.items c.in-Ok-put_parts.ensures.put c.args.outs.now.items c.end.result.items (λ i. (c.replace.ensures.value i).items) c.end.ensures.whole c.end.ensures.finished

pub returns-in-Err-put_parts-clause-left : goal.returns-in-Err-put_parts-clause-left
returns-in-Err-put_parts-clause-left g c =
    leaves_front g.P.Pool _ c.args.session.now (request_in c.args.scene) c.args.dump.head c.args.dump.names.now c.requires.logical c.requires.order c.replace.result.items c.in-Ok.writer.outs.items
    c.in-Ok.writer.progress c.put_parts.new.writer.progress c.in-Ok.ensures.begun c.args.dump.places.now (c.put_parts.ensures.places ∙ c.in-Ok.ensures.places) c.put_parts.new.writer.outs.items
    c.args.outs.now.items c.leave.result.items (λ i. (c.replace.ensures.value i).items) c.in-Err-put_parts.ensures.left c.leave.ensures.left
