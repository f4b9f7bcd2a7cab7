use Rattle.std.proofs.Common.{refl, ap, ◌∙◌}
use Rattle.sysin_words.specs.declared.lead.Verb.{Verb}
use Rattle.job_lines.specs.declared.message.Message.TheVariants as messages
use Rattle.job_lines.specs.Lines.{line}
use Rattle.job_ops.specs.unit_session.Sessions.{SessionView}
use Rattle.job_outputs.proofs.Keeping.{keeps_same, keeps_then}
use Rattle.job_script.proofs.Calls.{none_read, reads_none}
use Rattle.job_script.proofs.Ones.{keeps_files, not_begun, reported, reported_outs, halted_in, short_in}
use Rattle.job_script.proofs.run.run_one.Goals as goal

pub returns-in-Err-clause-ends : goal.returns-in-Err-clause-ends
returns-in-Err-clause-ends g c =
    not_begun g.P.Pool _ _ _ c.args.before c.args.statement.now c.args.held.now c.args.today _ _ _ _ c.stopped.result c.stopped.ensures.pool c.stopped.ensures.outs refl c.stopped.ensures.steps
    c.stopped.ensures.pending c.stopped.ensures.end refl refl

pub returns-in-Done-clause-ends : goal.returns-in-Done-clause-ends
returns-in-Done-clause-ends g c =
    let ended = c.in-Done.ensures.ends in
    reported g.P.Pool _ _ _ c.args.before c.args.statement.now c.args.held.now c.args.today _ _ _ _ c.in-Done.session c.in-Done.outs.items c.in-Done.said c.in-Done.steps.items ended.0 ended.1
    ended.2 ended.3 ended.4 ended.5 (λ reads. ap (λ (s : SessionView g.row.P.Denot). s.pool) (c.in-Done.ensures.reads reads))
    (keeps_files _ _ c.in-Done.ensures.outs (λ none. c.in-Done.ensures.ins (none_read c.args.statement.now.command none))) c.report.result c.report.ensures

pub returns-in-Halted-clause-ends : goal.returns-in-Halted-clause-ends
returns-in-Halted-clause-ends g c =
    let ended = c.in-Halted.ensures.ends in
    let told = c.halted.ensures in
    halted_in g.P.Pool _ _ _ c.args.before c.args.statement.now c.args.held.now c.args.today _ _ _ _ c.in-Halted.outs.items ended.0 c.in-Halted.broken.pending ended.5 c.halted.result
    c.in-Halted.broken.pool _ (keeps_files _ _ c.in-Halted.ensures.outs (λ none. c.in-Halted.ensures.ins (none_read c.args.statement.now.command none))) told.outs
    (c.as_str.ensures.value ∙ c.in-Ok.ensures ∙ ap (λ (v : Verb). line c.args.statement.now.number (messages.Started v)) c.verb_of-verb.ensures)
    told.pool (told.steps ∙ ended.1) told.pending told.end ended.4 told.told told.later (λ reads. c.in-Halted.ensures.reads reads)

pub returns-clause-ends : goal.returns-clause-ends
returns-clause-ends g c =
    let ended = c.in-Short.ensures.ends in
    let told = c.stopped-in-Short.ensures in
    short_in g.P.Pool _ _ _ c.args.before c.args.statement.now c.args.held.now c.args.today _ _ _ _ c.stopped-in-Short.result c.in-Short.outs.items c.in-Short.session ended.0 _
    (keeps_files _ _ c.in-Short.ensures.outs (λ none. c.in-Short.ensures.ins (none_read c.args.statement.now.command none))) told.outs
    (c.as_bytes.ensures.value ∙ c.as_str-in-Short.ensures.value ∙ c.in-Ok.ensures ∙ ap (λ (v : Verb). line c.args.statement.now.number (messages.Started v)) c.verb_of-verb.ensures)
    told.pool (told.steps ∙ ended.1) told.pending told.end ended.4 ended.5 c.write_all.ensures.some c.write_all.ensures.cause.later (λ reads. ap (λ (s : SessionView g.row.P.Denot). s.pool) (c.in-Short.ensures.reads reads))

-- ---- the outputs and inputs stay

pub returns-in-Done-clause-outs : goal.returns-in-Done-clause-outs
returns-in-Done-clause-outs g c =
    let ended = c.in-Done.ensures.ends in
    reported_outs g.P.Pool _ _ _ c.args.before c.args.statement.now c.args.held.now c.args.today _ _ _ _ c.in-Done.session c.in-Done.outs.items c.in-Done.said c.in-Done.steps.items ended.0 ended.1
    ended.2 ended.3 ended.4 ended.5 (λ reads. ap (λ (s : SessionView g.row.P.Denot). s.pool) (c.in-Done.ensures.reads reads))
    (keeps_files _ _ c.in-Done.ensures.outs (λ none. c.in-Done.ensures.ins (none_read c.args.statement.now.command none))) c.report.result
    c.in-Done.ensures.used c.report.ensures

pub returns-in-Done-clause-ins : goal.returns-in-Done-clause-ins
returns-in-Done-clause-ins g c = c.in-Done.ensures.ins (reads_none c.args.statement.now.command c.requires.built)

pub returns-in-Halted-clause-outs : goal.returns-in-Halted-clause-outs
returns-in-Halted-clause-outs g c = keeps_then _ c.in-Halted.ensures.used (keeps_same _ c.halted.ensures.outs)

pub returns-in-Halted-clause-ins : goal.returns-in-Halted-clause-ins
returns-in-Halted-clause-ins g c = c.in-Halted.ensures.ins (reads_none c.args.statement.now.command c.requires.built)

pub returns-clause-outs : goal.returns-clause-outs
returns-clause-outs g c = keeps_then _ c.in-Short.ensures.used (keeps_same _ c.stopped-in-Short.ensures.outs)

pub returns-clause-ins : goal.returns-clause-ins
returns-clause-ins g c = c.in-Short.ensures.ins (reads_none c.args.statement.now.command c.requires.built)

pub returns-in-Err-clause-outs : goal.returns-in-Err-clause-outs
returns-in-Err-clause-outs g c = keeps_same _ c.stopped.ensures.outs
