use Rattle.std.proofs.Common.{[], Some, None, replicate, sym, ap, subst, ◌∙◌}
use Rattle.std.proofs.lemmas.Result.{err_from_is_err_and}
use Rattle.move_core.specs.Facts.{shown}
use Rattle.move_core.specs.Runs.{AreCalls}
use Rattle.move_core.specs.Steps.{empty_text}
use Rattle.move_core.proofs.Running.{calls_then}
use Rattle.unit_session.specs.unit_steps.declared.plan.Plan.{Plan}
use Rattle.job_steps.specs.Giving.{GivesMore, GivingView}
use Rattle.job_steps.proofs.PartMade.{part_after, part_run}
use Rattle.job_steps.proofs.Runs.{failed_run}
use Rattle.job_steps.proofs.giving.Giving.make.Goals as goal

pub returns-in_err-planned-clause-run : goal.returns-in_err-planned-clause-run
returns-in_err-planned-clause-run g c original has =
    let planned = c.args.self.planned in
    let filled = c.in_err-planned.ensures in
    let p = err_from_is_err_and c.from_residual.result c.from_residual.ensures.1 in
    rw (p.1, p.2) (failed_run g.P.Pool planned.plan.step planned.session.pool c.in_err-planned.field-0.0 filled.run filled.pending)

pub returns-in_err-copy-clause-run : goal.returns-in_err-copy-clause-run
returns-in_err-copy-clause-run g c original has =
    let self = c.args.self in
    let filled = c.in_ok-planned.ensures in
    let view = sym c.planned.view_is in
    let more = subst (λ (v : GivingView _). GivesMore g.P.Pool self v (replicate self.left empty_text)) view filled.given in
    let run = subst (λ (v : GivingView _). AreCalls g.P.Pool.tells (shown g.P.Pool self.planned.session.pool) (shown g.P.Pool v.planned.session.pool) (Unit {0}) [] None) view filled.run in
    let copied = c.in_err-copy.ensures in
    let p = err_from_is_err_and c.from_residual-in_err-copy.result c.from_residual-in_err-copy.ensures.1 in
    rw (p.1, p.2)
    (failed_run g.P.Pool self.planned.plan.step self.planned.session.pool c.in_err-copy.field-0.0 (calls_then run tt copied.run) (copied.pending ∙ ap (λ (q : Plan). Some q.step) more.planned.plan))

pub returns-clause-run : goal.returns-clause-run
returns-clause-run g c original has =
    let self = c.args.self in
    let next : GivingView _ = record { planned = c.planned.inside.planned; left = c.planned.inside.left } in
    let filled = c.in_ok-planned.ensures in
    let view = sym c.planned.view_is in
    let more = subst (λ (v : GivingView _). GivesMore g.P.Pool self v (replicate self.left empty_text)) view filled.given in
    let run = subst (λ (v : GivingView _). AreCalls g.P.Pool.tells (shown g.P.Pool self.planned.session.pool) (shown g.P.Pool v.planned.session.pool) (Unit {0}) [] None) view filled.run in
    let copied = c.in_ok-copy.ensures in
    let does = c.switch.ensures in
    part_run g.P.Pool self next c.in_ok-copy.field-0 original has more c.planned.invariant copied.copies copied.plan copied.session.2 copied.copied does.plan (calls_then run tt copied.run) c.switch.result
    does.part does.pending

pub returns-clause-after : goal.returns-clause-after
returns-clause-after g c original has =
    let self = c.args.self in
    let next : GivingView _ = record { planned = c.planned.inside.planned; left = c.planned.inside.left } in
    let filled = c.in_ok-planned.ensures in
    let view = sym c.planned.view_is in
    let more = subst (λ (v : GivingView _). GivesMore g.P.Pool self v (replicate self.left empty_text)) view filled.given in
    let run = subst (λ (v : GivingView _). AreCalls g.P.Pool.tells (shown g.P.Pool self.planned.session.pool) (shown g.P.Pool v.planned.session.pool) (Unit {0}) [] None) view filled.run in
    let copied = c.in_ok-copy.ensures in
    let does = c.switch.ensures in
    part_after g.P.Pool self next c.in_ok-copy.field-0 original has more c.planned.invariant copied.copies copied.plan copied.session.2 copied.copied does.plan (calls_then run tt copied.run)
    c.switch.result does.part (copied.session.0, copied.session.1) does.rendered does.units does.session
