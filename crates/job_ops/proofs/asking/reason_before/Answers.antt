use Rattle.std.proofs.Common.{Some, None, sym, refl, ◌∙◌}
use Rattle.std.proofs.lemmas.Bool.{false≢true}
use Rattle.std.proofs.lemmas.Result.{err_from_is_err_and}
use Rattle.ckd_image.specs.Device.{heads_of}
use Rattle.move_core.proofs.Running.{run_idle}
use Rattle.job_lines.specs.declared.message.Reason.TheVariants as reasons
use Rattle.job_ops.specs.Asked.{ReasonSoFar}
use Rattle.dump_sets.specs.job_turns.job_steps.Units.{facts_of}
use Rattle.job_ops.specs.Task.{StaysFor}
use Rattle.job_ops.proofs.Judging.{at_seen}
use Rattle.job_ops.proofs.asking.reason_before.Goals as goal

pub returns-then-candidate-clause-reason : goal.returns-then-candidate-clause-reason
returns-then-candidate-clause-reason g c told units settled =
    let is = c.requires.seen told units settled in
    at_seen (λ volume set. ReasonSoFar c.args.scene.held.now c.args.name.now set (StaysFor c.args.task (heads_of volume.device) set) (Some reasons.Pinned)) is (is.stays.0 c.if-candidate.true)

pub returns-then-candidate-clause-run : goal.returns-then-candidate-clause-run
returns-then-candidate-clause-run g c = run_idle (tt {0})

pub returns-then-is_held-clause-reason : goal.returns-then-is_held-clause-reason
returns-then-is_held-clause-reason g c told units settled =
    let is = c.requires.seen told units settled in
    at_seen (λ volume set. ReasonSoFar c.args.scene.held.now c.args.name.now set (StaysFor c.args.task (heads_of volume.device) set) (Some reasons.Held)) is
    (λ stays. false≢true (sym c.if-candidate.false ∙ is.stays.1 stays), c.is_held.ensures.0 c.if-is_held.true)

pub returns-then-is_held-clause-run : goal.returns-then-is_held-clause-run
returns-then-is_held-clause-run g c = run_idle (tt {0})

pub returns-in_err-has_texts-clause-cause : goal.returns-in_err-has_texts-clause-cause
returns-in_err-has_texts-clause-cause g c =
    let p = err_from_is_err_and c.from_residual.result c.from_residual.ensures.1 in
    rw (p.1, p.2) c.in_err-has_texts.ensures.cause

pub returns-then-not-branch-clause-reason : goal.returns-then-not-branch-clause-reason
returns-then-not-branch-clause-reason g c told units settled =
    let is = c.requires.seen told units settled in
    let texts = c.in_ok-has_texts.ensures.texts told (facts_of g.P.Pool c.args.session.now) units is.volume is.set refl settled is.set_is.online_is is.set_is.there is.set_is.name_is in
    at_seen (λ volume set. ReasonSoFar c.args.scene.held.now c.args.name.now set (StaysFor c.args.task (heads_of volume.device) set) (Some reasons.BadTrack)) is (
      λ stays. false≢true (sym c.if-candidate.false ∙ is.stays.1 stays),
      λ is_held. false≢true (sym c.if-is_held.false ∙ c.is_held.ensures.1 is_held),
      λ all. false≢true (sym c.if-not-branch.true ∙ texts.1 all),
    )

pub returns-clause-reason : goal.returns-clause-reason
returns-clause-reason g c told units settled =
    let is = c.requires.seen told units settled in
    let texts = c.in_ok-has_texts.ensures.texts told (facts_of g.P.Pool c.args.session.now) units is.volume is.set refl settled is.set_is.online_is is.set_is.there is.set_is.name_is in
    at_seen (λ volume set. ReasonSoFar c.args.scene.held.now c.args.name.now set (StaysFor c.args.task (heads_of volume.device) set) None) is (
      λ stays. false≢true (sym c.if-candidate.false ∙ is.stays.1 stays),
      λ is_held. false≢true (sym c.if-is_held.false ∙ c.is_held.ensures.1 is_held),
      texts.0 c.if-not-branch.false,
    )
