use Rattle.std.proofs.Common.{◌++◌, List, take, sym, ap, ◌∙◌, arith}
use Rattle.std.proofs.lemmas.List.{append-nil, take_all}
use Rattle.dscb_rec.specs.declared.field.Extent.{Extent as Field}
use Rattle.job_lines.specs.declared.message.Message.{Message}
use Rattle.dump_sets.specs.job_turns.job_copies.step_plans.Plans.{extents_from}
use Rattle.job_ops.specs.Listing.{extent_messages}
use Rattle.job_ops.proofs.Extents.{extents_next, pushed_next}
use Rattle.job_ops.proofs.listing.push_extents.Goals as goal

pub loop-place-init : goal.loop-place-init
loop-place-init c = sym (append-nil c.args.messages.now.items)

pub returns-in_err-push-clause-grows : goal.returns-in_err-push-clause-grows
returns-in_err-push-clause-grows c = (extent_messages 1 (extents_from c.args.device (take c.loop-place.place c.args.extents.now)), c.in_err-push.ensures.items ∙ c.loop-place.invariant)

pub loop-place-preserved : goal.loop-place-preserved
loop-place-preserved c =
    let before = c.args.messages.now.items in
    let extents = c.args.extents.now in
    let device = c.args.device in
    let k = c.loop-place.place in
    let said = extent_messages 1 (extents_from device (take k extents)) in
    pushed_next before said _ c.loop-place.messages.items c.push.new.self.items
    (c.in_ok-push.ensures.items ∙ ap (λ (l : List Message). c.loop-place.messages.items ++ l) c.extent_summary-summary.ensures) c.loop-place.invariant
    ∙ ap (λ (l : List Message). before ++ l) (sym (extents_next device extents k _ c.loop-place-test.true))

pub returns-clause-grows : goal.returns-clause-grows
returns-clause-grows c = (extent_messages 1 (extents_from c.args.device (take c.loop-place.place c.args.extents.now)), c.loop-place.invariant)

pub returns-clause-listed : goal.returns-clause-listed
returns-clause-listed c =
    c.loop-place.invariant
    ∙ ap (λ (l : List Field). c.args.messages.now.items ++ extent_messages 1 (extents_from c.args.device l)) (take_all c.loop-place.place c.args.extents.now (omega (arith, c.loop-place-test.false)))
