use Rattle.std.proofs.Common.{◌≡◌, ◌++◌, ◌∷◌, [], List, sym, ap, ◌∙◌}
use Rattle.std.proofs.lemmas.List.{append-nil}
use Rattle.std.proofs.lemmas.Result.{on_ok_weaker}
use Rattle.dscb_rec.specs.declared.field.Extent.{Extent as Field}
use Rattle.job_lines.specs.declared.message.Message.TheVariants as messages
use Rattle.dump_sets.specs.job_turns.job_copies.step_plans.Plans.{extents_from}
use Rattle.job_ops.specs.Listing.{extent_messages}
use Rattle.job_ops.proofs.Extents.{pushed_next}
use Rattle.job_ops.proofs.listing.push_set.Goals as goal

pub returns-in_err-push-clause-grows : goal.returns-in_err-push-clause-grows
returns-in_err-push-clause-grows c = ([], c.in_err-push.ensures.items ∙ sym (append-nil c.args.messages.now.items))

pub returns-clause-grows : goal.returns-clause-grows
returns-clause-grows c =
    let grown = c.push_extents.ensures.grows in
    let line = messages.Set c.set_summary.result ∷ [] in
    (line ++ grown.0, pushed_next c.args.messages.now.items line grown.0 c.push.new.self.items c.push_extents.new.messages.items grown.1 c.in_ok-push.ensures.items)

pub returns-clause-listed : goal.returns-clause-listed
returns-clause-listed c =
    on_ok_weaker c.push_extents.result (λ listed set d.
    let before = c.args.messages.now.items in
    let device = c.args.volume.now.device in
    let line = messages.Set c.set_summary.result ∷ [] in
    let same : extents_from device c.as_slice.result.now ≡ set.extents = ap (λ (l : List Field). extents_from device l) c.as_slice.ensures ∙ sym d.extents_are in
    let summary = c.set_summary.ensures set d in
    pushed_next before line (extent_messages 1 (extents_from device c.as_slice.result.now)) c.push.new.self.items c.push_extents.new.messages.items listed c.in_ok-push.ensures.items
    ∙ (λ i. before ++ (messages.Set (summary i) ∷ extent_messages 1 (same i)))) c.push_extents.ensures.listed
