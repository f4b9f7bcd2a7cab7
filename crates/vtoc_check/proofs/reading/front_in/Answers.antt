use Rattle.std.proofs.Common.{ℕ, ap, ◌∙◌}
use Rattle.std.proofs.lemmas.Result.{IfErr-weaker}
use Rattle.ckd_image.specs.Device.{slot_of}
use Rattle.volume_model.specs.Space.{track_at}
use Rattle.vtoc_check.specs.Faults.{IsToldFault}
use Rattle.vtoc_check.specs.Front.{IsFrontBreach}
use Rattle.vtoc_check.specs.Slots.{slot_in}
use Rattle.vtoc_check.proofs.FrontRules.{told_weaker, same_breach}
use Rattle.vtoc_check.proofs.reading.front_in.Goals as goal

pub returns-clause-fault : goal.returns-clause-fault
returns-clause-fault c =
    let head = c.args.head in
    let pointer = c.args.pointer in
    let slots = slot_in c.args.run (slot_of head.device) c.args.slots.now in
    let e = c.slot_of_track.ensures.slot ∙ ap slots (c.track_number-track.ensures ∙ ap (λ (heads : ℕ). track_at heads pointer.at) c.heads.ensures) in
    IfErr-weaker c.front.result (IsToldFault (IsFrontBreach head (λ _. c.slot_of_track.result.now) pointer)) (IsToldFault (IsFrontBreach head slots pointer))
    (λ fault p. told_weaker (IsFrontBreach head (λ _. c.slot_of_track.result.now) pointer) (IsFrontBreach head slots pointer) (λ told h. same_breach head (λ _. c.slot_of_track.result.now) slots pointer told e h) fault p)
    c.front.ensures.fault
