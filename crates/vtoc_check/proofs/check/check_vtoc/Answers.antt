use Rattle.std.proofs.lemmas.Result.{err_from_is_err_and}
use Rattle.ckd_image.specs.Device.{slot_of}
use Rattle.volume_model.specs.Sound.{IsCheckFault}
use Rattle.vtoc_check.specs.Front.{IsFrontBreach}
use Rattle.vtoc_check.specs.Slots.{slot_in}
use Rattle.vtoc_check.proofs.FrontRules.{told_weaker, told_fault}
use Rattle.vtoc_check.proofs.VtocRead.{holds_pointer, same_vtoc, same_with, front_fault, later_fault}
use Rattle.vtoc_check.proofs.check.check_vtoc.Goals as goal

pub returns-in_err-found-clause-fault : goal.returns-in_err-found-clause-fault
returns-in_err-found-clause-fault c =
    let head = c.args.head in
    let pointer = c.args.label.now.vtoc in
    let slots = slot_in c.args.run (slot_of head.device) c.args.slots.now in
    let p = err_from_is_err_and c.from_residual.result c.from_residual.ensures.1 in
    rw (p.1, p.2) (λ unit are.
    told_weaker (IsFrontBreach head slots pointer) (IsCheckFault head unit pointer c.args.sliding)
    (λ told h. front_fault head c.args.run (slot_of head.device) c.args.slots.now unit pointer c.args.sliding told are (holds_pointer head slots pointer c.args.run c.requires.run) h) c.in_err-found.field-0.0 c.in_err-found.ensures.fault)

pub returns-in-None-clause-sound : goal.returns-in-None-clause-sound
returns-in-None-clause-sound c = λ unit are.
    let head = c.args.head in
    let pointer = c.args.label.now.vtoc in
    let slots = slot_in c.args.run (slot_of head.device) c.args.slots.now in
    let found = c.in_ok-found.found in
    let read = c.in_ok-found.ensures.vtoc in (
      same_with head c.args.run (slot_of head.device) c.args.slots.now unit pointer c.args.sliding found.vtoc found.four are (holds_pointer head slots pointer c.args.run c.requires.run) read.1 read.0,
      rw c.in-None.is at c.in_ok-lowest_breach.ensures,
      read.2,
    )

pub returns-in-Some-clause-fault : goal.returns-in-Some-clause-fault
returns-in-Some-clause-fault c = λ unit are.
    let head = c.args.head in
    let pointer = c.args.label.now.vtoc in
    let slots = slot_in c.args.run (slot_of head.device) c.args.slots.now in
    let found = c.in_ok-found.found in
    let read = c.in_ok-found.ensures.vtoc in
    told_fault (IsCheckFault head unit pointer c.args.sliding) c.in-Some.told c.told_as.result c.told_as.ensures
    (later_fault head unit pointer c.args.sliding found.vtoc c.in-Some.told
    (same_vtoc head c.args.run (slot_of head.device) c.args.slots.now unit pointer c.args.sliding found.vtoc are (holds_pointer head slots pointer c.args.run c.requires.run) read.1 read.0.stands)
    (rw c.in-Some.is at c.in_ok-lowest_breach.ensures))
