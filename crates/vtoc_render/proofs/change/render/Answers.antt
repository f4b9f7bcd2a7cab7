use Rattle.std.specs.Option.{option_copied}
use Rattle.vtoc_check.specs.declared.fault.VtocFault.{VtocFault}
use Rattle.vtoc_render.specs.declared.change.Rendered.{Rendered}
use Rattle.vtoc_render.specs.Change.{IsChangeWritten}
use Rattle.vtoc_render.specs.Loads.{OfEachVtoc}
use Rattle.vtoc_render.specs.Next.{IsNext, IsChangeFault}
use Rattle.vtoc_render.specs.Render.{LoadsAfter}
use Rattle.vtoc_render.specs.Written.{IsWritten, IsPutFault}
use Rattle.vtoc_render.proofs.NextVolume.{next_is, fault_is, if_ok, if_err}
use Rattle.vtoc_render.proofs.LoadsWritten.{loads_is}
use Rattle.vtoc_render.proofs.Placed.{placed_is}
use Rattle.vtoc_render.proofs.NextMark.{mark_loads}
use Rattle.vtoc_render.proofs.ChangeWritten.{change_written, mark_written}
use Rattle.vtoc_render.proofs.change.render.Goals as goal

pub returns-in-Some-clause-next : goal.returns-in-Some-clause-next
returns-in-Some-clause-next c =
    let v = c.args.volume.now in
    let slots = c.args.slots.now in
    let change = c.args.change.now in
    let name = c.in-Some.aim.name in
    let put = option_copied c.in-Some.aim.put in
    if_ok (IsWritten v slots name put) (λ (rendered : Rendered). IsNext v change rendered.next)
    (λ rendered is. next_is v slots change name put rendered c.requires.loads c.requires.may c.in-Some.ensures.aim is) c.put_in.result c.put_in.ensures.written

pub returns-in-Some-clause-loads : goal.returns-in-Some-clause-loads
returns-in-Some-clause-loads c =
    let v = c.args.volume.now in
    let slots = c.args.slots.now in
    let change = c.args.change.now in
    let name = c.in-Some.aim.name in
    let put = option_copied c.in-Some.aim.put in
    if_ok (IsWritten v slots name put) (LoadsAfter v slots change)
    (λ (rendered : Rendered) is. loads_is v slots change name put rendered c.requires.loads c.requires.may c.in-Some.ensures.aim is
    (λ head label unit before vtoc four was. placed_is was change name put rendered c.requires.may c.in-Some.ensures.aim is)) c.put_in.result c.put_in.ensures.written

pub returns-in-Some-clause-fault : goal.returns-in-Some-clause-fault
returns-in-Some-clause-fault c =
    let v = c.args.volume.now in
    let slots = c.args.slots.now in
    let change = c.args.change.now in
    let name = c.in-Some.aim.name in
    let put = option_copied c.in-Some.aim.put in
    if_err (IsPutFault v slots name put) (IsChangeFault v change)
    (λ (fault : VtocFault) is. fault_is v slots change name put fault c.requires.loads c.requires.may c.if-volume.false c.in-Some.ensures.aim is) c.put_in.result c.put_in.ensures.fault

pub returns-in_ok-marked-in-None-clause-loads : goal.returns-in_ok-marked-in-None-clause-loads
returns-in_ok-marked-in-None-clause-loads c =
    mark_loads c.args.volume.now c.args.slots.now c.args.change.now c.in_ok-marked-in-None.field-0 c.requires.may c.in-None.ensures.mark c.in_ok-marked-in-None.ensures.next
    c.in_ok-marked-in-None.ensures.blocks

pub returns-in-Some-clause-written : goal.returns-in-Some-clause-written
returns-in-Some-clause-written c =
    let v = c.args.volume.now in
    let slots = c.args.slots.now in
    let change = c.args.change.now in
    let name = c.in-Some.aim.name in
    let put = option_copied c.in-Some.aim.put in
    if_ok (IsWritten v slots name put) (λ (rendered : Rendered). OfEachVtoc v slots (IsChangeWritten v slots change rendered))
    (λ rendered is. change_written v slots change name put rendered c.requires.may c.in-Some.ensures.aim is) c.put_in.result c.put_in.ensures.written

pub returns-in_ok-marked-in-None-clause-written : goal.returns-in_ok-marked-in-None-clause-written
returns-in_ok-marked-in-None-clause-written c =
    mark_written c.args.volume.now c.args.slots.now c.args.change.now c.in_ok-marked-in-None.field-0 c.in-None.ensures.mark c.in_ok-marked-in-None.ensures.blocks
