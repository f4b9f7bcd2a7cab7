use Rattle.std.proofs.Common.{◌≡◌, sym, subst}
use Rattle.std.proofs.lemmas.Result.{err_from_is_err_and}
use Rattle.dump_read.specs.SlotText.{IsSlotRead}
use Rattle.dump_read.proofs.Slots.{first_stop, second_stop, third_stop, slot_read}
use Rattle.dump_read.proofs.slot.read_slot.Goals as goal

pub returns-in_err-rest-clause-stops : goal.returns-in_err-rest-clause-stops
returns-in_err-rest-clause-stops c =
    let p = err_from_is_err_and c.from_residual.result c.from_residual.ensures.1 in
    rw (p.1, p.2) (first_stop c.args.device c.args.number c.args.text.now c.in_err-rest.field-0.0 c.in_err-rest.ensures.stops)

pub returns-in_err-count-clause-stops : goal.returns-in_err-count-clause-stops
returns-in_err-count-clause-stops c =
    let p = err_from_is_err_and c.from_residual-in_err-count.result c.from_residual-in_err-count.ensures.1 in
    rw (p.1, p.2) (second_stop c.args.device c.args.number c.args.text.now c.in_ok-rest.rest.now c.in_err-count.field-0.0 c.in_ok-rest.ensures.found c.in_err-count.ensures.stops)

pub returns-in_err-bytes-clause-stops : goal.returns-in_err-bytes-clause-stops
returns-in_err-bytes-clause-stops c =
    let p = err_from_is_err_and c.from_residual-in_err-bytes.result c.from_residual-in_err-bytes.ensures.1 in
    rw (p.1, p.2)
    (third_stop c.args.device c.args.number c.in_ok-count.count c.args.text.now c.in_ok-rest.rest.now c.in_ok-count.rest.now c.in_err-bytes.field-0.0 c.in_ok-count.ensures.found.0 c.in_ok-rest.ensures.found
    c.in_ok-count.ensures.found.1 c.in_err-bytes.ensures.stops)

pub returns-clause-read : goal.returns-clause-read
returns-clause-read c =
    let found = c.in_ok-bytes.ensures.found in
    let same : c.in_ok-copy.copy ≡ c.in_ok-bytes.bytes.now = c.in_ok-copy.ensures in
    subst (IsSlotRead c.args.device c.args.number c.args.text.now) (sym same)
    (slot_read c.args.device c.args.number c.in_ok-count.count c.args.text.now c.in_ok-rest.rest.now c.in_ok-count.rest.now c.in_ok-bytes.bytes.now c.in_ok-count.ensures.found.0 c.in_ok-rest.ensures.found
    c.in_ok-count.ensures.found.1 found.0 found.1 found.2)
