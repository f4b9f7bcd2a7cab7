use Rattle.std.proofs.Common.{sym, ap, ◌∙◌, ◌==◌, List}
use Rattle.std.specs.List.{position}
use Rattle.ckd_image.specs.declared.track.Rec.{Rec}
use Rattle.vol_label.proofs.PutSerial.{none_found, place_found, room_found, serial_put, keeps_label}
use Rattle.vol_label.proofs.label.put_serial.Goals as goal

pub returns-in_default-clause-put : goal.returns-in_default-clause-put
returns-in_default-clause-put c =
    absurd (none_found c.args.track.now c.requires (ap (λ (recs : List Rec). position (λ rec. rec.r == 3) recs) (sym c.as_slice.ensures) ∙ sym c.label_place.ensures ∙ c.in_default.is))

pub returns-in_default-clause-reads : goal.returns-in_default-clause-reads
returns-in_default-clause-reads c =
    absurd (none_found c.args.track.now c.requires (ap (λ (recs : List Rec). position (λ rec. rec.r == 3) recs) (sym c.as_slice.ensures) ∙ sym c.label_place.ensures ∙ c.in_default.is))

pub put_body-requires-clause-room : goal.put_body-requires-clause-room
put_body-requires-clause-room c =
    room_found c.args.track.now c.in-Some.place c.serial_bytes.result.now c.requires
    (ap (λ (recs : List Rec). position (λ rec. rec.r == 3) recs) (sym c.as_slice.ensures) ∙ sym c.label_place.ensures ∙ c.in-Some.is)
    c.serial_bytes.ensures.six

pub returns-clause-put : goal.returns-clause-put
returns-clause-put c =
    let at = ap (λ (recs : List Rec). position (λ rec. rec.r == 3) recs) (sym c.as_slice.ensures) ∙ sym c.label_place.ensures ∙ c.in-Some.is in
    serial_put c.args.serial c.args.track.now c.put_body.new.self c.in-Some.place c.serial_bytes.result.now (place_found c.args.track.now c.in-Some.place c.requires at) c.serial_bytes.ensures.bytes c.put_body.ensures

pub returns-clause-reads : goal.returns-clause-reads
returns-clause-reads c =
    let at = ap (λ (recs : List Rec). position (λ rec. rec.r == 3) recs) (sym c.as_slice.ensures) ∙ sym c.label_place.ensures ∙ c.in-Some.is in
    keeps_label c.args.serial c.args.track.now c.put_body.new.self
    (serial_put c.args.serial c.args.track.now c.put_body.new.self c.in-Some.place c.serial_bytes.result.now (place_found c.args.track.now c.in-Some.place c.requires at) c.serial_bytes.ensures.bytes c.put_body.ensures)
