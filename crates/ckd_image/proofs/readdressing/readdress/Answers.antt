use Rattle.std.proofs.Common.{◌++◌, ℕ, List, ap, refl, ◌∙◌, arith}
use Rattle.ckd_image.specs.Track.{home_text}
use Rattle.ckd_image.proofs.Moved as moved
use Rattle.ckd_image.proofs.readdressing.readdress.Goals as goal

pub returns-in_default-clause-none : goal.returns-in_default-clause-none
returns-in_default-clause-none c = λ _. moved.no_home c.args.from c.args.slot.now c.in_default.ensures.none

pub returns-then-not-has_records-clause-none : goal.returns-then-not-has_records-clause-none
returns-then-not-has_records-clause-none c = λ f. moved.no_records c.args.from c.args.slot.now (c.if-not-has_records.ensures.no f)

pub move_records-requires-clause-records : goal.move_records-requires-clause-records
move_records-requires-clause-records c =
    let spelled = c.in-Some.ensures.found ∙ ap (λ (t : List ℕ). home_text c.args.from c.in-Some._flag ++ t) c.in-Ok.ensures.found.1 in
    let first = moved.written c.args.slot.now c.put_over.new.bytes 1 c.args.to c.bytes.result c.bytes.ensures c.put_over.ensures in
    let second = moved.written c.put_over.new.bytes c.put_over-2.new.bytes 5 c.args.to c.bytes-2.result c.bytes-2.ensures c.put_over-2.ensures in
    let len = c.in-Ok.ensures.found.0 in
    moved.records_again c.args.from c.args.to c.args.slot.now c.put_over-2.new.bytes c.in-Some._flag c.in-Ok._r0.now c.in-Ok._more.now len spelled
    (moved.front_moved c.args.from c.args.to c.args.slot.now c.put_over.new.bytes c.put_over-2.new.bytes c.in-Some._flag c.in-Ok._r0.now c.in-Ok._more.now len spelled first second)
    (c.if-not-has_records.ensures.yes refl)

pub returns-clause-moved : goal.returns-clause-moved
returns-clause-moved c = λ _.
    let spelled = c.in-Some.ensures.found ∙ ap (λ (t : List ℕ). home_text c.args.from c.in-Some._flag ++ t) c.in-Ok.ensures.found.1 in
    let first = moved.written c.args.slot.now c.put_over.new.bytes 1 c.args.to c.bytes.result c.bytes.ensures c.put_over.ensures in
    let second = moved.written c.put_over.new.bytes c.put_over-2.new.bytes 5 c.args.to c.bytes-2.result c.bytes-2.ensures c.put_over-2.ensures in
    let len = c.in-Ok.ensures.found.0 in
    moved.all_moved c.args.from c.args.to c.args.slot.now c.put_over-2.new.bytes c.move_records.new.slot c.in-Some._flag c.in-Ok._r0.now c.in-Ok._more.now len spelled
    (moved.front_moved c.args.from c.args.to c.args.slot.now c.put_over.new.bytes c.put_over-2.new.bytes c.in-Some._flag c.in-Ok._r0.now c.in-Ok._more.now len spelled first second)
    c.move_records.ensures

pub returns-in_default-zero_at-clause-none : goal.returns-in_default-zero_at-clause-none
returns-in_default-zero_at-clause-none c = λ _.
    moved.no_zero_record c.args.from c.args.slot.now c.in-Some.rest.now c.in-Some._flag c.in_default-zero_at.field-0 (omega arith, omega arith) c.in-Some.ensures.found c.in_default-zero_at.ensures.wrong
