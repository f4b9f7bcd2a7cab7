use Rattle.std.proofs.Common.{refl}
use Rattle.vol_label.proofs.LabelText.{spelled_by, other_serial, other_pointer}
use Rattle.vol_label.proofs.label.label_at.Goals as goal

pub returns-then-not-is_serial-clause-none : goal.returns-then-not-is_serial-clause-none
returns-then-not-is_serial-clause-none c =
    other_serial c.args.head c.args.body.now c.in_ok-text.text.now c.in_ok-_security._security c.in_ok-vtoc.vtoc c.in_ok-vtoc.field-0-1.now
    (spelled_by _ _ _ _ _ _ _ _ c.in_ok-rest.ensures.found c.in_ok-text.ensures.found.1 c.in_ok-_security.ensures.found c.in_ok-vtoc.ensures.found.1)
    c.in_ok-text.ensures.found.0 c.in_ok-vtoc.ensures.found.0 (λ h. let t = c.if-not-is_serial.ensures.1 h in cc)

pub returns-then-not-is_inside-clause-none : goal.returns-then-not-is_inside-clause-none
returns-then-not-is_inside-clause-none c =
    other_pointer c.args.head c.args.body.now c.in_ok-text.text.now c.in_ok-_security._security c.in_ok-vtoc.vtoc c.in_ok-vtoc.field-0-1.now
    (spelled_by _ _ _ _ _ _ _ _ c.in_ok-rest.ensures.found c.in_ok-text.ensures.found.1 c.in_ok-_security.ensures.found c.in_ok-vtoc.ensures.found.1)
    c.in_ok-text.ensures.found.0 c.in_ok-vtoc.ensures.found.0 (λ h. let t = c.if-not-is_inside.ensures.1 h in cc)

pub returns-clause-found : goal.returns-clause-found
returns-clause-found c = record {
  security = c.in_ok-_security._security;
  rest = c.in_ok-vtoc.field-0-1.now;
  spelled = spelled_by _ _ _ _ _ _ _ _ c.in_ok-rest.ensures.found c.in_ok-text.ensures.found.1 c.in_ok-_security.ensures.found c.in_ok-vtoc.ensures.found.1;
  serial = c.if-not-is_serial.ensures.0 refl;
  numbers = c.in_ok-vtoc.ensures.found.0;
  inside = c.if-not-is_inside.ensures.0 refl;
}
