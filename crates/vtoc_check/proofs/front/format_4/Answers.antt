use Rattle.std.proofs.Common.{refl, arith}
use Rattle.ckd_image.specs.Device.{heads_of}
use Rattle.vtoc_check.proofs.FrontRules.{format_4_read, no_format_4}
use Rattle.vtoc_check.proofs.front.format_4.Goals as goal

pub returns : goal.returns
returns c =
    format_4_read (heads_of c.args.head.device) c.args.pointer c.args.slot.now c.in-Some.text c.in-Some.text.recs c.format_4_among.result (omega arith, omega arith) c.requires
    (rw c.in-Some.is at c.in_ok-text.ensures) refl c.format_4_among.ensures.found c.format_4_among.ensures.none

pub returns-in_default : goal.returns-in_default
returns-in_default c = no_format_4 (heads_of c.args.head.device) c.args.pointer c.args.slot.now (rw c.in_default.is at c.in_ok-text.ensures)
