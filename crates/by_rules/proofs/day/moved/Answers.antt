use Rattle.std.proofs.Common.{◌∙◌, arith, FitsSigned, w32, w64}
use Rattle.std.proofs.lemmas.Int.{to_z-of_z}
use Rattle.jiff.proofs.SpanFacts.{signed_arith, date_add-days, can_add-days}
use Rattle.by_rules.proofs.day.moved.Goals as goal

pub unreachable-requires : goal.unreachable-requires
unreachable-requires c =
    let fn : FitsSigned w32 c.args.days = c.ranges.days in
    let f8 : FitsSigned w64 c.args.days = omega (arith, signed_arith) in
    let only = simp to_z-of_z at c.days.ensures in
    let can = can_add-days c.args.from c.args.days c.days.result only in
    let ok = c.in_default.ensures.succeeds.1 (can.1 c.requires.there) in
    cc

pub returns : goal.returns
returns c =
    let fn : FitsSigned w32 c.args.days = c.ranges.days in
    let f8 : FitsSigned w64 c.args.days = omega (arith, signed_arith) in
    let only = simp to_z-of_z at c.days.ensures in
    c.in-Ok.ensures.value ∙ date_add-days c.args.from c.args.days c.days.result only
