use Rattle.std.proofs.Common.{sym, arith, w32, to_z, of_z}
use Rattle.jiff_core.proofs.SignedLemmas.{signed_arith}
use Rattle.std.proofs.lemmas.Int.{to_z-of_z}
use Rattle.by_rules.proofs.Calendar.{is_day_after, is_epoch_day, is_day_of}
use Rattle.by_rules.proofs.day.Day.after.Goals as goal

pub moved-requires-clause-there : goal.moved-requires-clause-there
moved-requires-clause-there c =
    let days-is = to_z-of_z w32 c.args.days c.ranges.days in
    let added-is = to_z-of_z w32 c.to_add.result (omega (arith, signed_arith, c.to_add.ensures, c.requires.today.day.last)) in
    is_epoch_day c.args.self c.args.days c.first_of-first.result (to_z w32 (of_z w32 c.to_add.result)) c.requires.today c.requires.days
    c.first_of-first.ensures.0 (omega (arith, signed_arith)) (omega (arith, signed_arith)) (omega (arith, signed_arith, c.to_add.ensures))

pub of-requires : goal.of-requires
of-requires c =
    let days-is = to_z-of_z w32 c.args.days c.ranges.days in
    let added-is = to_z-of_z w32 c.to_add.result (omega (arith, signed_arith, c.to_add.ensures, c.requires.today.day.last)) in
    let there = is_day_after c.args.self c.args.days c.first_of-first.result c.moved.result (to_z w32 (of_z w32 c.to_add.result)) c.requires.today c.requires.days
    c.first_of-first.ensures.0 (omega (arith, signed_arith)) (omega (arith, signed_arith)) (omega (arith, signed_arith, c.to_add.ensures)) c.moved.ensures in
    omega (arith, signed_arith, there.1)

pub returns : goal.returns
returns c =
    let days-is = to_z-of_z w32 c.args.days c.ranges.days in
    let added-is = to_z-of_z w32 c.to_add.result (omega (arith, signed_arith, c.to_add.ensures, c.requires.today.day.last)) in
    let there = is_day_after c.args.self c.args.days c.first_of-first.result c.moved.result (to_z w32 (of_z w32 c.to_add.result)) c.requires.today c.requires.days
    c.first_of-first.ensures.0 (omega (arith, signed_arith)) (omega (arith, signed_arith)) (omega (arith, signed_arith, c.to_add.ensures)) c.moved.ensures in
    is_day_of c.args.self c.args.days c.moved.result c.of.result there (sym c.of.ensures.year) c.of.ensures.day
