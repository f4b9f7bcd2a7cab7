use Rattle.std.proofs.Common.{[], refl}
use Rattle.vtoc_check.proofs.Joined.{free_told, no_free}
use Rattle.vtoc_check.proofs.free.broken_free.Goals as goal

pub returns : goal.returns
returns c = free_told c.args.vtoc.now c.in_ok-stated.stated c.add_if.result c.if-not-vtoc.false c.in_ok-stated.ensures (c.add_if.ensures [] refl)

pub returns-then-not-vtoc : goal.returns-then-not-vtoc
returns-then-not-vtoc c = no_free c.args.vtoc.now c.if-not-vtoc.true
