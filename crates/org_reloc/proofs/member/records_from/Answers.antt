use Rattle.std.proofs.Common.{refl}
use Rattle.org_reloc.proofs.Directories.{from_on}
use Rattle.org_reloc.proofs.Members.{from_here}
use Rattle.org_reloc.proofs.member.records_from.Goals as goal

pub returns-then-rec-number-clause-found : goal.returns-then-rec-number-clause-found
returns-then-rec-number-clause-found c =
    from_here c.args.recs.now c.loop-index.index c.index-recs-index.result c.args.number _ c.loop-index-test.true c.index-recs-index.is c.loop-index.invariant c.if-rec-number.true (from_on c.args.recs.now _ _ refl)
