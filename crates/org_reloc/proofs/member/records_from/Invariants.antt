use Rattle.std.proofs.Common.{◌≢◌, All, take}
use Rattle.org_reloc.proofs.member.records_from.Given as goal

abbrev pub invariant-loop-index : goal.invariant-loop-index
invariant-loop-index l = All (λ rec. rec.r ≢ l.number) (take l.index l.recs)
