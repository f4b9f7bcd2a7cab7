use Rattle.std.proofs.Common.{◌≡◌, ◌++◌, map, take}
use Rattle.org_reloc.specs.Content.{block_of, HasNoEnd}
use Rattle.org_reloc.proofs.run.push_run.Given as goal

abbrev pub invariant-loop-rec : goal.invariant-loop-rec
invariant-loop-rec l = HasNoEnd (take l.rec-index l.recs) × (l.blocks ≡ l.fn.blocks ++ map block_of (take l.rec-index l.recs))
