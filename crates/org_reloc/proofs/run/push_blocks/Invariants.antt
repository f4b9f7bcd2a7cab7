use Rattle.std.proofs.Common.{◌≡◌, ◌++◌, map, take}
use Rattle.org_reloc.specs.Content.{block_of, records_of, HasNoEnd}
use Rattle.org_reloc.proofs.run.push_blocks.Given as goal

abbrev pub invariant-loop-track : goal.invariant-loop-track
invariant-loop-track l =
    HasNoEnd (l.fn.recs ++ records_of (take l.track-index l.tracks)) × (l.blocks ≡ l.fn.blocks ++ map block_of (l.fn.recs ++ records_of (take l.track-index l.tracks)))
