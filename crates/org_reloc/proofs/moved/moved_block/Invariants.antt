use Rattle.std.proofs.Common.{◌≡◌, ◌++◌, map, take}
use Rattle.byteorder.specs.Endian.{big_bytes}
use Rattle.org_reloc.specs.Directory.{entries_text}
use Rattle.org_reloc.specs.Partitioned.{moved_entry}
use Rattle.org_reloc.specs.Moved.{moved_to}
use Rattle.org_reloc.proofs.moved.moved_block.Given as goal

abbrev pub invariant-loop-entry : goal.invariant-loop-entry
invariant-loop-entry l = l.body ≡ big_bytes 2 l.page.used ++ entries_text (map (moved_entry (moved_to l.numbers l.news)) (take l.entry-index l.page.entries))
