use Rattle.std.proofs.Common.{length}
use Rattle.org_reloc.specs.DirectoryReading.{IsReadSoFar}
use Rattle.org_reloc.proofs.directory.read_entries.Given as goal

abbrev pub invariant-entries : goal.invariant-entries
invariant-entries l = IsReadSoFar l.fn.bytes l.entries l.rest

abbrev pub decreases-entries : goal.decreases-entries
decreases-entries l = length l.rest
