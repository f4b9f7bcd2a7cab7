use Rattle.org_reloc.proofs.Directories.{ArePagesSoFar}
use Rattle.org_reloc.proofs.directory.read_pages.Given as goal

abbrev pub invariant-loop-block : goal.invariant-loop-block
invariant-loop-block l = ArePagesSoFar l.blocks l.block-index l.pages
