use Rattle.std.proofs.Common.{◌≡◌, ◌++◌, map, take, drop}
use Rattle.org_reloc.specs.Directory.{page_block}
use Rattle.org_reloc.specs.Partitioned.{moved_page}
use Rattle.org_reloc.specs.Moved.{moved_to}
use Rattle.org_reloc.proofs.moved.move_places.Given as goal

abbrev pub invariant-loop-index : goal.invariant-loop-index
invariant-loop-index l = l.blocks.items ≡ map (λ page. page_block (moved_page (moved_to l.numbers l.news) page)) (take l.index l.pages) ++ drop l.index l.fn.blocks
