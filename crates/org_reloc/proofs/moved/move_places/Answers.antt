use Rattle.std.proofs.Common.{refl}
use Rattle.org_reloc.specs.declared.directory.Page.{Page}
use Rattle.org_reloc.specs.Directory.{page_block}
use Rattle.org_reloc.specs.Moved.{moved_to}
use Rattle.org_reloc.specs.Partitioned.{moved_page}
use Rattle.org_reloc.proofs.Movings.{block_moved}
use Rattle.org_reloc.proofs.moved.move_places.Goals as goal

pub loop-index-preserved : goal.loop-index-preserved
loop-index-preserved c =
    block_moved (λ (page : Page). page_block (moved_page (moved_to c.args.numbers.now c.args.news.now) page)) c.args.pages.now c.args.blocks c.loop-index.blocks.items _ c.loop-index.index c.index-pages-index.result c.in_ok-blocks.field-0
    c.loop-index-test.true c.index-pages-index.is c.requires.front c.loop-index.invariant
    c.in_ok-blocks.ensures refl
