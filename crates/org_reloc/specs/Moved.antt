-- A directory with new places.
use Rattle.std.specs.Prelude.{ℕ, nat_eq, if◌then◌else◌, List, [], ◌∷◌, ◌++◌, length, drop, map}
use Rattle.org_reloc.specs.declared.block.Block.{Block}
use Rattle.org_reloc.specs.declared.directory.Page.{Page}
use Rattle.org_reloc.specs.declared.place.Place.{Place}
use Rattle.org_reloc.specs.Directory.{page_block}
use Rattle.org_reloc.specs.Member.{number_of_place}
use Rattle.org_reloc.specs.Partitioned.{moved_page}

-- the new place beside the number of an old one; a place that has no number there stays
abbrev pub moved_to : List ℕ → List Place → Place → Place
moved_to [] news place = place
moved_to (number ∷ more) [] place = place
moved_to (number ∷ more) (new ∷ news) place = if nat_eq number (number_of_place place) then new else moved_to more news place

-- the first of the blocks with new places, and the others
abbrev pub moved_blocks : (Place → Place) → List Page → List Block → List Block
moved_blocks move pages blocks = map (λ page. page_block (moved_page move page)) pages ++ drop (length pages) blocks
