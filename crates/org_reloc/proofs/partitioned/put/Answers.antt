use Rattle.std.proofs.Common.{◌-◌, ◌≤◌, subst, List, ◌∙◌, ap, All, length, map, get_or}
use Rattle.org_reloc.specs.declared.block.Block.{Block}
use Rattle.org_reloc.specs.declared.directory.Page.{Page}
use Rattle.org_reloc.specs.declared.place.Place.{Place}
use Rattle.org_reloc.specs.Filling.{ArePlaces, groups_of, filling_of}
use Rattle.org_reloc.specs.Moved.{moved_to, moved_blocks}
use Rattle.org_reloc.specs.Packing.{FitsAlone}
use Rattle.org_reloc.specs.Place.{place_text}
use Rattle.org_reloc.specs.Taken.{origin}
use Rattle.org_reloc.proofs.Shapes.{put_is, put_sized, put_fits}
use Rattle.org_reloc.proofs.partitioned.put.Goals as goal

pub pack-requires-clause-blocks : goal.pack-requires-clause-blocks
pack-requires-clause-blocks c =
    let movable = c.args.movable in
    let moved = c.in_ok-blocks.ensures
    ∙ ap (λ (l : List Page). moved_blocks (moved_to c.as_slice-7.result.now c.as_slice-8.result.now) l movable.blocks) c.as_slice-6.ensures
    ∙ ap (λ l. moved_blocks (moved_to l c.as_slice-8.result.now) movable.pages movable.blocks) c.as_slice-7.ensures
    ∙ ap (λ (l : List Place). moved_blocks (moved_to movable.numbers l) movable.pages movable.blocks) c.as_slice-8.ensures in
    put_sized movable c.in_ok-news.news c.in_ok-blocks.blocks c.requires moved

pub pack-requires-clause-fit : goal.pack-requires-clause-fit
pack-requires-clause-fit c =
    let movable = c.args.movable in
    let moved = c.in_ok-blocks.ensures
    ∙ ap (λ (l : List Page). moved_blocks (moved_to c.as_slice-7.result.now c.as_slice-8.result.now) l movable.blocks) c.as_slice-6.ensures
    ∙ ap (λ l. moved_blocks (moved_to l c.as_slice-8.result.now) movable.pages movable.blocks) c.as_slice-7.ensures
    ∙ ap (λ (l : List Place). moved_blocks (moved_to movable.numbers l) movable.pages movable.blocks) c.as_slice-8.ensures in
    put_fits c.args.to movable c.in_ok-news.news c.in_ok-blocks.blocks c.requires (subst (All (FitsAlone c.args.to)) c.as_slice.ensures c.in_ok-check_lengths.ensures.fit) moved

pub returns-clause-put : goal.returns-clause-put
returns-clause-put c =
    let movable = c.args.movable in
    let moved = c.in_ok-blocks.ensures
    ∙ ap (λ (l : List Page). moved_blocks (moved_to c.as_slice-7.result.now c.as_slice-8.result.now) l movable.blocks) c.as_slice-6.ensures
    ∙ ap (λ l. moved_blocks (moved_to l c.as_slice-8.result.now) movable.pages movable.blocks) c.as_slice-7.ensures
    ∙ ap (λ (l : List Place). moved_blocks (moved_to movable.numbers l) movable.pages movable.blocks) c.as_slice-8.ensures in
    let places = c.in_ok-places.places in
    let news = c.in_ok-news.ensures
    ∙ ap (λ (l : List Place). map (λ start. get_or l start origin) c.as_slice-4.result.now) c.as_slice-3.ensures
    ∙ ap (λ l. map (λ start. get_or places start origin) l) c.as_slice-4.ensures in
    let last = c.bytes-last.ensures
    ∙ ap (λ (l : List Place). place_text (get_or l (c.len.result - 1) origin).track (get_or l (c.len.result - 1) origin).number) c.as_slice-5.ensures
    ∙ ap (λ n. place_text (get_or places (n - 1) origin).track (get_or places (n - 1) origin).number) c.len.ensures in
    put_is c.args.to movable places c.in_ok-news.news c.in_ok-blocks.blocks c.in_ok-tracks.tracks c.bytes-last.result c.requires
    (subst (All (FitsAlone c.args.to)) c.as_slice.ensures c.in_ok-check_lengths.ensures.fit)
    (subst (λ (l : List Block). ArePlaces c.args.to l places) c.as_slice-2.ensures c.in_ok-places.ensures.placed)
    (subst (λ (l : List Block). length (groups_of (filling_of c.args.to l)) ≤ 65535) c.as_slice-2.ensures c.in_ok-places.ensures.few)
    news moved c.in_ok-tracks.ensures last
