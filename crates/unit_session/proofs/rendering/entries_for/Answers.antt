use Rattle.std.proofs.Common.{List, ◌++◌, map, ap, ◌∙◌, arith, length}
use Rattle.vtoc_write.specs.declared.blocks.Block.{Block}
use Rattle.redo_core.specs.Statuses.{EntriesView}
use Rattle.unit_steps.specs.Rendering.{entry_for}
use Rattle.unit_session.proofs.Rendered.{entries_more, entries_whole, shorter_of}
use Rattle.unit_session.proofs.rendering.entries_for.Goals as goal

pub loop-place-preserved : goal.loop-place-preserved
loop-place-preserved c =
    let old = c.loop-place.entries in
    let new = c.add_entries.new.entries in
    let added = c.in_ok-add_entries.ensures in
    let blocks = entries_more c.args.changes.now c.args.rendered.now c.loop-place.place c.index-changes-place.result c.index-rendered-place.result old.blocks new.blocks
    (omega (arith, c.loop-place-test.true, c.min-place-end.ensures)) (omega (arith, c.loop-place-test.true, c.min-place-end.ensures)) c.index-changes-place.is c.index-rendered-place.is
    (ap (λ (e : EntriesView). e.blocks) added ∙ ap (λ (l : List Block). old.blocks ++ map (entry_for c.index-changes-place.result.0) l) c.as_slice.ensures)
    (ap (λ (e : EntriesView). e.blocks) c.loop-place.invariant) in
    let control = ap (λ (e : EntriesView). e.control) added ∙ ap (λ (e : EntriesView). e.control) c.loop-place.invariant in
    λ i. record { blocks = blocks i; control = control i }

pub returns : goal.returns
returns c =
    let blocks = entries_whole c.args.changes.now c.args.rendered.now c.loop-place.place c.min-place-end.result c.loop-place.entries.blocks
    (shorter_of (length c.args.changes.now) (length c.args.rendered.now) c.min-place-end.result c.min-place-end.ensures) c.loop-place-test.false
    (ap (λ (e : EntriesView). e.blocks) c.loop-place.invariant) in
    λ i. record { blocks = blocks i; control = (ap (λ (e : EntriesView). e.control) c.loop-place.invariant) i }
