use Rattle.std.proofs.Common.{ℕ, ◌*◌, List, length, refl, sym, ap, subst, ◌∙◌, arith}
use Rattle.ckd_image.specs.Device.{slot_of}
use Rattle.vtoc_write.specs.declared.blocks.Block.{Block}
use Rattle.unit_steps.specs.Rendering.{ArePatched}
use Rattle.unit_session.specs.Planned.{BlocksAreOf}
use Rattle.unit_session.proofs.Rendered.{shorter_of}
use Rattle.unit_session.proofs.Vtocs.{may_at, in_reach, unit_ready, vtocs_more, vtocs_whole}
use Rattle.unit_session.proofs.patching.patched.Goals as goal

pub unreachable-requires : goal.unreachable-requires
unreachable-requires c =
    let ready = may_at c.args.units.now c.args.vtocs.items c.args.changes.now c.args.rendered.now c.loop-place.place c.index-changes-place.result c.index-rendered-place.result
    (omega (arith, c.loop-place-test.true, c.min-place-end.ensures)) (omega (arith, c.loop-place-test.true, c.min-place-end.ensures)) c.index-changes-place.is c.index-rendered-place.is
    c.requires.may in
    c.in_default.ensures.none ready.volume ready.loaded

pub index_mut-requires : goal.index_mut-requires
index_mut-requires c =
    let reach = in_reach c.args.units.now c.args.vtocs.items c.loop-place.vtocs.items c.args.changes.now c.args.rendered.now c.loop-place.place c.index-changes-place.result c.index-rendered-place.result
    (omega (arith, c.loop-place-test.true, c.min-place-end.ensures)) (omega (arith, c.loop-place-test.true, c.min-place-end.ensures)) c.index-changes-place.is c.index-rendered-place.is
    c.requires.may c.requires.apart c.loop-place.invariant in
    omega (arith, reach, c.loop-place.vtocs.ok)

pub patch-requires-clause-whole : goal.patch-requires-clause-whole
patch-requires-clause-whole c =
    let ready = unit_ready c.args.units.now c.args.vtocs.items c.loop-place.vtocs.items c.args.changes.now c.args.rendered.now c.loop-place.place c.index-changes-place.result c.index-rendered-place.result
    (omega (arith, c.loop-place-test.true, c.min-place-end.ensures)) (omega (arith, c.loop-place-test.true, c.min-place-end.ensures)) c.index-changes-place.is c.index-rendered-place.is
    c.requires.may c.requires.apart c.loop-place.invariant c.in-Some.volume.now c.index_mut.result.now c.in-Some.ensures.found c.index_mut.ensures.value in
    ready.0 ∙ ap (λ (n : ℕ). c.in-Some.volume.now.vtoc.len * n) (sym c.slot-size.ensures)

pub patch-requires-clause-blocks : goal.patch-requires-clause-blocks
patch-requires-clause-blocks c =
    let ready = unit_ready c.args.units.now c.args.vtocs.items c.loop-place.vtocs.items c.args.changes.now c.args.rendered.now c.loop-place.place c.index-changes-place.result c.index-rendered-place.result
    (omega (arith, c.loop-place-test.true, c.min-place-end.ensures)) (omega (arith, c.loop-place-test.true, c.min-place-end.ensures)) c.index-changes-place.is c.index-rendered-place.is
    c.requires.may c.requires.apart c.loop-place.invariant c.in-Some.volume.now c.index_mut.result.now c.in-Some.ensures.found c.index_mut.ensures.value in
    subst (λ (n : ℕ). BlocksAreOf c.in-Some.volume.now.vtoc n c.as_slice-blocks.result.now) (sym c.slot-size.ensures)
    (subst (λ (l : List Block). BlocksAreOf c.in-Some.volume.now.vtoc (slot_of c.in-Some.volume.now.device) l) (sym c.as_slice-blocks.ensures) ready.1)

pub loop-place-preserved : goal.loop-place-preserved
loop-place-preserved c =
    let run = c.in-Some.volume.now.vtoc in
    vtocs_more c.args.units.now c.args.vtocs.items c.loop-place.vtocs.items c.args.changes.now c.args.rendered.now c.loop-place.place c.index-changes-place.result c.index-rendered-place.result
    (omega (arith, c.loop-place-test.true, c.min-place-end.ensures)) (omega (arith, c.loop-place-test.true, c.min-place-end.ensures)) c.index-changes-place.is c.index-rendered-place.is
    c.requires.may c.requires.apart c.loop-place.invariant c.in-Some.volume.now c.index_mut.result.now c.patch.new.slots _ c.in-Some.ensures.found c.index_mut.ensures.value
    (subst (λ (n : ℕ). ArePatched c.in-Some.volume.now.vtoc n c.index-rendered-place.result.blocks c.index_mut.result.now c.patch.new.slots) c.slot-size.ensures
    (subst (λ (l : List Block). ArePatched c.in-Some.volume.now.vtoc c.slot-size.result l c.index_mut.result.now c.patch.new.slots) c.as_slice-blocks.ensures c.patch.ensures))
    refl

pub returns : goal.returns
returns c =
    vtocs_whole c.args.units.now c.args.vtocs.items c.loop-place.vtocs.items c.args.changes.now c.args.rendered.now c.loop-place.place c.min-place-end.result
    (shorter_of (length c.args.changes.now) (length c.args.rendered.now) c.min-place-end.result c.min-place-end.ensures) c.loop-place-test.false c.loop-place.invariant
