use Rattle.std.proofs.Common.{◌≡◌, ℕ, List, length, Some, refl, sym, ap, subst, ◌∙◌, arith}
use Rattle.std.specs.Prelude.{slice_get}
use Rattle.std.proofs.lemmas.Option.{same_Some, slice_get_read, slice_get_within}
use Rattle.vtoc_core.specs.declared.volume.Volume.{Volume}
use Rattle.unit_steps.specs.vtoc_render.Loads.{LoadsFrom}
use Rattle.unit_steps.specs.vtoc_render.Next.{MayChange}
use Rattle.unit_session.proofs.rendering.render_one.Goals as goal
use Rattle.unit_steps.proofs.OneChange.{same_volume}

pub unreachable-requires : goal.unreachable-requires
unreachable-requires c =
    let has = c.requires.volume 0 (c.args.unit, c.args.change.now) (omega arith) in
    c.in_default.ensures.none has.0 has.2

pub bounds-vtocs-unit : goal.bounds-vtocs-unit
bounds-vtocs-unit c =
    let has = c.requires.volume 0 (c.args.unit, c.args.change.now) (omega arith) in
    slice_get_within c.args.vtocs.now c.args.unit has.1 has.3

pub render-requires-clause-loads : goal.render-requires-clause-loads
render-requires-clause-loads c =
    let has = c.requires.volume 0 (c.args.unit, c.args.change.now) (omega arith) in
    let vtocs = c.args.vtocs.now in
    let unit = c.args.unit in
    let kept : slice_get vtocs unit ≡ Some c.as_slice-slots.result.now =
    slice_get_read vtocs (length vtocs) unit c.index-vtocs-unit.result refl (slice_get_within vtocs unit has.1 has.3) c.index-vtocs-unit.is ∙ ap (λ (l : List ℕ). Some l) (sym c.as_slice-slots.ensures.same) in
    subst (λ (l : List ℕ). LoadsFrom c.in-Some.volume.now l) (same_Some has.1 c.as_slice-slots.result.now (sym has.3 ∙ kept))
    (subst (λ (v : Volume). LoadsFrom v has.1) (same_volume c.args.units.now unit has.0 c.in-Some.volume.now has.2 c.in-Some.ensures.found) has.4)

pub render-requires-clause-may : goal.render-requires-clause-may
render-requires-clause-may c =
    let has = c.requires.volume 0 (c.args.unit, c.args.change.now) (omega arith) in
    subst (λ (v : Volume). MayChange v c.args.change.now) (same_volume c.args.units.now c.args.unit has.0 c.in-Some.volume.now has.2 c.in-Some.ensures.found) has.5

pub returns-in-Ok-clause-rendered : goal.returns-in-Ok-clause-rendered
returns-in-Ok-clause-rendered c =
    let has = c.requires.volume 0 (c.args.unit, c.args.change.now) (omega arith) in
    let vtocs = c.args.vtocs.now in
    let unit = c.args.unit in
    record {
      volume = c.in-Some.volume.now;
      slots = c.as_slice-slots.result.now;
      loaded = c.in-Some.ensures.found;
      kept = slice_get_read vtocs (length vtocs) unit c.index-vtocs-unit.result refl (slice_get_within vtocs unit has.1 has.3) c.index-vtocs-unit.is ∙ ap (λ (l : List ℕ). Some l) (sym c.as_slice-slots.ensures.same);
      next = c.in-Ok.ensures.next;
      loads = c.in-Ok.ensures.loads;
      written = c.in-Ok.ensures.written;
    }
