use Rattle.std.proofs.Common.{◌<◌, ◌-◌, ◌/◌, ℕ, subst}
use Rattle.std.proofs.lemmas.List.Elements.{All-more}
use Rattle.vtoc_core.specs.declared.volume.Volume.{Volume}
use Rattle.volume_change.specs.declared.change.Change.{Change}
use Rattle.unit_steps.specs.Plans.{IsLoadedAt}
use Rattle.unit_session.proofs.Searching.{none_found}
use Rattle.unit_session.proofs.rendering.has_long.Goals as goal

pub loop-unit-preserved : goal.loop-unit-preserved
loop-unit-preserved c =
    let P : ℕ × Change → Type 0 = (λ (change : ℕ × Change). (volume : Volume) × IsLoadedAt c.args.units.now change.0 volume × ((c.args.room - 1) / 2 < volume.vtoc.len)) in
    All-more (λ (change : ℕ × Change). ¬ P change) c.args.changes.now c.loop-unit.unit-index c.loop-unit-item.result c.loop-unit-test.true c.loop-unit.invariant
    (subst (λ (change : ℕ × Change). ¬ P change) c.loop-unit-item.is (λ m. let yes = c.if-is_long.ensures.1 m in cc))

pub returns : goal.returns
returns c =
    none_found (λ (change : ℕ × Change). (volume : Volume) × IsLoadedAt c.args.units.now change.0 volume × ((c.args.room - 1) / 2 < volume.vtoc.len)) c.args.changes.now c.loop-unit.unit-index c.loop-unit-test.false c.loop-unit.invariant
