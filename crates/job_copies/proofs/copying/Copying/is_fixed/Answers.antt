use Rattle.std.proofs.Common.{ℕ, IsTrue, ◌↔◌, length, ◌≤◌, sym, ap, subst}
use Rattle.std.proofs.lemmas.Bool.{OnFalse_from}
use Rattle.ckd_image.specs.Device.{heads_of}
use Rattle.volume_model.specs.Pinned.{IsPinned}
use Rattle.volume_model.specs.Unit.{DataSet}
use Rattle.vtoc_core.specs.declared.volume.Row.{Row}
use Rattle.step_room.specs.unit_steps.Plans.{HasRow}
use Rattle.job_copies.specs.Case.{Case, Replaces}
use Rattle.job_copies.proofs.Replaced.{origin_described}
use Rattle.job_copies.proofs.Rows.{few_extents, same_origin}
use Rattle.job_copies.proofs.Tests.{either_first, either_second}
use Rattle.job_copies.proofs.copying.Copying.is_fixed.Goals as goal

abbrev Other : Case → Type 0
Other case = (other : DataSet) × Replaces case other × IsPinned (heads_of case.to.device) other.name other.fields other.extents

pub returns-then-is_pinned-clause-fixed : goal.returns-then-is_pinned-clause-fixed
returns-then-is_pinned-clause-fixed c case are =
    either_first (Other case)
    (subst (λ (heads : ℕ). IsTrue c.is_pinned.result ↔ IsPinned heads case.set.name case.set.fields case.set.extents) (sym (ap heads_of are.from_is.device_is))
    (c.is_pinned.ensures case.set (origin_described c.requires.may are c.row.result.now c.row.ensures))) c.if-is_pinned.true

pub returns-else-is_pinned-clause-fixed : goal.returns-else-is_pinned-clause-fixed
returns-else-is_pinned-clause-fixed c case are =
    either_second (Other case)
    (subst (λ (heads : ℕ). IsTrue c.is_pinned.result ↔ IsPinned heads case.set.name case.set.fields case.set.extents) (sym (ap heads_of are.from_is.device_is))
    (c.is_pinned.ensures case.set (origin_described c.requires.may are c.row.result.now c.row.ensures))) c.if-is_pinned.false
    c.is_replaced_pinned.result (c.is_replaced_pinned.ensures case are)

pub returns-else-is_pinned-clause-few : goal.returns-else-is_pinned-clause-few
returns-else-is_pinned-clause-few c =
    OnFalse_from c.is_replaced_pinned.result ((row : Row) → HasRow c.args.self.now.source.now c.args.self.now.name row → length row.extents ≤ 16)
    (λ not row has. subst (λ (r : Row). length r.extents ≤ 16) (same_origin c.requires.may c.row.result.now row c.row.ensures has)
    (few_extents (heads_of c.args.self.now.source.now.device) c.row.result.now c.is_pinned.result c.is_pinned.ensures c.if-is_pinned.false))
