use Rattle.std.proofs.Common.{inl, inr, sym, refl, subst, ◌∙◌, List}
use Rattle.std.proofs.lemmas.Bool.{false≢true}
use Rattle.ckd_image.specs.Device.{heads_of}
use Rattle.dscb_rec.specs.declared.field.Extent.{Extent as Field}
use Rattle.volume_model.specs.Pinned.{AreByCylinders}
use Rattle.plan_core.proofs.Cylinders.{cylinders_at, cylinders_from}
use Rattle.job_copies.proofs.copying.Copying.step_for.Goals as goal

pub returns-then-is_by_cylinders : goal.returns-then-is_by_cylinders
returns-then-is_by_cylinders c =
    let By : List Field → Type 0 = λ extents. AreByCylinders (λ extent. extent.kind) extents in
    inl (
      cylinders_at (heads_of c.args.self.now.source.now.device) c.args.row.now.extents (subst By c.as_slice.ensures (c.is_by_cylinders.ensures.0 c.if-is_by_cylinders.true)),
      c.heads.ensures,
    )

pub returns-else-is_by_cylinders : goal.returns-else-is_by_cylinders
returns-else-is_by_cylinders c =
    let By : List Field → Type 0 = λ extents. AreByCylinders (λ extent. extent.kind) extents in
    inr (
      λ by. false≢true
          (sym c.if-is_by_cylinders.false
          ∙ c.is_by_cylinders.ensures.1 (subst By (sym c.as_slice.ensures) (cylinders_from (heads_of c.args.self.now.source.now.device) c.args.row.now.extents by))),
      refl,
    )
