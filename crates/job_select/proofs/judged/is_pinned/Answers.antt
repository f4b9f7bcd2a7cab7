use Rattle.std.proofs.Common.{inl, inr, refl, sym, ap, subst, ◌∙◌, arith, length}
use Rattle.std.proofs.lemmas.Bool.{false≢true}
use Rattle.volume_model.specs.Pinned.{IsMovable, IsManaged, GoesOn}
use Rattle.job_select.proofs.HasNames.{no_name, has_name}
use Rattle.step_plans.specs.Plans.{extents_from}
use Rattle.job_select.proofs.Wholes.{other_extent, only_volume}
use Rattle.job_select.proofs.judged.is_pinned.Goals as goal

pub returns-then-is_none : goal.returns-then-is_none
returns-then-is_none c set is = (
  λ t. inl (no_name set c.args.row.now.name is.name_is c.name_of.result c.if-is_none.ensures c.name_of.ensures.none),
  λ p. refl,
)

pub returns-then-not-is_movable : goal.returns-then-not-is_movable
returns-then-not-is_movable c set is = (
  λ t. inr (inl (λ movable. false≢true (c.if-not-is_movable.ensures.1 (subst IsMovable (sym (c.organization_of.ensures _ set is)) movable)))),
  λ p. refl,
)

pub returns-then-not-are_whole : goal.returns-then-not-are_whole
returns-then-not-are_whole c set is = (
  λ t. inr (inr (inl (other_extent c.args.device set c.as_slice.result.now (is.extents_are ∙ ap (extents_from c.args.device) (sym c.as_slice.ensures)) (λ all. false≢true (c.if-not-are_whole.ensures.1 all))))),
  λ p. refl,
)

pub returns-then-is_managed : goal.returns-then-is_managed
returns-then-is_managed c set is = (
  λ t. inr (inr (inr (inr (inl (subst IsManaged (sym is.fields_are) (c.is_managed.ensures.0 c.if-is_managed.true)))))),
  λ p. refl,
)

pub returns : goal.returns
returns c set is = (
  λ t. inr (inr (inr (inr (inr (subst GoesOn (sym is.fields_are) (c.goes_on.ensures.0 t)))))),
  λ pinned. c.goes_on.ensures.1 (subst GoesOn is.fields_are
      (only_volume c.args.device set c.as_slice.result.now (is.extents_are ∙ ap (extents_from c.args.device) (sym c.as_slice.ensures))
      (has_name set c.args.row.now.name is.name_is c.name_of.result c.if-is_none.ensures c.name_of.ensures.found)
      (subst IsMovable (c.organization_of.ensures _ set is) (c.is_movable.ensures.0 c.if-not-is_movable.false))
      (c.are_whole.ensures.0 c.if-not-are_whole.false) (omega (arith, ap length c.as_slice.ensures, c.len.ensures, c.if-len-gt-MOST_EXTENTS.false))
      (λ h. false≢true (sym (c.if-is_managed.false) ∙ c.is_managed.ensures.1 (subst IsManaged is.fields_are h)))
      pinned)),
)
