use Rattle.std.proofs.Common.{◌≡◌, inl, inr, ◌↔◌, ℕ, List, IsTrue, true, refl, sym, ap, subst, ◌∙◌}
use Rattle.std.proofs.lemmas.Bool.{false≢true}
use Rattle.set_facts.specs.Facts.{IsUnexpired}
use Rattle.volume_model.specs.Unit.{DataSet}
use Rattle.job_copies.specs.declared.wish.Wish.{Wish}
use Rattle.job_copies.specs.Case.{Replaces}
use Rattle.job_copies.proofs.Replaced.{origin_described}
use Rattle.job_copies.proofs.copying.Copying.is_spared.Goals.{else-self-2-via-then-self-2+else-is_unexpired, else-self-2-via-else-self-2}
use Rattle.job_copies.proofs.copying.Copying.is_spared.Goals as goal

pub returns-then-is_unexpired : goal.returns-then-is_unexpired
returns-then-is_unexpired c case are = (
  λ t. (
    ap (λ (wish : Wish). wish.purge) are.wish_is ∙ c.if-self.false,
    inl (
      ap (λ (wish : Wish). wish.delete) are.wish_is ∙ c.if-self-2.true,
      subst (λ (fields : List ℕ). IsUnexpired fields c.args.today) (sym (origin_described c.requires.may are c.row.result.now c.row.ensures).fields_are)
          (c.is_unexpired.ensures.0 c.if-is_unexpired.true),
    ),
  ),
  λ h. refl,
)

pub returns : goal.returns
returns c case are = (
  λ t. (ap (λ (wish : Wish). wish.purge) are.wish_is ∙ c.if-self.false, inr (other.0 t)),
  λ h. elim h.1 [ inl origin ↦ absurd (stays origin) | inr there ↦ other.1 there ],
)
  where
    other : IsTrue c.is_replaced_unexpired.result ↔ ((other : DataSet) × Replaces case other × IsUnexpired other.fields c.args.today)
    other = c.is_replaced_unexpired.ensures case are

    stays : ¬ ((case.wish.delete ≡ true) × IsUnexpired case.set.fields c.args.today)
    stays = elim c.else-self-2.branch [
      | else-self-2-via-then-self-2+else-is_unexpired w ↦ λ origin.
          false≢true
          (sym w.if-is_unexpired.false
          ∙ w.is_unexpired.ensures.1
          (subst (λ (fields : List ℕ). IsUnexpired fields c.args.today) (origin_described c.requires.may are w.row.result.now w.row.ensures).fields_are origin.1))
      | else-self-2-via-else-self-2 w ↦ λ origin. false≢true (sym w.if-self-2.false ∙ sym (ap (λ (wish : Wish). wish.delete) are.wish_is) ∙ origin.0)
    ]
