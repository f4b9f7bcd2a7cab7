use Rattle.std.proofs.Common.{◌≡◌, inl, inr, ◌∙◌, sym, ap, not, Some}
use Rattle.std.proofs.lemmas.Bool.{cases_Bool, false≢true}
use Rattle.vtoc_write.specs.Edited.{rec_with, rec_after}
use Rattle.vtoc_write.proofs.Recs.{same_body, same_rec}
use Rattle.vtoc_write.proofs.edits.is_changed.Goals as goal

pub returns-clause-changed : goal.returns-clause-changed
returns-clause-changed c =
    λ t e.
    let edit = c.in-Some.edit.now in
    let after : rec_after c.args.edits.now c.args.track c.args.rec.now ≡ rec_with c.args.rec.now (Some edit) = ap (rec_with c.args.rec.now) (sym c.in-Some.ensures) in
    let body = same_body c.args.rec.now edit (sym after ∙ e) in
    let same = c.same-2.ensures.1 (c.parts.ensures.body ∙ body ∙ sym c.as_slice-2.ensures.same) in
    false≢true (ap not (sym same) ∙ t)

pub returns-clause-unchanged : goal.returns-clause-unchanged
returns-clause-unchanged c =
    λ no_other. elim (cases_Bool c.same-2.result) [
      | inl is ↦ ap (rec_with c.args.rec.now) (sym c.in-Some.ensures) ∙ same_rec c.args.rec.now c.in-Some.edit.now (sym c.parts.ensures.key ∙ c.same.ensures.0 c.if-not-same.false ∙ c.as_slice.ensures.same)
          (sym c.parts.ensures.body ∙ c.same-2.ensures.0 is ∙ c.as_slice-2.ensures.same)
      | inr not_same ↦ absurd (false≢true (sym no_other ∙ ap not not_same))
    ]
